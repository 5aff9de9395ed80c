-- What was done on a link, this project's own: messages were sent on it and taken off it, in some order.
use Rattle.std.specs.Prelude.{◌≡◌, ℕ, List, [], ◌∷◌, ◌++◌, length, map}
use Rattle.fifo_link.specs.declared.knowledge.Transfer.{Transfer}
use Rattle.fifo_link.specs.declared.knowledge.Transfer.TheVariants.{Sent, Taken}

module _ {M : Type 0} where
  -- the messages that were sent
  unfoldable pub sent_in : List (Transfer M) → List M
  sent_in [] = []
  sent_in (Sent x ∷ rest) = x ∷ sent_in rest
  sent_in (Taken x ∷ rest) = sent_in rest

  -- the messages that were taken
  unfoldable pub taken_in : List (Transfer M) → List M
  taken_in [] = []
  taken_in (Sent x ∷ rest) = taken_in rest
  taken_in (Taken x ∷ rest) = x ∷ taken_in rest

  -- these transfers leave these messages on the link: what was sent is what was taken, and then these
  abbrev pub Leaves : List (Transfer M) → List M → Type 0
  Leaves all held = sent_in all ≡ taken_in all ++ held

  -- what is known was done, and then some messages were sent
  abbrev pub SentSince : List (Transfer M) → List (Transfer M) → Type 0
  SentSince known all = (since : List M) × (all ≡ known ++ map Sent since)

  -- what is known was done, and then some messages were taken
  abbrev pub TakenSince : List (Transfer M) → List (Transfer M) → Type 0
  TakenSince known all = (since : List M) × (all ≡ known ++ map Taken since)

  -- some messages were taken since, and then this one was sent
  abbrev pub IsSent : List (Transfer M) → M → List (Transfer M) → Type 0
  IsSent old message new = (before : List (Transfer M)) × TakenSince old before × (new ≡ before ++ Sent message ∷ [])

  -- some messages were sent since, and then this one was taken, which was the first on the link
  pub record IsTaken (old : List (Transfer M)) (message : M) (new : List (Transfer M)) : Type 0 where
    pub before : List (Transfer M)
    pub since : SentSince old before
    pub first : (rest : List M) × Leaves before (message ∷ rest)
    pub new_is : new ≡ before ++ Taken message ∷ []

  -- some messages were taken since, and then these were on the link
  abbrev pub HeldSince : List (Transfer M) → List M → Type 0
  HeldSince known held = (all : List (Transfer M)) × TakenSince known all × Leaves all held

  -- some messages were taken since, if any, and then the link held as many as it has room for
  abbrev pub WasFull : ℕ → List (Transfer M) → Type 0
  WasFull capacity known = (held : List M) × (length held ≡ capacity) × HeldSince known held

  -- after what is known nothing was on the link
  abbrev pub WasEmpty : List (Transfer M) → Type 0
  WasEmpty known = Leaves known []

  -- all that was done on a link, and what is left on it. The sender knows all but what was taken since its last message, and the
  -- taker all but what was sent since its last one
  pub record AllDone (sender taker : List (Transfer M)) (left : List M) : Type 0 where
    pub all : List (Transfer M)
    pub taken : TakenSince sender all
    pub sent : SentSince taker all
    pub leaves : Leaves all left

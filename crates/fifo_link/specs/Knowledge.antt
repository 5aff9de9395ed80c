-- Steps between code and definition, which nobody has to believe: the protocol of a link. What was sent is what was taken and then what the
-- queue holds. This project's own. One holder at most may send. It knows all that was done, but for what was taken since its last message.
-- One holder at most may take. It knows all that was done, but for what was sent since its last message.
use Rattle.std.specs.Prelude.{◌≡◌, ℕ, Bool, true, List, [], ◌∷◌, ◌++◌}
use mathlib.Core.Option.{some}
use lib.ListN.{get_elem?}
use Rattle.fifo_link.specs.declared.knowledge.Transfer.{Transfer}
use Rattle.fifo_link.specs.declared.knowledge.Knowledge.{Knowledge}
use Rattle.fifo_link.specs.Transfers.{sent_in, taken_in, Leaves, SentSince, TakenSince, IsSent, IsTaken}

-- a link: who may send, who may take, and all that was done on it
pub record LinkState (M : Type 0) : Type 0 where
  pub sender : ℕ
  pub taker : ℕ
  pub all : List (Transfer M)

module _ {M : Type 0} where
  -- what a holder may do, and what it knows as the sender and as the taker
  abbrev pub knows : Bool → Bool → List (Transfer M) → List (Transfer M) → Knowledge M
  knows sends takes sender taker = record { sends = sends; takes = takes; sender = sender; taker = taker }

  -- what the protocol says of one holder
  abbrev pub FitsHolder : LinkState M → ℕ → Knowledge M → Type 0
  FitsHolder state holder v =
      (v.sends ≡ true → (holder ≡ state.sender) × TakenSince v.sender state.all)
      × (v.takes ≡ true → (holder ≡ state.taker) × SentSince v.taker state.all × ((held : List M) × Leaves v.taker held))

  -- the protocol, of what the queue holds and of what each holder knows
  abbrev pub KeepsOrder : List M → List (Knowledge M) → Type 0
  KeepsOrder items views = (state : LinkState M) × Leaves state.all items
      × ((holder : ℕ) (v : Knowledge M) → get_elem? views holder ≡ some v → FitsHolder state holder v)

  -- what a holder knows after it sent a message
  pub record AfterSend (v : Knowledge M) (message : M) (w : Knowledge M) : Type 0 where
    pub rights : (w.sends ≡ v.sends) × (w.takes ≡ v.takes)
    pub known : IsSent v.sender message w.sender
    pub done : sent_in w.sender ≡ sent_in v.sender ++ message ∷ []
    pub same : w.taker ≡ v.taker

  -- what a holder knows after it took a message
  pub record AfterTake (v : Knowledge M) (message : M) (w : Knowledge M) : Type 0 where
    pub rights : (w.sends ≡ v.sends) × (w.takes ≡ v.takes)
    pub known : IsTaken v.taker message w.taker
    pub done : taken_in w.taker ≡ taken_in v.taker ++ message ∷ []
    pub same : w.sender ≡ v.sender

-- What contracts see of a worker's ways. This project's own. Messages are
-- handed over in batches. A way in is its link, the messages that the take end gave, and what is still kept. A way out is its link, and all
-- that was sent or waits to be sent.
use Rattle.std.specs.Prelude.{◌≡◌, ℕ, ◌-◌, ◌^◌, ◌≤◌, List, ◌∷◌, ◌++◌, map, flat_map}
use Rattle.atomic_table.specs.Seated.{TableId}
use Rattle.actor_net.specs.declared.stamped.Stamped.{Stamped}

pub record Incoming (M : Type 0) : Type 0 where
  pub link : TableId
  pub done : List (Stamped M)
  pub kept : List (Stamped M)

pub record Outgoing (M : Type 0) : Type 0 where
  pub link : TableId
  pub all : List (Stamped M)

-- the last clock: no step has it as a stamp of what it took
abbrev pub last_clock : ℕ
last_clock = 2 ^ 64 - 1

module _ {M : Type 0} where
  -- the messages of batches, in order
  abbrev pub unpacked : List (List (Stamped M)) → List (Stamped M)
  unpacked batches = flat_map (λ batch. batch) batches

  -- messages from before a round have stamp 0
  abbrev pub with_stamp_0 : List M → List (Stamped M)
  with_stamp_0 messages = map (λ m. record { clock = 0; message = m }) messages

  -- nothing is kept that a step could take: the first that is kept has the last clock
  abbrev pub IsBlocked : Incoming M → Type 0
  IsBlocked way = (x : Stamped M) (rest : List (Stamped M)) → way.kept ≡ x ∷ rest → last_clock ≤ x.clock

-- what was kept, and then what was taken meanwhile, is what was used and then what is kept
pub record Draws {M : Type 0} (old new : Incoming M) (used : List (Stamped M)) : Type 0 where
  pub grown : List (Stamped M)
  pub done : new.done ≡ old.done ++ grown
  pub whole : old.kept ++ grown ≡ used ++ new.kept
  pub link : new.link ≡ old.link

-- these messages were sent after those before, or wait
pub record Sends {M : Type 0} (old new : Outgoing M) (sent : List (Stamped M)) : Type 0 where
  pub all : new.all ≡ old.all ++ sent
  pub link : new.link ≡ old.link

-- Steps between code and definition, which nobody has to believe: a worker as a member of a group, and how far it is in a round that it
-- began in some state. This project's own.
use Rattle.std.specs.Prelude.{◌≡◌, ◌<◌, ◌≤◌, ◌&&◌, ℕ, Bool, true, false, not, List, length, slice_index_or}
use Rattle.actor_net.specs.Network.{Stepped}
use Rattle.actor_threads.specs.declared.groups.Member.{Member}
use Rattle.actor_threads.specs.Work.{WorkerView, IsQuiet, Worked}

module _ {A M N : Type 0} where
  -- whether the member did its round, as far as there was something to do
  abbrev pub has_run : Member A M N → Bool
  has_run m = m.looked && not m.failed

  module _ (ready : A → M → Bool) (step : A → ℕ → M → Stepped A M N) where
    -- the worker did steps since it began its round like this; and once it looked, it did one or was quiet at the start
    pub record Progress (start : WorkerView A M N) (m : Member A M N) : Type 0 where
      pub worked : Worked ready step start m.worker
      pub longer : length start.steps ≤ length m.worker.steps
      pub fresh : m.looked ≡ false → m.worker ≡ start
      pub moved : m.moved ≡ true → length start.steps < length m.worker.steps
      pub quiet : m.looked ≡ true → length m.worker.steps ≡ length start.steps → IsQuiet ready start

    -- the member is in a round that its worker began like this; of one that ran out of memory nothing is said
    abbrev pub IsInRound : WorkerView A M N → Member A M N → Type 0
    IsInRound start m = m.failed ≡ false → Progress start m

    -- in whatever round the member is, it goes on with it
    abbrev pub GoesOn : Member A M N → Member A M N → Type 0
    GoesOn old new = (start : WorkerView A M N) → IsInRound start old → IsInRound start new

    -- each member goes on with its round
    abbrev pub AllGoOn : List (Member A M N) → List (Member A M N) → Type 0
    AllGoOn old new = (i : ℕ) (d : Member A M N) → i < length old → GoesOn (slice_index_or old i d) (slice_index_or new i d)

    -- each member is in a round that its worker began as it was before
    abbrev pub AllInRound : List (Member A M N) → List (Member A M N) → Type 0
    AllInRound old new = (i : ℕ) (d : Member A M N) → i < length old → IsInRound (slice_index_or old i d).worker (slice_index_or new i d)

-- Steps between code and definition, which nobody has to believe: what is taken from a source piece by piece.
use Rattle.std.specs.Prelude.{◌≡◌, ◌≤◌, ◌<◌, ℕ, ◌*◌, List, [], length, take, drop, Option, Some, Ok, Err}
use Rattle.actor_net.specs.declared.choice.Choice.{Choice}
use Rattle.journal_file.specs.declared.fault.JournalFault.TheVariants as fault
use Rattle.journal_file.specs.Reading.{Read, choices_in}
use Rattle.journal_file.specs.Format.{choice_size}

-- the most bytes that are asked for at once
abbrev pub piece_size : ℕ
piece_size = 8_192

-- the next bytes were taken, as many as were asked for or as were left; or the answer is free
abbrev pub TakesBytes : ℕ → List ℕ → Option (List ℕ) → Read (List ℕ) → Type 0
TakesBytes wanted bytes left (Ok found) = (found ≡ take wanted bytes) × (left ≡ Some (drop wanted bytes))
TakesBytes wanted bytes left (Err fault.Read) = Unit {0}
TakesBytes wanted bytes left (Err fault.NoMemory) = Unit {0}
TakesBytes wanted bytes left (Err e) = ⊥

-- so many choices were taken; or there were fewer, and nothing is left; or the answer is free
abbrev pub TakesChoices : ℕ → List ℕ → Option (List ℕ) → Read (List Choice) → Type 0
TakesChoices count bytes left (Ok choices) =
    (choice_size * count ≤ length bytes) × (choices ≡ choices_in (take (choice_size * count) bytes)) × (left ≡ Some (drop (choice_size * count) bytes))
TakesChoices count bytes left (Err fault.Short) = (length bytes < choice_size * count) × (left ≡ Some [])
TakesChoices count bytes left (Err fault.Read) = Unit {0}
TakesChoices count bytes left (Err fault.NoMemory) = Unit {0}
TakesChoices count bytes left (Err e) = ⊥

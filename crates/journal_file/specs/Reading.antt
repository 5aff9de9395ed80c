-- How a journal is read: check by check, and the first that fails decides. This project's own format.
use Rattle.std.specs.Prelude.{◌≡◌, ℕ, ◌+◌, ◌*◌, ◌≤◌, ◌==◌, not, nat_lt, if◌then◌else◌, List, []}
use Rattle.std.specs.Prelude.{◌∷◌, length, take, drop, slice_index, Option, Some, Result, Ok, Err}
use Rattle.std.specs.List.{starts_with}
use Rattle.byteorder.specs.Endian.{big_number}
use Rattle.actor_net.specs.declared.choice.Choice.{Choice}
use Rattle.nf_function.specs.declared.kind.Kind.{Kind}
use Rattle.nf_io.specs.declared.transfers.UptoFault.{UptoFault}
use Rattle.nf_io.specs.declared.transfers.UptoFault.TheVariants.{Failed, NoMemory}
use Rattle.nf_io.specs.Meaning.{Rose}
use Rattle.state_chunk.specs.Format.{kind_number}
use Rattle.journal_file.specs.declared.fault.JournalFault.{JournalFault}
use Rattle.journal_file.specs.declared.fault.JournalFault.TheVariants as fault
use Rattle.journal_file.specs.Format.{letters, version, header_size, journal_choices, version_place, kind_place, instances_place, count_place, choice_size}

abbrev pub Read : Type 0 → Type 0
Read X = Result X JournalFault

-- the number of choices that a header of 16 bytes tells, or its first fault
unfoldable pub count_in : Kind → ℕ → List ℕ → Read ℕ
count_in kind instances header =
    if not (starts_with (λ a b. a == b) header letters) then Err fault.Magic
    else if not (big_number 2 (drop version_place header) == version) then Err fault.Version
    else if not (slice_index header kind_place == kind_number kind) then Err fault.Kind
    else if not (slice_index header instances_place == instances) then Err fault.Count
    else if nat_lt journal_choices (big_number 8 (drop count_place header)) then Err fault.Count
    else Ok (big_number 8 (drop count_place header))

-- the number of choices that a journal begins with, or the first fault of its header
unfoldable pub count_of : Kind → ℕ → List ℕ → Read ℕ
count_of kind instances bytes = if nat_lt (length bytes) header_size then Err fault.Short else count_in kind instances (take header_size bytes)

-- the choices that bytes spell, two bytes each
unfoldable pub choices_in : List ℕ → List Choice
choices_in (node ∷ port ∷ more) = record { node = node; port = port } ∷ choices_in more
choices_in bytes = []

-- so many choices and nothing after them
abbrev pub choices_of : Read ℕ → List ℕ → Read (List Choice)
choices_of (Err e) rest = Err e
choices_of (Ok count) rest =
    if nat_lt (length rest) (choice_size * count) then Err fault.Short
    else if nat_lt (choice_size * count) (length rest) then Err fault.Extra
    else Ok (choices_in rest)

-- the choices of a journal, or its first fault
unfoldable pub journal_of : Kind → ℕ → List ℕ → Read (List Choice)
journal_of kind instances bytes = choices_of (count_of kind instances bytes) (drop header_size bytes)

-- how many bytes are looked at: the header, and where it has no fault also its choices and one byte more
abbrev pub looked_at : Read ℕ → ℕ
looked_at (Err e) = header_size
looked_at (Ok count) = header_size + choice_size * count + 1

-- what a call gave is what is due; out of memory is free
abbrev pub AnswersWith : {X : Type 0} → Read X → Read X → Type 0
AnswersWith due (Err fault.NoMemory) = Unit {0}
AnswersWith due result = due ≡ result

-- a call over a source that has `left` bytes afterwards gave what is due. At Ok none is left, and at a fault of the bytes those that weren't looked at.
-- A fault of reading and out of memory are free
abbrev pub GivesFrom : {X : Type 0} → Read X → List ℕ → Option (List ℕ) → Read X → Type 0
GivesFrom due unseen left (Ok x) = (due ≡ Ok x) × (left ≡ Some [])
GivesFrom due unseen left (Err fault.Read) = Unit {0}
GivesFrom due unseen left (Err fault.NoMemory) = Unit {0}
GivesFrom due unseen left (Err e) = (due ≡ Err e) × (left ≡ Some unseen)

-- a fault of a bounded read as one of the journal
abbrev pub fault_of : UptoFault → JournalFault
fault_of Failed = fault.Read
fault_of NoMemory = fault.NoMemory

-- a count never falls, and the answer is a fault of reading only where it rose
pub record HasReadCause {A : Type 0} (before now : ℕ) (result : Read A) : Type 0 where
  pub later : before ≤ now
  pub read : result ≡ Err fault.Read → Rose before now

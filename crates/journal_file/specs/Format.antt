-- The bytes of a journal. This project's own format, from the front: the letters ONFJ, version (2 bytes), kind (1), instances (1), the
-- number of choices (8), and then each choice as its node (1) and its port (1). Numbers are big-endian.
use Rattle.std.specs.Prelude.{ℕ, ◌++◌, List, [], ◌∷◌, length, codes}
use Rattle.std.specs.List.{flat_map}
use Rattle.actor_net.specs.declared.choice.Choice.{Choice}
use Rattle.nf_function.specs.declared.kind.Kind.{Kind}
use Rattle.nf_function.specs.Stored.{number_bytes}
use Rattle.state_chunk.specs.Format.{kind_number}

abbrev pub letters : List ℕ
letters = codes "ONFJ"

abbrev pub version : ℕ
version = 1

abbrev pub header_size : ℕ
header_size = 16

-- where the version, the kind, the instances and the number of choices stand
abbrev pub version_place : ℕ
version_place = 4

abbrev pub kind_place : ℕ
kind_place = 6

abbrev pub instances_place : ℕ
instances_place = 7

abbrev pub count_place : ℕ
count_place = 8

-- the bytes of a choice
abbrev pub choice_size : ℕ
choice_size = 2

-- the most choices that a journal may have
abbrev pub journal_choices : ℕ
journal_choices = 200_000_000

-- what comes before the choices
unfoldable pub header_bytes : Kind → ℕ → ℕ → List ℕ
header_bytes kind instances count =
    letters ++ number_bytes 2 version ++ (kind_number kind ∷ instances ∷ []) ++ number_bytes 8 count

abbrev pub choice_bytes : Choice → List ℕ
choice_bytes choice = choice.node ∷ choice.port ∷ []

-- a journal of so many instances of a function
unfoldable pub journal_bytes : Kind → ℕ → List Choice → List ℕ
journal_bytes kind instances choices = header_bytes kind instances (length choices) ++ flat_map choice_bytes choices

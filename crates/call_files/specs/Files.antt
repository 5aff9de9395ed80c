-- What is known of the files of a command: their names, what its inputs hold, and what its results gained. This project's own.
use Rattle.std.specs.Prelude.{◌≡◌, ◌≢◌, ℕ, List, [], Option, None}
use Rattle.std.specs.Prelude.{Some, Bool, false, option_and_then, IsTrue, ◌⊎◌}
use Rattle.std.specs.Io.KnownBytes.{Appends}
use Rattle.nf_io.specs.declared.outside.Role.{Role}
use Rattle.nf_io.specs.declared.outside.Role.TheVariants.{Errors}
use Rattle.nf_io.specs.Meaning.{Meaning}
use Rattle.command_words.specs.Requests.{Asked}
use Rattle.call_files.specs.Command.{file_for, is_input, is_result}

-- the command's inputs hold these bytes, as the outside tells
abbrev pub HasInput : Asked → (Role → Meaning) → (Role → List ℕ) → Type 0
HasInput asked old bytes = (role : Role) → IsTrue (is_input asked role) → (old role).left ≡ Some (bytes role)

-- the command's inputs were read to their end
abbrev pub IsRead : Asked → (Role → Meaning) → Type 0
IsRead asked new = (role : Role) → IsTrue (is_input asked role) → (new role).left ≡ Some []

-- each role has the name that the words give it
abbrev pub IsBound : Asked → (Role → Meaning) → Type 0
IsBound asked new = (role : Role) → (new role).name ≡ file_for asked role

-- nothing went to any file that holds results
abbrev pub WroteNothing : (old new : Role → Meaning) → Type 0
WroteNothing old new = (role : Role) → role ≢ Errors → (new role).written ≡ (old role).written

-- nothing went to a file that isn't a result of the command
abbrev pub WroteResultsAlone : Asked → (old new : Role → Meaning) → Type 0
WroteResultsAlone asked old new =
    (role : Role) → is_result asked role ≡ false → role ≢ Errors → (new role).written ≡ (old role).written

-- these roles have their texts after what they had
abbrev pub Gained : (Role → Bool) → (Role → List ℕ) → (old new : Role → Meaning) → Type 0
Gained which texts old new = (role : Role) → IsTrue (which role) → Appends (old role).written (new role).written (texts role)

-- nothing went to these roles
abbrev pub Unwritten : (Role → Bool) → (old new : Role → Meaning) → Type 0
Unwritten which old new = (role : Role) → IsTrue (which role) → (new role).written ≡ (old role).written

-- a role has no name, or the one that the words give it
abbrev pub MayBind : Option Asked → (Role → Meaning) → Type 0
MayBind request new = (role : Role) → ((new role).name ≡ None) ⊎ ((new role).name ≡ option_and_then (λ asked. file_for asked role) request)

-- The row of a command that reads a script and nothing else, where the script gives nothing.
use Rattle.opennf_calls.proofs.Words.{[], refl, ap, script_of, Role, Script, Meaning, CheckAsked, asks_check, names_of, Status, BadScript, ReadFault, NoMemory}
use Rattle.opennf_calls.proofs.Words.{IsBound, RowOf, script_refusal, OnlyRead, ScriptFails}
use Rattle.opennf_calls.proofs.RowLemmas.{first_read, read_fault, refused, silent}

-- the row of the status of a script that gives nothing
pub check_fails : (c : CheckAsked) (old new : Role → Meaning) → OnlyRead old new → IsBound (asks_check c) old → (status : Status)
    → ScriptFails (script_of c.kind (names_of c.instances)) old new status → RowOf (asks_check c) old new (record { status = status; choices = [] })
check_fails c old new only bound (ReadFault Script) rose =
    (read_fault old new only (asks_check c) Script bound refl rose (λ bytes told. first_read (asks_check c) bytes new refl), refl)
check_fails c old new only bound NoMemory said = (silent old new only, refl)
check_fails c old new only bound (BadScript line kind) said =
    (refused old new only (asks_check c) (BadScript line kind) bound (λ bytes told. ap script_refusal (said (bytes Script) (told Script refl))), refl)
check_fails c old new only bound status said = absurd said

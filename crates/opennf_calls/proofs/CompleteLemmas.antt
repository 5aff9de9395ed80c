-- Good input and no fault of the outside leave two statuses, Ok and out of memory, and for a journal whose choices aren't a complete run its own.
use Rattle.opennf_calls.proofs.Words.{◌≡◌, ℕ, List, Option, None, Some, refl, sym, ◌∙◌, subst, Role, Meaning, Rose, Choice, Asked, Status, Done, Usage}
use Rattle.opennf_calls.proofs.Words.{BadScript, BadTrace, BadJournal, NotARun, ReadFault, WriteFault, NoMemory, Outcome, HasInput, RowOf, CauseOf, refusal_of}
use Rattle.opennf_calls.specs.Outcome.{IsComplete, IsGoodEnd, Is_done, Is_memory, Is_no_run}

-- nothing refuses the input, so no status does
never : (asked : Asked) (bytes : Role → List ℕ) (status : Status) → refusal_of asked bytes ≡ None → refusal_of asked bytes ≡ Some status → ⊥
never asked bytes status sound refused = let both : None ≡ Some status = sym sound ∙ refused in cc

complete_row : (asked : Asked) (old new : Role → Meaning) (choices : List Choice) (status : Status) (bytes : Role → List ℕ)
    → RowOf asked old new (record { status = status; choices = choices })
    → HasInput asked old bytes → refusal_of asked bytes ≡ None → ((role : Role) → Rose (old role).faults (new role).faults → ⊥) → IsGoodEnd asked bytes status
complete_row asked old new choices Done bytes row told sound calm = Is_done refl
complete_row asked old new choices NoMemory bytes row told sound calm = Is_memory refl
complete_row asked old new choices (NotARun step) bytes row told sound calm = Is_no_run step refl (row.0.failed bytes told).fails
complete_row asked old new choices (WriteFault role) bytes row told sound calm = absurd (calm role row.rose)
complete_row asked old new choices (ReadFault role) bytes row told sound calm = absurd (calm role row.0.rose)
complete_row asked old new choices (BadTrace offset kind) bytes row told sound calm = absurd (never asked bytes _ sound (row.0.refusal bytes told))
complete_row asked old new choices (BadScript line kind) bytes row told sound calm = absurd (never asked bytes _ sound (row.0.refusal bytes told))
complete_row asked old new choices (BadJournal fault) bytes row told sound calm = absurd (never asked bytes _ sound (row.0.refusal bytes told))
complete_row asked old new choices Usage bytes row told sound calm = absurd row

pub complete : (request : Option Asked) (old new : Role → Meaning) (outcome : Outcome) → CauseOf request old new outcome
    → IsComplete request old new outcome.status
complete request old new outcome cause asked is bytes told sound calm =
    complete_row asked old new outcome.choices outcome.status bytes (subst (λ p. CauseOf p old new outcome) is cause) told sound calm

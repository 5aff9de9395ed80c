-- What a command that ended leaves, seen from before its files were bound.
use Rattle.opennf_calls.proofs.Words.{◌≡◌, ℕ, List, [], Option, None, Some, refl, ap, sym, ◌∙◌, subst, inl, inr, Role, Errors, Meaning, Shown, as_named, Asked}
use Rattle.opennf_calls.proofs.Words.{asks_sim, Outcome, file_for, CauseOf, IsBound, MayBind, WroteNothing, SameContents, Performs, NoMemory}
use Rattle.command_words.specs.declared.fault.ArgumentsFault.{ArgumentsFault}
use Rattle.command_words.specs.declared.fault.ArgumentsFault.TheVariants as words
use Rattle.command_words.specs.Views.{Refuses}
use Rattle.call_files.specs.Phases.{Binds}
use Rattle.opennf_calls.specs.Ended.{HasEnded}
use Rattle.call_files.specs.Status.{words_status}
use Rattle.call_files.proofs.BoundFiles.{bound_contents, none_named}
use Rattle.opennf_calls.proofs.LastLineLemmas.{bound_before, row_around}

same_meaning : (a b : Meaning) → a.left ≡ b.left → a.written ≡ b.written → a.faults ≡ b.faults → a.name ≡ b.name → a ≡ b
same_meaning a b left written faults name =
    subst (λ (l : Option (List ℕ)). a ≡ record { left = l; written = b.written; faults = b.faults; name = b.name }) left
    (subst (λ (w : Option (List ℕ)). a ≡ record { left = a.left; written = w; faults = b.faults; name = b.name }) written
    (subst (λ (f : ℕ). a ≡ record { left = a.left; written = a.written; faults = f; name = b.name }) faults
    (subst (λ (n : Option (List ℕ)). a ≡ record { left = a.left; written = a.written; faults = a.faults; name = n }) name refl)))

-- no file is named for the standard error
no_file : (asked : Asked) → file_for asked Errors ≡ None
no_file (asks_sim s schedule) = refl
no_file asked = refl

-- a command ended
module _ (asked : Asked) (shown : Role → List ℕ → Shown) (before old new : Role → Meaning) (outcome : Outcome)
    (unnamed : (role : Role) → (before role).name ≡ None)
    (binds : Binds shown before old) where
  -- no file was bound to the standard error
  same_errors : (contents : SameContents (as_named shown before new) old) → (old Errors).name ≡ None → old Errors ≡ as_named shown before new Errors
  same_errors contents none =
      same_meaning (old Errors) (as_named shown before new Errors) (contents.left Errors) (contents.written Errors)
      (contents.faults Errors) (none ∙ sym (unnamed Errors))

  pub ended : IsBound asked old → Performs asked old new outcome → HasEnded (Some asked) (as_named shown before new) new outcome
  ended bound performs =
      let contents = bound_contents shown before old new unnamed performs.names binds in
      record {
        cause = row_around (as_named shown before new) old new new
            (bound_before (as_named shown before new) old new contents) asked outcome.choices outcome.status performs.row;
        names = λ role. inr (performs.names role ∙ bound role);
        errors = performs.errors ∙ same_errors contents (bound Errors ∙ no_file asked);
      }

-- memory ran out while files were bound
pub ended_unbound : (asked : Asked) (shown : Role → List ℕ → Shown) (before old : Role → Meaning)
    → ((role : Role) → (before role).name ≡ None) → Binds shown before old
    → MayBind (Some asked) old → HasEnded (Some asked) (as_named shown before old) old (record { status = NoMemory; choices = [] })
ended_unbound asked shown before old unnamed binds may =
    let contents = bound_contents shown before old old unnamed (λ role. refl) binds in
    let none : (old Errors).name ≡ None = elim (may Errors) [ inl is ↦ is | inr is ↦ is ∙ no_file asked ] in
    record {
      cause = (λ role differ. contents.written role, refl);
      names = may;
      errors = same_errors asked shown before old old (record { status = NoMemory; choices = [] }) unnamed binds contents none;
    }

-- a command that is all that the words ask for
pub ended_words : (request : Option Asked) (asked : Asked) (old new : Role → Meaning) (outcome : Outcome) → request ≡ Some asked
    → HasEnded (Some asked) old new outcome → HasEnded request old new outcome
ended_words request asked old new outcome is holds = subst (λ (r : Option Asked). HasEnded r old new outcome) (sym is) holds

-- words were refused
pub refused_words : (request : Option Asked) (shown : Role → List ℕ → Shown) (old : Role → Meaning) (fault : ArgumentsFault) (outcome : Outcome)
    → Refuses fault request
    → ((role : Role) → (old role).name ≡ None) → outcome ≡ record { status = words_status fault; choices = [] }
    → HasEnded request (as_named shown old old) old outcome
refused_words request shown old fault outcome refuses unnamed ends =
    subst (λ (o : Outcome). HasEnded request (as_named shown old old) old o) (sym ends)
    (record { cause = by fault request refuses; names = λ role. inl (unnamed role); errors = same Errors })
  where
    same : (role : Role) → old role ≡ as_named shown old old role
    same role = sym (none_named shown old old unnamed role)

    silent : WroteNothing (as_named shown old old) old
    silent role differ = ap (λ m. m.written) (same role)

    by : (fault : ArgumentsFault) (request : Option Asked)
        → Refuses fault request → CauseOf request (as_named shown old old) old (record { status = words_status fault; choices = [] })
    by words.Usage None refuses = (inl refl, silent, refl)
    by words.Usage (Some asked) refuses = absurd (cc)
    by words.NoMemory None refuses = (inr refl, silent, refl)
    by words.NoMemory (Some asked) refuses = (silent, refl)

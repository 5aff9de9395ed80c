-- A row stays what it is where files were bound before the command began, and a line went to the standard error after it ended.
use Rattle.opennf_calls.proofs.Words.{◌≡◌, ◌≢◌, ℕ, List, Bool, ◌&&◌, Option, None, Some, Result, Ok, Err, refl, ap, ◌∙◌, sym, subst, IsTrue, inl, inr, Appends}
use Rattle.opennf_calls.proofs.Words.{and_parts, Role, Errors, Meaning, Rose, AppendsFront, Shown, as_named, Choice, Asked, Status, Done, Usage, BadScript}
use Rattle.opennf_calls.proofs.Words.{BadTrace, BadJournal, NotARun, ReadFault, WriteFault, NoMemory, Outcome, is_input, is_read_before, is_result}
use Rattle.opennf_calls.proofs.Words.{comes_before, RunResults, HasInput, IsBound, MayBind, WroteNothing, WroteResultsAlone, Gained, ForResults, IsDone}
use Rattle.opennf_calls.proofs.Words.{IsReadFault, IsRefusedCommand, RowOf, CauseOf, SameContents, SameNames, Written, Wrote, same_named, at_each}
use Rattle.opennf_calls.specs.Outcome.{IsWriteFault, IsNotARun, PutsLine}
use Rattle.call_files.specs.Writing.{written}
use Rattle.opennf_calls.proofs.RowLemmas.{later_results, not_errors, not_last}

-- the states before and after a command, the state before its files were bound, and the state after the last line
pub record Around (before old mid new : Role → Meaning) : Type 0 where
  pub contents : SameContents before old
  pub others : (role : Role) → role ≢ Errors → new role ≡ mid role
  pub names : SameNames mid new

module _ (before old mid new : Role → Meaning) (around : Around before old mid new) where
  has_input : (asked : Asked) (bytes : Role → List ℕ) → HasInput asked before bytes → HasInput asked old bytes
  has_input asked bytes told role input = around.contents.left role ∙ told role input

  bound : (asked : Asked) → IsBound asked mid → IsBound asked new
  bound asked was role = around.names role ∙ was role

  same_written : (role : Role) → role ≢ Errors → (new role).written ≡ (mid role).written
  same_written role differ = ap (λ m. m.written) (around.others role differ)

  silent : WroteNothing old mid → WroteNothing before new
  silent was role differ = same_written role differ ∙ was role differ ∙ around.contents.written role

  results_alone : (asked : Asked) → WroteResultsAlone asked old mid → WroteResultsAlone asked before new
  results_alone asked was role no_result differ = same_written role differ ∙ was role no_result differ ∙ around.contents.written role

  rose : (role : Role) → role ≢ Errors → Rose (old role).faults (mid role).faults → Rose (before role).faults (new role).faults
  rose role differ was =
      subst (λ (m : Meaning). Rose (before role).faults m.faults) (sym (around.others role differ))
      (subst (λ (n : ℕ). Rose n (mid role).faults) (around.contents.faults role) was)

  appends : (role : Role) (text : List ℕ) → role ≢ Errors → Appends (old role).written (mid role).written text
      → Appends (before role).written (new role).written text
  appends role text differ was =
      subst (λ (o : Option (List ℕ)). Appends (before role).written o text) (sym (same_written role differ))
      (subst (λ (o : Option (List ℕ)). Appends o (mid role).written text) (around.contents.written role) was)

  gained : (asked : Asked) (which : Role → Bool) (texts : Role → List ℕ) → ((role : Role) → IsTrue (which role) → IsTrue (is_result asked role))
      → Gained which texts old mid → Gained which texts before new
  gained asked which texts results was role is = appends role (texts role) (not_last asked role (results role is)) (was role is)

  with_results : (asked : Asked) (P Q : RunResults → Type 0) → ((made : RunResults) → P made → Q made) → ForResults asked old mid P
      → ForResults asked before new Q
  with_results asked P Q weaken was bytes told =
      later_results asked bytes mid new P Q (λ role input. around.others role (not_errors asked role input)) weaken
      (was bytes (has_input asked bytes told))

  done : (asked : Asked) (choices : List Choice) → IsDone asked old mid choices → IsDone asked before new choices
  done asked choices row = record {
    bound = bound asked row.bound;
    others = results_alone asked row.others;
    results = with_results asked (λ made. (made.choices ≡ choices) × Gained (is_result asked) made.texts old mid)
        (λ made. (made.choices ≡ choices) × Gained (is_result asked) made.texts before new)
        (λ made wrote. (wrote.0, gained asked (is_result asked) made.texts (λ role is. is) wrote.1)) row.results;
  }

  write_fault : (asked : Asked) (role : Role) (choices : List Choice) → IsWriteFault asked old mid (record { role = role; choices = choices })
      → IsWriteFault asked before new (record { role = role; choices = choices })
  write_fault asked role choices row =
      let differ = not_last asked role row.result in
      record {
        result = row.result;
        rose = rose role differ row.rose;
        bound = bound asked row.bound;
        others = results_alone asked row.others;
        after = λ other later.
            let result = (and_parts (is_result asked other) (comes_before role other) later).0 in
            same_written other (not_last asked other result) ∙ row.after other later ∙ around.contents.written other;
        results = with_results asked
            (λ made. (made.choices ≡ choices) × AppendsFront (old role).written (mid role).written (made.texts role)
            × Gained (λ other. is_result asked other && comes_before other role) made.texts old mid)
            (λ made. (made.choices ≡ choices) × AppendsFront (before role).written (new role).written (made.texts role)
            × Gained (λ other. is_result asked other && comes_before other role) made.texts before new)
            (λ made wrote. (
              wrote.0,
              (wrote.1.0, wrote.1.1, appends role _ differ wrote.1.2),
              gained asked (λ other. is_result asked other && comes_before other role) made.texts
                  (λ other is. (and_parts (is_result asked other) (comes_before other role) is).0) wrote.2,
            )) row.results;
      }

  read_fault : (asked : Asked) (role : Role) → IsReadFault asked old mid role → IsReadFault asked before new role
  read_fault asked role row = record {
    input = row.input;
    rose = rose role (not_errors asked role row.input) row.rose;
    bound = bound asked row.bound;
    silent = silent row.silent;
    earlier = λ bytes told.
        let found = row.earlier bytes (λ other is. around.contents.left other ∙ told other is) in
        record {
          read = λ other is.
              let input = (and_parts (is_input asked other) (is_read_before other role) is).0 in
              ap (λ m. m.left) (around.others other (not_errors asked other input)) ∙ found.read other is;
          sound = found.sound;
        };
  }

  refused : (asked : Asked) (status : Status) → IsRefusedCommand asked old mid status → IsRefusedCommand asked before new status
  refused asked status row = record {
    bound = bound asked row.bound;
    silent = silent row.silent;
    refusal = λ bytes told. row.refusal bytes (has_input asked bytes told);
  }

  no_run : (asked : Asked) (step : ℕ) → IsNotARun asked old mid step → IsNotARun asked before new step
  no_run asked step row = record {
    bound = bound asked row.bound;
    silent = silent row.silent;
    failed = λ bytes told.
        let found = row.failed bytes (has_input asked bytes told) in
        record {
          read = λ role input. ap (λ m. m.left) (around.others role (not_errors asked role input)) ∙ found.read role input;
          sound = found.sound;
          fails = found.fails;
        };
  }

  pub row_around : (asked : Asked) (choices : List Choice) (status : Status) → RowOf asked old mid (record { status = status; choices = choices })
      → RowOf asked before new (record { status = status; choices = choices })
  row_around asked choices Done row = done asked choices row
  row_around asked choices (WriteFault role) row = write_fault asked role choices row
  row_around asked choices (ReadFault role) row = (read_fault asked role row.0, row.1)
  row_around asked choices (BadScript line kind) row = (refused asked (BadScript line kind) row.0, row.1)
  row_around asked choices (BadTrace offset kind) row = (refused asked (BadTrace offset kind) row.0, row.1)
  row_around asked choices (BadJournal kind) row = (refused asked (BadJournal kind) row.0, row.1)
  row_around asked choices (NotARun step) row = (no_run asked step row.0, row.1)
  row_around asked choices NoMemory row = (silent row.0, row.1)
  row_around asked choices Usage row = row

  pub cause_around : (request : Option Asked) (outcome : Outcome) → CauseOf request old mid outcome → CauseOf request before new outcome
  cause_around None outcome cause = (cause.0, silent cause.1, cause.2)
  cause_around (Some asked) outcome cause = row_around asked outcome.choices outcome.status cause

-- files were bound before, and no line is written yet
pub bound_before : (before old new : Role → Meaning) → SameContents before old → Around before old new new
bound_before before old new contents = record { contents = contents; others = λ role differ. refl; names = λ role. refl }

-- a line was written after, which changes no name
pub line_after : (shown : Role → List ℕ → Shown) (old mid new : Role → Meaning) (line : Written) → Wrote Errors mid new line
    → Around (as_named shown old new) (as_named shown old mid) mid new
line_after shown old mid new line wrote =
    let names : SameNames mid new = at_each Errors mid new (λ a b. b.name ≡ a.name) wrote.others (λ m. refl) wrote.name in
    let same = same_named shown old mid new names in
    record {
      contents = record { left = λ role. ap (λ m. m.left) (same role); written = λ role. ap (λ m. m.written) (same role); faults = λ role. refl };
      others = wrote.others;
      names = names;
    }

-- names that were bound are those that the words give, also after a line was written
pub names_after : (request : Option Asked) (mid new : Role → Meaning) → SameNames mid new → MayBind request mid → MayBind request new
names_after request mid new same was role = elim (was role) [ inl unnamed ↦ inl (same role ∙ unnamed) | inr named ↦ inr (same role ∙ named) ]

-- what the last write did, whether it failed or not
pub puts_line : {E : Type 0} (line : List ℕ) (old mid new : Role → Meaning) (r : Result (Unit {0}) E) → mid Errors ≡ old Errors
    → Wrote Errors mid new (written line r) → PutsLine line (old Errors) (new Errors)
puts_line line old mid new (Ok done) same wrote = inl (subst (λ m. Appends m.written (new Errors).written line) same wrote.gains)
puts_line line old mid new (Err failed) same wrote =
    inr (subst (λ m. Rose m.faults (new Errors).faults) same wrote.gains.1, subst (λ m. AppendsFront m.written (new Errors).written line) same wrote.gains.0)

-- From what a command did to the roles that it used to the row of its status, which speaks of all roles.
use Rattle.opennf_calls.proofs.Words.{◌≡◌, ◌≢◌, ℕ, List, [], Bool, true, false, ◌&&◌, None, Some, is_some, refl, ap, ◌∙◌, sym, subst, IsTrue, inl, inr}
use Rattle.opennf_calls.proofs.Words.{Appends, and_parts, Role, Trace, Script, Report, JournalOut, TraceOut, Errors, Meaning, Rose, AppendsFront, is_read}
use Rattle.opennf_calls.proofs.Words.{Choice, Asked, CheckAsked, asks_check, Status, Done, WriteFault, file_for, is_input, is_read_before, is_result}
use Rattle.opennf_calls.proofs.Words.{comes_before, EarlierAreSound, HasEarlier, HasResults, ForResults, IsReadFault, IsRefusedCommand, RowOf, HasInput}
use Rattle.opennf_calls.proofs.Words.{IsBound, WroteNothing, WroteResultsAlone, Gained, earlier_refusal, refusal_of, RunResults, GivesReport, OnlyRead}
use Rattle.opennf_calls.proofs.Words.{SameNames, Performs, Gains, Written, all_of, front_of, Wrote, at_each}
use Rattle.call_files.proofs.RoleLemmas.{this_or_other}

-- a role that is read isn't one that is written
pub not_report : (asked : Asked) (role : Role) → IsTrue (is_input asked role) → role ≢ Report
not_report asked role input same =
    let here : IsTrue (is_input asked Report) = subst (λ (r : Role). IsTrue (is_input asked r)) same input in cc

pub not_errors : (asked : Asked) (role : Role) → IsTrue (is_input asked role) → role ≢ Errors
not_errors asked role input same =
    let here : IsTrue (is_input asked Errors) = subst (λ (r : Role). IsTrue (is_input asked r)) same input in cc

-- no result goes to the standard error
pub not_last : (asked : Asked) (role : Role) → IsTrue (is_result asked role) → role ≢ Errors
not_last asked role result same =
    let here : IsTrue (is_result asked Errors) = subst (λ (r : Role). IsTrue (is_result asked r)) same result in cc

-- the words give a file to this role alone
abbrev pub OneFile : Asked → Role → Type 0
OneFile asked role = (other : Role) → other ≢ role → file_for asked other ≡ None

pub one_file-check : (c : CheckAsked) → OneFile (asks_check c) Script
one_file-check c Script differ = absurd (differ refl)
one_file-check c other differ = refl

-- then that role is the one input, and the report is the one result
module _ (asked : Asked) (role : Role) (one : OneFile asked role) where
  pub input_alone : (other : Role) → IsTrue (is_input asked other) → other ≡ role
  input_alone other input = elim (this_or_other other role) [
    | inl same ↦ same
    | inr differ ↦
        let file = (and_parts (is_read other) (is_some (file_for asked other)) input).1 in
        let none : is_some (file_for asked other) ≡ false = ap is_some (one other differ) in absurd (cc)
  ]

  no_result : IsTrue (is_read role) → (other : Role) → is_read other ≡ false → is_some (file_for asked other) ≡ false
  no_result read other written = ap is_some (one other (λ same.
      let here : is_read role ≡ false = subst (λ (r : Role). is_read r ≡ false) same written in cc))

  pub report_alone : IsTrue (is_read role) → (other : Role) → IsTrue (is_result asked other) → other ≡ Report
  report_alone read Report result = refl
  report_alone read JournalOut result = let none = no_result read JournalOut refl in absurd (cc)
  report_alone read TraceOut result = let none = no_result read TraceOut refl in absurd (cc)
  report_alone read other result = absurd (cc)

pub not_before : (b : Bool) → IsTrue (b && false) → ⊥
not_before true is = cc
not_before false is = cc

-- nothing is read before the script
pub first_read : (asked : Asked) (bytes : Role → List ℕ) (new : Role → Meaning) → earlier_refusal asked Script bytes ≡ None
    → EarlierAreSound asked Script bytes new
first_read asked bytes new sound = record { read = none; sound = sound }
  where
    none : (other : Role) → IsTrue (is_input asked other && is_read_before other Script) → (new other).left ≡ Some []
    none Trace is = absurd (not_before (is_input asked Trace) is)
    none other is = absurd (not_before (is_input asked other) is)

-- while inputs are read nothing is written, and no name changes
module _ (old new : Role → Meaning) (only : OnlyRead old new) where
  pub silent : WroteNothing old new
  silent other differ = only.written other

  pub still_bound : (asked : Asked) → IsBound asked old → IsBound asked new
  still_bound asked bound other = only.names other ∙ bound other

  -- a failed read
  pub read_fault : (asked : Asked) (role : Role) → IsBound asked old → IsTrue (is_input asked role) → Rose (old role).faults (new role).faults
      → ((bytes : Role → List ℕ) → HasEarlier asked role old bytes → EarlierAreSound asked role bytes new) → IsReadFault asked old new role
  read_fault asked role bound input rose earlier = record { input = input; rose = rose; bound = still_bound asked bound; silent = silent; earlier = earlier }

  -- a refusal
  pub refused : (asked : Asked) (status : Status) → IsBound asked old
      → ((bytes : Role → List ℕ) → HasInput asked old bytes → refusal_of asked bytes ≡ Some status) → IsRefusedCommand asked old new status
  refused asked status bound refusal = record { bound = still_bound asked bound; silent = silent; refusal = refusal }

  -- a command that ends there
  pub ends : (asked : Asked) (status : Status) → RowOf asked old new (record { status = status; choices = [] })
      → Performs asked old new (record { status = status; choices = [] })
  ends asked status row = record { row = row; names = only.names; errors = only.others Errors refl }

-- what a command gives, also after something was written to other roles than its inputs
pub later_results : (asked : Asked) (bytes : Role → List ℕ) (mid new : Role → Meaning) (P Q : RunResults → Type 0)
    → ((role : Role) → IsTrue (is_input asked role) → new role ≡ mid role) → ((made : RunResults) → P made → Q made)
    → HasResults asked bytes mid P → HasResults asked bytes new Q
later_results asked bytes mid new P Q stays says found = record {
  read = λ role input. ap (λ m. m.left) (stays role input) ∙ found.read role input;
  sound = found.sound;
  made = found.made;
  are = found.are;
  wrote = says found.made found.wrote;
}

-- a command that read its inputs and then wrote the report, whole or in part
module _ (asked : Asked) (old mid new : Role → Meaning) (read : OnlyRead old mid) (bound : IsBound asked old)
    (only : (other : Role) → IsTrue (is_result asked other) → other ≡ Report)
    (choices : List Choice) (text : List ℕ) (made : ForResults asked old mid (GivesReport choices text)) where
  same_report : mid Report ≡ old Report
  same_report = read.others Report refl

  module _ (part : Written) (wrote : Wrote Report mid new part) where
    new_names : SameNames mid new
    new_names = at_each Report mid new (λ a b. b.name ≡ a.name) wrote.others (λ m. refl) wrote.name

    new_bound : IsBound asked new
    new_bound other = new_names other ∙ read.names other ∙ bound other

    others : WroteResultsAlone asked old new
    others other no_result differ =
        ap (λ m. m.written) (wrote.others other (λ same. no_report (subst (λ (o : Role). is_result asked o ≡ false) same no_result)))
        ∙ read.written other
      where
        no_report : is_result asked Report ≡ false → ⊥
        no_report e = cc

    -- what the report gained, seen from before the command
    gained : Gains part (old Report) (new Report)
    gained = subst (λ (m : Meaning). Gains part m (new Report)) same_report wrote.gains

    -- what the command gives, for what is said of the text that was written
    with_texts : (P : RunResults → Type 0) → ((g : RunResults) → GivesReport choices text g → P g) → ForResults asked old new P
    with_texts P says bytes told =
        later_results asked bytes mid new (GivesReport choices text) P (λ other is. wrote.others other (not_report asked other is)) says (made bytes told)

    performs : (status : Status) → RowOf asked old new (record { status = status; choices = choices })
        → Performs asked old new (record { status = status; choices = choices })
    performs status row = record {
      row = row;
      names = λ other. new_names other ∙ read.names other;
      errors = wrote.others Errors (λ same. cc) ∙ read.others Errors refl;
    }

  pub report_written : Wrote Report mid new (all_of text) → Performs asked old new (record { status = Done; choices = choices })
  report_written wrote = performs (all_of text) wrote Done (record {
    bound = new_bound (all_of text) wrote;
    others = others (all_of text) wrote;
    results = with_texts (all_of text) wrote (λ g. (g.choices ≡ choices) × Gained (is_result asked) g.texts old new) (λ g is. (
      is.is_made,
      λ other result.
          subst (λ (o : Role). Appends (old o).written (new o).written (g.texts o)) (sym (only other result))
          (subst (λ (t : List ℕ). Appends (old Report).written (new Report).written t) (sym is.report) (gained (all_of text) wrote)),
    ));
  })

  pub report_failed : Wrote Report mid new (front_of text) → Performs asked old new (record { status = WriteFault Report; choices = choices })
  report_failed wrote = performs (front_of text) wrote (WriteFault Report) (record {
    result = refl;
    rose = (gained (front_of text) wrote).1;
    bound = new_bound (front_of text) wrote;
    others = others (front_of text) wrote;
    after = λ other later. let never = (and_parts (is_result asked other) (comes_before Report other) later).1 in absurd (cc);
    results = with_texts (front_of text) wrote (λ g. (g.choices ≡ choices) × AppendsFront (old Report).written (new Report).written (g.texts Report)
        × Gained (λ other. is_result asked other && comes_before other Report) g.texts old new) (λ g is. (
          is.is_made,
          subst (λ (t : List ℕ). AppendsFront (old Report).written (new Report).written t) (sym is.report) (gained (front_of text) wrote).0,
          λ other earlier.
              let parts = and_parts (is_result asked other) (comes_before other Report) earlier in
              let never : IsTrue (comes_before Report Report) = subst (λ (o : Role). IsTrue (comes_before o Report)) (only other parts.0) parts.1 in
              absurd (cc),
        ));
  })

-- The row of a command that reads its inputs, if it has any, writes one file, and then the report.
use Rattle.opennf_calls.proofs.Words.{◌≡◌, ◌≢◌, ℕ, List, false, ◌&&◌, is_some, refl, ap, ◌∙◌, sym, subst, IsTrue, ◌⊎◌, inl, inr, Appends, and_parts, Role}
use Rattle.opennf_calls.proofs.Words.{Report, Errors, Meaning, Rose, AppendsFront, is_read, Choice, Asked, Status, Done, WriteFault, file_for, is_input}
use Rattle.opennf_calls.proofs.Words.{is_result, comes_before, RunResults, ForResults, RowOf, IsBound, WroteResultsAlone, Gained, OnlyRead, SameNames}
use Rattle.opennf_calls.proofs.Words.{Performs, Gains, Written, all_of, front_of, Wrote, at_each}
use Rattle.std.proofs.Common.{not}
use Rattle.nf_io.specs.Roles.{same_role}
use Rattle.call_files.proofs.RoleLemmas.{other_place}
use Rattle.opennf_calls.proofs.RowLemmas.{later_results, not_last, not_report}

-- the command has a result at this role, which is written before the report, and no other
pub record WritesFirst (asked : Asked) (role : Role) : Type 0 where
  pub written : is_read role ≡ false
  pub differs : same_role role Report ≡ false
  pub result : IsTrue (is_result asked role)
  pub only : (other : Role) → IsTrue (is_result asked other) → (other ≡ role) ⊎ (other ≡ Report)

-- what is made has these choices, and these texts at a role and in the report
pub record GivesBoth (role : Role) (want made : RunResults) : Type 0 where
  pub is_made : made.choices ≡ want.choices
  pub file : made.texts role ≡ want.texts role
  pub report : made.texts Report ≡ want.texts Report

module _ (asked : Asked) (role : Role) (writes : WritesFirst asked role) where
  apart : role ≢ Report
  apart = other_place role Report writes.differs

  not_read : (other : Role) → IsTrue (is_input asked other) → other ≢ role
  not_read other input same =
      let here : IsTrue (is_input asked role) = subst (λ (r : Role). IsTrue (is_input asked r)) same input in
      let read = (and_parts (is_read role) (is_some (file_for asked role)) here).0 in
      let written = writes.written in cc

  a_result : (other : Role) → is_result asked other ≡ false → other ≢ role
  a_result other none same =
      let here : is_result asked role ≡ false = subst (λ (r : Role). is_result asked r ≡ false) same none in
      let result = writes.result in cc

  not_the_report : (other : Role) → is_result asked other ≡ false → other ≢ Report
  not_the_report other none same =
      let here : is_result asked Report ≡ false = subst (λ (r : Role). is_result asked r ≡ false) same none in cc

  no_line : Errors ≢ role
  no_line same = not_last asked role writes.result (sym same)

  -- nothing comes before the file, and it doesn't come after itself
  first_of_all : (other : Role) → IsTrue (comes_before other role) → ⊥
  first_of_all other before =
      let here = (and_parts (not (same_role other Report)) (same_role role Report) before).1 in
      let differs = writes.differs in cc

  module _ (old mid : Role → Meaning) (read : OnlyRead old mid) (bound : IsBound asked old)
      (want : RunResults) (made : ForResults asked old mid (GivesBoth role want)) where
    abbrev choices : List Choice
    choices = want.choices

    abbrev first : List ℕ
    first = want.texts role

    abbrev second : List ℕ
    second = want.texts Report

    same_file : mid role ≡ old role
    same_file = read.others role writes.written

    -- what was given, also after something was written to other roles than the inputs
    with_texts : (new : Role → Meaning) → ((other : Role) → IsTrue (is_input asked other) → new other ≡ mid other)
        → (P : RunResults → Type 0) → ((g : RunResults) → GivesBoth role want g → P g) → ForResults asked old new P
    with_texts new stays P says bytes told = later_results asked bytes mid new (GivesBoth role want) P stays says (made bytes told)

    -- the file was written in part
    pub file_failed : (new : Role → Meaning) → Wrote role mid new (front_of first)
        → Performs asked old new (record { status = WriteFault role; choices = choices })
    file_failed new wrote =
        let names : SameNames mid new = at_each role mid new (λ a b. b.name ≡ a.name) wrote.others (λ m. refl) wrote.name in
        record {
          row = record {
            result = writes.result;
            rose = subst (λ (m : Meaning). Rose m.faults (new role).faults) same_file wrote.gains.1;
            bound = λ other. names other ∙ read.names other ∙ bound other;
            others = λ other none differ. ap (λ m. m.written) (wrote.others other (a_result other none)) ∙ read.written other;
            after = λ other later. ap (λ m. m.written) (wrote.others other (λ same.
                let parts = and_parts (is_result asked other) (comes_before role other) later in
                first_of_all role (subst (λ (r : Role). IsTrue (comes_before role r)) same parts.1))) ∙ read.written other;
            results = with_texts new (λ other input. wrote.others other (not_read other input))
                (λ g. (g.choices ≡ choices) × AppendsFront (old role).written (new role).written (g.texts role)
                × Gained (λ other. is_result asked other && comes_before other role) g.texts old new) (λ g is. (
                  is.is_made,
                  subst (λ (t : List ℕ). AppendsFront (old role).written (new role).written t) (sym is.file)
                      (subst (λ (m : Meaning). AppendsFront m.written (new role).written first) same_file wrote.gains.0),
                  λ other earlier. absurd (first_of_all other (and_parts (is_result asked other) (comes_before other role) earlier).1),
                ));
          };
          names = λ other. names other ∙ read.names other;
          errors = wrote.others Errors no_line ∙ read.others Errors refl;
        }

    -- the file was written, and then the report
    module _ (half new : Role → Meaning) (file : Wrote role mid half (all_of first)) (part : Written) (report : Wrote Report half new part) where
      names : SameNames old new
      names other = at_each Report half new (λ a b. b.name ≡ a.name) report.others (λ m. refl) report.name other
          ∙ at_each role mid half (λ a b. b.name ≡ a.name) file.others (λ m. refl) file.name other ∙ read.names other

      others : WroteResultsAlone asked old new
      others other none differ =
          ap (λ m. m.written) (report.others other (not_the_report other none)) ∙ ap (λ m. m.written) (file.others other (a_result other none))
          ∙ read.written other

      inputs : (other : Role) → IsTrue (is_input asked other) → new other ≡ mid other
      inputs other input = report.others other (not_report asked other input) ∙ file.others other (not_read other input)

      file_gained : (text : List ℕ) → text ≡ first → Appends (old role).written (new role).written text
      file_gained text is =
          subst (λ (m : Meaning). Appends (old role).written m.written text) (sym (report.others role apart))
          (subst (λ (t : List ℕ). Appends (old role).written (half role).written t) (sym is)
          (subst (λ (m : Meaning). Appends m.written (half role).written first) same_file file.gains))

      report_gained : Gains part (old Report) (new Report)
      report_gained = subst (λ (m : Meaning). Gains part m (new Report)) (file.others Report (λ same. apart (sym same)) ∙ read.others Report refl) report.gains

      performs : (status : Status) → RowOf asked old new (record { status = status; choices = choices })
          → Performs asked old new (record { status = status; choices = choices })
      performs status row = record {
        row = row;
        names = names;
        errors = report.others Errors (λ same. cc) ∙ file.others Errors no_line ∙ read.others Errors refl;
      }

    pub both_written : (half new : Role → Meaning) → Wrote role mid half (all_of first) → Wrote Report half new (all_of second)
        → Performs asked old new (record { status = Done; choices = choices })
    both_written half new file report = performs half new file (all_of second) report Done (record {
      bound = λ other. names half new file (all_of second) report other ∙ bound other;
      others = others half new file (all_of second) report;
      results = with_texts new (inputs half new file (all_of second) report)
          (λ g. (g.choices ≡ choices) × Gained (is_result asked) g.texts old new) (λ g is. (
            is.is_made,
            λ other result.
                elim (writes.only other result) [
                  | inl same ↦ subst (λ (r : Role). Appends (old r).written (new r).written (g.texts r)) (sym same)
                      (file_gained half new file (all_of second) report (g.texts role) is.file)
                  | inr same ↦ subst (λ (r : Role). Appends (old r).written (new r).written (g.texts r)) (sym same)
                      (subst (λ (t : List ℕ). Appends (old Report).written (new Report).written t) (sym is.report)
                      (report_gained half new file (all_of second) report))
                ],
          ));
    })

    pub second_failed : (half new : Role → Meaning) → Wrote role mid half (all_of first) → Wrote Report half new (front_of second)
        → Performs asked old new (record { status = WriteFault Report; choices = choices })
    second_failed half new file report = performs half new file (front_of second) report (WriteFault Report) (record {
      result = refl;
      rose = (report_gained half new file (front_of second) report).1;
      bound = λ other. names half new file (front_of second) report other ∙ bound other;
      others = others half new file (front_of second) report;
      after = λ other later. let never = (and_parts (is_result asked other) (comes_before Report other) later).1 in absurd (cc);
      results = with_texts new (inputs half new file (front_of second) report)
          (λ g. (g.choices ≡ choices) × AppendsFront (old Report).written (new Report).written (g.texts Report)
          × Gained (λ other. is_result asked other && comes_before other Report) g.texts old new) (λ g is. (
            is.is_made,
            subst (λ (t : List ℕ). AppendsFront (old Report).written (new Report).written t) (sym is.report)
                (report_gained half new file (front_of second) report).0,
            λ other earlier.
                let parts = and_parts (is_result asked other) (comes_before other Report) earlier in
                elim (writes.only other parts.0) [
                  | inl same ↦ subst (λ (r : Role). Appends (old r).written (new r).written (g.texts r)) (sym same)
                      (file_gained half new file (front_of second) report (g.texts role) is.file)
                  | inr same ↦
                      let never : IsTrue (comes_before Report Report) = subst (λ (r : Role). IsTrue (comes_before r Report)) same parts.1 in absurd (cc)
                ],
          ));
    })

-- The report of each call that ended well has its headline; and two calls of `sim` with the same words and bytes make the same choices and write the
-- same texts.
use Rattle.opennf_calls.proofs.Words.{◌≡◌, ℕ, List, Option, Some, None, refl, sym, ap, ◌∙◌, subst, Appends, Semantics, Role, Meaning, Script, Report}
use Rattle.opennf_calls.proofs.Words.{JournalOut, Schedule, Asked, NetworkAsked, asks_sim, asks_run, asks_audit, Status, is_result, Scenario, RunResults}
use Rattle.opennf_calls.proofs.Words.{HasRun, IsRunOf, head_for, run_given, Gained, HasResults, IsDone, RowOf, from_both, AreSame, same_scenario}
use Rattle.std.specs.Prelude.{IsTrue, length}
use Rattle.journal_file.specs.Format.{journal_bytes}
use Rattle.network_calls.specs.net_world.specs.Runs.{choices_of}
use Rattle.network_calls.specs.run_headline.specs.Subject.{Subject}
use Rattle.network_calls.specs.run_headline.specs.Text.{HasHeadline}
use Rattle.opennf_calls.specs.Calls.{Call, OutcomeLaw, SaysHeadline, SimLaw}
use Rattle.network_calls.specs.NetworkRuns.{subject_for, subject_of}
use Rattle.opennf_calls.specs.Outcome.{IsCompletedRun}
use Rattle.opennf_calls.proofs.AuditLaws.{reports, starts}
use Rattle.function_kinds.proofs.FunctionLemmas.{of_behavior, of_kind}
use Rattle.network_calls.proofs.ScriptedCommands.{scripted_commands}
use Rattle.network_calls.proofs.ScriptedPoints.{scripted_points}

-- two runs gave the same
record GaveTheSame (made again : RunResults) : Type 0 where
  choices : again.choices ≡ made.choices
  report : again.texts Report ≡ made.texts Report
  journal : again.texts JournalOut ≡ made.texts JournalOut

module _ (s : NetworkAsked) (schedule : Schedule) (made again : RunResults) where
  module _ (g h : Scenario) (same : AreSame g h) where
    -- by one schedule from one start
    same_run : {R : Type 0} (F : Type 0) (f : Semantics R) → IsRunOf (run_given F f s g) (Some schedule) made
        → IsRunOf (run_given F f s h) (Some schedule) again
        → GaveTheSame made again
    same_run F f x y =
        let first = x.scheduled schedule refl in
        let second = y.scheduled schedule refl in
        let chose : again.choices ≡ made.choices = second ∙ ap (λ w. choices_of {F = F} f w schedule) (sym (starts F f s g h same x.alloc y.alloc))
        ∙ sym first in
        record {
          choices = chose;
          report = reports F f s g h same (Some schedule) made x (Some schedule) again y chose;
          journal = y.journal ∙ ap (journal_bytes s.kind (length s.instances)) chose ∙ sym x.journal;
        }

    same_runs : HasRun s g (Some schedule) made → HasRun s h (Some schedule) again → GaveTheSame made again
    same_runs x y = from_both s.kind (λ R F f. IsRunOf (run_given F f s g) (Some schedule) made) (λ R F f. IsRunOf (run_given F f s h) (Some schedule) again)
        (GaveTheSame made again) (λ R F f a b. same_run F f a b) x y

  same_results : (bytes : Role → List ℕ) → IsCompletedRun s bytes (Some schedule) made → IsCompletedRun s bytes (Some schedule) again → GaveTheSame made again
  same_results bytes x y =
      same_runs x.scenario y.scenario (same_scenario s bytes bytes x.scenario y.scenario x.is_scenario y.is_scenario refl refl) x.holds y.holds

  -- so their results have the same texts
  same_texts : GaveTheSame made again → (role : Role) → IsTrue (is_result (asks_sim s schedule) role) → again.texts role ≡ made.texts role
  same_texts gave Report on = gave.report
  same_texts gave JournalOut on = gave.journal
  same_texts gave role on = cc

-- what a call gave that ended well
module _ (asked : Asked) (bytes : Role → List ℕ) (call : Call asked bytes) where
  is_done : IsDone asked call.old call.new call.outcome.choices
  is_done = subst (λ (status : Status). RowOf asked call.old call.new (record { status = status; choices = call.outcome.choices })) call.done
      call.promised.cause

  given : HasResults asked bytes call.new (λ made. (made.choices ≡ call.outcome.choices) × Gained (is_result asked) made.texts call.old call.new)
  given = is_done.results bytes call.input

pub sim_law : SimLaw
sim_law s schedule bytes one other =
    let first = given (asks_sim s schedule) bytes one in
    let second = given (asks_sim s schedule) bytes other in
    let gave = same_results s schedule first.made second.made bytes first.are second.are in
    record {
      choices = sym first.wrote.0 ∙ sym gave.choices ∙ second.wrote.0;
      texts = first.made.texts;
      first = first.wrote.1;
      second = λ role on. subst (Appends (other.old role).written (other.new role).written) (same_texts s schedule first.made second.made gave role on)
          (second.wrote.1 role on);
    }

-- the report of a run, which was written, has its headline
module _ (s : NetworkAsked) (bytes : Role → List ℕ) (by : Option Schedule) (made : RunResults) (run : IsCompletedRun s bytes by made) (old new : Meaning) where
  abbrev Says : (R : Type 0) → Semantics R → Type 0
  Says R f = HasHeadline (subject_of f s run.scenario) (head_for s run.scenario.captured) s.summary (made.texts Report)

  same_subject : {R : Type 0} (F : Type 0) (f : Semantics R) → subject_for (run_given F f s run.scenario) ≡ subject_of f s run.scenario
  same_subject F f =
      λ i. record (subject_of f s run.scenario) {
        commands = scripted_commands s (bytes Script) run.scenario run.is_scenario.said i;
        points = scripted_points s (bytes Script) run.scenario run.is_scenario.said i;
      }

  says_headline : Appends old.written new.written (made.texts Report) → SaysHeadline s bytes old new
  says_headline wrote = record {
    scenario = run.scenario;
    is_scenario = run.is_scenario;
    text = made.texts Report;
    wrote = wrote;
    headline = of_behavior s.kind Says (of_kind s.kind (λ R F f. IsRunOf (run_given F f s run.scenario) by made) (λ R F f. Says R f)
        (λ R F f x. subst (λ (v : Subject R). HasHeadline v (head_for s run.scenario.captured) s.summary (made.texts Report)) (same_subject F f) x.headline)
        run.holds);
  }

pub outcome_law : OutcomeLaw
outcome_law (asks_sim t schedule) s bytes call is =
    let one = given (asks_sim t schedule) bytes call in
    let same : t ≡ s = cc in
    subst (λ (q : NetworkAsked). SaysHeadline q bytes (call.old Report) (call.new Report)) same
    (says_headline t bytes (Some schedule) one.made one.are (call.old Report) (call.new Report) (one.wrote.1 Report refl))
outcome_law (asks_run t) s bytes call is =
    let one = given (asks_run t) bytes call in
    let same : t ≡ s = cc in
    subst (λ (q : NetworkAsked). SaysHeadline q bytes (call.old Report) (call.new Report)) same
    (says_headline t bytes None one.made one.are (call.old Report) (call.new Report) (one.wrote.1 Report refl))
outcome_law (asks_audit t) s bytes call is =
    let one = given (asks_audit t) bytes call in
    let same : t ≡ s = cc in
    subst (λ (q : NetworkAsked). SaysHeadline q bytes (call.old Report) (call.new Report)) same
    (says_headline t bytes None one.made one.are.run (call.old Report) (call.new Report) (one.wrote.1 Report refl))
outcome_law asked s bytes call is = cc

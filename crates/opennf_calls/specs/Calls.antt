-- What a call that ended well has written: the report of a run says what its headline says, and two calls of `sim` with the same words and bytes
-- write the same. This project's own.
use Rattle.std.specs.Prelude.{◌≡◌, ℕ, List, Option, None, Some}
use Rattle.std.specs.Io.KnownBytes.{Appends}
use Rattle.nf_io.specs.declared.outside.Role.{Role}
use Rattle.nf_io.specs.declared.outside.Role.TheVariants.{Report}
use Rattle.nf_io.specs.Meaning.{Meaning}
use Rattle.actor_net.specs.declared.schedule.Schedule.{Schedule}
use Rattle.command_words.specs.Requests.{Asked, NetworkAsked, asks_sim, asks_run, asks_audit}
use Rattle.network_calls.specs.run_headline.specs.Text.{HasHeadline}
use Rattle.call_files.specs.declared.outcome.Outcome.{Outcome}
use Rattle.call_files.specs.declared.status.Status.TheVariants.{Ok as Done}
use Rattle.call_files.specs.Command.{is_result}
use Rattle.function_kinds.specs.Functions.{OfBehavior}
use Rattle.call_files.specs.Scenarios.{Scenario, IsScenario}
use Rattle.network_calls.specs.NetworkRuns.{head_for, subject_of}
use Rattle.call_files.specs.Files.{Gained, HasInput}
use Rattle.opennf_calls.specs.Outcome.{HasOutcome}

-- the words of a command that reports a run
abbrev pub run_words : Asked → Option NetworkAsked
run_words (asks_sim s schedule) = Some s
run_words (asks_run s) = Some s
run_words (asks_audit s) = Some s
run_words asked = None

-- a call that kept its promise and ended well, and whose inputs held these bytes
pub record Call (asked : Asked) (bytes : Role → List ℕ) : Type 0 where
  pub old : Role → Meaning
  pub new : Role → Meaning
  pub outcome : Outcome
  pub promised : HasOutcome (Some asked) old new outcome
  pub input : HasInput asked old bytes
  pub done : outcome.status ≡ Done

-- a text went to the report, with the headline of a run of the site, the capture and the script that the words and the bytes give
pub record SaysHeadline (s : NetworkAsked) (bytes : Role → List ℕ) (old new : Meaning) : Type 0 where
  pub scenario : Scenario
  pub is_scenario : IsScenario s bytes scenario
  pub text : List ℕ
  pub wrote : Appends old.written new.written text
  pub headline : OfBehavior s.kind (λ R f. HasHeadline (subject_of f s scenario) (head_for s scenario.captured) s.summary text)

-- so does each such call
abbrev pub OutcomeLaw : Type 0
OutcomeLaw = (asked : Asked) (s : NetworkAsked) (bytes : Role → List ℕ) (call : Call asked bytes) → run_words asked ≡ Some s
    → SaysHeadline s bytes (call.old Report) (call.new Report)

-- two calls of `sim` made the same choices, and wrote the same texts: the report, and the journal if it has a file
pub record WroteTheSame {asked : Asked} {bytes : Role → List ℕ} (one other : Call asked bytes) : Type 0 where
  pub choices : one.outcome.choices ≡ other.outcome.choices
  pub texts : Role → List ℕ
  pub first : Gained (is_result asked) texts one.old one.new
  pub second : Gained (is_result asked) texts other.old other.new

-- so do any two with the same words and bytes
abbrev pub SimLaw : Type 0
SimLaw = (s : NetworkAsked) (schedule : Schedule) (bytes : Role → List ℕ) (one other : Call (asks_sim s schedule) bytes) → WroteTheSame one other

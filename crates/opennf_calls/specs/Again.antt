-- What an audit gives of a journal that a run wrote. This project's own.
use Rattle.std.specs.Prelude.{◌≡◌, ℕ, List, Option, None}
use Rattle.nf_io.specs.declared.outside.Role.{Role}
use Rattle.nf_io.specs.declared.outside.Role.TheVariants.{Trace, Script, JournalIn, Report, JournalOut}
use Rattle.actor_net.specs.declared.schedule.Schedule.{Schedule}
use Rattle.command_words.specs.Requests.{NetworkAsked, asks_audit}
use Rattle.call_files.specs.Scenarios.{RunResults}
use Rattle.opennf_calls.specs.Outcome.{FailsAt, IsAudited, IsCompletedRun}
use Rattle.call_files.specs.Refusals.{refusal_of}

-- the inputs of a run again, with the journal that it wrote
pub record AreAgain (bytes again : Role → List ℕ) (made : RunResults) : Type 0 where
  pub trace : again Trace ≡ bytes Trace
  pub script : again Script ≡ bytes Script
  pub journal : again JournalIn ≡ made.texts JournalOut

-- an audit by the same words isn't refused, its journal tells a complete run, and its report is that of the run
pub record AuditsAgain (s : NetworkAsked) (again : Role → List ℕ) (made : RunResults) : Type 0 where
  pub sound : refusal_of (asks_audit s) again ≡ None
  pub complete : (step : ℕ) → FailsAt (asks_audit s) again step → ⊥
  pub same : (audited : RunResults) → IsAudited s again audited → audited.texts Report ≡ made.texts Report

-- so with every run, by a schedule or by threads
abbrev pub AuditLaw : Type 0
AuditLaw = (s : NetworkAsked) (bytes again : Role → List ℕ) (by : Option Schedule) (made : RunResults) → IsCompletedRun s bytes by made
    → AreAgain bytes again made → AuditsAgain s again made

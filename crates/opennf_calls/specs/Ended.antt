-- Steps between code and definition, which nobody has to believe: what a command makes, and what it leaves of the outside.
use Rattle.std.specs.Prelude.{◌≡◌, [], MatchResult, Option, Result}
use Rattle.nf_io.specs.declared.outside.Role.{Role}
use Rattle.nf_io.specs.declared.outside.Role.TheVariants.{Errors}
use Rattle.nf_io.specs.Meaning.{Meaning}
use Rattle.command_words.specs.Requests.{Asked, asks_sim, asks_run, asks_audit}
use Rattle.call_files.specs.declared.outcome.Outcome.{Outcome}
use Rattle.call_files.specs.declared.results.Made.{Made}
use Rattle.call_files.specs.declared.status.Status.{Status}
use Rattle.call_files.specs.Scenarios.{RunResults}
use Rattle.opennf_calls.specs.Outcome.{CauseOf, ForResults, RowOf}
use Rattle.call_files.specs.Files.{MayBind}
use Rattle.call_files.specs.Phases.{GivesReport, SameNames, gives}

-- what a command gives, of which the choices and the report were made
abbrev pub Gives : Asked → Made → RunResults → Type 0
Gives (asks_sim s schedule) made results = results ≡ gives s made
Gives (asks_run s) made results = results ≡ gives s made
Gives (asks_audit s) made results = results ≡ gives s made
Gives asked made results = GivesReport made.choices made.report results

-- a command read its inputs: what was made is what it gives for them, or the status has its row
abbrev pub Prepares : Asked → (old new : Role → Meaning) → Result Made Status → Type 0
Prepares asked old new prepared = MatchResult prepared (λ made. ForResults asked old new (Gives asked made))
    (λ status. RowOf asked old new (record { status = status; choices = [] }))

-- a command whose files were bound ended: its row holds, and the names and the standard error are as before
pub record Performs (asked : Asked) (old new : Role → Meaning) (outcome : Outcome) : Type 0 where
  pub row : RowOf asked old new outcome
  pub names : SameNames old new
  pub errors : new Errors ≡ old Errors

-- the words were read, files were bound, and the command ended: the standard error is as before
pub record HasEnded (request : Option Asked) (old new : Role → Meaning) (outcome : Outcome) : Type 0 where
  pub cause : CauseOf request old new outcome
  pub names : MayBind request new
  pub errors : new Errors ≡ old Errors

-- What the program does with its arguments. This project's own.
use Rattle.std.specs.Prelude.{◌≡◌, ℕ, List, Option}
use Rattle.std.specs.Option.{ForSome}
use Rattle.nf_io.specs.declared.outside.Role.{Role}
use Rattle.nf_io.specs.Meaning.{Meaning}
use Rattle.command_words.specs.Requests.{Asked}
use Rattle.opennf_calls.specs.call_files.specs.declared.outcome.Outcome.{Outcome}
use Rattle.opennf_calls.specs.Outcome.{HasOutcome}
use Rattle.opennf_calls.specs.call_files.specs.Status.{exit_number}

-- this holds of the arguments that were given, or of some where they aren't told
pub record ForGiven (given : Option (List (List ℕ))) (P : List (List ℕ) → Type 0) : Type 0 where
  pub words : List (List ℕ)
  pub are : ForSome given (λ told. words ≡ told)
  pub holds : P words

-- the program did what was asked, and ended with the number of its status
pub record EndsAs (request : Option Asked) (old new : Role → Meaning) (number : ℕ) : Type 0 where
  pub outcome : Outcome
  pub did : HasOutcome request old new outcome
  pub is : number ≡ exit_number outcome.status

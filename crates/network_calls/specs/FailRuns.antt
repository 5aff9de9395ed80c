-- What comes of a failover: what is left where an instance fails after the first choices of a run, and its report. This project's own.
use Rattle.std.specs.Prelude.{◌≡◌, ℕ, List, take}
use Rattle.std.specs.declared.alloc.Global.{Global}
use Rattle.nf_io.specs.declared.outside.Role.TheVariants.{Report}
use Rattle.record_table.specs.Table.{TableView}
use Rattle.actor_net.specs.declared.choice.Choice.{Choice}
use Rattle.command_words.specs.Requests.{FailAsked}
use Rattle.run_headline.specs.standby_failover.specs.declared.promoted.Promoted.{Promoted}
use Rattle.run_headline.specs.standby_failover.specs.declared.promoted.Failing.{Failing}
use Rattle.run_headline.specs.standby_failover.specs.Causes.{IsFailCause, IsReached, first_of, world_after}
use Rattle.run_headline.specs.standby_failover.specs.Failover.{Failover, HasCaughtUp, IsLeft, IsPromoted, failover_of}
use Rattle.run_headline.specs.standby_failover.specs.Lines.{failover_text}
use Rattle.run_headline.specs.Failover.{HasFailHeadline}
use Rattle.function_kinds.specs.Functions.{OfKind}
use Rattle.network_calls.specs.NetworkRuns.{RunGiven, head_for, job_for, run_given, start_for, subject_for}
use Rattle.call_files.specs.Scenarios.{RunResults, Scenario}

-- what the words say of the failure
abbrev pub failing_for : FailAsked → Failing
failing_for asked = record { failed = asked.failed; to = asked.to; after = asked.after }

module _ {F R : Type 0} (given : RunGiven F R) (asked : FailAsked) (told : List Choice) where
  -- the failover in the world after the first of these choices
  abbrev failover_for : Global → Failover F R
  failover_for alloc =
      failover_of (job_for given) (world_after given.function (start_for (job_for given) alloc) (first_of told asked.after)) asked.failed asked.to

  -- so many choices are a run from the start, and this is what is left there: what is promoted, the records once they have caught up, and the report
  pub record IsFailover (made : RunResults) : Type 0 where
    pub alloc : Global
    pub reached : IsReached {F = F} given.function (start_for (job_for given) alloc) (first_of told asked.after)
    pub left : IsLeft (failover_for alloc)
    pub promoted : Promoted F R
    pub is_promoted : IsPromoted (failover_for alloc) promoted
    pub caught : TableView R
    pub has_caught_up : HasCaughtUp (failover_for alloc) caught
    pub choices : made.choices ≡ take asked.after told
    pub report : made.texts Report ≡ failover_text given.function (head_for given.words given.scenario.captured) (failing_for asked) promoted caught
    -- what the report says of each packet and each affected unit
    pub headline : HasFailHeadline (subject_for given) (head_for given.words given.scenario.captured) (failing_for asked) (made.texts Report)

  -- so many choices aren't there, or are no run, which shows at this step
  pub record IsNoFailover (step : ℕ) : Type 0 where
    pub alloc : Global
    pub cause : IsFailCause {F = F} given.function (start_for (job_for given) alloc) (first_of told asked.after) step

-- the failover of the function that the words name
abbrev pub HasFailover : FailAsked → Scenario → List Choice → RunResults → Type 0
HasFailover asked scenario told made = OfKind asked.network.kind (λ R F f. IsFailover (run_given F f asked.network scenario) asked told made)

abbrev pub HasNoFailover : FailAsked → Scenario → List Choice → ℕ → Type 0
HasNoFailover asked scenario told step = OfKind asked.network.kind (λ R F f. IsNoFailover (run_given F f asked.network scenario) asked told step)

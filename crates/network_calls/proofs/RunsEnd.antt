-- A run of an input that ends once has few choices, and as long as something is left to do some choice is enabled. So a schedule comes to the end.
use Rattle.network_calls.proofs.Words.{◌≡◌, ℕ, ◌≤◌, true, List, sym, subst, arith, Global, FunctionLaws, Semantics, Msg, Schedule, MOST_CHOICES, run}
use Rattle.network_calls.proofs.Words.{scheduled_is_run, setting_of, short_runs, Config, IsInput, node_ended, node_step, choices_of, started_with}
use Rattle.std.proofs.lemmas.Bool.Decides.{Decides-eqb}
use Rattle.actor_net.specs.Schedules.{StopsShort}
use Rattle.net_world.specs.Length.{ends, has_end, IsShort}
use Rattle.run_headline.specs.nf_net.proofs.length.RunLength.{run_length}
use Rattle.run_headline.specs.nf_net.proofs.ends.NoStuckWorld.{no_stuck_world, never_short}
use Rattle.net_world.specs.Nodes.{node_ready}
use Rattle.net_world.specs.Runs.{StopsAt}
use Rattle.network_calls.specs.Ends.{EndLaw}

some_end : (items : List Msg) → has_end items ≡ true → 1 ≤ ends items
some_end items ended = let once = (Decides-eqb (ends items) 1).0 ended in omega (arith, once)

module _ (F : Type 0) {R : Type 0} (f : Semantics R) (laws : FunctionLaws f) where
  pub end_law : EndLaw F f
  end_law alloc config items choices is ended runs =
      let setting = setting_of {F = F} f laws alloc config items is in
      record {
        few = run_length setting ended choices runs;
        goes_on = no_stuck_world setting (some_end items ended) choices runs;
        short = λ short. short_runs setting short choices runs;
      }

  -- no schedule stops before the end of a short input's run
  pub never_stops : (alloc : Global) (config : Config) (items : List Msg) → IsInput f.kind config items → IsShort items → (schedule : Schedule) (step : ℕ)
      → StopsAt {F = F} f (started_with alloc config items) schedule step → ⊥
  never_stops alloc config items is short schedule step stops =
      let first = started_with {F = F} {R = R} alloc config items in
      let runs = scheduled_is_run node_ready node_ended (node_step f) MOST_CHOICES schedule first in
      never_short (setting_of {F = F} f laws alloc config items is) short (choices_of f first schedule) runs
      (subst (λ k. StopsShort node_ready node_ended (run (node_step f) (choices_of f first schedule) first) k) (sym stops.count) stops.short)

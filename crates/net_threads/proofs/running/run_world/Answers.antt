-- The run of the workers is one of the nodes.
use Rattle.std.proofs.Common.{◌≡◌}
use Rattle.std.proofs.lemmas.Result.{IfOk-weaker}
use Rattle.actor_net.specs.Network.{IsRun, run}
use Rattle.net_world.specs.Nodes.{node_ready, node_step}
use Rattle.net_world.specs.Runs.{LeadsTo}
use Rattle.net_threads.proofs.running.run_world.Goals as goal

pub returns : goal.returns
returns g c =
    let f = g.F.Function.semantics in
    record {
      leads = IfOk-weaker c.run_threads.result
          (λ r. IsRun node_ready (node_step f) r.1 c.args.world × (r.0 ≡ run (node_step f) r.1 c.args.world))
          (λ r. LeadsTo {F = g.row.F.Denot} f c.args.world r.1 r.0)
          (λ r runs. record { is_run = runs.0; reached = runs.1 }) c.run_threads.ensures.run;
      complete = c.run_threads.ensures.complete;
    }

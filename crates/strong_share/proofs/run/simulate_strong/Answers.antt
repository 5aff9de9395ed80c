-- The choices of a schedule are a run from the start.
use Rattle.strong_share.specs.Start.{StrongJob, job_of}
use Rattle.strong_share.proofs.RunCalls.{simulated, stops_short}
use Rattle.strong_share.proofs.run.simulate_strong.Goals as goal

pub returns : goal.returns
returns g c =
    let job : StrongJob = job_of c.args.site c.args.window c.args.members c.args.filter c.args.packets in
    let ran = c.run_schedule.ensures in
    let all = simulated g.row.F.Denot g.F.Function.semantics g.met.F.Function.laws c.args.alloc job c.requires c.args.schedule c.in_ok-world.world
    c.in_ok-world.ensures c.run_schedule.result ran.choices ran.world ran.run ran.complete in
    record {
      choices = all.choices;
      leads = all.leads;
      complete = ran.complete;
      promises = all.promises;
      completed = all.completed;
      ends = all.ends;
      unfinished = λ step is.
          stops_short g.row.F.Denot g.F.Function.semantics g.met.F.Function.laws c.args.alloc job c.requires c.args.schedule c.in_ok-world.world
          c.in_ok-world.ensures step (ran.unfinished step is);
    }

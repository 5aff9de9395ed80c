-- A world at its start, run by a schedule to its end, keeps the promises, and no schedule stops before that.
use Rattle.two_phase.specs.Start.{UpdateJob}
use Rattle.two_phase.proofs.Theorem.{same_choices, same_world, simulated, never_stops}
use Rattle.two_phase.proofs.run.simulate_two.Goals as goal

pub returns : goal.returns
returns g c =
    let job : UpdateJob = record { site = c.args.site; window = c.args.window; filter = c.args.filter; at = c.args.at; packets = c.args.packets } in
    let laws = g.met.F.Function.laws in
    let ran = c.run_schedule.ensures in
    let start = c.in_ok-world.ensures in
    record {
      choices = same_choices _ _ laws c.args.alloc job c.requires c.args.schedule c.run_schedule.result c.in_ok-world.world start ran.choices;
      world = same_world _ _ laws c.args.alloc job c.requires c.run_schedule.result c.in_ok-world.world start ran.world;
      complete = ran.complete;
      published = simulated _ _ laws c.args.alloc job c.requires c.run_schedule.result c.in_ok-world.world start ran.world ran.run;
      finished = λ step is.
          let short = ran.unfinished step is in
          never_stops _ _ laws c.args.alloc job c.requires c.args.schedule c.in_ok-world.world start step short.0 short.1;
    }

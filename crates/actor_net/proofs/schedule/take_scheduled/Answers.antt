-- Each step leaves what the whole schedule takes, and where it ends nothing is left to take.
use Rattle.std.proofs.Common.{◌+◌, ◌∙◌, sym, ap, arith, inl, inr}
use Rattle.std.proofs.lemmas.List.{length_push}
use Rattle.actor_net.specs.Schedules.{schedule_of}
use Rattle.actor_net.specs.declared.schedule.TheConstants.{MOST_CHOICES}
use Rattle.actor_net.proofs.RunLaws.{run_more}
use Rattle.actor_net.proofs.ScheduleLaws.{picked_enabled, picked_none, scheduled_more, scheduled_whole}
use Rattle.actor_net.proofs.schedule.take_scheduled.Goals as goal

pub take_enabled-requires : goal.take_enabled-requires
take_enabled-requires g c =
    picked_enabled g.A.Actor.is_ready (schedule_of c.loop.picker) c.loop.world c.in-Some.choice (sym c.pick.ensures.choice ∙ c.in-Some.is)

pub loop-preserved : goal.loop-preserved
loop-preserved g c =
    let ready = g.A.Actor.is_ready in
    let step = g.A.Actor.stepped in
    let chosen = sym c.pick.ensures.choice ∙ c.in-Some.is in
    rw (c.in_ok-push.ensures.ok, c.in_ok-take_enabled.ensures, c.in-Some.ensures.later) (record {
      choices = scheduled_more ready g.A.Actor.has_ended step MOST_CHOICES c.loop.counter (schedule_of c.loop.picker) c.loop.world c.loop.choices
          c.in-Some.choice c.loop-test.true chosen ∙ c.loop.invariant.choices;
      world = run_more step c.loop.choices c.in-Some.choice c.args.world.now c.loop.world c.loop.invariant.world;
      count = length_push c.loop.choices c.in-Some.choice ∙ ap (λ n. n + 1) c.loop.invariant.count;
    })

pub returns-in_default : goal.returns-in_default
returns-in_default g c =
    let none = sym c.pick.ensures.choice ∙ c.in_default.is in
    record {
      choices = scheduled_whole g.A.Actor.is_ready g.A.Actor.has_ended g.A.Actor.stepped MOST_CHOICES c.loop.counter (schedule_of c.loop.picker) c.loop.world
          c.loop.choices _ (inl none) c.loop.invariant.choices;
      world = c.loop.invariant.world;
      end = inl (picked_none g.A.Actor.is_ready (schedule_of c.loop.picker) c.loop.world none);
    }

pub returns : goal.returns
returns g c =
    record {
      choices = scheduled_whole g.A.Actor.is_ready g.A.Actor.has_ended g.A.Actor.stepped MOST_CHOICES c.loop.counter (schedule_of c.loop.picker) c.loop.world
          c.loop.choices _ (inr c.loop-test.false) c.loop.invariant.choices;
      world = c.loop.invariant.world;
      end = inr (omega arith);
    }

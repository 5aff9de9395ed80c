-- The choices so far and those that are left are the scheduled ones, and the world is the one after those so far.
use Rattle.std.proofs.Common.{◌≡◌, ◌-◌, ◌++◌, length}
use Rattle.actor_net.specs.declared.schedule.TheConstants.{MOST_CHOICES}
use Rattle.actor_net.specs.Network.{run}
use Rattle.actor_net.specs.Schedules.{scheduled, schedule_of}
use Rattle.actor_net.proofs.schedule.take_scheduled.Given as goal

abbrev pub invariant-loop : goal.invariant-loop
invariant-loop g l = record {
  choices : l.choices ++ scheduled g.A.Actor.is_ready g.A.Actor.has_ended g.A.Actor.stepped (MOST_CHOICES - l.counter) (schedule_of l.picker) l.world
      ≡ scheduled g.A.Actor.is_ready g.A.Actor.has_ended g.A.Actor.stepped MOST_CHOICES l.fn.schedule l.fn.world;
  world : l.world ≡ run g.A.Actor.stepped l.choices l.fn.world;
  count : length l.choices ≡ l.counter;
}

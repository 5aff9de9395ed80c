-- What is left to replay, from here, gives what all of it gives.
use Rattle.std.proofs.Common.{◌≡◌, ◌<◌, ◌+◌, ◌^◌, length}
use Rattle.actor_net.specs.Network.{run, fault_from}
use Rattle.actor_net.proofs.replays.take_all.Given as goal

abbrev pub invariant-loop-choice : goal.invariant-loop-choice
invariant-loop-choice g l = record {
  small : l.index + length l.choice-iterator < 2 ^ 63;
  world : run g.A.Actor.stepped l.choice-iterator l.world ≡ run g.A.Actor.stepped l.choices l.fn.world;
  fault : fault_from g.A.Actor.is_ready g.A.Actor.stepped l.index l.choice-iterator l.world
      ≡ fault_from g.A.Actor.is_ready g.A.Actor.stepped 0 l.choices l.fn.world;
}

-- The bytes that are left are those of the choices after the first ones.
use Rattle.std.proofs.Common.{◌≡◌, ◌≤◌, List, drop, length}
use Rattle.std.specs.List.{flat_map}
use Rattle.actor_net.specs.declared.choice.Choice.{Choice}
use Rattle.actor_net.specs.ChoiceCodes.{code_of}
use Rattle.actor_net.proofs.choices.front_size.Given as goal

abbrev pub invariant-loop : goal.invariant-loop
invariant-loop l = record {
  shorter : length l.rest ≤ length l.bytes;
  left : (cs : List Choice) → l.bytes ≡ flat_map code_of cs → l.rest ≡ flat_map code_of (drop l.counter cs);
}

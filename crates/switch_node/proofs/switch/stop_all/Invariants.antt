-- The instances so far are stopped.
use Rattle.std.proofs.Common.{◌≡◌, ◌++◌}
use Rattle.switch_node.specs.Switch.{stop_messages}
use Rattle.switch_node.proofs.switch.stop_all.Given as goal

-- the stops so far are sent
abbrev pub invariant-loop-instance : goal.invariant-loop-instance
invariant-loop-instance g l = l.out ≡ (l.initial.out.0 ++ stop_messages l.instance, l.initial.out.1)

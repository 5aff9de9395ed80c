-- The lines of the units so far, and those still to come.
use Rattle.std.proofs.Common.{◌≡◌, ◌++◌, drop}
use Rattle.standby_failover.specs.Lines.{caught_lines}
use Rattle.standby_failover.proofs.reporting.push_caught.Given as goal

abbrev pub invariant-loop-unit : goal.invariant-loop-unit
invariant-loop-unit g l =
    l.text ++ caught_lines g.F.Function.semantics l.name (drop l.unit-index l.units) l.table ≡ l.fn.text ++ caught_lines g.F.Function.semantics l.name l.units
    l.table

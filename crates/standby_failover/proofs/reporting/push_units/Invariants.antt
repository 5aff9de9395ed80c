-- The lines of the units so far, and those still to come.
use Rattle.standby_failover.proofs.Words.{◌≡◌, ◌++◌, drop, flat_map}
use Rattle.std.specs.FinMap as finite
use Rattle.standby_failover.specs.Lines.{promoted_line}
use Rattle.standby_failover.proofs.reporting.push_units.Given as goal

abbrev pub invariant-loop-unit : goal.invariant-loop-unit
invariant-loop-unit g l =
    l.text ++ flat_map (λ unit. promoted_line g.F.Function.semantics l.name unit (finite.get l.table.live unit)) (drop l.unit-index l.units)
    ≡ l.fn.text ++ flat_map (λ unit. promoted_line g.F.Function.semantics l.name unit (finite.get l.table.live unit)) l.units

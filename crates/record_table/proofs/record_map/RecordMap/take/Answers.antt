-- The unit has no record, and one that was there is counted off.
use Rattle.std.proofs.Common.{None, ◌∙◌, ap, arith, ◌+◌, ◌≡◌}
use Rattle.std.specs.FinMap as finite
use Rattle.record_table.specs.Entries.{map_of}
use Rattle.record_table.proofs.EntryMaps.{IsPut, put, counted_off}
use Rattle.record_table.proofs.record_map.RecordMap.take.Given.{Over}
use Rattle.record_table.proofs.record_map.RecordMap.take.Goals as goal
use Rattle.record_table.proofs.record_map.RecordMap.take.Goals.{After-from}

done : (g : Over) (c : After-from g) → IsPut c.self.inside.records c.take.new.self c.args.unit.now None
done g c = put _ _ c.args.unit.now None c.take.ensures.gone

counted : (g : Over) (c : After-from g) → c.from.result + finite.len (map_of c.take.new.self) ≡ c.self.inside.count
counted g c = rw c.self.invariant (counted_off _ _ c.from.result c.is_some-was_there.result c.take.result c.is_some-was_there.ensures c.from.ensures
    (rw c.take.ensures.was (done g c).counted))

pub overflow_sub-self : goal.overflow_sub-self
overflow_sub-self g c = omega (arith, counted g c)

pub invariant_of-self : goal.invariant_of-self
invariant_of-self g c = omega (arith, counted g (goal.at.invariant_of-self g c).After-from)

pub returns : goal.returns
returns g c = (done g (goal.at.returns g c).After-from).map ∙ ap (λ m. finite.remove m c.args.unit.now) c.self.view_is

-- Nothing stands in the map, and nothing has to be noted.
use Rattle.std.proofs.Common.{arith}
use Rattle.unit_map.proofs.EntryLemmas.{distinct_none}
use Rattle.unit_map.proofs.SoundnessLemmas.{noted_nothing}
use Rattle.unit_map.proofs.map.UnitMap.open.Goals as goal

pub invariant_of-result : goal.invariant_of-result
invariant_of-result g c = rw c.new.ensures.items record {
  map = record { distinct = distinct_none g.K.PartialEq.eq; few = omega arith };
  noted = noted_nothing _ _;
}

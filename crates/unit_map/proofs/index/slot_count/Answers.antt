-- The sums fit.
use Rattle.std.proofs.Common.{arith}
use Rattle.unit_map.proofs.index.slot_count.Goals as goal

pub overflow_mul-entries : goal.overflow_mul-entries
overflow_mul-entries c = omega arith

pub next_power_of_two-requires : goal.next_power_of_two-requires
next_power_of_two-requires c = omega arith

pub overflow_add-result : goal.overflow_add-result
overflow_add-result c = omega (arith, c.next_power_of_two.ensures)

pub returns : goal.returns
returns c = omega (arith, c.max.ensures)

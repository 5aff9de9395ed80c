-- No record is none that isn't valid.
use Rattle.std.proofs.Common.{refl}
use Rattle.std.specs.FinMap.{get-empty}
use Rattle.nf_function.specs.Units.{unit_cmp}
use Rattle.record_table.proofs.table.Table.open.Goals as goal

pub invariant_of-result : goal.invariant_of-result
invariant_of-result g c = (λ u. rw (c.open.ensures, get-empty unit_cmp u) refl, λ u. rw (c.open-2.ensures, get-empty unit_cmp u) refl)

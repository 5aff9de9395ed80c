-- What merging leaves is the merged tally, slot by slot.
use Rattle.std.proofs.Common.{arith, rules}
use Rattle.nf_function.proofs.MergeLemmas.{merge_laws, merged_by_slots}
use Rattle.nf_function.proofs.tally.Tally.merge.Goals as goal

pub returns-clause-value : goal.returns-clause-value
returns-clause-value c =
    merged_by_slots c.args.self.now.slots c.args.other.now.slots c.loop-instance.self.slots (search rules) c.loop-instance.invariant.size
    (λ i h. c.loop-instance.invariant.merged i (omega arith))

pub returns-clause-laws : goal.returns-clause-laws
returns-clause-laws c = merge_laws

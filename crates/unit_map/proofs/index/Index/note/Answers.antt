-- The slot that is taken was free, so what was noted elsewhere stays.
use Rattle.std.proofs.Common.{arith, length, ◌<◌, ◌+◌, ap, slice_set}
use Rattle.unit_map.specs.declared.index.Slot.{Slot}
use Rattle.unit_map.proofs.SlotLemmas.{still_noted, free_read}
use Rattle.unit_map.proofs.index.Index.note.Goals as goal

pub returns-then-index-eq0-clause-others : goal.returns-then-index-eq0-clause-others
returns-then-index-eq0-clause-others g c note apart noted =
    let old = c.args.self.now.slots.items in
    let at = c.start_of-start.result + c.loop-step.step in
    let slot : Slot = record { tag = c.tag_of.result; number = c.args.number } in
    let same = ap (λ v. v.items) c.loop-step.invariant.slots in
    let within : at < length old = omega (arith, c.start_of-start.ensures.within, c.len.ensures, c.loop-step-test.true) in
    still_noted _ c.args.self.now _ at slot (ap (λ xs. slice_set xs at slot) same) c.loop-step.invariant.spill within
    (free_read old c.loop-step.self.slots.items at c.index.result.now same within c.index.ensures c.if-index-eq0.true) c.requires.counted note noted

-- The units' records are taken out, and those that stay are counted.
use Rattle.std.proofs.Common.{◌≡◌, ◌+◌, None, cond, ap, ◌∙◌, arith}
use Rattle.std.specs.FinMap as finite
use Rattle.record_table.specs.Table.{is_among}
use Rattle.record_table.proofs.RecordLookUps.{get-without, sound_retain_keys}
use Rattle.record_table.proofs.SortedEntries.{len_parts}
use Rattle.record_table.proofs.table.Table.remove.Given.{Over}
use Rattle.record_table.proofs.table.Table.remove.Goals as goal
use Rattle.record_table.proofs.table.Table.remove.Goals.{After-len}

left : (g : Over) (c : After-len g) → finite.len (finite.retain_keys c.self.inside.live (is_among c.args.units.now)) + c.len.result ≡ c.len-before.result
left g c = rw (c.len.ensures, c.len-before.ensures, c.remove.ensures, c.items.ensures) (len_parts c.self.inside.live (is_among c.args.units.now))

pub overflow_sub-result : goal.overflow_sub-result
overflow_sub-result g c = omega (arith, left g (goal.at.overflow_sub-result g c).After-len)

pub invariant_of-self : goal.invariant_of-self
invariant_of-self g c = (rw c.remove.ensures (sound_retain_keys g.F.Function.semantics c.self.inside.live _ c.self.invariant.0), c.self.invariant.1)

pub returns-clause-each : goal.returns-clause-each
returns-clause-each g c u =
    ap (λ m. finite.get m u) c.remove.ensures ∙ get-without c.items.result.now c.self.inside.live u
    ∙ ap (λ us. cond (is_among us u) None (finite.get c.self.inside.live u)) c.items.ensures
    ∙ ap (λ t. cond (is_among c.args.units.now u) None (finite.get t.live u)) c.self.view_is

pub returns-clause-count : goal.returns-clause-count
returns-clause-count g c = omega (arith, left g c, ap (λ t. finite.len (finite.retain_keys t.live (is_among c.args.units.now))) c.self.view_is)

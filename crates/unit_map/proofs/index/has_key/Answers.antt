-- The entry of a number stands at the place before it.
use Rattle.std.proofs.Common.{refl, length, ◌-◌}
use Rattle.std.proofs.lemmas.Bool.{ne_eqb}
use Rattle.std.proofs.lemmas.Option.{slice_get_read, slice_get_past}
use Rattle.unit_map.proofs.index.has_key.Goals as goal

pub returns-then-number-eq0 : goal.returns-then-number-eq0
returns-then-number-eq0 g c = rw c.if-number-eq0.true

pub returns-in-Some : goal.returns-in-Some
returns-in-Some g c =
    let es = c.args.entries.now in
    let read = c.in-Some.ensures.lookup in
    rw (ne_eqb _ _ c.if-number-eq0.false, slice_get_read es (length es) (c.args.number - 1) c.in-Some.entry.now refl read.3.0 read.1) c.eq.ensures

pub returns-in-None : goal.returns-in-None
returns-in-None g c =
    rw (ne_eqb _ _ c.if-number-eq0.false, slice_get_past c.args.entries.now (c.args.number - 1) c.in-None.ensures.lookup.3)

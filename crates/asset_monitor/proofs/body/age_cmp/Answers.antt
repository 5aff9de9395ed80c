-- The fields are compared in the order of the body.
use Rattle.std.proofs.Common.{refl, rules}
use Rattle.asset_monitor.proofs.BodyOrder.{Within, age_by_parts}
use Rattle.asset_monitor.proofs.body.age_cmp.Goals as goal

pub returns : goal.returns
returns c =
    let a : Within c.args.a.now = record { services = c.items-mine.ensures.services; packets = search rules } in
    let b : Within c.args.b.now = record { services = c.items-theirs.ensures.services; packets = search rules } in
    rw (
      age_by_parts c.args.a.now c.args.b.now a b,
      c.then-2.ensures,
      c.then.ensures,
      c.cmp-sizes.ensures,
      c.cmp.ensures,
      c.cmp-2.ensures,
      c.items-mine.ensures.value,
      c.items-theirs.ensures.value,
    ) refl

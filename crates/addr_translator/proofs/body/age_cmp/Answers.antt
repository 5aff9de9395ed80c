-- The fields are compared in the order of the body.
use Rattle.std.proofs.Common.{rules}
use Rattle.addr_translator.proofs.BodyOrder.{Within, age_by_parts}
use Rattle.addr_translator.proofs.body.age_cmp.Goals as goal

pub returns : goal.returns
returns c =
    let a : Within c.args.a.now = record {
      short = c.mappings-mine.ensures.few;
      ports = c.mappings-mine.ensures.ports;
      packets = search rules;
      drops = search rules;
    } in
    let b : Within c.args.b.now = record {
      short = c.mappings-theirs.ensures.few;
      ports = c.mappings-theirs.ensures.ports;
      packets = search rules;
      drops = search rules;
    } in
    rw (
      age_by_parts c.args.a.now c.args.b.now a b,
      c.then-2.ensures,
      c.then.ensures,
      c.then-mappings.ensures,
      c.cmp-sizes.ensures,
      c.cmp.ensures,
      c.cmp-2.ensures,
      c.cmp-3.ensures,
      c.mappings-mine.ensures.value,
      c.mappings-theirs.ensures.value,
      c.packets.ensures,
      c.packets-2.ensures,
      c.drops.ensures,
      c.drops-2.ensures,
    )

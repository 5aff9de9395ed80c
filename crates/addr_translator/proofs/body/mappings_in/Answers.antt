-- Each turn reads one mapping more.
use Rattle.std.proofs.Common.{◌≡◌, ◌∷◌, [], None, Some, rules, refl, length-append}
use Rattle.nf_function.proofs.StoredItems.{none_read, one_read, all_read}
use Rattle.addr_translator.specs.Body.{first_mapping}
use Rattle.addr_translator.proofs.body.mappings_in.Goals as goal

pub returns-in_err-mapping : goal.returns-in_err-mapping
returns-in_err-mapping c =
    let none : first_mapping c.mappings.rest.now ≡ None = search rules in
    rw (
      c.from_residual.ensures,
      none_read first_mapping c.args.used c.mappings.counter (c.mappings.record.mappings, c.mappings.rest.now) _ c.mappings-test.true none
          c.mappings.invariant.whole,
    ) refl

pub mappings-preserved : goal.mappings-preserved
mappings-preserved c =
    let found : first_mapping c.mappings.rest.now ≡ Some (c.in_ok-mapping.mapping, c.in_ok-mapping.more.now) = search rules in
    rw c.push.ensures (record {
      whole = one_read first_mapping c.args.used c.mappings.counter (c.mappings.record.mappings, c.mappings.rest.now)
          (c.in_ok-mapping.mapping, c.in_ok-mapping.more.now) _ c.mappings-test.true found c.mappings.invariant.whole;
      size = rw (length-append c.mappings.record.mappings (c.in_ok-mapping.mapping ∷ []), c.mappings.invariant.size) refl;
      packets = c.mappings.invariant.packets;
      drops = c.mappings.invariant.drops;
    })

pub returns : goal.returns
returns c =
    rw (all_read first_mapping c.args.used c.mappings.counter (c.mappings.record.mappings, c.mappings.rest.now) _ c.mappings-test.false
    c.mappings.invariant.whole)
    (λ i. Some (
      record {
        mappings = c.mappings.record.mappings;
        packets = c.mappings.invariant.packets i;
        drops = c.mappings.invariant.drops i;
      },
      c.mappings.rest.now,
    ))

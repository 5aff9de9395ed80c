-- The fields are compared in the order of the body.
use Rattle.std.proofs.Common.{arith}
use Rattle.nf_function.proofs.ShortLemmas.{IsWithin}
use Rattle.conn_tracker.specs.Body.{numbers_of}
use Rattle.conn_tracker.proofs.BodyOrder.{age_by_fields}
use Rattle.conn_tracker.proofs.body.age_cmp.Goals as goal

pub returns : goal.returns
returns c =
    let a : IsWithin (numbers_of c.args.a) = record { third = omega arith; fourth = omega arith; last = omega arith } in
    let b : IsWithin (numbers_of c.args.b) = record { third = omega arith; fourth = omega arith; last = omega arith } in
    rw (
      age_by_fields c.args.a c.args.b a b,
      c.then-2.ensures,
      c.then.ensures,
      c.then-states.ensures,
      c.then-counts.ensures,
      c.cmp-ends.ensures,
      c.cmp.ensures,
      c.cmp-2.ensures,
      c.cmp-3.ensures,
      c.cmp-4.ensures,
      c.direction_number.ensures,
      c.direction_number-2.ensures,
      c.number.ensures,
      c.number-2.ensures,
    )

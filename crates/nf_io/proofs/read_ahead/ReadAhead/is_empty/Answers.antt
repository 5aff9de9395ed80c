-- No bytes stand between a place and itself, and else there are some.
use Rattle.std.proofs.Common.{◌≡◌, ◌-◌, ap, sym, ◌∙◌, arith, length, drop, length-drop}
use Rattle.std.proofs.lemmas.Bool.{eqb-true, eq-eqb}
use Rattle.std.proofs.lemmas.List.{length-take-le}
use Rattle.nf_io.proofs.read_ahead.ReadAhead.is_empty.Goals as goal

pub returns : goal.returns
returns c =
    let ahead = c.args.self.now in
    let bytes = ahead.bytes.items in (
      λ same.
          let e : ahead.start ≡ ahead.end = eqb-true _ _ same in
          let none : ahead.end - ahead.start ≡ 0 = omega arith in
          rw none,
      λ empty.
          let n : length (drop ahead.start bytes) ≡ length bytes - ahead.start = length-drop ahead.start bytes in
          let none : ahead.end - ahead.start ≡ 0 = sym (length-take-le (ahead.end - ahead.start) (drop ahead.start bytes) (omega arith)) ∙ ap length empty in
          eq-eqb _ _ (omega arith),
    )

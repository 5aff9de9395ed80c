-- One more record stands in the piece.
use Rattle.std.proofs.Common.{arith, ◌≡◌, ◌+◌, ◌-◌, ◌++◌, ℕ, suc, ap, ◌∙◌, subst}
use Rattle.rand_core.specs.Steps.{first_words}
use Rattle.rand_xoshiro.specs.SplitMix64.{mix_u64}
use Rattle.trace_reader.specs.declared.drawn.Drawn.{Drawn}
use Rattle.trace_reader.specs.Generated.{records, record_bytes}
use Rattle.trace_reader.specs.Pieces.{piece_bytes}
use Rattle.trace_reader.proofs.GeneratedRecords.{filled_more}
use Rattle.trace_reader.proofs.piece.Piece.fill.Goals as goal

pub loop-number-preserved : goal.loop-number-preserved
loop-number-preserved c = record {
  low = omega (arith, c.loop-number.invariant.low);
  high = omega (arith, c.loop-number-test.true);
  room = omega (arith, c.loop-number.invariant.low, c.loop-number.invariant.room, c.push.ensures.used);
  records = λ more.
      let end = c.args.first + c.args.count in
      let number = c.loop-number.number in
      let left : end - number + more ≡ suc (end - (number + 1) + more) = omega (arith, c.loop-number-test.true) in
      let before = subst (λ (n : ℕ). records c.args.hosts c.args.first (first_words mix_u64 (c.args.count + more) c.args.words.now)
      ≡ piece_bytes c.loop-number.self ++ records c.args.hosts number (first_words mix_u64 n c.loop-number.words)) left
      (c.loop-number.invariant.records more) in
      let grown = c.push.ensures.bytes ∙ ap (λ (d : Drawn). piece_bytes c.loop-number.self ++ record_bytes number d) c.of-drawn.ensures.value in
      filled_more _ _ _ c.args.hosts number _ c.loop-number.words (c.next_word.result, c.next_word.new.self) c.next_word.ensures before grown;
}

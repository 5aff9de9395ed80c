-- One more piece is skipped.
use Rattle.std.proofs.Common.{rules, arith}
use Rattle.nf_io.proofs.TransferLemmas.{StaysOpen-trans}
use Rattle.trace_reader.proofs.SourceReads.{skipped_more}
use Rattle.trace_reader.proofs.takes.skip.Goals as goal

pub loop-done-preserved : goal.loop-done-preserved
loop-done-preserved g c = record {
  within = search rules;
  skipped = λ bytes told.
      let before = c.loop-done.invariant.skipped bytes told in
      skipped_more _ _ bytes _ _ _ before.0 before.1 c.in_ok-n.ensures.bound.0 c.in_ok-n.ensures.bytes.0;
  later = omega (arith, c.in_ok-n.ensures.cause.later);
  stays = StaysOpen-trans _ _ _ _ _ c.loop-done.invariant.stays c.in_ok-n.ensures.stays;
}

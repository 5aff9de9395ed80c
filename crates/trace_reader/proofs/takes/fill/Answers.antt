-- One more piece makes the filled front longer.
use Rattle.std.proofs.Common.{rules, arith}
use Rattle.nf_io.proofs.TransferLemmas.{StaysOpen-trans}
use Rattle.trace_reader.proofs.SourceReads.{filled_more}
use Rattle.trace_reader.proofs.takes.fill.Goals as goal

pub loop-at-preserved : goal.loop-at-preserved
loop-at-preserved g c = record {
  within = search rules;
  taken = filled_more _ _ _ _ _ _ _ _ c.loop-at.invariant.within c.in_ok-n.ensures.bound.0 c.loop-at.invariant.taken c.in_ok-n.ensures.bytes.0;
  later = omega (arith, c.in_ok-n.ensures.cause.later);
  stays = StaysOpen-trans _ _ _ _ _ c.loop-at.invariant.stays c.in_ok-n.ensures.stays;
}

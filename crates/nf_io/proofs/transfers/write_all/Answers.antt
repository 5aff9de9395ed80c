-- One more piece makes the front that was appended longer.
use Rattle.std.proofs.Common.{rules, arith}
use Rattle.nf_io.proofs.TransferLemmas.{StaysOpen-trans, appended_more}
use Rattle.nf_io.proofs.transfers.write_all.Goals as goal

pub loop-at-preserved : goal.loop-at-preserved
loop-at-preserved g c = record {
  within = search rules;
  appended = appended_more _ _ _ _ _ _ c.loop-at.invariant.appended c.in_ok-at.ensures.bytes;
  later = omega (arith, c.in_ok-at.ensures.cause.later);
  stays = StaysOpen-trans _ _ _ _ _ c.loop-at.invariant.stays c.in_ok-at.ensures.stays;
}

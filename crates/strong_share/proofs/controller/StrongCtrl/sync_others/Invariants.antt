-- The Syncs so far are sent.
use Rattle.strong_share.proofs.Words.{◌≡◌, ◌++◌, syncs}
use Rattle.strong_share.proofs.controller.StrongCtrl.sync_others.Given as goal

abbrev pub invariant-loop-member : goal.invariant-loop-member
invariant-loop-member l = l.out ≡ (l.initial.out.0 ++ syncs l.member l.one l.chunk, l.initial.out.1)

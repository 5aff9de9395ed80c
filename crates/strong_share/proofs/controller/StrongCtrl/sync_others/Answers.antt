-- A member more is sent its chunk, if it isn't the one that has the record.
use Rattle.strong_share.proofs.Words.{rules, ◌≡◌, [], ◌∷◌, ◌++◌, arith, nat_tests, sync_to}
use Rattle.strong_share.proofs.MemberLists.{none_sent, sync_sent}
use Rattle.strong_share.proofs.controller.StrongCtrl.sync_others.Goals as goal
use Rattle.strong_share.proofs.controller.StrongCtrl.sync_others.Goals.{then-member-one+in_ok-sync, else-member-one}

pub loop-member-preserved : goal.loop-member-preserved
loop-member-preserved c = elim c.if-member-one.branch [
  | then-member-one+in_ok-sync w ↦
      let sent : w.sync.new.out ≡ (c.loop-member.out.0 ++ sync_to c.args.chunk.now c.loop-member.member ∷ [], c.loop-member.out.1) = search rules in
      rw (w.out-is, sent, c.loop-member.invariant)
      (sync_sent c.args.out.now.0 c.args.out.now.1 c.loop-member.member c.args.one c.args.chunk.now (grind (arith, nat_tests, w.if-member-one.true)))
  | else-member-one w ↦
      rw (none_sent c.loop-member.member c.args.one c.args.chunk.now (grind (arith, nat_tests, w.if-member-one.false))) (search rules)
]

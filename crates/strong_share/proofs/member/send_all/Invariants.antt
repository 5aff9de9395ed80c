-- What is sent so far and what is left are all.
use Rattle.std.proofs.Common.{◌≡◌, ◌++◌, length}
use Rattle.strong_share.proofs.member.send_all.Given as goal

abbrev pub invariant-loop-to : goal.invariant-loop-to
invariant-loop-to l = (l.out.0 ++ l.own.0 ≡ l.initial.out.0 ++ l.initial.own.0) × (l.out.1 ≡ l.initial.out.1) × (l.own.1 ≡ l.initial.own.1)

abbrev pub decreases-loop-to : goal.decreases-loop-to
decreases-loop-to l = length l.own.0

-- What is sent so far and what is left are all.
use Rattle.two_phase.proofs.Words.{◌≡◌, ◌++◌, map, length, sent_inside}
use Rattle.two_phase.proofs.node.send_all.Given as goal

abbrev pub invariant-loop-to : goal.invariant-loop-to
invariant-loop-to l = (l.out.0 ++ map sent_inside l.sent.items ≡ l.initial.out.0 ++ map sent_inside l.initial.sent.items) × (l.out.1 ≡ l.initial.out.1)

abbrev pub decreases-loop-to : goal.decreases-loop-to
decreases-loop-to l = length l.sent.items

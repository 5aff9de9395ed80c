-- What is left by a quotient leads to the remainder.
use Rattle.actor_net.proofs.RemainderLemmas.{remainder_is}
use Rattle.actor_net.proofs.remainders.remainder_by.Goals as goal

pub returns-then-remainder-number : goal.returns-then-remainder-number
returns-then-remainder-number c =
    remainder_is _ _ c.in_ok-quotient.quotient _ _ _ c.in_ok-whole.ensures.1 c.in_ok-left.ensures.0 c.in_ok-left.ensures.1 c.less_once-remainder.ensures
    c.if-remainder-number.true

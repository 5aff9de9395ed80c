-- Whatever the words ask for, memory may run out.
use Rattle.opennf_calls.proofs.top.opennf_unread.Goals as goal

pub returns : goal.returns
returns g c = λ request. c.refuse.ensures request tt

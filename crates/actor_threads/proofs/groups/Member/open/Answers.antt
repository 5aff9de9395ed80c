-- A new member is at the start of its round.
use Rattle.std.proofs.Common.{refl}
use Rattle.actor_threads.proofs.GroupLemmas.{begins}
use Rattle.actor_threads.proofs.groups.Member.open.Goals as goal

pub returns-clause-begin : goal.returns-clause-begin
returns-clause-begin g c = begins g.A.Actor.is_ready g.A.Actor.stepped _ refl refl

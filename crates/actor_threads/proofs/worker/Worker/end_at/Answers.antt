-- A look at the take end of one port changes nothing but this way in.
use Rattle.actor_threads.proofs.LookLemmas.{end_at}
use Rattle.actor_threads.proofs.worker.Worker.end_at.Goals as goal

pub returns : goal.returns
returns g c = end_at g.A.Actor.is_ready c.self.view_is c.args.port _ c.next_taken.new.self c.index_mut.ensures.value c.requires.1 c.next_taken.result
    c.requires.0 c.next_taken.ensures

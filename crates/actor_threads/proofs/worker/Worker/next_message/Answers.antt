-- A look at what is kept of one port changes nothing but this way in.
use Rattle.std.proofs.Common.{ap, ◌∙◌}
use Rattle.actor_threads.specs.Work.{is_input_of}
use Rattle.actor_threads.proofs.LookLemmas.{not_input, kept_at, quiet_at}
use Rattle.actor_threads.proofs.worker.Worker.next_message.Goals as goal

pub returns-clause-found : goal.returns-clause-found
returns-clause-found g c =
    let other = ap (λ v. is_input_of v.number c.args.port) c.self.view_is ∙ c.requires.0 in
    kept_at g.A.Actor.is_ready c.self.view_is c.args.port _ c.next_kept.new.self c.index_mut.ensures.value c.requires.1 c.next_kept.result
    (λ x rest k n p. absurd (not_input _ _ other n p)) c.next_kept.ensures.some c.next_kept.ensures.same

pub returns-clause-quiet : goal.returns-clause-quiet
returns-clause-quiet g c = quiet_at g.A.Actor.is_ready c.self.view_is c.args.port _ c.next_kept.new.self c.index_mut.ensures.value c.requires.1
    c.next_kept.result c.next_kept.ensures.none

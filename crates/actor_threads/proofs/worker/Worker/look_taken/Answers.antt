-- Looks that found nothing, and then one that found a message, are one look.
use Rattle.std.proofs.Common.{subst, sym, ap, arith, ◌<◌, length}
use Rattle.actor_threads.specs.Work.{Idled, Found}
use Rattle.actor_threads.proofs.WorkerSteps.{no_look, idled_then, idled_found}
use Rattle.actor_threads.proofs.worker.Worker.look_taken.Goals as goal

pub loop-init : goal.loop-init
loop-init g c = record {
  idled = no_look g.A.Actor.is_ready _;
  few = subst (λ v. length v.ins < 256) c.self.view_is c.self.invariant.0;
  end = omega (arith, c.len-end.ensures, c.self.inside.ins.ok.0, ap (λ v. length v.ins) c.self.view_is);
}

pub returns-in-Some : goal.returns-in-Some
returns-in-Some g c = subst (λ v. Found g.A.Actor.is_ready c.args.self.now v (c.next_turn-port.result, c.in-Some.message)) (sym c.stay.ensures)
    (idled_found g.A.Actor.is_ready _ _ _ _ _ c.loop.invariant.idled (subst
    (λ v. Found g.A.Actor.is_ready v c.next_taken.new.self (c.next_turn-port.result, c.in-Some.message)) c.next_turn-port.ensures.same c.in-Some.ensures))

pub loop-preserved : goal.loop-preserved
loop-preserved g c = record {
  idled = idled_then g.A.Actor.is_ready _ _ _ c.loop.invariant.idled
      (subst (λ v. Idled v c.next_taken.new.self) c.next_turn-port.ensures.same c.in_default.ensures);
  few = c.loop.invariant.few;
  end = c.loop.invariant.end;
}

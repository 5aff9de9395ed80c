-- The step leaves the worker as its definition says.
use Rattle.std.proofs.Common.{ap, ◌∙◌, [], ◌∷◌, ◌++◌}
use Rattle.actor_threads.proofs.SentMessages.{sends_as}
use Rattle.actor_threads.proofs.worker.Worker.step.Goals as goal

pub returns : goal.returns
returns g c =
    let did = g.A.Actor.stepped c.self.inside.node c.args.port c.args.took.message in
    let steps = c.in_ok-push.ensures.items ∙ ap (λ k. c.self.inside.steps.items ++ (k, c.args.port) ∷ []) c.next_clock-clock.ensures in
    let noted = c.in_ok-step.ensures.notes ∙ ap (λ v. v.1 ++ did.notes) c.clear.ensures in
    let sent = c.add.ensures.sent ∙ c.in_ok-step.ensures.sends ∙ ap (λ v. v.0 ++ did.sends) c.clear.ensures in
    let notes = c.in_ok-add.ensures.list ∙ ap (λ l. c.self.inside.notes ++ l ∷ []) noted in
    rw (← c.self.view_is) (record {
      rest = λ i. record {
        number = c.self.inside.number;
        node = c.in_ok-step.ensures.node i;
        clock = c.next_clock-clock.ensures i;
        steps = steps i;
        notes = notes i;
        ins = c.self.inside.ins.items;
        outs = c.put_all.new.outs.items;
      };
      count = c.put_all.ensures.count;
      sent = λ r h. sends_as _ _ _ _ r _ _ _ _ c.next_clock-clock.ensures sent (c.in_ok-put_all.ensures.sent r h);
    })

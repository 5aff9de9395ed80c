-- Each part of the worker stands after those of the workers before.
use Rattle.std.proofs.Common.{ap, sym, ◌∙◌, [], ◌∷◌, ◌++◌, map}
use Rattle.actor_threads.proofs.round.RoundParts.add.Goals as goal

pub returns : goal.returns
returns g c =
    let old = c.args.self.now in
    let whole = sym c.parts-number.ensures in
    record {
      nodes = c.in_ok-push-3.ensures.items ∙ ap (λ w. old.nodes.items ++ w.node ∷ []) whole;
      histories = c.in_ok-push-2.ensures.items
          ∙ ap (λ s. old.histories.items ++ record { node = c.parts-number.result.number; steps = s } ∷ []) c.from_vec.ensures
          ∙ ap (λ w. old.histories.items ++ record { node = w.number; steps = w.steps } ∷ []) whole;
      notes = c.in_ok-push.ensures.items ∙ ap (λ q. old.notes.items ++ q ∷ []) c.into_queue.ensures ∙ ap (λ w. old.notes.items ++ w.notes ∷ []) whole;
      ins = c.in_ok-add_ways.ensures.ins ∙ ap (λ w. map (λ v. v.items) old.ins.items ++ w.ins ∷ []) whole;
      outs = c.in_ok-add_ways.ensures.outs ∙ ap (λ w. map (λ v. v.items) old.outs.items ++ w.outs ∷ []) whole;
    }

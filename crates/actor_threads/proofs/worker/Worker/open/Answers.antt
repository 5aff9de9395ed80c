-- A new worker has as many ways out as ways in, and fewer than 256.
use Rattle.std.proofs.Common.{◌<◌, sym, ap, ◌∙◌, subst, length}
use Rattle.std.proofs.lemmas.List.{length-map}
use Rattle.actor_threads.proofs.OpenedWays.{length-all_in}
use Rattle.actor_threads.proofs.worker.Worker.open.Goals as goal

pub invariant_of-result : goal.invariant_of-result
invariant_of-result g c =
    let takes = ap length c.from_vec-2.ensures.items in
    let kept = c.in_ok-kept.ensures.count ∙ ap length c.from_vec.ensures.items ∙ c.requires.lengths.0 ∙ sym takes in
    let ins = ap length c.in_ok-ins.ensures ∙ length-all_in _ _ kept ∙ takes in
    let outs = ap length c.in_ok-outs.ensures ∙ length-map c.args.sends.items _ ∙ c.requires.lengths.1 in
    (subst (λ n. n < 256) (sym ins) c.requires.few, outs ∙ sym ins)

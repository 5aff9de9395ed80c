-- No more chunks are selected than records are live.
use Rattle.std.proofs.Common.{length, ap, ◌∙◌, arith}
use Rattle.instance_worker.proofs.PieceLemmas.{few_selected}
use Rattle.instance_worker.proofs.instance.Instance.stream.Goals as goal

pub prove-unreachable-requires : goal.prove-unreachable-requires
prove-unreachable-requires g c =
    let few = few_selected g.F.Function.semantics c.args.filter.now c.args.self.now.table.live in
    let many = ap length (c.items.ensures ∙ c.in_ok-chunks.ensures.chunks) in
    omega (arith, c.if-prove.true, c.live_count.ensures, few, many)

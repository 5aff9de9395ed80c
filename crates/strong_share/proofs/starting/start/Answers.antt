-- A world has some nodes, and fewer than their numbers.
use Rattle.strong_share.specs.Start.{StrongJob, job_of}
use Rattle.strong_share.proofs.StartNodes.{few_nodes}
use Rattle.strong_share.proofs.starting.start.Goals as goal

pub start-requires : goal.start-requires
start-requires g c =
    let job : StrongJob = job_of c.args.site c.args.window c.args.members c.args.filter c.args.packets in
    few_nodes g.F.Function.semantics.kind c.args.alloc job c.in_ok-nodes.nodes.items c.requires c.in_ok-nodes.ensures

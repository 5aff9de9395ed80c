-- The loop over the members: so far as many of the members as were made stand after the nodes.
use Rattle.strong_share.proofs.Words.{◌≡◌, [], ◌++◌, StrongJob, job_of, first_members}
use Rattle.strong_share.proofs.starting.push_members.Given as goal

abbrev pub invariant-loop-index : goal.invariant-loop-index
invariant-loop-index g l =
    let job : StrongJob = job_of l.site 1 l.members l.filter [] in l.nodes.items ≡ l.initial.nodes.items ++ first_members l.alloc job l.index

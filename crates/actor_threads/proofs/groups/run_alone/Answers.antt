-- What the one group does to its members is written back to the list.
use Rattle.std.proofs.Common.{ap, ◌∙◌, length}
use Rattle.actor_threads.proofs.GroupLemmas.{written_back, lent_go_on}
use Rattle.actor_threads.proofs.groups.run_alone.Goals as goal

pub returns-clause-on : goal.returns-clause-on
returns-clause-on g c =
    let same = c.run_group.auto.members ∙ ap length c.as_mut_slice.ensures.value in
    lent_go_on g.A.Actor.is_ready g.A.Actor.stepped _ _ _ _ c.as_mut_slice.ensures.value
    (written_back c.args.members.items c.run_group.new.members c.args.members.len same c.args.members.ok.0) c.run_group.ensures

pub returns-clause-count : goal.returns-clause-count
returns-clause-count g c =
    let same = c.run_group.auto.members ∙ ap length c.as_mut_slice.ensures.value in
    ap length (written_back c.args.members.items c.run_group.new.members c.args.members.len same c.args.members.ok.0) ∙ same

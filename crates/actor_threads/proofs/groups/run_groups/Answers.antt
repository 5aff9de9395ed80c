-- The members may be sent to threads, and what each group does to its members holds of all.
use denote.Param.Send.{sendable}
use Rattle.std.proofs.Common.{ap, ◌∙◌, subst, length}
use Rattle.actor_threads.specs.Groups.{GoesOn}
use Rattle.actor_threads.specs.declared.groups.Member.{Member}
use Rattle.actor_threads.proofs.GroupLemmas.{written_back, lent_go_on}
use Rattle.actor_threads.proofs.groups.run_groups.Goals as goal

pub for_each_chunk_mut-requires-clause-accepts : goal.for_each_chunk_mut-requires-clause-accepts
for_each_chunk_mut-requires-clause-accepts g c κs within =
    λ start p is. (search sendable depth 20, search sendable depth 20, search sendable depth 20, search sendable depth 20, search sendable depth 20)

pub returns-clause-on : goal.returns-clause-on
returns-clause-on g c =
    let same = c.for_each_chunk_mut.auto.s ∙ ap length c.as_mut_slice.ensures.value in
    let S : Type 0 = Member g.row.A.Denot g.row.A-Message.Denot g.row.A-Note.Denot in
    lent_go_on g.A.Actor.is_ready g.A.Actor.stepped _ _ _ _ c.as_mut_slice.ensures.value
    (written_back c.args.members.items c.for_each_chunk_mut.new.s c.args.members.len same c.args.members.ok.0)
    (λ i d less.
    let at = (c.for_each_chunk_mut.ensures.by_index i d less).1 in
    subst (λ (v : S × S). GoesOn g.A.Actor.is_ready g.A.Actor.stepped v.0 v.1) (λ j. (at.old_element j, at.new_element j))
    (at.call at.offset d at.offset_in_chunk))

pub returns-clause-count : goal.returns-clause-count
returns-clause-count g c =
    let same = c.for_each_chunk_mut.auto.s ∙ ap length c.as_mut_slice.ensures.value in
    ap length (written_back c.args.members.items c.for_each_chunk_mut.new.s c.args.members.len same c.args.members.ok.0) ∙ same

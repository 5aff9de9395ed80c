-- The loop over the members: a member more is the next of the first members.
use Rattle.strong_share.proofs.Words.{[], ◌∷◌, ◌++◌, sym, ap, ◌∙◌, append_assoc, arith, map-range_with_len_more, Instance, StrongJob, job_of, first_member}
use Rattle.strong_share.proofs.Words.{first_members}
use Rattle.strong_share.proofs.starting.push_members.Goals as goal

pub loop-index-preserved : goal.loop-index-preserved
loop-index-preserved g c =
    let job : StrongJob = job_of c.args.site 1 c.args.members c.args.filter [] in
    let before = c.args.nodes.now.items in
    let so_far = first_members c.args.alloc job c.loop-index.index in
    c.in_ok-push.ensures.items
    ∙ ap (λ xs. xs ++ Instance c.in_ok-member.member ∷ []) c.loop-index.invariant
    ∙ append_assoc before so_far (Instance c.in_ok-member.member ∷ [])
    ∙ ap (λ m. before ++ (so_far ++ Instance m ∷ [])) c.in_ok-member.ensures
    ∙ ap (λ ms. before ++ ms)
    (sym (map-range_with_len_more (λ i. Instance (first_member c.args.alloc job i)) 0 c.loop-index.index c.loop-index.index (omega arith)))

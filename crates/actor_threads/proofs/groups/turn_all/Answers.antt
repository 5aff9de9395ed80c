-- One more member's turn leaves all going on with their rounds.
use Rattle.std.proofs.Common.{refl, subst, sym, ◌∙◌, ◌<◌, length-set}
use Rattle.actor_threads.proofs.GroupLemmas.{one_goes_on}
use Rattle.actor_threads.proofs.groups.turn_all.Goals as goal

pub loop-at-preserved : goal.loop-at-preserved
loop-at-preserved g c =
    let inv = c.loop-at.invariant in
    let within = subst (λ n. c.loop-at.at < n) (sym inv.count) c.loop-at-test.true in
    record {
      count = length-set c.loop-at.members c.loop-at.at c.turn.new.self ∙ inv.count;
      on = one_goes_on g.A.Actor.is_ready g.A.Actor.stepped c.args.members.now c.loop-at.members c.loop-at.at c.index-members-at.result c.turn.new.self
          within inv.count inv.on c.turn.ensures;
    }

pub loop-at-init : goal.loop-at-init
loop-at-init g c = record { count = refl; on = λ i d less start on. on }

pub returns : goal.returns
returns g c = c.loop-at.invariant.on

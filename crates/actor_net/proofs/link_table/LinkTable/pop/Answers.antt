-- The counts go down by one where a link is emptied, and stay where it still holds something.
use Rattle.std.proofs.Common.{◌≡◌, ◌∷◌, sym, ap, ◌∙◌, arith, rules}
use Rattle.actor_net.specs.LinkTable.{one_if_held}
use Rattle.actor_net.proofs.LinkCounts.{one-empty, one-held, IsRead, some_counted, some_in_all, counted_anew, counted_still}
use Rattle.actor_net.proofs.link_table.LinkTable.pop.Given.{Over}
use Rattle.actor_net.proofs.link_table.LinkTable.pop.Goals as goal
use Rattle.actor_net.proofs.link_table.LinkTable.pop.Goals.{In_ok-message}

read : (g : Over) (c : In_ok-message g)
    → IsRead c.self.inside.links.items c.self.inside.counts.items c.self.inside.all c.place-place.result c.args.link c.index_mut-queue.result.now
read g c = record { are = c.self.invariant; within = search rules; place_is = search rules; old_is = search rules }

held : (g : Over) (c : In_ok-message g) → one_if_held c.index_mut-queue.result.now ≡ 1
held g c = let was : c.index_mut-queue.result.now ≡ c.in_ok-message.message ∷ c.pop.new.self = search rules in ap one_if_held was

pub overflow_sub-index_mut : goal.overflow_sub-index_mut
overflow_sub-index_mut g c =
    let b = (goal.at.overflow_sub-index_mut g c).In_ok-message in
    omega (arith, some_counted (read g b) c.index_mut.result.now c.index_mut.ensures.value, held g b)

pub overflow_sub-self : goal.overflow_sub-self
overflow_sub-self g c = let b = (goal.at.overflow_sub-self g c).In_ok-message in omega (arith, some_in_all (read g b), held g b)

pub invariant_of-self-then-is_empty : goal.invariant_of-self-then-is_empty
invariant_of-self-then-is_empty g c =
    let b = (goal.at.invariant_of-self-then-is_empty g c).In_ok-message in
    let none = one-empty c.pop.new.self (search rules) in
    let some = some_counted (read g b) c.index_mut.result.now c.index_mut.ensures.value in
    counted_anew (read g b) c.index_mut.result.now c.index_mut.ensures.value c.pop.new.self _ _
    (omega (arith, some, none, held g b)) (omega (arith, some_in_all (read g b), none, held g b))

pub invariant_of-self-else-is_empty : goal.invariant_of-self-else-is_empty
invariant_of-self-else-is_empty g c =
    let b = (goal.at.invariant_of-self-else-is_empty g c).In_ok-message in
    counted_still (read g b) c.pop.new.self (held g b ∙ sym (one-held c.pop.new.self (search rules)))

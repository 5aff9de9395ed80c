-- The counts go up by one where a link was empty, and stay where it held something.
use Rattle.std.proofs.Common.{◌≡◌, sym, ◌∙◌, arith, rules}
use Rattle.actor_net.specs.LinkTable.{one_if_held}
use Rattle.actor_net.proofs.LinkCounts.{one-empty, one-held, one-push, IsRead, room_for_one, few_in_all, counted_anew, counted_still}
use Rattle.actor_net.proofs.link_table.LinkTable.push.Given.{Over}
use Rattle.actor_net.proofs.link_table.LinkTable.push.Goals as goal
use Rattle.actor_net.proofs.link_table.LinkTable.push.Goals.{In_ok-push}

read : (g : Over) (c : In_ok-push g)
    → IsRead c.self.inside.links.items c.self.inside.counts.items c.self.inside.all c.place-place.result c.args.link c.index_mut-queue.result.now
read g c = record { are = c.self.invariant; within = search rules; place_is = search rules; old_is = search rules }

held : (g : Over) (c : In_ok-push g) → one_if_held c.push.new.self ≡ 1
held g c = rw c.in_ok-push.ensures.ok (one-push c.index_mut-queue.result.now c.args.message)

pub overflow_add-index_mut : goal.overflow_add-index_mut
overflow_add-index_mut g c =
    let b = (goal.at.overflow_add-index_mut g c).In_ok-push in
    let room = room_for_one (read g b) c.index_mut.result.now c.index_mut.ensures.value (one-empty c.index_mut-queue.result.now (search rules)) in
    search (rules, room)

pub overflow_add-self : goal.overflow_add-self
overflow_add-self g c = let few = few_in_all (read g (goal.at.overflow_add-self g c).In_ok-push) in search (rules, few)

pub invariant_of-self-then-was_empty : goal.invariant_of-self-then-was_empty
invariant_of-self-then-was_empty g c =
    let b = (goal.at.invariant_of-self-then-was_empty g c).In_ok-push in
    let none = one-empty c.index_mut-queue.result.now (search rules) in
    counted_anew (read g b) c.index_mut.result.now c.index_mut.ensures.value c.push.new.self _ _
    (omega (arith, none, held g b)) (omega (arith, none, held g b))

pub invariant_of-self-else-was_empty : goal.invariant_of-self-else-was_empty
invariant_of-self-else-was_empty g c =
    let b = (goal.at.invariant_of-self-else-was_empty g c).In_ok-push in
    counted_still (read g b) c.push.new.self (one-held c.index_mut-queue.result.now (search rules) ∙ sym (held g b))

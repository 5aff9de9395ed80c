-- The place stands at the node whose choices it doesn't reach past, and past all choices where there is none.
use Rattle.std.proofs.Common.{◌≡◌, ◌+◌, length, ap, sym, ◌∙◌, arith, rules}
use Rattle.std.proofs.lemmas.Grind.{common_steps}
use Rattle.std.proofs.lemmas.Option.{slice_get_past}
use Rattle.actor_net.specs.Schedules.{enabled_choices}
use Rattle.actor_net.proofs.EnabledChoices.{node_at}
use Rattle.actor_net.proofs.world.World.nth_enabled.Goals as goal

pub returns-then-left-count : goal.returns-then-left-count
returns-then-left-count g c =
    let nodes = ap (λ w. length w.nodes) c.self.view_is in
    c.nth_of.ensures ∙ sym (node_at g.A.Actor.is_ready c.args.self.now c.loop-node.node c.args.place c.loop-node.left (grind (arith, common_steps))
    (search rules) c.loop-node.invariant)

pub returns : goal.returns
returns g c =
    let nodes = ap (λ w. length w.nodes) c.self.view_is in
    let all : c.loop-node.node ≡ length c.args.self.now.nodes = grind (arith, common_steps) in
    let past : length (enabled_choices g.A.Actor.is_ready c.args.self.now) + c.loop-node.left ≡ c.args.place = rw (← all) (sym c.loop-node.invariant) in
    sym (slice_get_past (enabled_choices g.A.Actor.is_ready c.args.self.now) c.args.place (omega arith))

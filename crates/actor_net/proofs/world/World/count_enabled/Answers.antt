-- The enabled choices are as many as the links that hold something, and the input where it is ready.
use Rattle.std.proofs.Common.{length, true, false, ap, subst, sym, ◌∙◌, arith}
use Rattle.actor_net.specs.Network.{IsWorld}
use Rattle.actor_net.proofs.LinkCounts.{count_all}
use Rattle.actor_net.proofs.world.World.count_enabled.Goals as goal

pub returns-then-input_ready : goal.returns-then-input_ready
returns-then-input_ready g c =
    let world = subst (λ w. IsWorld w) c.self.view_is c.self.invariant.0 in
    count_all g.A.Actor.is_ready c.args.self.now world c.self.inside.links (c.self.invariant.1 ∙ ap (λ w. length w.nodes) c.self.view_is)
    (ap (λ w. w.links) c.self.view_is) true c.count-held.result (sym c.input_ready.ensures ∙ c.if-input_ready.true) c.count-held.ensures.held

pub returns-else-input_ready : goal.returns-else-input_ready
returns-else-input_ready g c =
    let world = subst (λ w. IsWorld w) c.self.view_is c.self.invariant.0 in
    let all = count_all g.A.Actor.is_ready c.args.self.now world c.self.inside.links (c.self.invariant.1 ∙ ap (λ w. length w.nodes) c.self.view_is)
    (ap (λ w. w.links) c.self.view_is) false c.count-held.result (sym c.input_ready.ensures ∙ c.if-input_ready.false) c.count-held.ensures.held in
    omega (arith, all)

-- The enabled choices of a node are as many as the links to it that hold something, and of node 0 the input where it is ready.
use Rattle.std.proofs.Common.{length, true, false, ap, subst, sym, ◌∙◌, arith}
use Rattle.actor_net.specs.Network.{IsWorld}
use Rattle.actor_net.proofs.LinkCounts.{count_first, count_other}
use Rattle.actor_net.proofs.world.World.count_of.Goals as goal
use Rattle.actor_net.proofs.world.World.count_of.Goals.{else-node-eq0-via-then-node-eq0+else-input_ready, else-node-eq0-via-else-node-eq0}

pub returns-then-input_ready : goal.returns-then-input_ready
returns-then-input_ready g c =
    let world = subst (λ w. IsWorld w) c.self.view_is c.self.invariant.0 in
    count_first g.A.Actor.is_ready c.args.self.now world c.self.inside.links (c.self.invariant.1 ∙ ap (λ w. length w.nodes) c.self.view_is)
    (ap (λ w. w.links) c.self.view_is) c.args.node true c.count_to-held.result c.if-node-eq0.true (sym c.input_ready.ensures ∙ c.if-input_ready.true)
    c.count_to-held.ensures.held

pub returns-else-node-eq0 : goal.returns-else-node-eq0
returns-else-node-eq0 g c =
    let world = subst (λ w. IsWorld w) c.self.view_is c.self.invariant.0 in
    let nodes = c.self.invariant.1 ∙ ap (λ w. length w.nodes) c.self.view_is in
    let links = ap (λ w. w.links) c.self.view_is in
    elim c.else-node-eq0.branch [
      | else-node-eq0-via-then-node-eq0+else-input_ready w ↦
          let first = count_first g.A.Actor.is_ready c.args.self.now world c.self.inside.links nodes links c.args.node false c.count_to-held.result
          w.if-node-eq0.true (sym w.input_ready.ensures ∙ w.if-input_ready.false) c.count_to-held.ensures.held in
          omega (arith, first)
      | else-node-eq0-via-else-node-eq0 w ↦
          count_other g.A.Actor.is_ready c.args.self.now world c.self.inside.links nodes links c.args.node c.count_to-held.result c.requires
          w.if-node-eq0.false c.count_to-held.ensures.held
    ]

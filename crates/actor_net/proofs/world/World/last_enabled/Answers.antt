-- The last choice is the input's where no link holds anything, or else the last of the first node from the end that has one, and there is none
-- where no node is left.
use Rattle.std.proofs.Common.{◌≡◌, ◌-◌, length, ap, subst, sym, ◌∙◌, arith}
use Rattle.std.specs.Prelude.{slice_get}
use Rattle.std.proofs.lemmas.Grind.{common_steps}
use Rattle.std.proofs.lemmas.Option.{slice_get_past}
use Rattle.actor_net.specs.Network.{IsWorld}
use Rattle.actor_net.specs.Schedules.{ports_below, nodes_below, enabled_choices}
use Rattle.actor_net.proofs.EnabledChoices.{last_node, last_first, no_choice, input_alone}
use Rattle.actor_net.proofs.LinkCounts.{count_all}
use Rattle.actor_net.proofs.world.World.last_enabled.Goals as goal

pub returns-then-count-eq0 : goal.returns-then-count-eq0
returns-then-count-eq0 g c =
    let world = subst (λ w. IsWorld w) c.self.view_is c.self.invariant.0 in
    let all = count_all g.A.Actor.is_ready c.args.self.now world c.self.inside.links (c.self.invariant.1 ∙ ap (λ w. length w.nodes) c.self.view_is)
    (ap (λ w. w.links) c.self.view_is) c.input_ready.result 0 (sym c.input_ready.ensures) (sym c.if-count-eq0.true ∙ c.count.ensures.held) in
    c.then_some.ensures ∙ sym (input_alone g.A.Actor.is_ready c.args.self.now c.input_ready.result (sym c.input_ready.ensures) world.some_node all)

pub returns-then-count-eq1 : goal.returns-then-count-eq1
returns-then-count-eq1 g c =
    let nodes = ap (λ w. length w.nodes) c.self.view_is in
    let only : length (ports_below g.A.Actor.is_ready c.args.self.now (c.len-nodes.result - 1 - c.loop-passed.passed) (length c.args.self.now.nodes)) ≡ 1 =
    sym c.count_of-count.ensures ∙ c.if-count-eq1.true in
    c.nth_of.ensures ∙ ap
    (λ n. slice_get (ports_below g.A.Actor.is_ready c.args.self.now (c.len-nodes.result - 1 - c.loop-passed.passed) (length c.args.self.now.nodes)) (n - 1))
    (sym only)
    ∙ sym (last_node g.A.Actor.is_ready c.args.self.now (c.len-nodes.result - 1 - c.loop-passed.passed) c.loop-passed.passed (omega (arith, only))
    (grind (arith, common_steps)) c.loop-passed.invariant)

pub returns-then-count-gt0 : goal.returns-then-count-gt0
returns-then-count-gt0 g c =
    let nodes = ap (λ w. length w.nodes) c.self.view_is in
    c.last_of-then-count-gt0.ensures ∙ sym (last_node g.A.Actor.is_ready c.args.self.now (c.len-nodes.result - 1 - c.loop-passed.passed)
    c.loop-passed.passed (grind (arith, common_steps)) (grind (arith, common_steps)) c.loop-passed.invariant)

pub returns-then-node-eq0 : goal.returns-then-node-eq0
returns-then-node-eq0 g c =
    let nodes = ap (λ w. length w.nodes) c.self.view_is in
    c.last_of.ensures ∙ sym (last_first g.A.Actor.is_ready c.args.self.now (c.len-nodes.result - 1 - c.loop-passed.passed) c.loop-passed.passed
    (grind (arith, common_steps)) (grind (arith, common_steps)) c.loop-passed.invariant)

pub loop-passed-preserved : goal.loop-passed-preserved
loop-passed-preserved g c =
    let nodes = ap (λ w. length w.nodes) c.self.view_is in
    no_choice g.A.Actor.is_ready c.args.self.now (c.len-nodes.result - 1 - c.loop-passed.passed) c.loop-passed.passed (grind (arith, common_steps))
    (grind (arith, common_steps)) c.loop-passed.invariant

pub returns : goal.returns
returns g c =
    let nodes = ap (λ w. length w.nodes) c.self.view_is in
    let all : length c.args.self.now.nodes - c.loop-passed.passed ≡ 0 = grind (arith, common_steps) in
    let empty : length (enabled_choices g.A.Actor.is_ready c.args.self.now) ≡ 0 = c.loop-passed.invariant
    ∙ ap (λ n. length (nodes_below g.A.Actor.is_ready c.args.self.now n)) all in
    sym (slice_get_past (enabled_choices g.A.Actor.is_ready c.args.self.now) _ (omega arith))

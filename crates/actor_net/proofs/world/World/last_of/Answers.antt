-- The last choice is the first that is enabled from the end, and there is none where no port is left.
use Rattle.std.proofs.Common.{◌≡◌, ◌-◌, length, ap, sym, ◌∙◌, arith}
use Rattle.std.proofs.lemmas.Grind.{common_steps}
use Rattle.std.proofs.lemmas.Option.{slice_get_past}
use Rattle.actor_net.specs.Schedules.{ports_below}
use Rattle.actor_net.proofs.EnabledChoices.{last_here, none_there}
use Rattle.actor_net.proofs.world.World.last_of.Goals as goal

pub returns-then-enabled_within : goal.returns-then-enabled_within
returns-then-enabled_within g c =
    let nodes = ap (λ w. length w.nodes) c.self.view_is in
    sym (last_here g.A.Actor.is_ready c.args.self.now c.args.node (c.len-nodes.result - 1 - c.loop-passed.passed) c.loop-passed.passed
    (sym c.enabled_within.ensures ∙ c.if-enabled_within.true) (grind (arith, common_steps)) c.loop-passed.invariant)

pub loop-passed-preserved : goal.loop-passed-preserved
loop-passed-preserved g c =
    let nodes = ap (λ w. length w.nodes) c.self.view_is in
    none_there g.A.Actor.is_ready c.args.self.now c.args.node (c.len-nodes.result - 1 - c.loop-passed.passed) c.loop-passed.passed
    (sym c.enabled_within.ensures ∙ c.if-enabled_within.false) (grind (arith, common_steps)) c.loop-passed.invariant

pub returns : goal.returns
returns g c =
    let nodes = ap (λ w. length w.nodes) c.self.view_is in
    let all : length c.args.self.now.nodes - c.loop-passed.passed ≡ 0 = grind (arith, common_steps) in
    let empty : length (ports_below g.A.Actor.is_ready c.args.self.now c.args.node (length c.args.self.now.nodes)) ≡ 0 = c.loop-passed.invariant
    ∙ ap (λ n. length (ports_below g.A.Actor.is_ready c.args.self.now c.args.node n)) all in
    sym (slice_get_past (ports_below g.A.Actor.is_ready c.args.self.now c.args.node (length c.args.self.now.nodes)) _ (omega arith))

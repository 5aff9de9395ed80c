-- The choice at the place is the port's that it doesn't reach past, and there is none where no port is left.
use Rattle.std.proofs.Common.{◌≡◌, ◌+◌, Bool, true, false, length, refl, ap, sym, ◌∙◌, arith}
use Rattle.std.proofs.lemmas.Grind.{common_steps}
use Rattle.std.proofs.lemmas.Option.{slice_get_past}
use mir.Val.{bool_byte}
use Rattle.actor_net.specs.Schedules.{ports_below}
use Rattle.actor_net.proofs.EnabledChoices.{one_if, place_on, found_here}
use Rattle.actor_net.proofs.world.World.nth_of.Goals as goal

byte_is : (b : Bool) → bool_byte b ≡ one_if b
byte_is true = refl
byte_is false = refl

pub returns-then-left-count : goal.returns-then-left-count
returns-then-left-count g c =
    let nodes = ap (λ w. length w.nodes) c.self.view_is in
    sym (found_here g.A.Actor.is_ready c.args.self.now c.args.node c.loop-port.port c.args.place c.loop-port.left (bool_byte c.enabled_within-count.result)
    (grind (arith, common_steps)) (byte_is c.enabled_within-count.result ∙ ap one_if c.enabled_within-count.ensures) c.if-left-count.true
    c.loop-port.invariant)

pub loop-port-preserved : goal.loop-port-preserved
loop-port-preserved g c =
    place_on g.A.Actor.is_ready c.args.self.now c.args.node c.loop-port.port c.args.place c.loop-port.left (bool_byte c.enabled_within-count.result)
    (byte_is c.enabled_within-count.result ∙ ap one_if c.enabled_within-count.ensures) c.if-left-count.false c.loop-port.invariant

pub returns : goal.returns
returns g c =
    let nodes = ap (λ w. length w.nodes) c.self.view_is in
    let ports : c.loop-port.port ≡ length c.args.self.now.nodes = grind (arith, common_steps) in
    let past : length (ports_below g.A.Actor.is_ready c.args.self.now c.args.node (length c.args.self.now.nodes)) + c.loop-port.left ≡ c.args.place =
    rw (← ports) (sym c.loop-port.invariant) in
    sym (slice_get_past (ports_below g.A.Actor.is_ready c.args.self.now c.args.node (length c.args.self.now.nodes)) c.args.place (omega arith))

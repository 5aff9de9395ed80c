-- The ways in which the switch goes on with a message: what holds of each of them holds of its step.
use Rattle.proof_outlines.proofs.Words.{ℕ, [], ◌∷◌, ◌-◌, ◌==◌, ◌&&◌, ◌||◌, not, nat_lt, Filter, Packet, Mark, Plain, FullCell, one_more, Target}
use Rattle.proof_outlines.proofs.Words.{rules_redirected, Command, Msg, Installed, instance_node, controller_node, SwitchState, switch_step, by_if}
use Rattle.switch_node.specs.Switch as switch
use Rattle.switch_node.specs.Switch.{Step}

module _ (s : SwitchState) (Allows : Msg → Step → Type 0) where
  abbrev installs : ℕ → Filter → ℕ → Target → Step
  installs op filter from to = record {
    node = record s { rules = rules_redirected (record { filter = filter; from = Target.Instance from; to = to }) s.rules };
    sends = (instance_node from, Msg.Fence op) ∷ [];
    notes = Installed op ∷ [];
  }

  abbrev comes_home : Step
  comes_home = record { node = record s { pool = one_more s.pool; flying = s.flying - 1 }; sends = []; notes = [] }

  pub record WaysOfSwitch : Type 0 where
    pub still : (m : Msg) → Allows m (switch.still s)
    pub to_controller : (p : Packet) → Allows (Msg.InPacket p) (switch.arrival_step s p controller_node Msg.Diverted)
    pub to_instance : (p : Packet) (i : ℕ) → Allows (Msg.InPacket p) (switch.arrival_step s p (instance_node i) (Msg.Carry Plain))
    pub command : (c : Command) → Allows (Msg.InCommand c) (switch.on_command s c)
    pub ended : Allows Msg.InEnd (switch.sends_on s controller_node Msg.End)
    pub forward : (to : ℕ) (m : Mark) (cell : FullCell) → Allows (Msg.Forward to m cell) (switch.sends_on s (instance_node to) (Msg.Carry m cell))
    pub install : (op : ℕ) (filter : Filter) (from : ℕ) (to : Target) → Allows (Msg.Install op filter from to) (installs op filter from to)
    pub fence : (op to : ℕ) → Allows (Msg.FenceTo op to) (switch.sends_on s (instance_node to) (Msg.Fence op))
    pub answered : (op : ℕ) → Allows (Msg.Answered op) (switch_step s (Msg.Answered op))
    pub finish : Allows Msg.Finish (switch_step s Msg.Finish)
    pub credit : (cell : FullCell) → Allows (Msg.Credit cell) comes_home

  module _ (ways : WaysOfSwitch) where
    by_target : (p : Packet) (t : Target) → Allows (Msg.InPacket p) (switch.goes_to s p t)
    by_target p Target.Controller = ways.to_controller p
    by_target p (Target.Instance i) = by_if (Allows (Msg.InPacket p)) (nat_lt i s.instances) (ways.to_instance p i) (ways.still (Msg.InPacket p))

    pub step_fits : (m : Msg) → Allows m (switch_step s m)
    step_fits (Msg.InPacket p) =
        by_if (Allows (Msg.InPacket p)) (switch.has_room s) (by_target p (switch.target_of s p)) (ways.still (Msg.InPacket p))
    step_fits (Msg.InCommand c) = ways.command c
    step_fits Msg.InEnd = ways.ended
    step_fits (Msg.Forward to m cell) = by_if (Allows (Msg.Forward to m cell)) (nat_lt to s.instances) (ways.forward to m cell)
        (ways.still (Msg.Forward to m cell))
    step_fits (Msg.Install op filter from to) = by_if (Allows (Msg.Install op filter from to)) (nat_lt from s.instances && switch.is_there s to)
        (ways.install op filter from to)
        (ways.still (Msg.Install op filter from to))
    step_fits (Msg.FenceTo op to) = by_if (Allows (Msg.FenceTo op to)) (nat_lt to s.instances) (ways.fence op to) (ways.still (Msg.FenceTo op to))
    step_fits (Msg.Answered op) = ways.answered op
    step_fits Msg.Finish = ways.finish
    step_fits (Msg.Credit cell) = by_if (Allows (Msg.Credit cell)) ((s.flying == 0) || not (cell.pool == s.pool.name)) (ways.still (Msg.Credit cell))
        (ways.credit cell)
    step_fits m = ways.still m

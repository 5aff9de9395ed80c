-- The loop over the instances: so far the nodes are the switch, the controller, and as many of the first instances as were made.
use Rattle.std.proofs.Common.{◌≡◌, ◌∷◌}
use Rattle.net_world.specs.declared.node.Node.TheVariants.{Switch, Controller}
use Rattle.ctrl_node.specs.Controller.{controller_at_start}
use Rattle.net_world.specs.Start.{first_switch, first_instances}
use Rattle.net_world.proofs.starting.first_nodes.Given as goal

abbrev pub invariant-loop-index : goal.invariant-loop-index
invariant-loop-index g l = l.nodes.items
    ≡ Switch (first_switch l.config) ∷ Controller (controller_at_start l.config.names l.config.site) ∷ first_instances l.alloc l.config l.index

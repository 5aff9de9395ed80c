-- One name more adds its instance, where it has one.
use Rattle.std.proofs.Common.{rules, arith}
use Rattle.std.proofs.lemmas.Grind.{common_steps}
use Rattle.std.proofs.lemmas.List.Elements.{filter_map-append}
use Rattle.ctrl_node.proofs.controller.Ctrl.places_of.Goals as goal

pub loop-name-preserved-in_default : goal.loop-name-preserved-in_default
loop-name-preserved-in_default c = (grind (arith, common_steps, filter_map-append), c.loop-name.invariant.1)

pub loop-name-preserved : goal.loop-name-preserved
loop-name-preserved c = (grind (arith, common_steps, filter_map-append), search rules)

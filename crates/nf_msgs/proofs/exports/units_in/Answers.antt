-- One chunk more lists its unit, where it has one.
use Rattle.std.proofs.Common.{arith}
use Rattle.std.proofs.lemmas.Grind.{common_steps}
use Rattle.std.proofs.lemmas.List.Elements.{filter_map-append}
use Rattle.nf_msgs.proofs.exports.units_in.Goals as goal

pub loop-chunk-preserved-in_default : goal.loop-chunk-preserved-in_default
loop-chunk-preserved-in_default c = grind (arith, common_steps, filter_map-append)

pub loop-chunk-preserved : goal.loop-chunk-preserved
loop-chunk-preserved c = grind (arith, common_steps, filter_map-append)

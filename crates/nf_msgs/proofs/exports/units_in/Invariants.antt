-- The units of the chunks so far are listed.
use Rattle.std.proofs.Common.{◌≡◌, take}
use Rattle.nf_msgs.specs.Exports.{units_in}
use Rattle.nf_msgs.proofs.exports.units_in.Given as goal

abbrev pub invariant-loop-chunk : goal.invariant-loop-chunk
invariant-loop-chunk l = l.units ≡ units_in (take l.chunk-index l.chunks)

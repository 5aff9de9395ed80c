-- The bytes of the first part of a flow's chunk, each in its place.
use Rattle.std.proofs.Common.{arith}
use Rattle.std.proofs.lemmas.Grind.{common_steps}
use Rattle.nf_function.specs.Stored.{number_bytes}
use Rattle.state_chunk.specs.Format.{key_bytes}
use Rattle.state_chunk.proofs.front.flow_front.Goals as goal

pub returns : goal.returns
unfolding key_bytes number_bytes
returns c = rw c.flow_key.ensures (grind (arith, common_steps))

-- The bytes of a flow's key, each in its place.
use Rattle.std.proofs.Common.{refl}
use Rattle.nf_function.specs.Stored.{number_bytes}
use Rattle.state_chunk.specs.Format.{key_bytes}
use Rattle.state_chunk.proofs.front.flow_key.Goals as goal

pub returns : goal.returns
unfolding key_bytes number_bytes
returns c = rw (c.end.ensures, c.end-2.ensures) refl

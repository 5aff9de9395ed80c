-- Nothing was read.
use Rattle.std.proofs.Common.{refl}
use Rattle.nf_io.proofs.read_ahead.ReadAhead.open.Goals as goal

pub returns : goal.returns
returns c = refl

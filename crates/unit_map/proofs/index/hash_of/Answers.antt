-- The hash is what the hasher ends with.
use Rattle.unit_map.specs.Notes.{hash_of}
use Rattle.unit_map.proofs.index.hash_of.Goals as goal

pub returns : goal.returns
unfolding hash_of
returns g c = cc

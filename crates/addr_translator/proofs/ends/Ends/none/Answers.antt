-- No bit is set.
use Rattle.addr_translator.proofs.SeenEnds.{none_set}
use Rattle.addr_translator.proofs.ends.Ends.none.Goals as goal

pub returns : goal.returns
returns c end is = none_set 2048 end

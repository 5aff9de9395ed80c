-- A generated capture is read whole.
use Rattle.trace_reader.proofs.MadeIsRead.{read_whole}
use Rattle.trace_reader.proofs.make.made_captures.Goals as goal

pub returns : goal.returns
returns c = read_whole

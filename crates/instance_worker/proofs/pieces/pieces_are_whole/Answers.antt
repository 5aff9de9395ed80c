-- The laws of pieces are proved for any chunks.
use Rattle.instance_worker.proofs.PieceLaws.{piece_laws}
use Rattle.instance_worker.proofs.pieces.pieces_are_whole.Goals as goal

pub returns : goal.returns
returns c = piece_laws

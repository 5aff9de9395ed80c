-- Steps between code and definition, which nobody has to believe: the bytes of the records that are written at once. This project's own.
use Rattle.std.specs.Prelude.{ℕ, List, take}
use Rattle.trace_reader.specs.declared.piece.Piece.{Piece}

abbrev pub piece_bytes : Piece → List ℕ
piece_bytes piece = take piece.used piece.bytes.items

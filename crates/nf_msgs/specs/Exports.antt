-- The units of what an instance gives or takes. This project's own.
use Rattle.std.specs.Prelude.{List}
use Rattle.std.specs.List.{filter_map}
use Rattle.nf_function.specs.declared.chunk.Chunk.{Chunk}
use Rattle.nf_function.specs.declared.unit.Unit as units

-- the units of the chunks that have one, in order
abbrev pub units_in : List Chunk → List units.Unit
units_in chunks = filter_map (λ c. c.unit) chunks

-- Steps between code and definition, which nobody has to believe: an output without numbers, and a record with one packet more.
use Rattle.std.specs.Prelude.{ℕ, []}
use Rattle.nf_function.specs.declared.output.Output.{Output}
use Rattle.nf_function.specs.Semantics.{count}
use Rattle.addr_translator.specs.Mappings.{Translation}

-- an output without numbers
abbrev pub code : ℕ → Output
code n = record { code = n; a = 0; b = 0 }

-- one packet more
abbrev pub counted : Translation → Translation
counted r = record r { packets = count r.packets 1 }

-- nothing is kept yet
abbrev pub no_mappings : Translation
no_mappings = record { mappings = []; packets = 0; drops = 0 }

-- Steps between code and definition, which nobody has to believe: what ends the line of an output.
use Rattle.std.specs.Prelude.{ℕ, ◌++◌, List, codes}
use Rattle.nf_function.specs.declared.output.Output.{Output}
use Rattle.nf_function.specs.Semantics.{Semantics}

-- ` OUTPUT`, and the end of the line
abbrev pub output_end : {R : Type 0} → Semantics R → Output → List ℕ
output_end f output = codes " " ++ f.output_text output ++ codes "\n"

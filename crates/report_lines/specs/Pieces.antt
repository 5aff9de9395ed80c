-- Steps between code and definition, which nobody has to believe: pieces of lines that functions put.
use Rattle.std.specs.Prelude.{ℕ, ◌++◌, List, Bool, codes, decimal, if◌then◌else◌}
use Rattle.basics.specs.Address.{address_text}
use Rattle.nf_function.specs.declared.kind.Kind.{Kind}
use Rattle.nf_function.specs.Names.{function_name}

-- `function FUNCTION instances N`
unfoldable pub function_text : Kind → ℕ → List ℕ
function_text kind instances = codes "function " ++ function_name kind ++ codes " instances " ++ decimal instances

-- `trace packets P skipped S `
unfoldable pub counts_text : ℕ → ℕ → List ℕ
counts_text packets skipped = codes "trace packets " ++ decimal packets ++ codes " skipped " ++ decimal skipped ++ codes " "

-- `whole` or `cut`
abbrev pub end_text : Bool → List ℕ
end_text cut = if cut then codes "cut" else codes "whole"

-- `WORD N INST`, and the end of the line
abbrev pub named_text : List ℕ → ℕ → List ℕ → List ℕ
named_text word number name = word ++ decimal number ++ codes " " ++ name ++ codes "\n"

-- `A.B.C.D:PORT`
abbrev pub end_point_text : ℕ → ℕ → List ℕ
end_point_text address port = address_text address ++ codes ":" ++ decimal port

-- ` C`
abbrev pub count_text : ℕ → List ℕ
count_text count = codes " " ++ decimal count

-- What the address translator answers and prints. This project's own words.
use Rattle.std.specs.Prelude.{ℕ, ◌++◌, List, [], ◌∷◌, length, codes, decimal}
use Rattle.std.specs.List.{slice_index_or}
use Rattle.basics.specs.Address.{address_text}
use Rattle.nf_function.specs.declared.output.Output.{Output}
use Rattle.addr_translator.specs.Mappings.{Translation}

-- `WORD ADDR:PORT`
unfoldable pub endpoint_text : List ℕ → Output → List ℕ
endpoint_text word output = word ++ codes " " ++ address_text output.a ++ codes ":" ++ decimal output.b

-- the text of an output, by its code
abbrev pub output_text : Output → List ℕ
output_text output =
    slice_index_or (codes "pass" ∷ endpoint_text (codes "map") output ∷ endpoint_text (codes "unmap") output ∷ codes "drop noport" ∷ codes "drop nomap"
    ∷ codes "drop direct" ∷ []) output.code []

-- `ports USED packets P drops D`
unfoldable pub record_text : Translation → List ℕ
record_text r =
    codes "ports " ++ decimal (length r.mappings) ++ codes " packets " ++ decimal r.packets ++ codes " drops " ++ decimal r.drops

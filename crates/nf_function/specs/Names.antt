-- The names of the functions, in the words of the command line and in reports. This project's own.
use Rattle.std.specs.Prelude.{ℕ, if◌then◌else◌, List, Option, None, Some, codes}
use Rattle.std.specs.Str.{bytes_eq}
use Rattle.nf_function.specs.declared.kind.Kind.{Kind}
use Rattle.nf_function.specs.declared.kind.Kind.TheVariants.{Conntrack, Nat, Monitor}

-- the name of a function
abbrev pub function_name : Kind → List ℕ
function_name Conntrack = codes "conntrack"
function_name Nat = codes "nat"
function_name Monitor = codes "monitor"

-- the function with this name
unfoldable pub function_named : List ℕ → Option Kind
function_named text =
    if bytes_eq text (codes "conntrack") then Some Conntrack
    else if bytes_eq text (codes "nat") then Some Nat
    else if bytes_eq text (codes "monitor") then Some Monitor
    else None

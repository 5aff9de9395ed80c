-- Filters in text. This project's own grammar: `any`, or fields joined by commas, each at most once.
-- The first field from the left that breaks a rule is refused, by the first rule that it breaks.
use Rattle.std.specs.Prelude.{◌≡◌, ℕ, Bool, true, false, ◌||◌, ◌==◌, if◌then◌else◌, List, [], ◌∷◌}
use Rattle.std.specs.Prelude.{◌++◌, Option, None, Some, is_some, ok_or, option_map, Result, Ok, Err, codes}
use Prim.Native.Char.{code}
use Rattle.std.specs.List.{slice_split, join_with_byte}
use Rattle.std.specs.Option.{option_map_or}
use Rattle.std.specs.Str.{bytes_eq}
use Rattle.std.specs.Fmt.{decimal}
use Rattle.basics.specs.Address.{address_text}
use Rattle.flow_filter.specs.declared.prefix.Prefix.{Prefix}
use Rattle.flow_filter.specs.declared.filter.Filter.{Filter}
use Rattle.flow_filter.specs.declared.filter_text.FilterFault.{FilterFault}
use Rattle.flow_filter.specs.declared.filter_text.FilterFault.TheVariants.{Field, Twice, Number, Prefix as BadPrefix}
use Rattle.basics.specs.Parsing.{parse_number, split_once}
use Rattle.basics.specs.Results.{◌>>=◌}
use Rattle.flow_filter.specs.Reading.{prefix_of, prefix_numbers}
use Rattle.basics.specs.Bytes.{comma, slash}
use Rattle.flow_filter.specs.Packet.{tcp, udp, most_port}

-- what a filter gives, with each prefix as its two numbers
pub record Fields : Type 0 where
  pub proto : Option ℕ
  pub local : Option (ℕ × ℕ)
  pub lport : Option ℕ
  pub remote : Option (ℕ × ℕ)
  pub rport : Option ℕ

-- the fields of a filter
abbrev pub fields_of : Filter → Fields
fields_of f =
    record { proto = f.proto; local = option_map prefix_numbers f.local; lport = f.lport; remote = option_map prefix_numbers f.remote; rport = f.rport }

-- the fields of the filter that gives none
abbrev pub nothing : Fields
nothing = record { proto = None; local = None; lport = None; remote = None; rport = None }

-- a field that is given already is refused first, and then a value that can't be read
abbrev pub once : {X : Type 0} → Option X → Option X → FilterFault → (X → Fields) → Result Fields FilterFault
once given new wrong put = if is_some given then Err Twice else option_map_or (λ x. Ok (put x)) new (Err wrong)

-- the number of a protocol's name
unfoldable pub protocol_of : List ℕ → Option ℕ
protocol_of text = if bytes_eq text (codes "tcp") then Some tcp else if bytes_eq text (codes "udp") then Some udp else None

-- the field with this name and value
unfoldable pub with_named : Fields → List ℕ → List ℕ → Result Fields FilterFault
with_named f name value =
    if bytes_eq name (codes "proto") then once f.proto (protocol_of value) Number (λ x. record f { proto = Some x })
    else if bytes_eq name (codes "local") then once f.local (prefix_of value) BadPrefix (λ x. record f { local = Some x })
    else if bytes_eq name (codes "lport") then once f.lport (parse_number most_port value) Number (λ x. record f { lport = Some x })
    else if bytes_eq name (codes "remote") then once f.remote (prefix_of value) BadPrefix (λ x. record f { remote = Some x })
    else if bytes_eq name (codes "rport") then once f.rport (parse_number most_port value) Number (λ x. record f { rport = Some x })
    else Err Field

-- the fields in turn, each a name, an equals sign and a value
abbrev pub with_fields : Fields → List (List ℕ) → Result Fields FilterFault
with_fields f [] = Ok f
with_fields f (text ∷ more) = (ok_or (split_once (code "=") text) Field >>= λ sides. with_named f sides.0 sides.1) >>= λ g. with_fields g more

-- the filter that a text spells, or the fault of its first field that breaks a rule
unfoldable pub parse : List ℕ → Result Fields FilterFault
parse text = if bytes_eq text (codes "any") then Ok nothing else with_fields nothing (slice_split (λ b. b == code ",") text)

-- a protocol that has a name, or none
abbrev pub is_transport : Option ℕ → Bool
is_transport None = true
is_transport (Some n) = n == tcp || n == udp

-- the filter can be printed
abbrev pub is_printable : Filter → Bool
is_printable f = is_transport f.proto

abbrev pub protocol_text : ℕ → List ℕ
protocol_text n = if n == tcp then codes "tcp" else codes "udp"

-- `A.B.C.D/L`
abbrev pub prefix_text : Prefix → List ℕ
prefix_text p = address_text p.bits ++ slash ∷ decimal p.len

-- a field that is given, as its name, an equals sign and its value
abbrev pub piece : List ℕ → Option (List ℕ) → List (List ℕ)
piece name None = []
piece name (Some value) = (name ++ value) ∷ []

-- the fields that are given, in their order
unfoldable pub pieces : Filter → List (List ℕ)
pieces f = piece (codes "proto=") (option_map protocol_text f.proto) ++ piece (codes "local=") (option_map prefix_text f.local)
    ++ piece (codes "lport=") (option_map decimal f.lport) ++ piece (codes "remote=") (option_map prefix_text f.remote)
    ++ piece (codes "rport=") (option_map decimal f.rport)

abbrev pub joined : List (List ℕ) → List ℕ
joined [] = codes "any"
joined (first ∷ more) = join_with_byte comma (first ∷ more)

-- the canonical text of a filter
unfoldable pub print : Filter → List ℕ
print f = joined (pieces f)

-- each piece after a comma, but for the first where nothing stands before it
abbrev pub after_commas : Bool → List (List ℕ) → List ℕ
after_commas begun [] = []
after_commas false (first ∷ more) = first ++ after_commas true more
after_commas true (first ∷ more) = comma ∷ first ++ after_commas true more

-- what was read is what the definition reads, through a view, and so is the fault
abbrev pub AgreesBy : {X Y E : Type 0} → (X → Y) → Result X E → Result Y E → Type 0
AgreesBy view (Ok x) read = read ≡ Ok (view x)
AgreesBy view (Err e) read = read ≡ Err e

-- Steps between code and definition, which nobody has to believe: one field of a filter's text, and the parts of a prefix and of a flow.
use Rattle.std.specs.Prelude.{ℕ, ◌+◌, ◌-◌, ◌/◌, ◌%◌, ◌^◌, ◌==◌, ◌&&◌, ◌||◌, nat_le, nat_lt, Bool, false, if◌then◌else◌, List, Option, None, Some, ok_or, Result}
use Rattle.std.specs.Option.{option_map_or}
use Prim.Native.Char.{code}
use Rattle.basics.specs.Parsing.{parse_number, split_once}
use Rattle.basics.specs.Results.{◌>>=◌}
use Rattle.flow_filter.specs.declared.filter_text.FilterFault.{FilterFault}
use Rattle.flow_filter.specs.declared.filter_text.FilterFault.TheVariants.{Field, Number, Prefix as BadPrefix}
use Rattle.flow_filter.specs.declared.packet.Packet.{Packet}
use Rattle.flow_filter.specs.declared.site.Site.{Site}
use Rattle.flow_filter.specs.FilterText.{Fields, once, protocol_of, with_named}
use Rattle.flow_filter.specs.Flow.{first_port, ports_per_host}
use Rattle.flow_filter.specs.Packet.{most_port}
use Rattle.flow_filter.specs.Prefixes.{address_bits}
use Rattle.flow_filter.specs.Reading.{prefix_of}

-- the fields so far with one more, or its fault
abbrev pub Answer : Type 0
Answer = Result Fields FilterFault

abbrev pub with_proto : Fields → List ℕ → Answer
with_proto f value = once f.proto (protocol_of value) Number (λ x. record f { proto = Some x })

abbrev pub with_local : Fields → List ℕ → Answer
with_local f value = once f.local (prefix_of value) BadPrefix (λ x. record f { local = Some x })

abbrev pub with_lport : Fields → List ℕ → Answer
with_lport f value = once f.lport (parse_number most_port value) Number (λ x. record f { lport = Some x })

abbrev pub with_remote : Fields → List ℕ → Answer
with_remote f value = once f.remote (prefix_of value) BadPrefix (λ x. record f { remote = Some x })

abbrev pub with_rport : Fields → List ℕ → Answer
with_rport f value = once f.rport (parse_number most_port value) Number (λ x. record f { rport = Some x })

-- the two sides of an equals sign
abbrev pub with_sides : Fields → Option (List ℕ × List ℕ) → Answer
with_sides f sides = ok_or sides Field >>= λ s. with_named f s.0 s.1

-- one field more
abbrev pub with_field : Fields → List ℕ → Answer
with_field f text = with_sides f (split_once (code "=") text)

-- the greatest number of a byte
abbrev pub most_byte : ℕ
most_byte = 255

-- the address and the length of a prefix, where no bit past the length is set
abbrev pub aligned_prefix : ℕ → ℕ → Option (ℕ × ℕ)
aligned_prefix bits len = if bits % 2 ^ (address_bits - len) == 0 then Some (bits, len) else None

-- the inside host that a port of the outside address belongs to
abbrev pub owner_of_port : Site → ℕ → ℕ
owner_of_port site port = site.inside.bits + (port - first_port) / ports_per_host

-- the source is the smaller end by address and then port, or the ends are equal
abbrev pub is_source_first : Packet → Bool
is_source_first p = nat_lt p.src p.dst || (p.src == p.dst && nat_le p.sport p.dport)

-- the address is the site's outside address
abbrev pub is_outside_address : Option ℕ → ℕ → Bool
is_outside_address outside address = option_map_or (λ (o : ℕ). address == o) outside false

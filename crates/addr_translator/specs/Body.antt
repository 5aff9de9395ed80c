-- The bytes that a translator's record is stored as. This project's own format: how many mappings (2 bytes), each mapping
-- as its protocol (1) and port (2), packets (8), drops (8).
use Rattle.std.specs.Prelude.{ℕ, ◌^◌, ◌&&◌, nat_le, nat_lt, Bool, true, not, List, [], ◌∷◌, ◌++◌, length, Option, Some}
use Rattle.std.specs.List.{flat_map, list_all, list_any}
use Rattle.basics.specs.Options.{◌>>=◌}
use Rattle.nf_function.specs.declared.unit.Unit as units
use Rattle.nf_function.specs.declared.kind.Kind.TheVariants.{Nat}
use Rattle.nf_function.specs.Stored.{number_bytes, first_byte, first_number, first_items, at_most, at_end}
use Rattle.nf_function.specs.Units.{is_transport, is_unit}
use Rattle.addr_translator.specs.declared.mapping.Mapping.{Mapping}
use Rattle.addr_translator.specs.Mappings.{Translation, mapping_eq}
use Rattle.flow_filter.specs.Flow.{ports_per_host}

-- an end of TCP or UDP, its port within its type
abbrev pub is_mapping : Mapping → Bool
is_mapping m = is_transport m.proto && nat_lt m.port (2 ^ 16)

-- no end stands twice in the list
abbrev pub is_distinct : List Mapping → Bool
is_distinct [] = true
is_distinct (m ∷ more) = not (list_any (λ other. mapping_eq other m) more) && is_distinct more

-- the mappings that a host can have
abbrev pub are_mappings : List Mapping → Bool
are_mappings mappings = nat_le (length mappings) ports_per_host && list_all is_mapping mappings && is_distinct mappings

-- it has counted a packet, and at most all of them as drops
abbrev pub is_kept : Translation → Bool
is_kept r = are_mappings r.mappings && nat_le 1 r.packets && nat_le r.drops r.packets && nat_lt r.packets (2 ^ 64)

-- a record of the host
abbrev pub is_valid : units.Unit → Translation → Bool
is_valid unit r = is_unit Nat unit && is_kept r

abbrev pub mapping_bytes : Mapping → List ℕ
mapping_bytes m = m.proto ∷ number_bytes 2 m.port

unfoldable pub body_of : Translation → List ℕ
body_of r =
    number_bytes 2 (length r.mappings) ++ flat_map mapping_bytes r.mappings ++ number_bytes 8 r.packets ++ number_bytes 8 r.drops

-- a mapping, and the bytes after it
unfoldable pub first_mapping : List ℕ → Option (Mapping × List ℕ)
first_mapping bytes = do
  proto ← first_byte bytes
  port ← first_number 2 proto.1
  Some (record { proto = proto.0; port = port.0 }, port.1)

-- as many mappings, and the bytes after them
abbrev pub mappings_in : ℕ → List ℕ → Option (List Mapping × List ℕ)
mappings_in = first_items first_mapping

-- a record with these mappings alone
abbrev pub with_mappings : List Mapping × List ℕ → Translation × List ℕ
with_mappings read = (record { mappings = read.0; packets = 0; drops = 0 }, read.1)

-- the record that bytes spell
unfoldable pub spelled : List ℕ → Option Translation
spelled body = do
  used ← first_number 2 body >>= at_most ports_per_host
  mappings ← mappings_in used.0 used.1
  packets ← first_number 8 mappings.1
  drops ← first_number 8 packets.1
  at_end (record { mappings = mappings.0; packets = packets.0; drops = drops.0 }, drops.1)

-- Steps between code and definition, which nobody has to believe: what a translator's record is stored as is read again, and only that. It
-- stands in specs/ since the laws of a trait may cite nothing else.
use Rattle.std.proofs.Common.{◌≡◌, ◌<◌, ◌≤◌, ◌+◌, ◌*◌, ◌^◌, ◌&&◌, ℕ, true, List, [], ◌++◌, length}
use Rattle.std.proofs.Common.{Some, option_and_then, refl, arith, nat_lt, nat_le, append-nil, length-append}
use Rattle.std.specs.List.{flat_map, list_all}
use Rattle.std.proofs.lemmas.List.{append_assoc}
use Rattle.std.proofs.lemmas.Option.{option_and_then_some, same_Some}
use Rattle.std.proofs.lemmas.Bool.{and_parts, and_from, ltb-true, lt-ltb, leb-true, le-leb}
use Rattle.nf_function.specs.declared.unit.Unit as units
use Rattle.nf_function.specs.declared.kind.Kind.TheVariants.{Nat}
use Rattle.nf_function.specs.Stored.{IsBytes, number_bytes, first_byte, first_number, at_most}
use Rattle.nf_function.specs.Units.{is_transport, is_unit}
use Rattle.nf_function.proofs.StoredFronts.{IsFront, then_front, whole_front, first_byte-some, at_most-some, at_end-some}
use Rattle.nf_function.proofs.StoredItems.{items_again, items_some, length-items}
use Rattle.nf_function.proofs.StoredNumbers.{first_number-number_bytes, first_number-some, length-number_bytes}
use Rattle.nf_function.proofs.StoredRecords.{IsStored}
use Rattle.addr_translator.specs.declared.mapping.Mapping.{Mapping}
use Rattle.addr_translator.specs.Mappings.{Translation}
use Rattle.addr_translator.specs.Body.{is_mapping, is_distinct, are_mappings, is_kept, is_valid, mapping_bytes, body_of, first_mapping, mappings_in, spelled}
use Rattle.addr_translator.specs.Nat.{nat}
use Rattle.flow_filter.specs.Flow.{ports_per_host}

-- what is true of a record that is kept of a host
pub record IsKept (r : Translation) : Type 0 where
  pub short : length r.mappings ≤ ports_per_host
  pub each : list_all is_mapping r.mappings ≡ true
  pub distinct : is_distinct r.mappings ≡ true
  pub counted : 1 ≤ r.packets
  pub drops : r.drops ≤ r.packets
  pub packets : r.packets < 2 ^ 64

pub kept_facts : (r : Translation) → is_kept r ≡ true → IsKept r
kept_facts r h =
    let three = and_parts (are_mappings r.mappings && nat_le 1 r.packets && nat_le r.drops r.packets) (nat_lt r.packets (2 ^ 64)) h in
    let two = and_parts (are_mappings r.mappings && nat_le 1 r.packets) (nat_le r.drops r.packets) three.0 in
    let one = and_parts (are_mappings r.mappings) (nat_le 1 r.packets) two.0 in
    let ends = and_parts (nat_le (length r.mappings) ports_per_host && list_all is_mapping r.mappings) (is_distinct r.mappings) one.0 in
    let size = and_parts (nat_le (length r.mappings) ports_per_host) (list_all is_mapping r.mappings) ends.0 in
    record {
      short = leb-true (length r.mappings) ports_per_host size.0;
      each = size.1;
      distinct = ends.1;
      counted = leb-true 1 r.packets one.1;
      drops = leb-true r.drops r.packets two.1;
      packets = ltb-true r.packets (2 ^ 64) three.1;
    }

pub kept_from : (r : Translation) → IsKept r → is_kept r ≡ true
kept_from r v =
    and_from _ _
    (and_from _ _
    (and_from _ _ (and_from _ _ (and_from _ _ (le-leb (length r.mappings) ports_per_host v.short) v.each) v.distinct) (le-leb 1 r.packets v.counted))
    (le-leb r.drops r.packets v.drops))
    (lt-ltb r.packets (2 ^ 64) v.packets)

-- a valid record is kept of a host
pub valid_kept : (u : units.Unit) (r : Translation) → is_valid u r ≡ true → IsKept r
valid_kept u r h = kept_facts r (and_parts (is_unit Nat u) (is_kept r) h).1

-- mappings are read again, whatever follows
first_mapping-mapping_bytes : (m : Mapping) (rest : List ℕ) → is_mapping m ≡ true → first_mapping (mapping_bytes m ++ rest) ≡ Some (m, rest)
unfolding first_mapping
first_mapping-mapping_bytes m rest h =
    let port = ltb-true m.port (2 ^ 16) (and_parts (is_transport m.proto) (nat_lt m.port (2 ^ 16)) h).1 in
    rw (first_number-number_bytes 2 m.port rest port) refl

-- the parts of a body, from the front
pub body_parts : (r : Translation)
    → body_of r ≡ number_bytes 2 (length r.mappings) ++ (flat_map mapping_bytes r.mappings ++ (number_bytes 8 r.packets ++ (number_bytes 8 r.drops ++ [])))
unfolding body_of
body_parts r = rw (append-nil (number_bytes 8 r.drops)) (simp append_assoc)

-- a record is read again
spelled-body_of : (r : Translation) → IsKept r → spelled (body_of r) ≡ Some r
unfolding spelled
spelled-body_of r v =
    let short : length r.mappings ≤ ports_per_host = v.short in
    let packets : r.packets < 2 ^ 64 = v.packets in
    let drops : r.drops < 2 ^ 64 = let most : r.drops ≤ r.packets = v.drops in omega arith in
    rw (
      body_parts r,
      first_number-number_bytes 2 (length r.mappings) (flat_map mapping_bytes r.mappings ++ (number_bytes 8 r.packets ++ (number_bytes 8 r.drops ++ [])))
          (omega arith),
      le-leb (length r.mappings) ports_per_host short,
      items_again first_mapping mapping_bytes is_mapping first_mapping-mapping_bytes r.mappings (number_bytes 8 r.packets ++ (number_bytes 8 r.drops ++ []))
          v.each,
      first_number-number_bytes 8 r.packets (number_bytes 8 r.drops ++ []) packets,
      first_number-number_bytes 8 r.drops [] drops,
    ) refl

-- a mapping that was read has its bytes in front
first_mapping-some : (bytes : List ℕ) (read : Mapping × List ℕ) → IsBytes bytes → first_mapping bytes ≡ Some read
    → IsFront (mapping_bytes read.0) bytes read.1
unfolding first_mapping
first_mapping-some bytes read are h =
    option_and_then_some _ (first_byte bytes) read h (λ proto p h1.
    option_and_then_some _ (first_number 2 proto.1) read h1 (λ port q last.
    let first = first_byte-some bytes proto are p in
    rw (← same_Some (record { proto = proto.0; port = port.0 }, port.1) read last) (then_front first (first_number-some 2 proto.1 port first.rest_bytes q))))

-- the bytes that a record was read from are those that it is stored as
body_of-spelled : (bytes : List ℕ) (r : Translation) → IsBytes bytes → spelled bytes ≡ Some r → body_of r ≡ bytes
unfolding spelled body_of
body_of-spelled bytes r are h =
    option_and_then_some _ (option_and_then (at_most ports_per_host) (first_number 2 bytes)) r h (λ used p h1.
    option_and_then_some _ (mappings_in used.0 used.1) r h1 (λ mappings q h2.
    option_and_then_some _ (first_number 8 mappings.1) r h2 (λ packets s h3.
    option_and_then_some _ (first_number 8 packets.1) r h3 (λ drops t last.
    let first = first_number-some 2 bytes used are (at_most-some ports_per_host (first_number 2 bytes) used p) in
    let second = items_some first_mapping mapping_bytes first_mapping-some used.0 used.1 mappings first.rest_bytes q in
    let third = first_number-some 8 mappings.1 packets second.0.rest_bytes s in
    let fourth = first_number-some 8 packets.1 drops third.rest_bytes t in
    let whole = at_end-some (record { mappings = mappings.0; packets = packets.0; drops = drops.0 }) r drops.1 last in
    rw (← whole.1, second.1) (whole_front (then_front (then_front (then_front first second.0) third) fourth) whole.0)))))

-- a body is short
length-mapping : (m : Mapping) → length (mapping_bytes m) ≡ 3
length-mapping m = let port = length-number_bytes 2 m.port in omega (arith, port)

pub length-body : (r : Translation) → length (body_of r) ≡ 18 + 3 * length r.mappings
unfolding body_of
length-body r =
    rw (
      length-append (number_bytes 2 (length r.mappings) ++ flat_map mapping_bytes r.mappings ++ number_bytes 8 r.packets) (number_bytes 8 r.drops),
      length-append (number_bytes 2 (length r.mappings) ++ flat_map mapping_bytes r.mappings) (number_bytes 8 r.packets),
      length-append (number_bytes 2 (length r.mappings)) (flat_map mapping_bytes r.mappings),
      length-number_bytes 2 (length r.mappings),
      length-number_bytes 8 r.packets,
      length-number_bytes 8 r.drops,
      length-items mapping_bytes 3 length-mapping r.mappings,
    ) (omega arith)

pub nat_stored : IsStored nat
nat_stored = record {
  unit = λ u r h. (and_parts (is_unit Nat u) (is_kept r) h).0;
  again = λ u r h. spelled-body_of r (valid_kept u r h);
  own = body_of-spelled;
  short = λ u r h. let short : length r.mappings ≤ ports_per_host = (valid_kept u r h).short in rw (length-body r) (omega arith);
}

-- Records compare by the bytes that they are stored as in the order of their fields there.
use Rattle.std.proofs.Common.{◌≡◌, ◌∙◌, ◌<◌, ◌≤◌, ◌^◌, ℕ, List, [], ◌∷◌, ◌++◌, length, refl, ap, arith}
use Rattle.std.proofs.lemmas.List.{append_assoc}
use Rattle.std.proofs.lemmas.List.Elements.{All-tail}
use Rattle.std.proofs.lemmas.Map.Lookups.{exact_unsigned}
use Rattle.std.specs.List.{All, flat_map}
use Rattle.std.specs.Ordering.{nat_cmp, ordering_then}
use Rattle.std.specs.declared.cmp.Ordering.{Ordering}
use Rattle.std.specs.declared.cmp.Ordering.TheVariants.{Less, Equal, Greater}
use Rattle.std.specs.Cmp.Lexicographic.{slice_cmp}
use Rattle.nf_function.specs.Stored.{number_bytes}
use Rattle.nf_function.specs.Records.{age_cmp}
use Rattle.nf_function.proofs.StoredNumbers.{slice_cmp-number_bytes, ordering_then-assoc, ordering_then-Equal, ordering_then-again}
use Rattle.addr_translator.specs.declared.mapping.Mapping.{Mapping}
use Rattle.addr_translator.specs.Mappings.{Translation, HasPort}
use Rattle.addr_translator.specs.Body.{mapping_bytes, body_of}
use Rattle.addr_translator.specs.Nat.{nat}
use Rattle.addr_translator.specs.BodyLemmas.{body_parts}
use Rattle.flow_filter.specs.Flow.{ports_per_host}

-- ends in the order of protocols, and then of ports
abbrev pub mapping_cmp : Mapping → Mapping → Ordering
mapping_cmp a b = ordering_then (nat_cmp a.proto b.proto) (nat_cmp a.port b.port)

-- as many mappings compare by their bytes, and then comes the rest
mappings_cmp : (xs ys : List Mapping) (s t : List ℕ) → length xs ≡ length ys → All HasPort xs → All HasPort ys
    → slice_cmp nat_cmp (flat_map mapping_bytes xs ++ s) (flat_map mapping_bytes ys ++ t) ≡ ordering_then (slice_cmp mapping_cmp xs ys) (slice_cmp nat_cmp s t)
mappings_cmp [] [] s t l p q = refl
mappings_cmp [] (y ∷ ys) s t l p q = absurd (omega (arith, l))
mappings_cmp (x ∷ xs) [] s t l p q = absurd (omega (arith, l))
mappings_cmp (x ∷ xs) (y ∷ ys) s t l p q =
    let first : x.port < 2 ^ 16 = p 0 x (omega arith) in
    let second : y.port < 2 ^ 16 = q 0 y (omega arith) in
    rw (
      append_assoc (number_bytes 2 x.port) (flat_map mapping_bytes xs) s,
      append_assoc (number_bytes 2 y.port) (flat_map mapping_bytes ys) t,
      slice_cmp-number_bytes 2 x.port y.port (flat_map mapping_bytes xs ++ s) (flat_map mapping_bytes ys ++ t) first second,
      mappings_cmp xs ys s t (omega (arith, l)) (All-tail HasPort x xs p) (All-tail HasPort y ys q),
      ordering_then-assoc (mapping_cmp x y) (slice_cmp mapping_cmp xs ys) (slice_cmp nat_cmp s t),
      ordering_then-assoc (nat_cmp x.proto y.proto) (nat_cmp x.port y.port) (ordering_then (slice_cmp mapping_cmp xs ys) (slice_cmp nat_cmp s t)),
    ) refl

-- the numbers of a record that the code holds
pub record Within (r : Translation) : Type 0 where
  pub short : length r.mappings ≤ ports_per_host
  pub ports : All HasPort r.mappings
  pub packets : r.packets < 2 ^ 64
  pub drops : r.drops < 2 ^ 64

-- the counts at the end compare as numbers
counts_cmp : (a b : Translation) → Within a → Within b
    → slice_cmp nat_cmp (number_bytes 8 a.packets ++ (number_bytes 8 a.drops ++ [])) (number_bytes 8 b.packets ++ (number_bytes 8 b.drops ++ []))
    ≡ ordering_then (nat_cmp a.packets b.packets) (nat_cmp a.drops b.drops)
counts_cmp a b v w =
    rw (
      slice_cmp-number_bytes 8 a.packets b.packets (number_bytes 8 a.drops ++ []) (number_bytes 8 b.drops ++ []) v.packets w.packets,
      slice_cmp-number_bytes 8 a.drops b.drops [] [] v.drops w.drops,
      ordering_then-Equal (nat_cmp a.drops b.drops),
    ) refl

-- records with as many mappings compare by these, and then by their counts
rest_cmp : (a b : Translation) (sizes : Ordering) → nat_cmp (length a.mappings) (length b.mappings) ≡ sizes → Within a → Within b
    → ordering_then sizes (slice_cmp nat_cmp (flat_map mapping_bytes a.mappings ++ (number_bytes 8 a.packets ++ (number_bytes 8 a.drops ++ [])))
    (flat_map mapping_bytes b.mappings ++ (number_bytes 8 b.packets ++ (number_bytes 8 b.drops ++ []))))
    ≡ ordering_then sizes (ordering_then (slice_cmp mapping_cmp a.mappings b.mappings) (ordering_then (nat_cmp a.packets b.packets) (nat_cmp a.drops b.drops)))
rest_cmp a b Less e v w = refl
rest_cmp a b Greater e v w = refl
rest_cmp a b Equal e v w =
    mappings_cmp a.mappings b.mappings (number_bytes 8 a.packets ++ (number_bytes 8 a.drops ++ [])) (number_bytes 8 b.packets ++ (number_bytes 8 b.drops ++ []))
    (exact_unsigned (length a.mappings) (length b.mappings) e) v.ports w.ports
    ∙ ap (ordering_then (slice_cmp mapping_cmp a.mappings b.mappings)) (counts_cmp a b v w)

body_cmp : (a b : Translation) → Within a → Within b
    → slice_cmp nat_cmp (body_of a) (body_of b)
    ≡ ordering_then (nat_cmp (length a.mappings) (length b.mappings))
    (ordering_then (slice_cmp mapping_cmp a.mappings b.mappings) (ordering_then (nat_cmp a.packets b.packets) (nat_cmp a.drops b.drops)))
body_cmp a b v w =
    let few : length a.mappings ≤ ports_per_host = v.short in
    let less : length b.mappings ≤ ports_per_host = w.short in
    rw (body_parts a, body_parts b)
    (slice_cmp-number_bytes 2 (length a.mappings) (length b.mappings)
    (flat_map mapping_bytes a.mappings ++ (number_bytes 8 a.packets ++ (number_bytes 8 a.drops ++ [])))
    (flat_map mapping_bytes b.mappings ++ (number_bytes 8 b.packets ++ (number_bytes 8 b.drops ++ []))) (omega arith) (omega arith)
    ∙ rest_cmp a b (nat_cmp (length a.mappings) (length b.mappings)) refl v w)

-- records compare by their packets, and then by the parts in the order of their bodies
pub age_by_parts : (a b : Translation) → Within a → Within b
    → age_cmp nat a b
    ≡ ordering_then (ordering_then (nat_cmp a.packets b.packets)
    (ordering_then (nat_cmp (length a.mappings) (length b.mappings)) (slice_cmp mapping_cmp a.mappings b.mappings)))
    (nat_cmp a.drops b.drops)
age_by_parts a b v w =
    ap (ordering_then (nat_cmp a.packets b.packets)) (body_cmp a b v w)
    ∙ ordering_then-again (nat_cmp a.packets b.packets) (nat_cmp (length a.mappings) (length b.mappings)) (slice_cmp mapping_cmp a.mappings b.mappings)
    (nat_cmp a.drops b.drops)

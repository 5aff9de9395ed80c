-- Steps between code and definition, which nobody has to believe: the table by how a packet passes, what a step of the translator keeps
-- of a record, and all its laws together. It stands in specs/ since the laws of a trait may cite nothing else.
use Rattle.std.proofs.Common.{◌≡◌, ◌<◌, ◌≤◌, ◌-◌, ◌%◌, ◌^◌, ◌&&◌, ◌==◌, ℕ, Bool, true, false, cond, not, List, [], ◌∷◌}
use Rattle.std.proofs.Common.{◌++◌, length, Option, None, Some, slice_get, unwrap_or, refl, arith, nat_lt, length-append}
use Rattle.std.specs.List.{list_all, list_any, position}
use Rattle.std.specs.Option.{option_map_or}
use Rattle.std.proofs.lemmas.Bool.Decides.{nat_tests}
use Rattle.std.proofs.lemmas.List.Folds.{list_all-append, list_any-append}
use Rattle.std.proofs.lemmas.Bool.{and_parts, and_from, or_parts, not-true}
use Rattle.std.proofs.lemmas.Cmp.{nat_eq_equiv}
use Rattle.basics.proofs.ListLemmas.{none_passes}
use Rattle.flow_filter.specs.declared.packet.Packet.{Packet}
use Rattle.flow_filter.specs.declared.site.Site.{Site}
use Rattle.flow_filter.specs.Flow.{flow_of, is_inside, is_mapped, first_port, ports_per_host}
use Rattle.nf_function.specs.declared.kind.Kind.TheVariants.{Nat}
use Rattle.nf_function.specs.declared.unit.Unit as units
use Rattle.nf_function.specs.Units.{is_unit, is_transport}
use Rattle.nf_function.specs.Semantics.{Step, count, kept_after, is_sound, packets_in, unit_at}
use Rattle.nf_function.specs.Records.{Fits, Laws}
use Rattle.nf_function.proofs.FlowFits.{flow_fits}
use Rattle.nf_function.proofs.StoredRecords.{laws_of, either_way}
use Rattle.addr_translator.specs.declared.mapping.Mapping.{Mapping}
use Rattle.addr_translator.specs.declared.passage.Passage.{Passage}
use Rattle.addr_translator.specs.declared.passage.Passage.TheVariants.{Leaves, Returns, Direct, Other}
use Rattle.addr_translator.specs.Mappings.{Translation, mapping_eq}
use Rattle.addr_translator.specs.Outputs.{no_mappings, counted}
use Rattle.addr_translator.specs.Table.{drop_step, left, mapped, return_step, step_of}
use Rattle.addr_translator.specs.Passages.{passage_of, source, translated}
use Rattle.addr_translator.specs.Body.{is_mapping, is_distinct, is_valid}
use Rattle.addr_translator.specs.Nat.{nat}
use Rattle.addr_translator.specs.BodyLemmas.{IsKept, kept_from, valid_kept, nat_stored}

mapping_eq-sym : (a b : Mapping) → mapping_eq a b ≡ mapping_eq b a
mapping_eq-sym a b = rw (nat_eq_equiv.symm a.proto b.proto, nat_eq_equiv.symm a.port b.port) refl

-- a new end stays distinct from the others
is_distinct-append : (mappings : List Mapping) (end : Mapping) → is_distinct mappings ≡ true → list_any (λ m. mapping_eq m end) mappings ≡ false
    → is_distinct (mappings ++ end ∷ []) ≡ true
is_distinct-append [] end h new = refl
is_distinct-append (m ∷ more) end h new =
    let parts = and_parts (not (list_any (λ other. mapping_eq other m) more)) (is_distinct more) h in
    let others = or_parts (mapping_eq m end) (list_any (λ m. mapping_eq m end) more) new in
    let differs : mapping_eq end m ≡ false = rw (mapping_eq-sym end m) others.0 in
    let unseen : list_any (λ other. mapping_eq other m) more ≡ false = not-true (list_any (λ other. mapping_eq other m) more) parts.0 in
    rw (list_any-append (λ other. mapping_eq other m) more (end ∷ []), unseen, differs) (is_distinct-append more end parts.1 others.1)

-- one more packet leaves room for one more drop
pub record HasRoom (r : Translation) : Type 0 where
  pub kept : IsKept r
  pub room : count r.drops 1 ≤ r.packets

module _ (r : Translation) (has : HasRoom r) where
  dropped_kept : (reason : ℕ) → IsKept (drop_step r reason).kept
  dropped_kept reason =
      let v = has.kept in
      record { short = v.short; each = v.each; distinct = v.distinct; counted = v.counted; drops = has.room; packets = v.packets }

  added_kept : (end : Mapping) → length r.mappings < ports_per_host → is_mapping end ≡ true → list_any (λ m. mapping_eq m end) r.mappings ≡ false
      → IsKept (record r { mappings = r.mappings ++ end ∷ [] })
  added_kept end free is new =
      let v = has.kept in
      record {
        short = rw (length-append r.mappings (end ∷ [])) (omega arith);
        each = rw (list_all-append is_mapping r.mappings (end ∷ []))
            (and_from (list_all is_mapping r.mappings) (is_mapping end && true) v.each (and_from (is_mapping end) true is refl));
        distinct = is_distinct-append r.mappings end v.distinct new;
        counted = v.counted;
        drops = v.drops;
        packets = v.packets;
      }

  opened_kept : (outside host : ℕ) (end : Mapping) → is_mapping end ≡ true → list_any (λ m. mapping_eq m end) r.mappings ≡ false
      → IsKept (left outside host r end None).kept
  opened_kept outside host end is new = by_room (nat_lt (length r.mappings) ports_per_host) refl
    where
      by_room : (free : Bool) → nat_lt (length r.mappings) ports_per_host ≡ free
          → IsKept (cond free (record { kept = record r { mappings = r.mappings ++ end ∷ [] }; output = mapped outside host (length r.mappings) })
          (drop_step r 3)).kept
      by_room true e = added_kept end (let h = e in grind (arith, nat_tests)) is new
      by_room false e = dropped_kept 3

  left_kept : (outside host : ℕ) (end : Mapping) (place : Option ℕ) → is_mapping end ≡ true → position (λ m. mapping_eq m end) r.mappings ≡ place
      → IsKept (left outside host r end place).kept
  left_kept outside host end (Some number) is at = has.kept
  left_kept outside host end None is at = opened_kept outside host end is (none_passes (λ m. mapping_eq m end) r.mappings at)

  returned_kept : (host : ℕ) (p : Packet) (found : Option Mapping) → IsKept (return_step host r p found).kept
  returned_kept host p None = dropped_kept 4
  returned_kept host p (Some m) = either_way (m.proto == p.proto) IsKept _ _ has.kept (dropped_kept 4)

  -- however a packet passes, what it leaves is kept
  pub translated_kept : (passage : Passage) (host : ℕ) (p : Packet) → is_mapping (source p) ≡ true → IsKept (translated passage host r p).kept
  translated_kept (Leaves outside) host p is = left_kept outside host (source p) (position (λ m. mapping_eq m (source p)) r.mappings) is refl
  translated_kept Returns host p is = returned_kept host p (slice_get r.mappings ((p.dport - first_port) % ports_per_host))
  translated_kept Direct host p is = dropped_kept 5
  translated_kept Other host p is = has.kept

-- a record that was valid, or none, has room after one packet more
pub counted_has_room : (u : units.Unit) (kept : Option Translation) → is_sound nat u kept ≡ true → HasRoom (counted (unwrap_or kept no_mappings))
counted_has_room u None h = record {
  kept = record { short = omega arith; each = refl; distinct = refl; counted = omega arith; drops = omega arith; packets = omega arith };
  room = omega arith;
}
counted_has_room u (Some r) h =
    let v = valid_kept u r h in
    let drops : r.drops ≤ r.packets = v.drops in
    let counted : 1 ≤ r.packets = v.counted in
    let packets : r.packets < 2 ^ 64 = v.packets in
    record {
      kept = record { short = v.short; each = v.each; distinct = v.distinct; counted = omega arith; drops = omega arith; packets = omega arith };
      room = omega arith;
    }

-- the table is the step of a packet that passes so
module _ (host : ℕ) (r : Translation) (p : Packet) where
  abbrev passes : Step Translation
  passes = record { kept = r; output = record { code = 0; a = 0; b = 0 } }

  abbrev leaves : Option ℕ → Step Translation
  leaves outside = option_map_or (λ outside. left outside host r (source p) (position (λ m. mapping_eq m (source p)) r.mappings)) outside passes

  abbrev returns : Step Translation
  returns = return_step host r p (slice_get r.mappings ((p.dport - first_port) % ports_per_host))

  by_passage : (transport from to returning : Bool) (outside : Option ℕ)
      → cond (not transport) passes (cond (from && not to) (leaves outside) (cond (to && not from) (drop_step r 5)
      (cond (not from && not to && returning) returns passes)))
      ≡ translated (cond (not transport) Other (cond (from && not to) (option_map_or Leaves outside Other) (cond (to && not from) Direct
      (cond (not from && not to && returning) Returns Other)))) host r p
  by_passage false from to returning outside = refl
  by_passage true true true returning outside = refl
  by_passage true true false returning None = refl
  by_passage true true false returning (Some address) = refl
  by_passage true false true returning outside = refl
  by_passage true false false true outside = refl
  by_passage true false false false outside = refl

pub step_of_passage : (site : Site) (kept : Option Translation) (p : Packet)
    → step_of site kept p ≡ translated (passage_of site p) (flow_of site p).0.local (counted (unwrap_or kept no_mappings)) p
unfolding step_of passage_of
step_of_passage site kept p =
    by_passage (flow_of site p).0.local (counted (unwrap_or kept no_mappings)) p (is_transport p.proto) (is_inside site p.src) (is_inside site p.dst)
    (is_mapped site p) site.outside

-- a step keeps what is valid for the packet's host
step_valid : (site : Site) (u : units.Unit) (kept : Option Translation) (p : Packet) → is_unit Nat u ≡ true → is_mapping (source p) ≡ true
    → is_sound nat u kept ≡ true → is_valid u (step_of site kept p).kept ≡ true
step_valid site u kept p unit is h =
    rw (step_of_passage site kept p)
    (and_from _ _ unit (kept_from _ (translated_kept (counted (unwrap_or kept no_mappings)) (counted_has_room u kept h) _ _ p is)))

-- and so does a packet that may be none of TCP or UDP
pub kept_sound : (site : Site) (u : units.Unit) (kept : Option Translation) (p : Packet) → is_unit Nat u ≡ true → p.sport < 2 ^ 16
    → is_sound nat u kept ≡ true → is_sound nat u (kept_after nat site kept p) ≡ true
kept_sound site u kept p unit port h = by_proto (is_transport p.proto) refl
  where
    by_proto : (transport : Bool) → is_transport p.proto ≡ transport → is_sound nat u (cond transport (Some (step_of site kept p).kept) kept) ≡ true
    by_proto true e = step_valid site u kept p unit (and_from _ _ e (let low = port in grind (arith, nat_tests))) h
    by_proto false e = h

stays_valid : (site : Site) (kept : Option Translation) (p : Packet) → Fits site p → is_sound nat (unit_at Nat site p) kept ≡ true
    → is_valid (unit_at Nat site p) (step_of site kept p).kept ≡ true
stays_valid site kept p fits h =
    let flow = flow_fits site p fits in
    let address : nat_lt (flow_of site p).0.local (2 ^ 32) ≡ true = let low = flow.local in grind (arith, nat_tests) in
    step_valid site (unit_at Nat site p) kept p address (and_from _ _ fits.transport (let low = fits.sport in grind (arith, nat_tests))) h

-- each step counts one packet, however the packet passes
packets-left : (outside host : ℕ) (r : Translation) (end : Mapping) (place : Option ℕ) → (left outside host r end place).kept.packets ≡ r.packets
packets-left outside host r end (Some number) = refl
packets-left outside host r end None =
    either_way (nat_lt (length r.mappings) ports_per_host) (λ kept. kept.packets ≡ r.packets)
    (record { kept = record r { mappings = r.mappings ++ end ∷ [] }; output = mapped outside host (length r.mappings) }) (drop_step r 3) refl refl

packets-returned : (host : ℕ) (r : Translation) (p : Packet) (found : Option Mapping) → (return_step host r p found).kept.packets ≡ r.packets
packets-returned host r p None = refl
packets-returned host r p (Some m) =
    either_way (m.proto == p.proto) (λ kept. kept.packets ≡ r.packets) (record { kept = r; output = record { code = 2; a = host; b = m.port } })
    (drop_step r 4) refl refl

packets-translated : (passage : Passage) (host : ℕ) (r : Translation) (p : Packet) → (translated passage host r p).kept.packets ≡ r.packets
packets-translated (Leaves outside) host r p = packets-left outside host r (source p) _
packets-translated Returns host r p = packets-returned host r p _
packets-translated Direct host r p = refl
packets-translated Other host r p = refl

counts_one : (site : Site) (kept : Option Translation) (p : Packet) → (step_of site kept p).kept.packets ≡ count (packets_in nat kept) 1
counts_one site kept p = rw (step_of_passage site kept p, packets-translated _ _ (counted (unwrap_or kept no_mappings)) p) (by_kept kept)
  where
    by_kept : (kept : Option Translation) → count (unwrap_or kept no_mappings).packets 1 ≡ count (packets_in nat kept) 1
    by_kept None = refl
    by_kept (Some r) = refl

pub nat_laws : Laws nat
nat_laws = laws_of nat nat_stored (record { stays = stays_valid; counts = counts_one; tells = λ r h. cc; times = λ site kept p. refl })

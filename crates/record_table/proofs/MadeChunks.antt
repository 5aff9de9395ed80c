-- Chunks that were made of records spell them again, and none of them is bad.
use Rattle.std.proofs.Common.{◌≡◌, ℕ, ◌+◌, ◌<◌, Bor, true, false, cond, List, [], ◌∷◌, map, length}
use Rattle.std.proofs.Common.{get_or, Option, None, Some, refl, sym, ap, subst, ◌∙◌, is_some, add-one}
use Rattle.std.specs.Prelude.{T}
use Rattle.std.proofs.lemmas.List.{length-map}
use Rattle.std.proofs.Math.ListN.{get_or-map}
use Rattle.std.proofs.lemmas.List.Elements.{All-head, All-tail}
use Rattle.std.proofs.lemmas.Map.Entries.{lookup_from_place}
use Rattle.std.proofs.lemmas.Map.Keys.{IsDistinct-head, IsDistinct-tail}
use Rattle.std.proofs.lemmas.Option.{slice_get-get_or}
use Rattle.std.specs.List.{All, IsDistinct, AllByRecursion, filter_map, cons_option}
use Rattle.std.specs.Map.{keys_of}
use Rattle.std.specs.Ordering.{is_lt, is_eq}
use Rattle.std.specs.declared.cmp.Ordering.{Ordering}
use Rattle.std.specs.declared.cmp.Ordering.TheVariants.{Less, Equal, Greater}
use Rattle.std.specs.Result.{result_ok}
use Rattle.std.specs.FinMap as finite
use Rattle.std.specs.FinMap.{is_sorted, entries_sorted, get-from_entries, get-entries, len-empty, len-insert}
use Rattle.std.specs.FinMap.Entries.{below_all}
use Rattle.std.proofs.Math.Facts.{and_yes}
use Rattle.nf_function.specs.declared.chunk.Chunk.{Chunk}
use Rattle.nf_function.specs.declared.unit.Unit as units
use Rattle.nf_function.specs.Units.{unit_cmp}
use Rattle.nf_function.specs.UnitOrder.{units_total}
use Rattle.nf_function.specs.Semantics.{Semantics, is_sound}
use Rattle.nf_function.specs.Records.{Laws}
use Rattle.state_chunk.specs.Format.{record_chunk}
use Rattle.state_chunk.proofs.RecordLemmas.{record_read-record_bytes}
use Rattle.record_table.specs.Table.{Records, same_unit, AreSound}
use Rattle.record_table.specs.Chunks.{spelled, records_of, chunks_of, AreMadeOf, AreReadAs}
use Rattle.record_table.proofs.UnitOrder.{same_unit_equiv}
use Rattle.record_table.proofs.ChunkFronts.{equal_to}
use Rattle.record_table.proofs.RecordLookUps.{same_records, at}

apart_less : (o : Ordering) → T (is_lt o) → is_eq o ≡ false
apart_less Less h = refl
apart_less Equal h = absurd h
apart_less Greater h = refl

module _ {R : Type 0} where
  absent_at : (u : units.Unit) (es : List (units.Unit × R)) → AllByRecursion (λ v. same_unit u v ≡ false) (keys_of es) → at es u ≡ None
  absent_at u [] apart = refl
  absent_at u (e ∷ es) apart = rw apart.0 (absent_at u es apart.1)

  -- what stands behind the references
  abbrev pub seen : List (units.Unit × Bor R) → List (units.Unit × R)
  seen xs = map (λ e. (e.0, e.1.now)) xs

  abbrev map_from : List (units.Unit × R) → Records R
  map_from es = finite.from_entries es

  len_once : (es : List (units.Unit × R)) → IsDistinct same_unit (keys_of es) → finite.len (map_from es) ≡ length es
  len_once [] d = len-empty unit_cmp R
  len_once (e ∷ es) d =
      let none = get-from_entries units_total es e.0 ∙ absent_at e.0 es (IsDistinct-head same_unit e.0 (keys_of es) d) in
      len-insert units_total (map_from es) e.0 e.1 ∙ ap (λ (o : Option R). cond (is_some o) (finite.len (map_from es)) (finite.len (map_from es) + 1)) none
      ∙ ap (λ n. n + 1) (len_once es (IsDistinct-tail same_unit e.0 (keys_of es) d)) ∙ add-one (length es)

  map_from-entries : (m : Records R) → map_from (finite.entries m) ≡ m
  map_from-entries m = same_records (map_from (finite.entries m)) m (λ q. get-from_entries units_total (finite.entries m) q ∙ sym (get-entries m q))

  apart_below : (u : units.Unit) (es : List (units.Unit × R)) → T (below_all unit_cmp u es) → AllByRecursion (λ v. same_unit u v ≡ false) (keys_of es)
  apart_below u [] h = tt
  apart_below u (e ∷ es) h = (
    apart_less (unit_cmp u e.0) (and_yes (is_lt (unit_cmp u e.0)) (below_all unit_cmp u es) h).0,
    apart_below u es (and_yes (is_lt (unit_cmp u e.0)) (below_all unit_cmp u es) h).1,
  )

  distinct_sorted : (es : List (units.Unit × R)) → T (is_sorted unit_cmp es) → IsDistinct same_unit (keys_of es)
  unfolding IsDistinct
  distinct_sorted [] h = tt
  distinct_sorted (e ∷ es) h = (
    apart_below e.0 es (and_yes (below_all unit_cmp e.0 es) (is_sorted unit_cmp es) h).0,
    distinct_sorted es (and_yes (below_all unit_cmp e.0 es) (is_sorted unit_cmp es) h).1,
  )

  -- each unit stands once in the entries of a map
  pub distinct_entries : (m : Records R) → IsDistinct same_unit (keys_of (finite.entries m))
  distinct_entries m = distinct_sorted (finite.entries m) (entries_sorted m)

  -- each entry of a map is what it has for the unit
  pub entry_found : (m : Records R) → All (λ e. finite.get m e.0 ≡ Some e.1) (finite.entries m)
  entry_found m k d within =
      get-entries m _ ∙ lookup_from_place same_unit_equiv (finite.entries m) k _ _ (distinct_entries m) (slice_get-get_or (finite.entries m) k d within)

module _ {R : Type 0} (f : Semantics R) where
  -- the records of a table are valid for their units
  pub valid_entries : (m : Records R) → AreSound f m → All (λ e. f.is_valid e.0 e.1 ≡ true) (finite.entries m)
  valid_entries m sound k d within =
      let e = get_or (finite.entries m) k d in
      subst (λ o. is_sound f e.0 o ≡ true) (entry_found m k d within) (sound e.0)

  module _ (xs : List (units.Unit × Bor R)) (m : Records R) (seen_is : seen xs ≡ finite.entries m) where
    -- the same behind references
    pub seen_valid : AreSound f m → (i : ℕ) (e : units.Unit × Bor R) → i < length xs → e ≡ get_or xs i e → f.is_valid e.0 e.1.now ≡ true
    seen_valid sound i e within read =
        let shown : units.Unit × Bor R → units.Unit × R = λ x. (x.0, x.1.now) in
        let long : i < length (seen xs) = rw (length-map xs shown) within in
        let valid = subst (λ es. All (λ x. f.is_valid x.0 x.1 ≡ true) es) (sym seen_is) (valid_entries m sound) in
        let here = valid i (e.0, e.1.now) long in
        let at_i : get_or (seen xs) i (e.0, e.1.now) ≡ (e.0, e.1.now) = get_or-map shown xs i e ∙ ap shown (sym read) in
        subst (λ x. f.is_valid x.0 x.1 ≡ true) at_i here

    pub chunks_seen : map (λ e. record_chunk f e.0 e.1.now) xs ≡ chunks_of f m
    chunks_seen = chunks_of_seen xs ∙ ap (map (λ (e : units.Unit × R). record_chunk f e.0 e.1)) seen_is
      where
        chunks_of_seen : (ys : List (units.Unit × Bor R)) → map (λ (e : units.Unit × Bor R). record_chunk f e.0 e.1.now) ys
            ≡ map (λ (e : units.Unit × R). record_chunk f e.0 e.1) (map (λ (e : units.Unit × Bor R). (e.0, e.1.now)) ys)
        chunks_of_seen [] = refl
        chunks_of_seen (y ∷ ys) = ap (λ cs. record_chunk f y.0 y.1.now ∷ cs) (chunks_of_seen ys)

  pub made_of_entries : (m : Records R) → AreSound f m → AreMadeOf f (chunks_of f m) (finite.entries m)
  made_of_entries m sound = record { valid = valid_entries m sound; distinct = distinct_entries m; made = refl }

  module _ (laws : Laws f) where
    pub spelled-record_chunk : (u : units.Unit) (r : R) → f.is_valid u r ≡ true → spelled f (record_chunk f u r) ≡ Some (u, r)
    spelled-record_chunk u r valid = ap result_ok (record_read-record_bytes f laws u r valid)

    spelled_all : (es : List (units.Unit × R)) → All (λ e. f.is_valid e.0 e.1 ≡ true) es → filter_map (spelled f) (map (λ e. record_chunk f e.0 e.1) es) ≡ es
    spelled_all [] valid = refl
    spelled_all (e ∷ es) valid =
        ap (λ o. cons_option o (filter_map (spelled f) (map (λ x. record_chunk f x.0 x.1) es)))
        (spelled-record_chunk e.0 e.1 (All-head (λ (x : units.Unit × R). f.is_valid x.0 x.1 ≡ true) e es valid))
        ∙ ap (λ xs. e ∷ xs) (spelled_all es (All-tail (λ (x : units.Unit × R). f.is_valid x.0 x.1 ≡ true) e es valid))

    -- what was made of records is read as these records
    pub made_read : (chunks : List Chunk) (es : List (units.Unit × R)) → AreMadeOf f chunks es → AreReadAs f chunks (finite.from_entries es)
    unfolding records_of
    made_read chunks es made =
        let same : records_of f chunks ≡ map_from es = rw made.made (ap finite.from_entries (spelled_all es made.valid)) in
        let long : length chunks ≡ length es = ap length made.made ∙ length-map es (λ e. record_chunk f e.0 e.1) in
        record { good = rw (same, long) (equal_to _ _ (len_once es made.distinct)); spells = same }

    -- the chunks of a table's records are read as they are
    pub table_read : (m : Records R) → AreSound f m → AreReadAs f (chunks_of f m) m
    table_read m sound = subst (AreReadAs f (chunks_of f m)) (map_from-entries m) (made_read (chunks_of f m) (finite.entries m) (made_of_entries m sound))

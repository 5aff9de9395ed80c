-- Chunks from the front: what one more of them brings, and when a front of them is good.
use Rattle.std.proofs.Common.{◌≡◌, ℕ, ◌+◌, ◌<◌, ◌≤◌, ◌==◌, Bool, true, false, cond, List, [], ◌∷◌, ◌++◌, length, take, drop, Option}
use Rattle.std.proofs.Common.{Some, None, refl, sym, ap, ◌∙◌, arith, is_some, append-nil, append_assoc, length-append, get_or, subst}
use Rattle.std.proofs.lemmas.Bool.{true≢false}
use Rattle.std.proofs.lemmas.Bool.Decides.{nat_tests}
use Rattle.std.proofs.lemmas.List.{take_more, take-append-drop}
use Rattle.std.specs.List.{filter_map, cons_option}
use Rattle.std.proofs.lemmas.List.Elements.{filter_map-append}
use Rattle.std.specs.FinMap as finite
use Rattle.std.specs.FinMap.{get-from_entries, len-empty, len-insert, get-insert}
use Rattle.nf_function.specs.declared.chunk.Chunk.{Chunk}
use Rattle.nf_function.specs.declared.unit.Unit as units
use Rattle.nf_function.specs.Units.{unit_cmp}
use Rattle.nf_function.specs.UnitOrder.{units_total}
use Rattle.nf_function.specs.Semantics.{Semantics}
use Rattle.record_table.specs.Table.{same_unit}
use Rattle.record_table.specs.Chunks.{spelled, records_of, are_good, IsFirstBad}
use Rattle.record_table.proofs.UnitOrder.{same_unit-true}
use Rattle.record_table.proofs.RecordLookUps.{same_records, at}

-- a test of numbers
pub equal_from : (a b : ℕ) → (a == b) ≡ true → a ≡ b
equal_from a b h = grind (arith, nat_tests)

pub equal_to : (a b : ℕ) → a ≡ b → (a == b) ≡ true
equal_to a b h = grind (arith, nat_tests)

pub less_to : (a b : ℕ) → a < b → (a == b) ≡ false
less_to a b h = grind (arith, nat_tests)

some_from : {X : Type 0} (o : Option X) → is_some o ≡ false → o ≡ None
some_from None h = refl
some_from (Some x) h = absurd (true≢false h)

module _ {R : Type 0} where
  abbrev first_of_two : Option R → Option R → Option R
  first_of_two None later = later
  first_of_two (Some r) later = Some r

  none_later : (o : Option R) → first_of_two o None ≡ o
  none_later None = refl
  none_later (Some r) = refl

  at_joined : (b : Bool) (r : R) (o p l : Option R) → o ≡ first_of_two p l → cond b (Some r) o ≡ first_of_two (cond b (Some r) p) l
  at_joined true r o p l h = refl
  at_joined false r o p l h = h

  at-append : (es ds : List (units.Unit × R)) (q : units.Unit) → at (es ++ ds) q ≡ first_of_two (at es q) (at ds q)
  at-append [] ds q = refl
  at-append (e ∷ es) ds q = at_joined (same_unit q e.0) e.1 _ (at es q) (at ds q) (at-append es ds q)

  again : (b : Bool) (r : R) (o : Option R) → (b ≡ true → is_some o ≡ true) → first_of_two o (cond b (Some r) None) ≡ o
  again b r (Some s) there = refl
  again true r None there = absurd (true≢false (sym (there refl)))
  again false r None there = refl

  anew : (b : Bool) (r : R) (o : Option R) → (b ≡ true → o ≡ None) → first_of_two o (cond b (Some r) None) ≡ cond b (Some r) o
  anew true r o none = rw (none refl) refl
  anew false r o none = none_later o

module _ {R : Type 0} (f : Semantics R) where
  get-records_of : (cs : List Chunk) (c : Chunk) (q : units.Unit)
      → finite.get (records_of f (cs ++ c ∷ [])) q ≡ first_of_two (finite.get (records_of f cs) q) (at (cons_option (spelled f c) []) q)
  unfolding records_of
  get-records_of cs c q =
      get-from_entries units_total (filter_map (spelled f) (cs ++ c ∷ [])) q ∙ ap (λ es. at es q) (filter_map-append (spelled f) cs (c ∷ []))
      ∙ at-append (filter_map (spelled f) cs) (cons_option (spelled f c) []) q
      ∙ ap (λ o. first_of_two o (at (cons_option (spelled f c) []) q)) (sym (get-from_entries units_total (filter_map (spelled f) cs) q))

  -- a chunk that spells no record brings none
  brings_none : (cs : List Chunk) (c : Chunk) → spelled f c ≡ None → records_of f (cs ++ c ∷ []) ≡ records_of f cs
  brings_none cs c none = same_records (records_of f (cs ++ c ∷ [])) (records_of f cs) (λ q.
      get-records_of cs c q ∙ ap (λ o. first_of_two (finite.get (records_of f cs) q) (at (cons_option o []) q)) none
      ∙ none_later (finite.get (records_of f cs) q))

  -- one that spells that of a unit for the second time brings none either
  brings_again : (cs : List Chunk) (c : Chunk) (u : units.Unit) (r : R) → spelled f c ≡ Some (u, r) → finite.contains_key (records_of f cs) u ≡ true
      → records_of f (cs ++ c ∷ []) ≡ records_of f cs
  brings_again cs c u r some has = same_records (records_of f (cs ++ c ∷ [])) (records_of f cs) (λ q.
      get-records_of cs c q ∙ ap (λ o. first_of_two (finite.get (records_of f cs) q) (at (cons_option o []) q)) some
      ∙ again (same_unit q u) r (finite.get (records_of f cs) q) (λ h. rw (same_unit-true q u h) has))

  -- any other brings its record
  pub brings : (cs : List Chunk) (c : Chunk) (u : units.Unit) (r : R) → spelled f c ≡ Some (u, r) → finite.contains_key (records_of f cs) u ≡ false
      → records_of f (cs ++ c ∷ []) ≡ finite.insert (records_of f cs) u r
  brings cs c u r some lacks = same_records (records_of f (cs ++ c ∷ [])) (finite.insert (records_of f cs) u r) (λ q.
      get-records_of cs c q ∙ ap (λ o. first_of_two (finite.get (records_of f cs) q) (at (cons_option o []) q)) some
      ∙ anew (same_unit q u) r (finite.get (records_of f cs) q) (λ h. rw (same_unit-true q u h) (some_from _ lacks))
      ∙ sym (get-insert units_total (records_of f cs) u r q))

  one_longer : (cs : List Chunk) (c : Chunk) → length (cs ++ c ∷ []) ≡ length cs + 1
  one_longer cs c = length-append cs (c ∷ [])

  pub good_more : (cs : List Chunk) (c : Chunk) (u : units.Unit) (r : R) → are_good f cs ≡ true → spelled f c ≡ Some (u, r)
      → finite.contains_key (records_of f cs) u ≡ false
      → are_good f (cs ++ c ∷ []) ≡ true
  good_more cs c u r good some lacks =
      let longer : finite.len (finite.insert (records_of f cs) u r) ≡ finite.len (records_of f cs) + 1
      = len-insert units_total (records_of f cs) u r ∙ ap (λ b. cond b (finite.len (records_of f cs)) (finite.len (records_of f cs) + 1)) lacks in
      rw (brings cs c u r some lacks) (equal_to _ _ (longer ∙ ap (λ n. n + 1) (equal_from _ _ good) ∙ sym (one_longer cs c)))

  too_few : (cs : List Chunk) (c : Chunk) → are_good f cs ≡ true → records_of f (cs ++ c ∷ []) ≡ records_of f cs → are_good f (cs ++ c ∷ []) ≡ false
  too_few cs c good same = rw same (less_to _ _ (omega (arith, equal_from _ _ good, one_longer cs c)))

  pub bad_none : (cs : List Chunk) (c : Chunk) → are_good f cs ≡ true → spelled f c ≡ None → are_good f (cs ++ c ∷ []) ≡ false
  bad_none cs c good none = too_few cs c good (brings_none cs c none)

  pub bad_again : (cs : List Chunk) (c : Chunk) (u : units.Unit) (r : R) → are_good f cs ≡ true → spelled f c ≡ Some (u, r)
      → finite.contains_key (records_of f cs) u ≡ true
      → are_good f (cs ++ c ∷ []) ≡ false
  bad_again cs c u r good some has = too_few cs c good (brings_again cs c u r some has)

  -- the first chunk that is bad, in a loop
  pub first_bad : (cs : List Chunk) (i : ℕ) (c : Chunk) → i < length cs → c ≡ get_or cs i c → are_good f (take i cs) ≡ true
      → are_good f (take i cs ++ c ∷ []) ≡ false → IsFirstBad f cs i
  first_bad cs i c within read good bad = record {
    within = within;
    before = good;
    up_to = subst (λ xs. are_good f xs ≡ false) (ap (λ x. take i cs ++ x ∷ []) read ∙ sym (take_more cs i c within)) bad;
  }

  -- no chunks bring no records, and none of them is bad
  pub brought_by_none : records_of f [] ≡ finite.empty
  unfolding records_of
  brought_by_none = refl

  pub good_none : are_good f [] ≡ true
  good_none = rw brought_by_none (equal_to _ _ (len-empty unit_cmp R))

  -- one chunk brings one record at most
  at_most_one : (cs : List Chunk) (c : Chunk) → finite.len (records_of f (cs ++ c ∷ [])) ≤ finite.len (records_of f cs) + 1
  at_most_one cs c = by_spelled (spelled f c) refl
    where
      by_key : (u : units.Unit) (r : R) → spelled f c ≡ Some (u, r) → (b : Bool) → finite.contains_key (records_of f cs) u ≡ b
          → finite.len (records_of f (cs ++ c ∷ [])) ≤ finite.len (records_of f cs) + 1
      by_key u r some true has = rw (brings_again cs c u r some has) (omega arith)
      by_key u r some false lacks = rw (brings cs c u r some lacks, len-insert units_total (records_of f cs) u r, lacks) (omega arith)

      by_spelled : (o : Option (units.Unit × R)) → spelled f c ≡ o → finite.len (records_of f (cs ++ c ∷ [])) ≤ finite.len (records_of f cs) + 1
      by_spelled None none = rw (brings_none cs c none) (omega arith)
      by_spelled (Some (u, r)) some = by_key u r some (finite.contains_key (records_of f cs) u) refl

  as_many : (cs ds : List Chunk) → finite.len (records_of f (cs ++ ds)) ≤ finite.len (records_of f cs) + length ds
  as_many cs [] = rw (append-nil cs) (omega arith)
  as_many cs (d ∷ ds) =
      let more : finite.len (records_of f (cs ++ (d ∷ ds))) ≤ finite.len (records_of f (cs ++ d ∷ [])) + length ds = rw (← append_assoc cs (d ∷ []) ds)
      (as_many (cs ++ d ∷ []) ds) in
      omega (arith, more, at_most_one cs d)

  -- there are no more records than chunks
  pub few_records : (cs : List Chunk) → finite.len (records_of f cs) ≤ length cs
  few_records cs =
      let empty : finite.len (records_of f []) ≡ 0 = rw brought_by_none (len-empty unit_cmp R) in
      omega (arith, as_many [] cs, empty)

  -- a front of good chunks is good
  pub good_front : (cs ds : List Chunk) → are_good f (cs ++ ds) ≡ true → are_good f cs ≡ true
  good_front cs ds good = equal_to _ _ (omega (arith, few_records cs, as_many cs ds, equal_from _ _ good, length-append cs ds))

  -- where the first bad chunk is, not all are good
  pub not_all_good : (cs : List Chunk) (place : ℕ) → IsFirstBad f cs place → are_good f cs ≡ true → ⊥
  not_all_good cs place bad good =
      true≢false (sym (good_front (take (place + 1) cs) (drop (place + 1) cs) (rw (take-append-drop (place + 1) cs) good)) ∙ bad.up_to)

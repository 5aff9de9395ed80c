-- How often a unit stands among chunks; chunks in which none stands twice are of distinct units.
use Rattle.proof_outlines.proofs.Words.{◌≡◌, ℕ, ◌+◌, ◌≤◌, false, Some, List, [], ◌∷◌, ◌++◌, map, refl, sym, ap, ◌∙◌, subst, arith, if◌then◌else◌, is_some}
use Rattle.proof_outlines.proofs.Words.{AllByRecursion, keys_of, Semantics, same_unit, spelled, same_unit_equiv, same_unit-true, Piece, chunks_of, Each, Chunks}
use Rattle.proof_outlines.proofs.Words.{record_at, have, split, Unit, IsDistinct}
use Rattle.proof_outlines.proofs.joined.Words.{entries, outline_piece, filter_map-put, Given, AreGoodChunks}
use Rattle.actor_net.proofs.WeightLaws.{weigh, weigh-append}
use Rattle.proof_machines.proofs.net.Copies.{has}

module _ {R : Type 0} where
  -- how many entries are the unit's
  abbrev pub times : Unit → Chunks R → ℕ
  times u es = weigh (λ e. if same_unit u e.0 then 1 else 0) es

  pub times-append : (u : Unit) (xs ys : Chunks R) → times u (xs ++ ys) ≡ times u xs + times u ys
  times-append u xs ys = weigh-append (λ (e : Unit × R). if same_unit u e.0 then 1 else 0) xs ys

  -- none of the entries is the unit's
  none_same : (u : Unit) (es : Chunks R) → times u es ≡ 0 → AllByRecursion (λ y. same_unit u y ≡ false) (keys_of es)
  none_same u [] h = tt
  none_same u (e ∷ es) h =
      split (same_unit u e.0) (λ b. (if b then 1 else 0) + times u es ≡ 0 → AllByRecursion (λ y. same_unit u y ≡ false) (keys_of (e ∷ es)))
      (λ is more. absurd (omega (arith, more)))
      (λ is more. (is, none_same u es (omega (arith, more)))) h

  same_none : (u : Unit) (es : Chunks R) → AllByRecursion (λ y. same_unit u y ≡ false) (keys_of es) → times u es ≡ 0
  same_none u [] h = refl
  same_none u (e ∷ es) h = let other = h.0 in let rest = same_none u es h.1 in rw (other, rest) refl

  pub distinct_from_times : (es : Chunks R) → ((u : Unit) → times u es ≤ 1) → IsDistinct same_unit (keys_of es)
  unfolding IsDistinct
  distinct_from_times [] h = tt
  distinct_from_times (e ∷ es) h =
      let own = same_unit_equiv.refl e.0 in
      let one : 1 + times e.0 es ≤ 1 = subst (λ b. (if b then 1 else 0) + times e.0 es ≤ 1) own (h e.0) in
      (none_same e.0 es (omega (arith, one)), distinct_from_times es (λ u. let both = h u in omega (arith, both)))

  pub times_from_distinct : (es : Chunks R) → IsDistinct same_unit (keys_of es) → (u : Unit) → times u es ≤ 1
  unfolding IsDistinct
  times_from_distinct [] h u = omega arith
  times_from_distinct (e ∷ es) h u =
      split (same_unit u e.0) (λ b. (if b then 1 else 0) + times u es ≤ 1)
      (λ is. let none = subst (λ x. times x es ≡ 0) (sym (same_unit-true u e.0 is)) (same_none e.0 es h.0) in omega (arith, none))
      (λ is. let rest = times_from_distinct es h.1 u in omega (arith, rest))

  -- where no unit stands twice, one stands once where it has a record
  pub times_is_has : (es : Chunks R) → IsDistinct same_unit (keys_of es) → (u : Unit) → times u es ≡ has u es
  unfolding IsDistinct
  times_is_has [] h u = refl
  times_is_has (e ∷ es) h u =
      split (same_unit u e.0) (λ b. (if b then 1 else 0) + times u es ≡ (if is_some (if b then Some e.1 else record_at u es) then 1 else 0))
      (λ is. let none = subst (λ x. times x es ≡ 0) (sym (same_unit-true u e.0 is)) (same_none e.0 es h.0) in omega (arith, none))
      (λ is. let rest = times_is_has es h.1 u in omega (arith, rest))

module _ {R : Type 0} (f : Semantics R) (g : Given) where
  -- of pieces of such chunks, as many have the unit as it stands in them
  pub times_chunks : (ps : List Piece) → Each (λ p. AreGoodChunks f g p.chunks) ps → (u : Unit)
      → times u (entries f (chunks_of ps)) ≡ have u (map (outline_piece f) ps)
  times_chunks [] h u = refl
  times_chunks (p ∷ ps) h u =
      let own = times_is_has (entries f p.chunks) h.0.distinct u in
      let rest = times_chunks ps h.1 u in
      ap (times u) (filter_map-put (spelled f) p.chunks (chunks_of ps)) ∙ times-append u (entries f p.chunks) (entries f (chunks_of ps)) ∙ rw (own, rest) refl

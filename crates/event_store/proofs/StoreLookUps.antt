-- What a look-up by operation gives in a store, and that look-ups tell stores apart.
use Rattle.std.proofs.Common.{◌≡◌, ℕ, Bool, true, false, cond, eqb, List, [], ◌∷◌, Option, None, Some, refl, sym, ap, subst, ◌∙◌, arith}
use Rattle.std.specs.Prelude.{unwrap_or}
use Rattle.std.specs.Ordering.{nat_cmp, eq_by_cmp}
use Rattle.std.specs.Cmp.{nat_cmp_total}
use Rattle.std.specs.Map.{lookup}
use Rattle.std.specs.BTreeMap.{is_at}
use Rattle.std.specs.FinMap as map
use Rattle.std.specs.FinMap.{same_map, nat_cmp-IsAntisymmetric, get-empty, get-insert, get-remove}
use Rattle.std.proofs.lemmas.Bool.{eqb-true}
use Rattle.std.proofs.lemmas.Bool.Decides.{nat_tests}
use Rattle.event_store.specs.Store.{stored_of, with_parcels}
use Rattle.event_store.specs.Queues.{store_of}

-- keys that the order calls equal are equal numbers, and no others
pub order_test : (a b : ℕ) → eq_by_cmp nat_cmp a b ≡ eqb a b
order_test a b = grind (arith, nat_tests)

module _ {P : Type 0} where
  -- how the parcels of an operation are noted: not at all where there are none
  abbrev noted : List P → Option (List P)
  noted [] = None
  noted (p ∷ ps) = Some (p ∷ ps)

  noted_or_none : (xs : List P) → unwrap_or (noted xs) [] ≡ xs
  noted_or_none [] = refl
  noted_or_none (x ∷ xs) = refl

  get-with_parcels : (store : map.FinMap nat_cmp (List P)) (op q : ℕ) (xs : List P)
      → map.get (with_parcels store op xs) q ≡ cond (eqb q op) (noted xs) (map.get store q)
  get-with_parcels store op q [] = get-remove nat_cmp_total store op q ∙ ap (λ b. cond b None (map.get store q)) (order_test q op)
  get-with_parcels store op q (x ∷ xs) = get-insert nat_cmp_total store op (x ∷ xs) q ∙ ap (λ b. cond b (Some (x ∷ xs)) (map.get store q)) (order_test q op)

  noted_case : (b : Bool) (xs : List P) (o : Option (List P)) → unwrap_or (cond b (noted xs) o) [] ≡ cond b xs (unwrap_or o [])
  noted_case true xs o = noted_or_none xs
  noted_case false xs o = refl

  -- what is stored after one operation's parcels were set
  pub stored-with_parcels : (store : map.FinMap nat_cmp (List P)) (op q : ℕ) (xs : List P)
      → stored_of (with_parcels store op xs) q ≡ cond (eqb q op) xs (stored_of store q)
  stored-with_parcels store op q xs = ap (λ o. unwrap_or o []) (get-with_parcels store op q xs) ∙ noted_case (eqb q op) xs (map.get store q)

  pub stored-empty : (q : ℕ) → stored_of (map.empty {X = List P} {R = nat_cmp}) q ≡ []
  stored-empty q = ap (λ o. unwrap_or o []) (get-empty nat_cmp q)

  -- the store of a list of queues has what the first queue of each operation has
  abbrev found : List (ℕ × List P) → ℕ → List P
  found queues q = unwrap_or (lookup (is_at (nat_cmp q)) queues) []

  get-store_of : (queues : List (ℕ × List P)) (q : ℕ) → map.get (store_of queues) q ≡ noted (found queues q)
  get-store_of [] q = get-empty nat_cmp q
  get-store_of (e ∷ queues) q =
      get-with_parcels (store_of queues) e.0 q e.1 ∙ ap (λ b. cond b (noted e.1) (map.get (store_of queues) q)) (sym (order_test q e.0))
      ∙ elim (eq_by_cmp nat_cmp q e.0)
      as (λ b. cond b (noted e.1) (map.get (store_of queues) q) ≡ noted (unwrap_or (cond b (Some e.1) (lookup (is_at (nat_cmp q)) queues)) [])) [
        | true ↦ refl
        | false ↦ get-store_of queues q
      ]

  pub stored-store_of : (queues : List (ℕ × List P)) (q : ℕ) → stored_of (store_of queues) q ≡ unwrap_or (lookup (is_at (nat_cmp q)) queues) []
  stored-store_of queues q = ap (λ o. unwrap_or o []) (get-store_of queues q) ∙ noted_or_none (found queues q)

  -- where the queue of one operation was changed, the store is changed at it and nowhere else
  pub record IsChanged (old new : map.FinMap nat_cmp (List P)) (op : ℕ) (change : List P → List P) : Type 0 where
    pub store : new ≡ with_parcels old op (change (stored_of old op))
    pub each : (q : ℕ) → stored_of new q ≡ cond (eqb q op) (change (stored_of old q)) (stored_of old q)

  changed_at : (old : List (ℕ × List P)) (op q : ℕ) (change : List P → List P) (new : List P) → new ≡ cond (eqb q op) (change (found old q)) (found old q)
      → noted new ≡ cond (eqb q op) (noted (change (stored_of (store_of old) op))) (map.get (store_of old) q)
  changed_at old op q change new at = elim (eqb q op) as (λ b. eqb q op ≡ b → new ≡ cond b (change (found old q)) (found old q)
      → noted new ≡ cond b (noted (change (stored_of (store_of old) op))) (map.get (store_of old) q)) [
        | true ↦ λ here e.
            let same : q ≡ op = eqb-true q op here in ap noted (e ∙ ap (λ n. change (found old n)) same ∙ ap change (sym (stored-store_of old op)))
        | false ↦ λ off e. ap noted e ∙ sym (get-store_of old q)
      ] refl at

  pub changed : (old new : List (ℕ × List P)) (before : map.FinMap nat_cmp (List P)) (op : ℕ) (change : List P → List P) → store_of old ≡ before
      → ((q : ℕ) → unwrap_or (lookup (is_at (nat_cmp q)) new) []
      ≡ cond (eqb q op) (change (unwrap_or (lookup (is_at (nat_cmp q)) old) [])) (unwrap_or (lookup (is_at (nat_cmp q)) old) []))
      → IsChanged before (store_of new) op change
  changed old new before op change is at = subst (λ s. IsChanged s (store_of new) op change) is (record {
    store = same_map nat_cmp_total nat_cmp-IsAntisymmetric (store_of new) (with_parcels (store_of old) op (change (stored_of (store_of old) op)))
        (λ q. get-store_of new q ∙ changed_at old op q change (found new q) (at q)
        ∙ sym (get-with_parcels (store_of old) op q (change (stored_of (store_of old) op))));
    each = λ q. stored-store_of new q ∙ at q ∙ ap (λ xs. cond (eqb q op) (change xs) xs) (sym (stored-store_of old q));
  })

  -- queues with the same parcels keep the same store
  pub store_of-same : (old new : List (ℕ × List P))
      → ((q : ℕ) → unwrap_or (lookup (is_at (nat_cmp q)) new) [] ≡ unwrap_or (lookup (is_at (nat_cmp q)) old) []) → store_of new ≡ store_of old
  store_of-same old new at = same_map nat_cmp_total nat_cmp-IsAntisymmetric (store_of new) (store_of old)
      (λ q. get-store_of new q ∙ ap noted (at q) ∙ sym (get-store_of old q))

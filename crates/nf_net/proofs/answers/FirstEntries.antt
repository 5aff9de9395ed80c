-- The first entry of open operations that passes a test has the lowest number of those that do.
use Rattle.nf_net.proofs.Words.{◌≡◌, ℕ, ◌<◌, ◌≤◌, Bool, true, false, cond, Option, Some, None, List, [], ◌∷◌, refl, ap, ◌∙◌, subst, arith, T, if◌then◌else◌}
use Rattle.nf_net.proofs.Words.{find, option_map, unwrap_or, option_map_or, nat_cmp, eq_by_cmp, is_lt, below_all, nat_tests, and_yes, Operation, OpenOperations}
use Rattle.nf_net.proofs.Words.{split}
use Rattle.std.specs.FinMap as finite
use Rattle.proof_outlines.proofs.whole.DivertedAll.{is_less}

-- what a number's operation is, by a test; none fails it
abbrev pub passes : (Operation → Bool) → Option Operation → Bool
passes test o = option_map_or test o false

abbrev Entries : Type 0
Entries = List (ℕ × Operation)

none_below : (k j : ℕ) (es : Entries) → k ≤ j → T (below_all nat_cmp j es) → finite.find nat_cmp k es ≡ None
none_below k j [] small below = refl
none_below k j (e ∷ es) small below =
    let first : j < e.0 = is_less j e.0 (and_yes (is_lt (nat_cmp j e.0)) (below_all nat_cmp j es) below).0 in
    let off : eq_by_cmp nat_cmp k e.0 ≡ false = grind (arith, nat_tests) in
    rw off (none_below k j es small (and_yes (is_lt (nat_cmp j e.0)) (below_all nat_cmp j es) below).1)

module _ (test : Operation → Bool) where
  none_passes : (es : Entries) → find (λ e. test e.1) es ≡ None → (k : ℕ) → passes test (finite.find nat_cmp k es) ≡ false
  none_passes [] is k = refl
  none_passes (e ∷ es) is k = split (test e.1)
      (λ b. (if b then Some e else find (λ x. test x.1) es) ≡ None → passes test (cond (eq_by_cmp nat_cmp k e.0) (Some e.1) (finite.find nat_cmp k es)) ≡ false)
      (λ on never. cc)
      (λ off rest. split (eq_by_cmp nat_cmp k e.0) (λ b. passes test (cond b (Some e.1) (finite.find nat_cmp k es)) ≡ false) (λ _. off)
      (λ _. none_passes es rest k)) is

  found_above : (j : ℕ) (es : Entries) (x : ℕ × Operation) → T (below_all nat_cmp j es) → find (λ e. test e.1) es ≡ Some x → j < x.0
  found_above j [] x below is = cc
  found_above j (e ∷ es) x below is = split (test e.1) (λ b. (if b then Some e else find (λ y. test y.1) es) ≡ Some x → j < x.0)
      (λ _ here. let same : e ≡ x = ap (λ o. unwrap_or o e) here in
      subst (λ y. j < y.0) same (is_less j e.0 (and_yes (is_lt (nat_cmp j e.0)) (below_all nat_cmp j es) below).0))
      (λ _ rest. found_above j es x (and_yes (is_lt (nat_cmp j e.0)) (below_all nat_cmp j es) below).1 rest) is

  record IsFirst (es : Entries) (k : ℕ) : Type 0 where
    here : passes test (finite.find nat_cmp k es) ≡ true
    none : (j : ℕ) → j < k → passes test (finite.find nat_cmp j es) ≡ false

  first_passes : (es : Entries) (x : ℕ × Operation) → T (finite.is_sorted nat_cmp es) → find (λ e. test e.1) es ≡ Some x → IsFirst es x.0
  first_passes [] x sorted is = cc
  first_passes (e ∷ es) x sorted is = split (test e.1) (λ b. (if b then Some e else find (λ y. test y.1) es) ≡ Some x → IsFirst (e ∷ es) x.0)
      (λ on here.
      let same : e ≡ x = ap (λ o. unwrap_or o e) here in
      let self : eq_by_cmp nat_cmp e.0 e.0 ≡ true = grind (arith, nat_tests) in
      subst (λ y. IsFirst (e ∷ es) y.0) same (record {
        here = rw (self, on) refl;
        none = λ j small. (let off : eq_by_cmp nat_cmp j e.0 ≡ false = grind (arith, nat_tests) in
            let rest = none_below j e.0 es (omega (arith, small)) below in rw (off, rest) refl);
      }))
      (λ off rest.
      let first = first_passes es x (and_yes (below_all nat_cmp e.0 es) (finite.is_sorted nat_cmp es) sorted).1 rest in
      let above = found_above e.0 es x below rest in
      let other : eq_by_cmp nat_cmp x.0 e.0 ≡ false = grind (arith, nat_tests) in
      let there = first.here in
      record {
        here = rw other there;
        none = λ j small. split (eq_by_cmp nat_cmp j e.0) (λ b. passes test (cond b (Some e.1) (finite.find nat_cmp j es)) ≡ false) (λ _. off)
            (λ _. first.none j small);
      }) is
    where
      below : T (below_all nat_cmp e.0 es)
      below = (and_yes (below_all nat_cmp e.0 es) (finite.is_sorted nat_cmp es) sorted).0

-- A number, or none, of which a test is the first that holds.
abbrev pub IsFirstOf : Option ℕ → (ℕ → Bool) → Type 0
IsFirstOf None test = (k : ℕ) → test k ≡ false
IsFirstOf (Some d) test = (test d ≡ true) × ((k : ℕ) → k < d → test k ≡ false)

module _ (ops : OpenOperations) (test : Operation → Bool) where
  pub found_is : (o : Option (ℕ × Operation)) → find (λ e. test e.1) (finite.entries ops) ≡ o
      → IsFirstOf (option_map (λ e. e.0) o) (λ k. passes test (finite.get ops k))
  found_is None is = λ k. ap (passes test) (finite.get-entries ops k) ∙ none_passes test (finite.entries ops) is k
  found_is (Some x) is =
      let first = first_passes test (finite.entries ops) x (finite.entries_sorted ops) is in
      (ap (passes test) (finite.get-entries ops x.0) ∙ first.here, λ k small. ap (passes test) (finite.get-entries ops k) ∙ first.none k small)

  pub found_passes : (x : ℕ × Operation) → find (λ e. test e.1) (finite.entries ops) ≡ Some x → passes test (finite.get ops x.0) ≡ true
  found_passes x is = (found_is (Some x) is).0

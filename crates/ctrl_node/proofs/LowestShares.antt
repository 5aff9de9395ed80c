-- The lowest share that matches a flow, by a number that none of them is below.
use Rattle.std.proofs.Common.{◌≡◌, ℕ, ◌≤◌, ◌<◌, Bool, true, false, cond, eqb, leb, List, [], ◌∷◌, Option, None, Some, refl, sym, ap, subst, ◌∙◌, ◌⊎◌, inl, inr}
use Rattle.std.proofs.Common.{arith}
use Rattle.std.specs.Prelude.{find, option_map}
use Rattle.std.specs.List.{AllByRecursion}
use Rattle.std.specs.Map.{lookup, keys_of}
use Rattle.std.specs.Ordering.{nat_cmp, eq_by_cmp}
use Rattle.std.specs.declared.cmp.Ordering.TheVariants.{Less}
use Rattle.std.specs.FinMap as finite
use Rattle.std.specs.FinMap.{get-insert, get-remove}
use Rattle.std.proofs.lemmas.Bool.{eqb-true, eq-eqb, ne_eqb, leb-true, true≢false}
use Rattle.std.proofs.lemmas.Bool.Decides.{nat_tests}
use Rattle.std.proofs.lemmas.Cmp.{nat_cmp_total}
use Rattle.std.proofs.lemmas.Map.Keys.{sorted_head, sorted_tail}
use Rattle.std.proofs.lemmas.Option.{same_Some}
use Rattle.flow_filter.specs.declared.flow.Flow.{Flow}
use Rattle.flow_filter.specs.declared.filter.Filter.{Filter}
use Rattle.flow_filter.specs.Filter.{matches}
use Rattle.switch_rules.specs.declared.span_group.SpanGroup.{SpanGroup}
use Rattle.switch_rules.specs.declared.target.Target.TheVariants.{Controller}
use Rattle.switch_rules.specs.Spans.{is_noted, is_up_to}
use Rattle.ctrl_node.specs.declared.operation.Operation.{Operation}
use Rattle.ctrl_node.specs.declared.operation.Operation.TheVariants.{Move, Copy, Share}
use Rattle.ctrl_node.specs.Operations.{OpenOperations, is_shared_by, share_filter, share_of}
use Rattle.ctrl_node.specs.ShareIndex.{AreNoted}
use Rattle.ctrl_node.proofs.OperationLookUps.{Rise, entries-view, get-view, inserted, order_test, view}

module _ {X : Type 0} where
  -- what is found among numbers above one is above it
  found_above : (k q : ℕ) (y : X) (es : List (ℕ × X)) → AllByRecursion (λ n. nat_cmp k n ≡ Less) (keys_of es) → lookup (eqb q) es ≡ Some y → k < q
  found_above k q y [] above at = cc
  found_above k q y (e ∷ es) above at = elim (eqb q e.0) as (λ b. eqb q e.0 ≡ b → cond b (Some e.1) (lookup (eqb q) es) ≡ Some y → k < q) [
    | true ↦ λ here is. let less : k < e.0 = grind (arith, nat_tests, above.0) in let same : q ≡ e.0 = eqb-true q e.0 here in omega (arith, less, same)
    | false ↦ λ other is. found_above k q y es above.1 is
  ] refl at

  -- of entries whose numbers rise each one is found
  each_entry : (P : ℕ → X → Type 0) (es : List (ℕ × X)) → Rise (keys_of es) → ((q : ℕ) (y : X) → lookup (eqb q) es ≡ Some y → P q y)
      → AllByRecursion (λ e. P e.0 e.1) es
  each_entry P [] rise each = tt
  each_entry P (e ∷ es) rise each = (
    each e.0 e.1 (ap (λ b. cond b (Some e.1) (lookup (eqb e.0) es)) (eq-eqb e.0 e.0 refl)),
    each_entry P es (sorted_tail nat_cmp e.0 (keys_of es) rise) (λ q y at.
        let less : e.0 < q = found_above e.0 q y es (sorted_head nat_cmp e.0 (keys_of es) rise) at in
        each q y (ap (λ b. cond b (Some e.1) (lookup (eqb q) es)) (ne_eqb q e.0 (λ same. omega (arith, less, same))) ∙ at)),
  )

  none_found : (p : X → Bool) (es : List (ℕ × X)) → AllByRecursion (λ e. p e.1 ≡ true → false ≡ true) es → find (λ e. p e.1) es ≡ None
  none_found p [] all = refl
  none_found p (e ∷ es) all = elim (p e.1) as (λ b. p e.1 ≡ b → cond b (Some e) (find (λ x. p x.1) es) ≡ None) [
    | true ↦ λ here. absurd (true≢false (sym (all.0 here)))
    | false ↦ λ other. none_found p es all.1
  ] refl

  -- a number is that of the first entry, with what stands there, or is found after it
  first_or_later : (n : ℕ) (x : X) (e : ℕ × X) (es : List (ℕ × X)) → lookup (eqb n) (e ∷ es) ≡ Some x → ((e.0 ≡ n) × (e.1 ≡ x)) ⊎ (lookup (eqb n) es ≡ Some x)
  first_or_later n x e es at = elim (eqb n e.0) as (λ b. eqb n e.0 ≡ b → cond b (Some e.1) (lookup (eqb n) es) ≡ Some x
      → ((e.0 ≡ n) × (e.1 ≡ x)) ⊎ (lookup (eqb n) es ≡ Some x)) [
        | true ↦ λ here is. inl (sym (eqb-true n e.0 here), same_Some e.1 x is)
        | false ↦ λ other is. inr is
      ] refl at

  -- one that passes, where none below it does, is the first that passes
  first_found : (p : X → Bool) (n : ℕ) (x : X) (es : List (ℕ × X)) → Rise (keys_of es) → AllByRecursion (λ e. p e.1 ≡ true → leb n e.0 ≡ true) es
      → lookup (eqb n) es ≡ Some x → p x ≡ true → find (λ e. p e.1) es ≡ Some (n, x)
  first_found p n x [] rise all at is = cc
  first_found p n x (e ∷ es) rise all at is = elim (p e.1) as (λ b. p e.1 ≡ b → cond b (Some e) (find (λ y. p y.1) es) ≡ Some (n, x)) [
    | true ↦ λ here. elim (first_or_later n x e es at) [
      | inl same ↦ λ i. Some (same.0 i, same.1 i)
      | inr later ↦
          let order : n ≤ e.0 = leb-true n e.0 (all.0 here) in
          let less : e.0 < n = found_above e.0 n x es (sorted_head nat_cmp e.0 (keys_of es) rise) later in
          absurd (omega (arith, order, less))
    ]
    | false ↦ λ other. elim (first_or_later n x e es at) [
      | inl same ↦ absurd (true≢false (sym is ∙ ap p (sym same.1) ∙ other))
      | inr later ↦ first_found p n x es (sorted_tail nat_cmp e.0 (keys_of es) rise) all.1 later is
    ]
  ] refl

-- an operation that shares a flow has a filter that matches it
record Sharing (flow : Flow) (operation : Operation) : Type 0 where
  filter : Filter
  is : share_filter operation ≡ Some filter
  matched : matches filter flow ≡ true

sharing : (flow : Flow) (operation : Operation) → is_shared_by flow operation ≡ true → Sharing flow operation
sharing flow (Move m) shared = cc
sharing flow (Copy c) shared = cc
sharing flow (Share s) shared = record { filter = s.plan.filter; is = refl; matched = shared }

-- what is told of a flow is up to each noted share that matches it
abbrev pub IsLowest : List SpanGroup → Flow → Option ℕ → Type 0
IsLowest groups flow told = (op : ℕ) (f : Filter) → is_noted groups op f Controller ≡ true → matches f flow ≡ true → is_up_to told op ≡ true

module _ (groups : List SpanGroup) (es : List (ℕ × Operation)) (flow : Flow) (rise : Rise (keys_of es)) (noted : AreNoted groups (view es)) where
  none_below : (told : Option ℕ) → IsLowest groups flow told → AllByRecursion (λ e. is_shared_by flow e.1 ≡ true → is_up_to told e.0 ≡ true) es
  none_below told lowest = each_entry (λ op operation. is_shared_by flow operation ≡ true → is_up_to told op ≡ true) es rise (λ op operation at shared.
      let has = sharing flow operation shared in
      lowest op has.filter (noted op operation has.filter (get-view es op ∙ at) has.is) has.matched)

  share_of_entries : share_of (view es) flow ≡ option_map (λ e. e.0) (find (λ e. is_shared_by flow e.1) es)
  share_of_entries = ap (λ xs. option_map (λ e. e.0) (find (λ e. is_shared_by flow e.1) xs)) (entries-view es rise)

  -- where nothing is told, no share matches
  pub no_share : IsLowest groups flow None → share_of (view es) flow ≡ None
  no_share lowest = share_of_entries ∙ ap (option_map (λ e. e.0)) (none_found (is_shared_by flow) es (none_below None lowest))

  -- an open share that matches is the lowest, where its number is what is told
  pub told_share : (op : ℕ) (operation : Operation) → IsLowest groups flow (Some op) → lookup (eqb op) es ≡ Some operation → is_shared_by flow operation ≡ true
      → share_of (view es) flow ≡ Some op
  told_share op operation lowest at shared =
      share_of_entries ∙ ap (option_map (λ e. e.0)) (first_found (is_shared_by flow) op operation es rise (none_below (Some op) lowest) at shared)

none_is_some : (operation : Operation) → None ≡ Some operation → ⊥
none_is_some operation is = cc

-- where no operation is open, each is noted
pub none_open : (gs : List SpanGroup) → AreNoted gs (view [])
none_open gs q operation f at is = absurd (none_is_some operation (sym (get-view {X = Operation} [] q) ∙ at))

-- with an operation more, or another, each open share is noted, where that one is if it is a share
pub noted_with : (gs gs' : List SpanGroup) (operations : OpenOperations) (op : ℕ) (now : Operation) → AreNoted gs operations
    → ((n : ℕ) (f : Filter) → is_noted gs n f Controller ≡ true → is_noted gs' n f Controller ≡ true)
    → ((f : Filter) → share_filter now ≡ Some f → is_noted gs' op f Controller ≡ true)
    → AreNoted gs' (finite.insert operations op now)
noted_with gs gs' operations op now noted kept one q operation f at is =
    elim (eq_by_cmp nat_cmp q op)
    as (λ b. eq_by_cmp nat_cmp q op ≡ b → cond b (Some now) (finite.get operations q) ≡ Some operation → is_noted gs' q f Controller ≡ true) [
      | true ↦ λ here same. ap (λ n. is_noted gs' n f Controller) (eqb-true q op (sym (order_test q op) ∙ here))
          ∙ one f (ap share_filter (same_Some now operation same) ∙ is)
      | false ↦ λ other same. kept q f (noted q operation f same is)
    ] refl (sym (get-insert nat_cmp_total operations op now q) ∙ at)

-- an operation that keeps its filter is as much noted as before
pub noted_again : (gs : List SpanGroup) (operations : OpenOperations) (op : ℕ) (was now : Operation) → AreNoted gs operations
    → finite.get operations op ≡ Some was → share_filter now ≡ share_filter was → AreNoted gs (finite.insert operations op now)
noted_again gs operations op was now noted found same =
    noted_with gs gs operations op now noted (λ n f is. is) (λ f is. noted op was f found (sym same ∙ is))

-- an operation that is written where it stands, and keeps its filter: the numbers rise as before, and the shares are noted
pub written_noted : (gs : List SpanGroup) (old new : List (ℕ × Operation)) (op : ℕ) (was now : Operation) → Rise (keys_of old) → AreNoted gs (view old)
    → lookup (eqb op) old ≡ Some was → keys_of new ≡ keys_of old → ((q : ℕ) → lookup (eqb q) new ≡ cond (eqb op q) (Some now) (lookup (eqb q) old))
    → share_filter now ≡ share_filter was → Rise (keys_of new) × AreNoted gs (view new)
written_noted gs old new op was now rise noted at keys each same = (
  subst Rise (sym keys) rise,
  subst (AreNoted gs) (sym (inserted old new (view old) op now refl each)) (noted_again gs (view old) op was now noted (get-view old op ∙ at) same),
)

-- without one the others are noted
pub noted_without : (gs : List SpanGroup) (operations : OpenOperations) (op : ℕ) → AreNoted gs operations → AreNoted gs (finite.remove operations op)
noted_without gs operations op noted q operation f at is =
    elim (eq_by_cmp nat_cmp q op) as (λ b. cond b None (finite.get operations q) ≡ Some operation → is_noted gs q f Controller ≡ true) [
      | true ↦ λ never. cc
      | false ↦ λ same. noted q operation f same is
    ] (sym (get-remove nat_cmp_total operations op q) ∙ at)

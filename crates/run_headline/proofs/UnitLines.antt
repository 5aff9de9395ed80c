-- The lines of a unit's records among those of all instances: each instance's, in their order, and sorted by units as they stood.
use Rattle.run_headline.proofs.Words.{◌≡◌, ℕ, Bool, true, false, cond, Option, Some, None, List, [], ◌∷◌, ◌++◌, map, refl, sym, ap, ◌∙◌, subst, T, filter}
use Rattle.run_headline.proofs.Words.{option_to_list, AllByRecursion, flat_map, is_lt, Ordering, Less, Equal, Greater, is_sorted, entries_sorted, below_all}
use Rattle.run_headline.proofs.Words.{and_yes, map-append, filter-append, unit_cmp, units_total, part, same_unit, same_unit-true, same_unit_equiv}
use Rattle.run_headline.proofs.Words.{NamedInstance, NamedRecord, named_records, sorted_by, IsUp, less}
use Rattle.std.specs.Ordering.{ordering_reverse}
use Rattle.std.specs.FinMap as finite
use Rattle.std.specs.FinMap.Entries.{find}
use Rattle.nf_function.specs.declared.unit.Unit as units
use Rattle.report_lines.proofs.SortLemmas.{weaker}
use Rattle.run_headline.proofs.SortedParts.{part_stays}

-- what is its own reverse isn't less
pub no_less : (o : Ordering) → o ≡ ordering_reverse o → T (is_lt o) → ⊥
no_less Less same h = cc
no_less Equal same h = h
no_less Greater same h = h

module _ {R : Type 0} (u : units.Unit) where
  -- the lines of the unit among some
  abbrev pub own : List (NamedRecord R) → List (NamedRecord R)
  own records = filter (λ s. same_unit s.unit u) records

  own_append : (xs ys : List (NamedRecord R)) → own (xs ++ ys) ≡ own xs ++ own ys
  own_append xs ys = filter-append (λ s. same_unit s.unit u) xs ys

  -- its line under a name, where a record is kept
  abbrev pub line : List ℕ → Option R → List (NamedRecord R)
  line name kept = map (λ r. record { unit = u; name = name; kept = r }) (option_to_list kept)

  module _ (name : List ℕ) where
    abbrev named : units.Unit × R → NamedRecord R
    named e = record { unit = e.0; name = name; kept = e.1 }

    -- none of what comes after the unit is the unit
    none_after : (x : units.Unit) (es : List (units.Unit × R)) → same_unit x u ≡ true → T (below_all unit_cmp x es) → own (map named es) ≡ []
    none_after x [] same below = refl
    none_after x (e ∷ es) same below =
        let less = (and_yes (is_lt (unit_cmp x e.0)) (below_all unit_cmp x es) below).0 in
        let rest = (and_yes (is_lt (unit_cmp x e.0)) (below_all unit_cmp x es) below).1 in
        elim (same_unit e.0 u) as (λ b. same_unit e.0 u ≡ b → cond b (named e ∷ own (map named es)) (own (map named es)) ≡ []) [
          | true ↦ λ is.
              let one : x ≡ e.0 = same_unit-true x u same ∙ sym (same_unit-true e.0 u is) in
              absurd (not_less_self x (subst (λ y. T (is_lt (unit_cmp x y))) (sym one) less))
          | false ↦ λ is. none_after x es same rest
        ] refl
      where
        not_less_self : (y : units.Unit) → T (is_lt (unit_cmp y y)) → ⊥
        not_less_self y h = no_less (unit_cmp y y) (units_total.antisymm y y) h

    pub found_line : (es : List (units.Unit × R)) → T (is_sorted unit_cmp es) → own (map named es) ≡ line name (find unit_cmp u es)
    found_line [] up = refl
    found_line (e ∷ es) up =
        let below = (and_yes (below_all unit_cmp e.0 es) (is_sorted unit_cmp es) up).0 in
        let more = (and_yes (below_all unit_cmp e.0 es) (is_sorted unit_cmp es) up).1 in
        subst (λ b. cond (same_unit e.0 u) (named e ∷ own (map named es)) (own (map named es)) ≡ line name (cond b (Some e.1) (find unit_cmp u es)))
        (same_unit_equiv.symm e.0 u)
        (elim (same_unit e.0 u) as (λ b. same_unit e.0 u ≡ b → cond b (named e ∷ own (map named es)) (own (map named es))
        ≡ line name (cond b (Some e.1) (find unit_cmp u es))) [
          | true ↦ λ is.
              ap (λ l. named e ∷ l) (none_after e.0 es is below)
              ∙ ap (λ (v : units.Unit). record { unit = v; name = name; kept = e.1 } ∷ []) (same_unit-true e.0 u is)
          | false ↦ λ is. found_line es more
        ] refl)

  -- the lines of some instances, live or standby
  pub each_line : (live : Bool) (instances : List (NamedInstance R)) → own (flat_map (named_records live) instances)
      ≡ flat_map (λ i. line i.name (finite.get (part i.table live) u)) instances
  each_line live [] = refl
  each_line live (i ∷ instances) =
      own_append (named_records live i) (flat_map (named_records live) instances)
      ∙ ap (λ l. l ++ own (flat_map (named_records live) instances))
      (found_line i.name (finite.entries (part i.table live)) (entries_sorted (part i.table live))
      ∙ ap (line i.name) (sym (finite.get-entries (part i.table live) u)))
      ∙ ap (λ l. line i.name (finite.get (part i.table live) u) ++ l) (each_line live instances)

  -- and their records
  pub kept_in : (name : List ℕ) (o : Option R) → map (λ s. s.kept) (line name o) ≡ option_to_list o
  kept_in name None = refl
  kept_in name (Some r) = refl

  pub kept_each : (instances : List (NamedInstance R)) → map (λ s. s.kept) (flat_map (λ i. line i.name (finite.get i.table.live u)) instances)
      ≡ flat_map (λ i. option_to_list (finite.get i.table.live u)) instances
  kept_each [] = refl
  kept_each (i ∷ instances) =
      map-append (λ (s : NamedRecord R). s.kept) (line i.name (finite.get i.table.live u)) (flat_map (λ i. line i.name (finite.get i.table.live u)) instances)
      ∙ ap (λ l. l ++ map (λ s. s.kept) (flat_map (λ i. line i.name (finite.get i.table.live u)) instances)) (kept_in i.name (finite.get i.table.live u))
      ∙ ap (λ l. option_to_list (finite.get i.table.live u) ++ l) (kept_each instances)

  -- records of one unit stand after the sort as they stood before
  all_own : (records : List (NamedRecord R)) → AllByRecursion (λ s. s.unit ≡ u) (own records)
  all_own [] = tt
  all_own (s ∷ records) = elim (same_unit s.unit u) as (λ b. same_unit s.unit u ≡ b
      → AllByRecursion (λ r. r.unit ≡ u) (cond b (s ∷ own records) (own records))) [
        | true ↦ λ is. (same_unit-true s.unit u is, all_own records)
        | false ↦ λ is. all_own records
      ] refl

  alike_up : (records : List (NamedRecord R)) → AllByRecursion (λ s. s.unit ≡ u) records → IsUp (less (λ s. s.unit) unit_cmp) records
  alike_up [] all = tt
  alike_up (s ∷ records) all = (
    weaker (λ r same. not_less (unit_cmp r.unit s.unit) (self_reverse r.unit s.unit (same ∙ sym all.0))) records all.1,
    alike_up records all.1,
  )
    where
      self_reverse : (v w : units.Unit) → v ≡ w → unit_cmp v w ≡ ordering_reverse (unit_cmp v w)
      self_reverse v w same = subst (λ x. unit_cmp v x ≡ ordering_reverse (unit_cmp v x)) same (units_total.antisymm v v)

      not_less : (o : Ordering) → o ≡ ordering_reverse o → is_lt o ≡ false
      not_less Less same = cc
      not_less Equal same = refl
      not_less Greater same = refl

  pub sorted_own : (records : List (NamedRecord R)) → own (sorted_by (λ s. s.unit) unit_cmp records) ≡ own records
  sorted_own records = part_stays (λ s. s.unit) unit_cmp units_total (λ s. same_unit s.unit u) records (alike_up (own records) (all_own records))

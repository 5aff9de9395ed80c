-- What stands in order is its own sort: numbers that don't fall, and the records of one instance.
use Rattle.std.proofs.Common.{◌≡◌, ℕ, ◌<◌, ◌≤◌, Bool, true, false, ◌&&◌, cond, List, [], ◌∷◌, length, get_or, map, refl, sym, ap, ◌∙◌, arith}
use Rattle.std.specs.Prelude.{T, nat_le, nat_lt, ◌==◌}
use Rattle.std.specs.Ordering.{nat_cmp, is_lt, ordering_reverse}
use Rattle.std.specs.declared.cmp.Ordering.{Ordering}
use Rattle.std.specs.declared.cmp.Ordering.TheVariants.{Less, Equal, Greater}
use Rattle.std.specs.FinMap as finite
use Rattle.std.specs.FinMap.{is_sorted, entries_sorted}
use Rattle.std.specs.FinMap.Entries.{below_all}
use Rattle.std.proofs.lemmas.Bool.{true≢false, le-leb, le-ltb, leb-true, and_parts}
use Rattle.std.proofs.lemmas.List.{append-nil}
use Rattle.std.proofs.Math.Facts.{and_yes}
use Rattle.nf_function.specs.declared.unit.Unit as units
use Rattle.nf_function.specs.Units.{unit_cmp}
use Rattle.nf_function.specs.UnitOrder.{units_total}
use Rattle.record_table.specs.Table.{part}
use Rattle.report_lines.specs.Lines.{NamedInstance, NamedRecord, named_records, by_unit}
use Rattle.report_lines.specs.Sorting.{put_in, sorted_by}

-- what is less isn't less when turned round
turned_later : (a b : Ordering) → a ≡ ordering_reverse b → T (is_lt b) → is_lt a ≡ false
turned_later a Less turned less = ap is_lt turned
turned_later a Equal turned less = absurd less
turned_later a Greater turned less = absurd less

not_less_by : (less same : Bool) → less ≡ false → is_lt (cond less Less (cond same Equal Greater)) ≡ false
not_less_by true same h = absurd (true≢false h)
not_less_by false true h = refl
not_less_by false false h = refl

-- a number that isn't less than another
pub not_less : (m n : ℕ) → nat_le m n ≡ true → is_lt (nat_cmp n m) ≡ false
not_less m n le = not_less_by (nat_lt n m) (n == m) (le-ltb n m (leb-true m n le))

module _ {X : Type 0} where
  -- numbers that don't fall, from one on
  abbrev pub rises : ℕ → List (ℕ × X) → Bool
  rises last [] = true
  rises last (x ∷ xs) = nat_le last x.0 && rises x.0 xs

  -- one more number
  pub next_rises : (last number : ℕ) (x : X) (xs : List (ℕ × X)) → last ≤ number → rises last ((number, x) ∷ xs) ≡ rises number xs
  next_rises last number x xs le = ap (λ b. b && rises number xs) (le-leb last number le)

  put_first : (x : ℕ × X) (xs : List (ℕ × X)) → rises x.0 xs ≡ true → put_in (λ y. y.0) nat_cmp x xs ≡ x ∷ xs
  put_first x [] up = refl
  put_first x (y ∷ xs) up =
      ap (λ b. cond b (y ∷ put_in (λ z. z.0) nat_cmp x xs) (x ∷ y ∷ xs)) (not_less x.0 y.0 (and_parts (nat_le x.0 y.0) (rises y.0 xs) up).0)

  pub numbers_stay : (last : ℕ) (xs : List (ℕ × X)) → rises last xs ≡ true → sorted_by (λ x. x.0) nat_cmp xs ≡ xs
  numbers_stay last [] up = refl
  numbers_stay last (x ∷ xs) up =
      let more = (and_parts (nat_le last x.0) (rises x.0 xs) up).1 in
      ap (put_in (λ y. y.0) nat_cmp x) (numbers_stay x.0 xs more) ∙ put_first x xs more

module _ {R : Type 0} (name : List ℕ) where
  -- the record of an entry
  abbrev pub named : units.Unit × R → NamedRecord R
  named e = record { unit = e.0; name = name; kept = e.1 }

  entry_first : (e : units.Unit × R) (es : List (units.Unit × R)) → T (below_all unit_cmp e.0 es)
      → put_in (λ r. r.unit) unit_cmp (named e) (map named es) ≡ named e ∷ map named es
  entry_first e [] below = refl
  entry_first e (x ∷ es) below =
      let less = (and_yes (is_lt (unit_cmp e.0 x.0)) (below_all unit_cmp e.0 es) below).0 in
      ap (λ b. cond b (named x ∷ put_in (λ r. r.unit) unit_cmp (named e) (map named es)) (named e ∷ named x ∷ map named es))
      (turned_later (unit_cmp x.0 e.0) (unit_cmp e.0 x.0) (units_total.antisymm x.0 e.0) less)

  entries_stay : (es : List (units.Unit × R)) → T (is_sorted unit_cmp es) → sorted_by (λ r. r.unit) unit_cmp (map named es) ≡ map named es
  entries_stay [] up = refl
  entries_stay (e ∷ es) up =
      let below = (and_yes (below_all unit_cmp e.0 es) (is_sorted unit_cmp es) up).0 in
      let more = (and_yes (below_all unit_cmp e.0 es) (is_sorted unit_cmp es) up).1 in
      ap (put_in (λ r. r.unit) unit_cmp (named e)) (entries_stay es more) ∙ entry_first e es below

-- the records of one instance are in order
pub one_instance : {R : Type 0} (live : Bool) (instance : NamedInstance R) → by_unit live (instance ∷ []) ≡ named_records live instance
one_instance live instance =
    ap (sorted_by (λ r. r.unit) unit_cmp) (append-nil (named_records live instance))
    ∙ entries_stay instance.name (finite.entries (part instance.table live)) (entries_sorted (part instance.table live))

-- a list of one item
pub only_one : {X : Type 0} (xs : List X) (x : X) → 1 ≤ length xs → length xs < 2 → x ≡ get_or xs 0 x → xs ≡ x ∷ []
only_one [] x some few is = absurd (omega (arith, some))
only_one (y ∷ []) x some few is = ap (λ z. z ∷ []) (sym is)
only_one (y ∷ z ∷ xs) x some few is = absurd (omega (arith, few))

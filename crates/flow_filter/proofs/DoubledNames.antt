-- A name stands twice in a list exactly where the set of the list's names is smaller than the list.
use Rattle.std.proofs.Common.{◌≡◌, ◌∙◌, ℕ, suc, ◌≤◌, Bool, true, false, cond, ltb, ◌||◌, List, [], ◌∷◌, length, map, ap, sym, refl, arith}
use Rattle.std.specs.declared.cmp.Ordering.{Ordering}
use Rattle.std.specs.Ordering.{nat_cmp, eq_by_cmp}
use Rattle.std.specs.Cmp.Lexicographic.{slice_cmp}
use Rattle.std.specs.List.{list_any}
use Rattle.std.specs.Str.{bytes_eq}
use Rattle.std.specs.Set.{is_member, unique_keys, distinct_count}
use Rattle.std.specs.BTreeSet.{BTreeSet, btree_set_len, IsFromIterResult}
use Rattle.std.proofs.lemmas.Bool.Decides.{nat_tests}
use Rattle.std.proofs.lemmas.List.{length-map}
use Rattle.std.proofs.lemmas.Cmp.{on_total, nat_list_cmp_total, nat_list_eq_equiv}
use Rattle.std.proofs.lemmas.Map.Made.{distinct_count-le}
use Rattle.std.proofs.lemmas.Map.Text.{is_eq-slice_cmp}
use Rattle.std.proofs.lemmas.Map.Views.{btree_set_len-from_list}
use Rattle.flow_filter.specs.Name.{has_twice}

-- the order of what has a name, by its bytes
abbrev pub by_name : {K : Type 0} → (K → List ℕ) → K → K → Ordering
by_name name x y = slice_cmp nat_cmp (name x) (name y)

member_by_name : {K : Type 0} (name : K → List ℕ) (x : K) (xs : List K)
    → is_member (eq_by_cmp (by_name name)) xs x ≡ list_any (λ other. bytes_eq other (name x)) (map name xs)
member_by_name name x [] = refl
member_by_name name x (y ∷ xs) =
    let here = is_eq-slice_cmp (name x) (name y) ∙ nat_list_eq_equiv.symm (name x) (name y) in
    let rest = member_by_name name x xs in
    cc

-- one key more, which is among the others or isn't
count_more : {K : Type 0} (x : K) (distinct : List K) (n : ℕ) (member among twice : Bool) → member ≡ among → length distinct ≤ n
    → ltb (length distinct) n ≡ twice
    → ltb (length (cond member distinct (x ∷ distinct))) (suc n) ≡ (among || twice)
count_more x distinct n true true twice is fits same = grind (arith, nat_tests)
count_more x distinct n false false twice is fits same = grind (arith, nat_tests)
count_more x distinct n true false twice is fits same = absurd cc
count_more x distinct n false true twice is fits same = absurd cc

counted : {K : Type 0} (name : K → List ℕ) (xs : List K) → ltb (distinct_count (eq_by_cmp (by_name name)) xs) (length xs) ≡ has_twice (map name xs)
counted name [] = refl
counted name (x ∷ xs) = let same = eq_by_cmp (by_name name) in
    count_more x (unique_keys same xs) (length xs) (is_member same xs x) _ _ (member_by_name name x xs) (distinct_count-le same xs) (counted name xs)

pub fewer_distinct : {K : Type 0} (name : K → List ℕ) (xs : List K) (names : List (List ℕ)) (set : BTreeSet K)
    → map name xs ≡ names → IsFromIterResult (by_name name) xs set → ltb (btree_set_len set) (length names) ≡ has_twice names
fewer_distinct name xs names set are is =
    let count = btree_set_len-from_list (on_total name nat_list_cmp_total) xs set is in
    let long : length names ≡ length xs = ap length (sym are) ∙ length-map xs name in
    cc (counted name xs, are)

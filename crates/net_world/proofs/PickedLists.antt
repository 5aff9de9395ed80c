-- What is picked from a list, and what stands before the first element that a test picks. Generic in the elements.
use Rattle.std.proofs.Common.{◌≡◌, ℕ, zero, suc, ◌+◌, ◌≤◌, Bool, true, false, Option, Some, None, List, [], ◌∷◌, ◌++◌, map, length, take, refl, sym, ap, ◌∙◌}
use Rattle.std.proofs.Common.{arith}
use Rattle.std.specs.Prelude.{if◌then◌else◌, ◌||◌, cond, not, count_by, filter, filter_map, find, option_map}
use Rattle.std.specs.List.{before_first, cons_option, list_any, position_or_len}
use Rattle.std.specs.Option.{option_map_or}
use Rattle.std.proofs.lemmas.Bool.{or_parts}
use Rattle.std.proofs.lemmas.List.Sums.{sum_by-cons}
use Rattle.actor_net.proofs.WeightLaws.{Each}

-- where each gives nothing, nothing is picked
pub none_picked : {X Y : Type 0} (h : X → Option Y) (P : X → Type 0) → ((x : X) → P x → h x ≡ None) → (xs : List X) → Each P xs → filter_map h xs ≡ []
none_picked h P none [] each = refl
none_picked h P none (x ∷ xs) each = ap (λ o. cons_option o (filter_map h xs)) (none x each.0) ∙ none_picked h P none xs each.1

-- a test of what is picked is a test of each
pub any_picked : {X Y : Type 0} (h : X → Option Y) (p : Y → Bool) (xs : List X) → list_any (λ x. option_map_or p (h x) false) xs ≡ list_any p (filter_map h xs)
any_picked h p [] = refl
any_picked {Y = Y} h p (x ∷ xs) = by (h x) (any_picked h p xs)
  where
    by : (o : Option Y) → list_any (λ y. option_map_or p (h y) false) xs ≡ list_any p (filter_map h xs)
        → option_map_or p o false || list_any (λ y. option_map_or p (h y) false) xs ≡ list_any p (cons_option o (filter_map h xs))
    by None rest = rest
    by (Some y) rest = ap (λ b. p y || b) rest

-- where nothing is picked, nothing is picked from a front
pub front_picked : {X Y : Type 0} (h : X → Option Y) (n : ℕ) (xs : List X) → filter_map h xs ≡ [] → filter_map h (take n xs) ≡ []
front_picked h zero xs none = refl
front_picked h (suc n) [] none = refl
front_picked {Y = Y} h (suc n) (x ∷ xs) none = by (h x) none (front_picked h n xs)
  where
    by : (o : Option Y) → cons_option o (filter_map h xs) ≡ [] → (filter_map h xs ≡ [] → filter_map h (take n xs) ≡ [])
        → cons_option o (filter_map h (take n xs)) ≡ []
    by None off rest = rest off
    by (Some y) off rest = cc

-- what is picked from a front is picked from the whole
pub any_front : {X Y : Type 0} (h : X → Option Y) (p : Y → Bool) (n : ℕ) (xs : List X) → list_any p (filter_map h (take n xs)) ≡ true
    → list_any p (filter_map h xs) ≡ true
any_front h p zero xs some = cc
any_front h p (suc n) [] some = cc
any_front {Y = Y} h p (suc n) (x ∷ xs) some = by (h x) some (any_front h p n xs)
  where
    by : (o : Option Y) → list_any p (cons_option o (filter_map h (take n xs))) ≡ true
        → (list_any p (filter_map h (take n xs)) ≡ true → list_any p (filter_map h xs) ≡ true) → list_any p (cons_option o (filter_map h xs)) ≡ true
    by None on rest = rest on
    by (Some y) on rest = elim (p y) as (λ b. b || list_any p (filter_map h (take n xs)) ≡ true → b || list_any p (filter_map h xs) ≡ true) [
      | true ↦ λ _. refl
      | false ↦ λ more. rest more
    ] on

module _ {X : Type 0} (p : X → Bool) where
  -- what is found passes, and what isn't found doesn't
  pub found_any : {Y : Type 0} (f : X → Y) (y : Y) (xs : List X) → option_map f (find p xs) ≡ Some y → list_any p xs ≡ true
  found_any f y [] found = cc
  found_any f y (x ∷ xs) found = elim (p x) as (λ b. option_map f (cond b (Some x) (find p xs)) ≡ Some y → b || list_any p xs ≡ true) [
    | true ↦ λ _. refl
    | false ↦ λ rest. found_any f y xs rest
  ] found

  pub unfound_none : {Y : Type 0} (f : X → Y) (xs : List X) → option_map f (find p xs) ≡ None → list_any p xs ≡ false
  unfound_none f [] none = refl
  unfound_none f (x ∷ xs) none = elim (p x) as (λ b. option_map f (cond b (Some x) (find p xs)) ≡ None → b || list_any p xs ≡ false) [
    | true ↦ λ never. cc
    | false ↦ λ rest. unfound_none f xs rest
  ] none

  -- what no element passes keeps none and counts none
  pub none_kept : (xs : List X) → list_any p xs ≡ false → filter p xs ≡ []
  none_kept [] none = refl
  none_kept (x ∷ xs) none =
      let off = or_parts (p x) (list_any p xs) none in
      ap (λ b. cond b (x ∷ filter p xs) (filter p xs)) off.0 ∙ none_kept xs off.1

  pub none_counted : (xs : List X) → list_any p xs ≡ false → count_by p xs ≡ 0
  none_counted [] none = refl
  none_counted (x ∷ xs) none =
      let off = or_parts (p x) (list_any p xs) none in
      sum_by-cons (λ y. cond (p y) 1 0) x xs ∙ ap (λ b. cond b 1 0 + count_by p xs) off.0 ∙ ap (λ n. 0 + n) (none_counted xs off.1)

  -- where one passes, one is kept and counted; and where one is kept, one passes
  pub some_kept : {Y : Type 0} (f : X → Y) (xs : List X) → list_any p xs ≡ true → 1 ≤ length (map f (filter p xs))
  some_kept f [] some = cc
  some_kept f (x ∷ xs) some = elim (p x) as (λ b. b || list_any p xs ≡ true → 1 ≤ length (map f (cond b (x ∷ filter p xs) (filter p xs)))) [
    | true ↦ λ _. omega arith
    | false ↦ λ rest. some_kept f xs rest
  ] some

  pub kept_some : {Y : Type 0} (f : X → Y) (xs : List X) → 1 ≤ length (map f (filter p xs)) → list_any p xs ≡ true
  kept_some f [] some = absurd (omega (arith, some))
  kept_some f (x ∷ xs) some = elim (p x) as (λ b. 1 ≤ length (map f (cond b (x ∷ filter p xs) (filter p xs))) → b || list_any p xs ≡ true) [
    | true ↦ λ _. refl
    | false ↦ λ rest. kept_some f xs rest
  ] some

  pub some_counted : (xs : List X) → list_any p xs ≡ true → 1 ≤ count_by p xs
  some_counted [] some = cc
  some_counted (x ∷ xs) some =
      let both = sum_by-cons (λ y. cond (p y) 1 0) x xs in
      elim (p x) as (λ b. count_by p (x ∷ xs) ≡ cond b 1 0 + count_by p xs → b || list_any p xs ≡ true → 1 ≤ count_by p (x ∷ xs)) [
        | true ↦ λ own _. omega (arith, own)
        | false ↦ λ own rest. let more = some_counted xs rest in omega (arith, own, more)
      ] both some

  -- where none is kept, none passes
  pub kept_none : {Y : Type 0} (f : X → Y) (xs : List X) → map f (filter p xs) ≡ [] → list_any p xs ≡ false
  kept_none f [] none = refl
  kept_none f (x ∷ xs) none = elim (p x) as (λ b. map f (cond b (x ∷ filter p xs) (filter p xs)) ≡ [] → b || list_any p xs ≡ false) [
    | true ↦ λ never. cc
    | false ↦ λ rest. kept_none f xs rest
  ] none

  pub before_first-cons : (x : X) (xs : List X) → before_first p (x ∷ xs) ≡ (if p x then [] else x ∷ before_first p xs)
  before_first-cons x xs =
      elim (p x) as (λ b. take (cond (not b) (1 + position_or_len p xs) 0) (x ∷ xs) ≡ (if b then [] else x ∷ before_first p xs)) [
        | true ↦ refl
        | false ↦ (let next : 1 + position_or_len p xs ≡ suc (position_or_len p xs) = omega arith in ap (λ n. take n (x ∷ xs)) next)
      ]

  -- where one passes, more elements change nothing
  pub before_kept : (xs ys : List X) → list_any p xs ≡ true → before_first p (xs ++ ys) ≡ before_first p xs
  before_kept [] ys some = cc
  before_kept (x ∷ xs) ys some =
      before_first-cons x (xs ++ ys)
      ∙ elim (p x) as (λ b. b || list_any p xs ≡ true
      → ◌≡◌ {A = List X} (if b then [] else x ∷ before_first p (xs ++ ys)) (if b then [] else x ∷ before_first p xs)) [
        | true ↦ λ _. refl
        | false ↦ λ rest. ap (λ v. x ∷ v) (before_kept xs ys rest)
      ] some
      ∙ sym (before_first-cons x xs)

  -- where none does, all stand before
  pub before_new : (xs ys : List X) → list_any p xs ≡ false → before_first p (xs ++ ys) ≡ xs ++ before_first p ys
  before_new [] ys none = refl
  before_new (x ∷ xs) ys none =
      let off = or_parts (p x) (list_any p xs) none in
      before_first-cons x (xs ++ ys) ∙ ap (λ b. if b then [] else x ∷ before_first p (xs ++ ys)) off.0 ∙ ap (λ v. x ∷ v) (before_new xs ys off.1)

  pub before_all : (xs : List X) → list_any p xs ≡ false → before_first p xs ≡ xs
  before_all [] none = refl
  before_all (x ∷ xs) none =
      let off = or_parts (p x) (list_any p xs) none in
      before_first-cons x xs ∙ ap (λ b. if b then [] else x ∷ before_first p xs) off.0 ∙ ap (λ v. x ∷ v) (before_all xs off.1)

  -- before one that passes
  pub before_one : (x : X) (xs : List X) → p x ≡ true → before_first p (x ∷ xs) ≡ []
  before_one x xs here = before_first-cons x xs ∙ ap (λ b. if b then [] else x ∷ before_first p xs) here

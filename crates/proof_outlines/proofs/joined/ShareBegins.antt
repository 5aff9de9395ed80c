-- A share that may begin: its members have different places, the names of its order are known, and it is one that the abstract network begins.
use Rattle.proof_outlines.proofs.Words.{◌≡◌, ◌≢◌, ℕ, suc, true, false, Option, Some, None, List, [], ◌∷◌, length, get_or, refl, sym, ap, ◌∙◌, subst, arith}
use Rattle.proof_outlines.proofs.Words.{true≢false, Bool, if◌then◌else◌, ◌==◌, not, nat_lt, find, is_some, filter_map, list_any, AllByRecursion, bytes_eq}
use Rattle.proof_outlines.proofs.Words.{nat_tests, Decides-ltb, or_parts, false_from_ne_true, instance_node, has_twice, place_of, Each, IsDistinct}
use Rattle.std.proofs.lemmas.List.Quantifiers.{position-Some}
use Rattle.std.proofs.lemmas.Slice.Eq.{bytes_eq-Decides}
use Rattle.proof_outlines.proofs.whole.WholeOutline.{with_member, members_of}

-- a name has one place, and two names have two
pub place_below : (names : List (List ℕ)) (name : List ℕ) (i : ℕ) → place_of names name ≡ Some i → nat_lt i (length names) ≡ true
place_below names name i at = (Decides-ltb i (length names)).1 (position-Some (λ other. bytes_eq other name) names i [] at).0

place_is : (names : List (List ℕ)) (name : List ℕ) (i : ℕ) → place_of names name ≡ Some i → get_or names i [] ≡ name
place_is names name i at = (bytes_eq-Decides (get_or names i []) name).0 (position-Some (λ other. bytes_eq other name) names i [] at).1

pub places_apart : (names : List (List ℕ)) (a b : List ℕ) (i j : ℕ) → place_of names a ≡ Some i → place_of names b ≡ Some j → not (bytes_eq a b) ≡ true → i ≢ j
places_apart names a b i j at_a at_b off same =
    let one : a ≡ b = sym (place_is names a i at_a) ∙ ap (λ k. get_or names k []) same ∙ place_is names b j at_b in
    let on : bytes_eq a b ≡ true = (bytes_eq-Decides a b).1 one in
    let never : false ≡ true = sym (ap not on) ∙ off in
    cc

pub place_tells : (names : List (List ℕ)) (a b : List ℕ) (i : ℕ) → place_of names a ≡ Some i → place_of names b ≡ Some i → bytes_eq a b ≡ true
place_tells names a b i at_a at_b = (bytes_eq-Decides a b).1 (sym (place_is names a i at_a) ∙ place_is names b i at_b)

-- Names of which none stands twice.
abbrev stands_in : List ℕ → List (List ℕ) → Bool
stands_in name names = list_any (λ other. bytes_eq other name) names

turned : (a b : List ℕ) → bytes_eq b a ≡ false → bytes_eq a b ≡ false
turned a b differ = false_from_ne_true (bytes_eq a b)
    (λ same. absurd (true≢false (sym ((bytes_eq-Decides b a).1 (sym ((bytes_eq-Decides a b).0 same))) ∙ differ)))

all_others : (name : List ℕ) (names : List (List ℕ)) → stands_in name names ≡ false → AllByRecursion (λ other. bytes_eq name other ≡ false) names
all_others name [] e = tt
all_others name (other ∷ names) e = let two = or_parts (bytes_eq other name) (stands_in name names) e in (turned name other two.0, all_others name names two.1)

pub names_distinct : (names : List (List ℕ)) → has_twice names ≡ false → IsDistinct bytes_eq names
unfolding IsDistinct
names_distinct [] e = tt
names_distinct (name ∷ names) e = let two = or_parts (stands_in name names) (has_twice names) e in (all_others name names two.0, names_distinct names two.1)

-- The instances with some names: each is one of a run, they are different, and where no name is unknown there are as many.
module _ (names : List (List ℕ)) where
  -- the place of a name in front of others
  abbrev with_place : Option ℕ → List ℕ → List ℕ
  with_place None others = others
  with_place (Some i) others = i ∷ others

  abbrev places : List (List ℕ) → List ℕ
  places these = filter_map (place_of names) these

  placed : (name : List ℕ) (others : List (List ℕ)) → places (name ∷ others) ≡ with_place (place_of names name) (places others)
  placed name others = by_place (place_of names name) refl
    where
      by_place : (o : Option ℕ) → place_of names name ≡ o → places (name ∷ others) ≡ with_place o (places others)
      by_place None e = rw e refl
      by_place (Some i) e = rw e refl

  -- what holds of the places of names holds with one more
  with_name : (P : List ℕ → Type 0) (name : List ℕ) (others : List (List ℕ)) → P (places others)
      → ((i : ℕ) → place_of names name ≡ Some i → P (i ∷ places others)) → P (places (name ∷ others))
  with_name P name others rest more = subst P (sym (placed name others)) (by_place (place_of names name) refl)
    where
      by_place : (o : Option ℕ) → place_of names name ≡ o → P (with_place o (places others))
      by_place None e = rest
      by_place (Some i) e = more i e

  pub few_placed : (these : List (List ℕ)) → Each (λ member. nat_lt member (length names) ≡ true) (filter_map (place_of names) these)
  few_placed [] = tt
  few_placed (name ∷ others) = with_name (Each (λ member. nat_lt member (length names) ≡ true)) name others (few_placed others)
      (λ i e. (place_below names name i e, few_placed others))

  one_apart : (name : List ℕ) (i : ℕ) → place_of names name ≡ Some i → (these : List (List ℕ)) → stands_in name these ≡ false
      → AllByRecursion (λ j. (i == j) ≡ false) (places these)
  one_apart name i at [] e = tt
  one_apart name i at (other ∷ others) e =
      let two = or_parts (bytes_eq other name) (stands_in name others) e in
      let rest = one_apart name i at others two.1 in
      with_name (AllByRecursion (λ j. (i == j) ≡ false)) other others rest (λ j at_other.
      let differ : i ≢ j = places_apart names name other i j at at_other (ap not (turned name other two.0)) in
      (grind (arith, nat_tests, differ), rest))

  pub all_apart : (these : List (List ℕ)) → has_twice these ≡ false → IsDistinct ◌==◌ (filter_map (place_of names) these)
  unfolding IsDistinct
  all_apart [] e = tt
  all_apart (name ∷ others) e =
      let two = or_parts (stands_in name others) (has_twice others) e in
      let rest = all_apart others two.1 in
      with_name (IsDistinct ◌==◌) name others rest (λ i at. (one_apart name i at others two.0, rest))

  -- the nodes of names of which none is unknown
  pub record HaveNodes (these : List (List ℕ)) : Type 0 where
    pub nodes : List ℕ
    pub members : members_of (place_of names) these ≡ Some nodes
    pub many : length (filter_map (place_of names) these) ≡ length these

  abbrev pub unknown : List (List ℕ) → Option (List ℕ)
  unknown these = find (λ name. not (is_some (place_of names name))) these

  pub names_known : (these : List (List ℕ)) → unknown these ≡ None → HaveNodes these
  names_known [] e = record { nodes = []; members = refl; many = refl }
  names_known (name ∷ others) e = by_place (place_of names name) refl e (λ rest. names_known others rest)
    where
      by_place : (o : Option ℕ) → place_of names name ≡ o → (if not (is_some o) then Some name else unknown others) ≡ None
          → (unknown others ≡ None → HaveNodes others) → HaveNodes (name ∷ others)
      by_place None at bad known = cc
      by_place (Some i) at rest known =
          let k = known rest in
          record {
            nodes = instance_node i ∷ k.nodes;
            members = ap (λ o. with_member o (members_of (place_of names) others)) at ∙ ap (with_member (Some i)) k.members;
            many = ap length (placed name others) ∙ ap (λ o. length (with_place o (filter_map (place_of names) others))) at ∙ ap suc k.many;
          }

  -- the first of them
  pub record FirstKnown (name : List ℕ) (others : List (List ℕ)) : Type 0 where
    pub home : ℕ
    pub at : place_of names name ≡ Some home
    pub nodes : List ℕ
    pub members : members_of (place_of names) others ≡ Some nodes
    pub many : length (filter_map (place_of names) others) ≡ length others
    pub instances : filter_map (place_of names) (name ∷ others) ≡ home ∷ filter_map (place_of names) others

  pub first_known : (name : List ℕ) (others : List (List ℕ)) → unknown (name ∷ others) ≡ None → FirstKnown name others
  first_known name others e = by_place (place_of names name) refl e
    where
      by_place : (o : Option ℕ) → place_of names name ≡ o → (if not (is_some o) then Some name else unknown others) ≡ None → FirstKnown name others
      by_place None at bad = cc
      by_place (Some i) at rest =
          let k = names_known others rest in
          record {
            home = i;
            at = at;
            nodes = k.nodes;
            members = k.members;
            many = k.many;
            instances = placed name others ∙ ap (λ o. with_place o (filter_map (place_of names) others)) at;
          }

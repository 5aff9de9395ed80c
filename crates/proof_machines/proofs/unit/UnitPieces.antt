-- The pieces of a move as one unit sees them: its record is in exactly one of them, and the last alone has the mark of the last.
use Rattle.std.proofs.Common.{◌≡◌, Bool, true, false, Option, Some, None, List, [], ◌∷◌, ◌++◌, refl, sym, ap, ◌∙◌, subst}
use Rattle.std.specs.Prelude.{if◌then◌else◌, option_to_list}
use Rattle.std.specs.List.{filter_map, cons_option}
use Rattle.std.proofs.lemmas.List.Elements.{filter_map-append}
use Rattle.proof_machines.proofs.unit.Machine.{Part, pick, or_own, is_nil}
use Rattle.proof_machines.proofs.unit.Lists.{nil_is}

-- the records of the unit in pieces, in order
abbrev pub records : {R : Type 0} → List (Part R) → List R
records ps = filter_map (λ h. h.own) ps

abbrev pub closes : {R : Type 0} → List (Part R) → Bool
closes [] = false
closes (h ∷ t) = if h.last then is_nil t else closes t

pub record ArePiecesOf {R : Type 0} (ps : List (Part R)) (o : Option R) : Type 0 where
  pub one : records ps ≡ option_to_list o
  pub ends : closes ps ≡ true

pub refit : {R : Type 0} {ps qs : List (Part R)} {o : Option R} → ps ≡ qs → ArePiecesOf ps o → ArePiecesOf qs o
refit {o = o} e f = subst (λ z. ArePiecesOf z o) e f

pub cons_option_is : {R : Type 0} (o : Option R) (xs : List R) → cons_option o xs ≡ option_to_list o ++ xs
cons_option_is None xs = refl
cons_option_is (Some r) xs = refl

abbrev pub first : {R : Type 0} → List R → Option R
first [] = None
first (r ∷ _) = Some r

pub pick_first : {R : Type 0} (ps : List (Part R)) → pick ps ≡ first (records ps)
pick_first [] = refl
pick_first (h ∷ t) =
    elim h.own as (λ o. or_own o (pick t) ≡ first (cons_option o (records t))) [
      | None ↦ pick_first t
      | Some r ↦ refl
    ]

pub pick-append : {R : Type 0} (x t : List (Part R)) → pick (x ++ t) ≡ or_own (pick x) (pick t)
pick-append [] t = refl
pick-append (h ∷ x) t =
    elim h.own as (λ o. or_own o (pick (x ++ t)) ≡ or_own (or_own o (pick x)) (pick t)) [
      | None ↦ pick-append x t
      | Some r ↦ refl
    ]

pub pick_one : {R : Type 0} (h : Part R) → pick (h ∷ []) ≡ h.own
pick_one h = elim h.own as (λ o. or_own o None ≡ o) [ None ↦ refl | Some r ↦ refl ]

pub first_of_one : {R : Type 0} (o : Option R) → first (option_to_list o) ≡ o
first_of_one None = refl
first_of_one (Some r) = refl

-- all pieces together hold the record
pub pick_all : {R : Type 0} (ps : List (Part R)) (o : Option R) → ArePiecesOf ps o → pick ps ≡ o
pick_all ps o f = pick_first ps ∙ ap first f.one ∙ first_of_one o

-- one record alone, before and behind which there is none
alone : {R : Type 0} (o : Option R) (xs : List R) (r : R) (ys : List R) → xs ++ r ∷ ys ≡ option_to_list o → (xs ≡ []) × (ys ≡ [])
alone None [] r ys e = cc
alone None (x ∷ xs) r ys e = cc
alone (Some s) [] r ys e = (refl, cc)
alone (Some s) (x ∷ []) r ys e = let never : ⊥ = cc in absurd never
alone (Some s) (x ∷ y ∷ xs) r ys e = let never : ⊥ = cc in absurd never

records_at : {R : Type 0} (h : Part R) (t : List (Part R)) (r : R) → h.own ≡ Some r → records (h ∷ t) ≡ r ∷ records t
records_at h t r e = ap (λ o. cons_option o (records t)) e

pub others : {R : Type 0} (x : List (Part R)) (h : Part R) (t : List (Part R)) (o : Option R) (r : R) → h.own ≡ Some r → ArePiecesOf (x ++ h ∷ t) o
    → (pick x ≡ None) × (pick t ≡ None)
others x h t o r e f =
    let both = alone o (records x) r (records t) (sym (ap (λ z. records x ++ z) (records_at h t r e)) ∙ sym (filter_map-append _ x (h ∷ t)) ∙ f.one) in
    (pick_first x ∙ ap first both.0, pick_first t ∙ ap first both.1)

-- the marks: what stands behind the last, and who is the last
closes_behind : {R : Type 0} (x : List (Part R)) (h : Part R) (t : List (Part R)) → closes (x ++ h ∷ t) ≡ true → closes (h ∷ t) ≡ true
closes_behind [] h t e = e
closes_behind (g ∷ []) h t e =
    elim g.last as (λ b. (if b then false else closes (h ∷ t)) ≡ true → closes (h ∷ t) ≡ true) [ true ↦ λ never. cc | false ↦ λ is. is ] e
closes_behind (g ∷ k ∷ x) h t e =
    elim g.last as (λ b. (if b then false else closes (k ∷ (x ++ h ∷ t))) ≡ true → closes (h ∷ t) ≡ true)
    [ true ↦ λ never. cc | false ↦ λ is. closes_behind (k ∷ x) h t is ] e

closes_last : {R : Type 0} (h : Part R) (t : List (Part R)) → closes (h ∷ t) ≡ true → h.last ≡ is_nil t
closes_last h [] e = elim h.last as (λ b. (if b then true else false) ≡ true → b ≡ true) [ true ↦ λ _. refl | false ↦ λ never. cc ] e
closes_last h (k ∷ t) e = elim h.last as (λ b. (if b then false else closes (k ∷ t)) ≡ true → b ≡ false) [ true ↦ λ never. cc | false ↦ λ _. refl ] e

pub last_is : {R : Type 0} (x : List (Part R)) (h : Part R) (t : List (Part R)) (o : Option R) → ArePiecesOf (x ++ h ∷ t) o → h.last ≡ is_nil t
last_is x h t o f = closes_last h t (closes_behind x h t f.ends)

-- behind a last piece stands none
pub none_behind : {R : Type 0} (x : List (Part R)) (h : Part R) (t : List (Part R)) (o : Option R) → h.last ≡ true → ArePiecesOf (x ++ h ∷ t) o → t ≡ []
none_behind x h t o e f = nil_is t (sym (last_is x h t o f) ∙ e)

pub nil_left : {X : Type 0} (x y : List X) → x ++ y ≡ [] → x ≡ []
nil_left [] y e = refl
nil_left (a ∷ x) y e = cc

pub nil_right : {X : Type 0} (x y : List X) → x ++ y ≡ [] → y ≡ []
nil_right [] y e = e
nil_right (a ∷ x) y e = cc

pub not_nil : {R : Type 0} (ps : List (Part R)) (o : Option R) → ArePiecesOf ps o → is_nil ps ≡ false
not_nil [] o f = let never = f.ends in cc
not_nil (h ∷ t) o f = refl

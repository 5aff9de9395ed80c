-- The path of a stage is what waits of the unit in its view, place by place: carried to members, forwarded, plain on the link to home, in
-- the queue, and diverted.
use Rattle.std.proofs.Common.{◌≡◌, ℕ, Bool, true, false, cond, ◌==◌, Option, Some, None, List, [], ◌∷◌, ◌++◌, map, refl, sym, subst, append_assoc, append-nil}
use Rattle.std.proofs.Common.{arith}
use Rattle.std.specs.List.{filter_map, flat_map}
use Rattle.std.proofs.lemmas.Bool.Decides.{nat_tests, Decides-eqb}
use Rattle.std.proofs.lemmas.List.Elements.{filter_map-append}
use Rattle.proof_machines.proofs.unit.Lists.{picked_each, picked_none}
use Rattle.proof_machines.proofs.share.Share.{Item, Item.Carry, Item.Fence, Item.Shared, Item.Diverted, Item.Forward, UnitShare, View, has, mine_in, only}
use Rattle.proof_machines.proofs.share.Share.{nowhere}
use Rattle.proof_machines.proofs.share.Stages.{Stage, Stage.Diverting, Stage.Fence_goes, Stage.Carries, shape, path, distinct, IsShare}
use Rattle.proof_machines.proofs.share.Lists.{self, apart_of}
use Rattle.proof_machines.proofs.Tests.{split}

-- what stands at these nodes, one node after the other
abbrev pub gather : {X : Type 0} → List ℕ → (ℕ → List X) → List X
gather ms g = flat_map g ms

abbrev carry_of : {R : Type 0} → Item R → Option ℕ
carry_of (Carry p) = Some p
carry_of x = None

abbrev pub carries : {R : Type 0} → List (Item R) → List ℕ
carries xs = filter_map carry_of xs

abbrev pub shared_of : {R : Type 0} → Item R → Option ℕ
shared_of (Shared p) = Some p
shared_of x = None

abbrev pub shared_in : {R : Type 0} → UnitShare R → List (Item R) → List ℕ
shared_in f xs = mine_in f (filter_map shared_of xs)

abbrev pub forward_of : {R : Type 0} → Item R → Option ℕ
forward_of (Forward p m) = Some p
forward_of x = None

abbrev pub forwarded : {R : Type 0} → UnitShare R → List (Item R) → List ℕ
forwarded f xs = mine_in f (filter_map forward_of xs)

abbrev pub divert_of : {R : Type 0} → Item R → Option ℕ
divert_of (Diverted p) = Some p
divert_of x = None

abbrev pub diverted : {R : Type 0} → UnitShare R → List (Item R) → List ℕ
diverted f xs = mine_in f (filter_map divert_of xs)

abbrev pub path_of : {R : Type 0} → UnitShare R → View R → List ℕ
path_of f x = shared_in f (gather f.members x.sw) ++ (forwarded f x.cs ++ (carries (x.sw f.home) ++ (mine_in f x.queue ++ diverted f x.sc)))

pub gather_none : {X : Type 0} (ms : List ℕ) → gather ms (nowhere {X = X}) ≡ []
gather_none [] = refl
gather_none (m ∷ ms) = gather_none ms

gather_outside : {X : Type 0} (ms : List ℕ) (h : ℕ) (xs : List X) → has ms h ≡ false → gather ms (only h xs) ≡ []
gather_outside [] h xs out = refl
gather_outside (m ∷ ms) h xs out =
    split (h == m) (λ b. cond b true (has ms h) ≡ false → cond (m == h) xs [] ++ gather ms (only h xs) ≡ []) (λ _ n. cc)
    (λ off n. let other : (m == h) ≡ false = grind (arith, nat_tests) in rw other (gather_outside ms h xs n)) out

-- what stands at one of the nodes alone
pub gather_only : {X : Type 0} (ms : List ℕ) (h : ℕ) (xs : List X) → distinct ms ≡ true → has ms h ≡ true → gather ms (only h xs) ≡ xs
gather_only [] h xs apart inside = cc
gather_only (m ∷ ms) h xs apart inside =
    let a = apart_of (has ms m) (distinct ms) apart in
    split (h == m) (λ b. cond b true (has ms h) ≡ true → cond (m == h) xs [] ++ gather ms (only h xs) ≡ xs)
    (λ t _.
    let same : h ≡ m = (Decides-eqb h m).0 t in
    let none = gather_outside ms h xs (subst (λ k. has ms k ≡ false) (sym same) a.0) in
    let back : (m == h) ≡ true = rw same (self m) in
    rw (back, none) (append-nil xs))
    (λ off n. let other : (m == h) ≡ false = grind (arith, nat_tests) in rw other (gather_only ms h xs a.1 n)) inside

abbrev carry : {R : Type 0} → ℕ → Item R
carry p = Carry p

abbrev shared : {R : Type 0} → ℕ → Item R
shared p = Shared p

abbrev divert : {R : Type 0} → ℕ → Item R
divert p = Diverted p

all_carries : (R : Type 0) (l : List ℕ) → carries (map (carry {R = R}) l) ≡ l
all_carries R l = picked_each carry_of carry (λ p. refl) l

no_shared : (R : Type 0) (l : List ℕ) → filter_map shared_of (map (carry {R = R}) l) ≡ []
no_shared R l = picked_none shared_of carry (λ p. refl) l

all_diverted : (R : Type 0) (v : List ℕ) → filter_map divert_of (map (divert {R = R}) v) ≡ v
all_diverted R v = picked_each divert_of divert (λ p. refl) v

-- at home nothing but plain packets counts as such, whichever member the share's packet is on its way to
not_plain : (R : Type 0) (b : Bool) (p : ℕ) → carries {R = R} (cond b (Shared p ∷ []) []) ≡ []
not_plain R true p = refl
not_plain R false p = refl

ruleset reads = (filter_map-append, all_carries, no_shared, all_diverted, not_plain, gather_none, append_assoc, append-nil)

pub path_is : {R : Type 0} (f : UnitShare R) → IsShare f → (s : Stage R) → path_of f (shape f s) ≡ path f s
path_is f is (Diverting d b l) = rw (gather_only f.members f.home (map carry l) is.apart is.home_in, self f.home) (simp reads)
path_is f is (Fence_goes d b l q v) = rw (gather_only f.members f.home (map carry l ++ Fence ∷ []) is.apart is.home_in, self f.home) (simp reads)
path_is f is (Carries d e p q v) = rw (gather_only f.members (f.member_of p) (shared p ∷ []) is.apart (is.member_in p)) (simp reads)
path_is f is s = simp reads

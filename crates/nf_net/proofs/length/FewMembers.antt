-- A share of some of n instances has at most n - 1 members besides one.
use Rattle.nf_net.proofs.Words.{◌≡◌, ℕ, suc, ◌+◌, ◌<◌, ◌≤◌, true, false, List, [], ◌∷◌, length, sym, ap, ◌∙◌, subst, arith, if◌then◌else◌, ◌||◌, ◌==◌, not}
use Rattle.nf_net.proofs.Words.{nat_lt, slice_index, list_any, nat_tests, Decides-eqb, Semantics, ShareState, home, others, Each, has, Given, split}
use Rattle.std.specs.Prelude.{filter}
use Rattle.std.proofs.lemmas.Map.Steps.{length-le_from_distinct_below}
use Rattle.proof_outlines.proofs.joined.Joined.{count, IsShare, IsOutAt}
use Rattle.nf_net.proofs.length.ControllerCosts.{HasFew}

-- the members but for one
abbrev but : ℕ → List ℕ → List ℕ
but one members = filter (λ member. not (member == one)) members

but_fewer : (one : ℕ) (members : List ℕ) → length (but one members) ≤ length members
but_fewer one [] = omega arith
but_fewer one (m ∷ ms) =
    let rest = but_fewer one ms in
    elim (m == one) as (λ b. length (if not b then m ∷ but one ms else but one ms) ≤ suc (length ms))
    [ true ↦ omega (arith, rest) | false ↦ omega (arith, rest) ]

-- are one less, where it is a member
but_one : (one : ℕ) (members : List ℕ) → has members one ≡ true → length (but one members) + 1 ≤ length members
but_one one [] h = cc
but_one one (m ∷ ms) h =
    split (m == one) (λ b. length (if not b then m ∷ but one ms else but one ms) + 1 ≤ suc (length ms))
    (λ e. let rest = but_fewer one ms in omega (arith, rest))
    (λ e.
    let off : (one == m) ≡ false = grind (arith, nat_tests, e) in
    let later : has ms one ≡ true = ap (λ b. if b then true else has ms one) (sym off) ∙ h in
    omega (arith, but_one one ms later))

each_below : (n : ℕ) (members : List ℕ) → Each (λ member. nat_lt member n ≡ true) members → (q : ℕ) → list_any (λ k. q == k) members ≡ true → q < n
each_below n [] h q e = cc
each_below n (m ∷ ms) h q e =
    split (q == m) (λ b. b || list_any (λ k. q == k) ms ≡ true → q < n)
    (λ is _. let same : q ≡ m = (Decides-eqb q m).0 is in
    let below : nat_lt m n ≡ true = h.0 in let low : m < n = grind (arith, nat_tests, below) in omega (arith, same, low))
    (λ _ rest. each_below n ms h.1 q rest) e

module _ {R : Type 0} (f : Semantics R) (g : Given) (o : ℕ) (count_is : count f g ≡ 1 + o) (op : ℕ) (s : ShareState) (is : IsShare f g op s) where
  few : length s.plan.members ≤ 1 + o
  few = let all = length-le_from_distinct_below s.plan.members (count f g) is.distinct (each_below (count f g) s.plan.members is.few) in
      omega (arith, all, count_is)

  others_few : (one : ℕ) → has s.plan.members one ≡ true → length (others s.plan one) ≤ o
  others_few one h = let less = but_one one s.plan.members h in let all = few in omega (arith, less, all)

  home_has : (members : List ℕ) → 1 < length members → has members (slice_index members 0) ≡ true
  home_has [] some = absurd (omega (arith, some))
  home_has (m ∷ ms) some = let same : (m == m) ≡ true = grind (arith, nat_tests) in ap (λ b. if b then true else has ms m) same

  -- so the share's messages are few
  pub has_few : HasFew o s
  has_few = record {
    at_home = others_few (home s.plan) (home_has s.plan.members is.some);
    at_member = λ member out. others_few member (subst (λ ph. IsOutAt f g s.plan.members ph) out is.out);
  }

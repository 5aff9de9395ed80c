-- What one field of two filters says, for numbers and prefixes alike.
use Rattle.std.proofs.Common.{◌≡◌, ℕ, ◌+◌, ◌-◌, ◌/◌, ◌%◌, ◌^◌, ◌<◌, ◌≤◌, ◌==◌, Bool, true, false, cond, eqb, leb}
use Rattle.std.proofs.Common.{◌&&◌, Option, None, Some, refl, ap, sym, ◌∙◌, arith, inl, inr, zero, suc, lit<}
use Rattle.std.specs.Prelude.{nat_eq}
use Rattle.std.specs.Option.{ForSome}
use Rattle.std.proofs.lemmas.Bool.{eqb-true, eq-eqb, eqb-false, ne_eqb, leb-true, leb-false, and_cases, and_parts, both_ways}
use Rattle.std.proofs.Math.Bool.{and-true, and_comm}
use Rattle.flow_filter.specs.declared.prefix.Prefix.{Prefix}
use Rattle.flow_filter.specs.Prefixes.{in_prefix}
use Rattle.flow_filter.specs.Filter.{holds, agrees, meet_value, meet_prefix, longer, covers_value, covers_prefix}
use Rattle.basics.proofs.BoolLemmas.{not_both, absorbed_left}
use Rattle.flow_filter.proofs.PrefixLemmas.{block_inside, block_own, block_whole, far_same, far_other, far_small}

-- a field of flows: how a filter's value for it is tested, and below which number a flow's own is
pub record Field (X : Type 0) : Type 0 where
  pub test : X → ℕ → Bool
  pub top : ℕ

-- a protocol or a port, below some number
abbrev pub number_below : ℕ → Field ℕ
number_below top = record { test = nat_eq; top = top }

abbrev pub address : Field Prefix
address = record { test = holds; top = 2 ^ 32 }

-- a number of a flow that agrees with a field
abbrev pub Agreeing : {X : Type 0} → Field X → Option X → Type 0
Agreeing field x = (a : ℕ) × (a < field.top) × (agrees field.test x a ≡ true)

-- what the meet of one field says: nothing agrees with both, or a field that agrees exactly with what both agree with, and a value
abbrev pub MeetsField : {X : Type 0} → Field X → Option X → Option X → Option (Option X) → Type 0
MeetsField field x y None = (a : ℕ) → (agrees field.test x a && agrees field.test y a) ≡ false
MeetsField field x y (Some z) =
    ((a : ℕ) → agrees field.test z a ≡ (agrees field.test x a && agrees field.test y a)) × Agreeing field z

-- two given numbers
numbers_meet : (top x y : ℕ) (same : Bool) → eqb x y ≡ same → x < top
    → MeetsField (number_below top) (Some x) (Some y) (cond same (Some (Some x)) None)
numbers_meet top x y true is small =
    ((λ a. absorbed_left (eqb x a) (eqb x a) (λ e. e) ∙ ap (λ n. eqb x a && eqb n a) (eqb-true x y is)), (x, small, eq-eqb x x refl))
numbers_meet top x y false is small = λ a. not_both (eqb x a) (eqb y a) (λ p q. eqb-false x y is (eqb-true x a p ∙ sym (eqb-true y a q)))

pub number_meets : (top : ℕ) (x y : Option ℕ) → 0 < top → ForSome x (λ n. n < top) → ForSome y (λ n. n < top)
    → MeetsField (number_below top) x y (meet_value nat_eq x y)
number_meets top None None pos fx fy = ((λ a. refl), (0, pos, refl))
number_meets top None (Some y) pos fx fy = ((λ a. refl), (y, fy y refl, eq-eqb y y refl))
number_meets top (Some x) None pos fx fy = ((λ a. sym (and-true (eqb x a))), (x, fx x refl, eq-eqb x x refl))
number_meets top (Some x) (Some y) pos fx fy = numbers_meet top x y (eqb x y) refl (fx x refl)

-- a shorter prefix and a longer one
prefixes_meet : (p q : Prefix) (inside : Bool) → p.len ≤ q.len → holds p q.bits ≡ inside → q.bits < 2 ^ 32
    → MeetsField address (Some p) (Some q) (cond inside (Some (Some q)) None)
prefixes_meet p q true le is small = (
  (λ a. absorbed_left (holds p a) (holds q a) (λ e. block_inside p.bits p.len q.bits q.len a le e ∙ is)),
  (q.bits, small, block_own q.bits q.len),
)
prefixes_meet p q false le is small =
    λ a. not_both (holds p a) (holds q a) (λ at_p at_q. both_ways (holds p a) (block_inside p.bits p.len q.bits q.len a le at_q ∙ is) at_p)

-- the same two fields, the other way round
meets_back : {X : Type 0} (field : Field X) (x y : Option X) (met : Option (Option X)) → MeetsField field y x met → MeetsField field x y met
meets_back field x y None far = λ a. and_comm (agrees field.test x a) (agrees field.test y a) ∙ far a
meets_back field x y (Some z) h = ((λ a. h.0 a ∙ and_comm (agrees field.test y a) (agrees field.test x a)), h.1)

-- by which is longer
longer_meets : (p q : Prefix) (first : Bool) → leb p.len q.len ≡ first → p.bits < 2 ^ 32 → q.bits < 2 ^ 32
    → MeetsField address (Some p) (Some q)
    (cond first (cond (holds p q.bits) (Some (Some q)) None) (cond (holds q p.bits) (Some (Some p)) None))
longer_meets p q true is fp fq = prefixes_meet p q (holds p q.bits) (leb-true p.len q.len is) refl fq
longer_meets p q false is fp fq =
    let less : q.len < p.len = leb-false p.len q.len is in
    meets_back address (Some p) (Some q) (cond (holds q p.bits) (Some (Some p)) None) (prefixes_meet q p (holds q p.bits) (omega arith) refl fp)

pub prefix_meets : (x y : Option Prefix) → ForSome x (λ p. p.bits < 2 ^ 32) → ForSome y (λ p. p.bits < 2 ^ 32)
    → MeetsField address x y (meet_prefix x y)
prefix_meets None None fx fy = ((λ a. refl), (0, lit< tt, refl))
prefix_meets None (Some q) fx fy = ((λ a. refl), (q.bits, fy q refl, block_own q.bits q.len))
prefix_meets (Some p) None fx fy = ((λ a. sym (and-true (holds p a))), (p.bits, fx p refl, block_own p.bits p.len))
prefix_meets (Some p) (Some q) fx fy = longer_meets p q (leb p.len q.len) refl (fx p refl) (fy q refl)

-- what the cover of one field says: each value that agrees with the second agrees with the first, or one doesn't
pub record CoversField {X : Type 0} (field : Field X) (x y : Option X) (covered : Bool) : Type 0 where
  pub some : Agreeing field y
  pub yes : covered ≡ true → (a : ℕ) → a < field.top → agrees field.test y a ≡ true → agrees field.test x a ≡ true
  pub never : covered ≡ false → (a : ℕ) × (a < field.top) × (agrees field.test y a ≡ true) × (agrees field.test x a ≡ false)

-- a number below `top` that isn't x
other_number : (top x : ℕ) → 1 < top → (a : ℕ) × (a < top) × (true ≡ true) × (eqb x a ≡ false)
other_number top zero big = (1, big, refl, refl)
other_number top (suc x) big = (0, omega arith, refl, ne_eqb (suc x) 0 (omega arith))

pub number_covers : (top : ℕ) (x y : Option ℕ) → 1 < top → ForSome y (λ n. n < top)
    → CoversField (number_below top) x y (covers_value nat_eq x y)
number_covers top None None big fy = record {
  some = (0, omega arith, refl);
  yes = λ is a small at_y. refl;
  never = λ is. cc;
}
number_covers top None (Some y) big fy = record {
  some = (y, fy y refl, eq-eqb y y refl);
  yes = λ is a small at_y. refl;
  never = λ is. cc;
}
number_covers top (Some x) None big fy = record {
  some = (0, omega arith, refl);
  yes = λ is a small at_y. cc;
  never = λ is. other_number top x big;
}
number_covers top (Some x) (Some y) big fy = record {
  some = (y, fy y refl, eq-eqb y y refl);
  yes = λ is a small at_y. eq-eqb x a (eqb-true x y is ∙ eqb-true y a at_y);
  never = λ is. (y, fy y refl, eq-eqb y y refl, is);
}

positive : (n : ℕ) → (n ≡ 0 → ⊥) → 0 < n
positive zero never = absurd (never refl)
positive (suc n) never = omega arith

-- a prefix that is longer than another doesn't have all of its addresses
longer_misses : (pb plen qb qlen : ℕ) (own : Bool) → qlen < plen → plen ≤ 32 → qb < 2 ^ 32 → qb % 2 ^ (32 - qlen) ≡ 0
    → in_prefix pb plen qb ≡ own → (a : ℕ) × (a < 2 ^ 32) × (in_prefix qb qlen a ≡ true) × (in_prefix pb plen a ≡ false)
longer_misses pb plen qb qlen false lt top small aligned is = (qb, small, block_own qb qlen, is)
longer_misses pb plen qb qlen true lt top small aligned is = (
  qb + 2 ^ (32 - plen),
  far_small (32 - plen) (32 - qlen) qb (omega arith) (omega arith) small aligned,
  eq-eqb _ _ (far_same (32 - plen) (32 - qlen) qb (omega arith) aligned),
  ne_eqb _ _ (λ e. let own : qb / 2 ^ (32 - plen) ≡ pb / 2 ^ (32 - plen) = eqb-true _ _ is in
      let far = far_other (32 - plen) qb in omega arith),
)

-- two given prefixes
prefixes_cover : (p q : Prefix) → q.bits < 2 ^ 32 → CoversField address (Some p) (Some q) (leb p.len q.len && holds p q.bits)
prefixes_cover p q small = record {
  some = (q.bits, small, block_own q.bits q.len);
  yes = λ is a below at_q. let parts = and_parts (leb p.len q.len) (holds p q.bits) is in
      block_inside p.bits p.len q.bits q.len a (leb-true _ _ parts.0) at_q ∙ parts.1;
  never = λ is. elim (and_cases (leb p.len q.len) (holds p q.bits) is) [
    | inl longer ↦ longer_misses p.bits p.len q.bits q.len (holds p q.bits) (leb-false _ _ longer) p.within small q.aligned refl
    | inr outside ↦ (q.bits, small, block_own q.bits q.len, outside)
  ];
}

-- a given prefix against a field that isn't given
prefix_covers_all : (p : Prefix) → p.bits < 2 ^ 32 → CoversField address (Some p) None (p.len == 0)
prefix_covers_all p small = record {
  some = (0, lit< tt, refl);
  yes = λ is a below at_q. ap (λ n. in_prefix p.bits n a) (eqb-true p.len 0 is) ∙ block_whole p.bits a small below;
  never = λ is. let some : 0 < p.len = positive p.len (eqb-false p.len 0 is) in
      let far = longer_misses p.bits p.len 0 0 (holds p 0) some p.within (lit< tt) refl refl in
      (far.0, far.1, refl, far.3);
}

pub prefix_covers : (x y : Option Prefix) → ForSome x (λ p. p.bits < 2 ^ 32) → ForSome y (λ p. p.bits < 2 ^ 32)
    → CoversField address x y (covers_prefix x y)
prefix_covers None None fx fy = record {
  some = (0, lit< tt, refl);
  yes = λ is a small at_y. refl;
  never = λ is. cc;
}
prefix_covers None (Some q) fx fy = record {
  some = (q.bits, fy q refl, block_own q.bits q.len);
  yes = λ is a small at_y. refl;
  never = λ is. cc;
}
prefix_covers (Some p) None fx fy = prefix_covers_all p (fx p refl)
prefix_covers (Some p) (Some q) fx fy = prefixes_cover p q (fy q refl)

-- Under its mask a filter matches a flow exactly where the values are its own.
use Rattle.std.proofs.Common.{◌≡◌, ℕ, ◌+◌, ◌-◌, ◌*◌, ◌/◌, ◌%◌, ◌^◌, ◌<◌, Bool, true, false, eqb, ◌&&◌}
use Rattle.std.proofs.Common.{Option, None, Some, is_some, unwrap_or, refl, ap, sym, ◌∙◌, arith}
use Rattle.std.specs.Prelude.{nat_eq}
use Rattle.std.specs.Bool.{beq}
use Rattle.std.specs.Option.{option_map_or}
use Rattle.std.proofs.lemmas.Bool.{eqb-true, eqb-false, eq-eqb, ne_eqb, and_parts, true≢false, false_from_ne_true}
use Rattle.std.proofs.lemmas.Nat.{shr_split, pow_pos}
use Rattle.std.proofs.Math.Nat.{div-eq_of_lt, mul-div_cancel}
use Rattle.std.proofs.Math.Bool.{and-false, and-true}
use Rattle.flow_filter.specs.declared.prefix.Prefix.{Prefix}
use Rattle.flow_filter.specs.declared.flow.Flow.{Flow}
use Rattle.flow_filter.specs.declared.filter.Filter.{Filter}
use Rattle.flow_filter.specs.Flow.{flow_eq}
use Rattle.flow_filter.specs.Filter.{holds, agrees, matches, IsFlow}
use Rattle.switch_rules.specs.declared.mask.Mask.{Mask}
use Rattle.switch_rules.specs.Masks.{mask_of, values_of, where_given, front, masked, mask_eq}

-- an address whose last bits are zeros is the front of another exactly where their fronts are equal
front_test : (s b a : ℕ) → b % 2 ^ s ≡ 0 → eqb (a / 2 ^ s) (b / 2 ^ s) ≡ eqb b (a / 2 ^ s * 2 ^ s)
front_test s b a aligned =
    let split : b / 2 ^ s * 2 ^ s + b % 2 ^ s ≡ b = shr_split b s in
    let whole : b / 2 ^ s * 2 ^ s ≡ b = omega arith in
    elim (eqb (a / 2 ^ s) (b / 2 ^ s)) as (λ t. eqb (a / 2 ^ s) (b / 2 ^ s) ≡ t → t ≡ eqb b (a / 2 ^ s * 2 ^ s)) [
      | true ↦ λ is. sym (eq-eqb b (a / 2 ^ s * 2 ^ s) (sym whole ∙ ap (λ n. n * 2 ^ s) (sym (eqb-true _ _ is))))
      | false ↦ λ is. sym (ne_eqb b (a / 2 ^ s * 2 ^ s) (λ e. eqb-false _ _ is (sym (ap (λ n. n / 2 ^ s) e ∙ mul-div_cancel (a / 2 ^ s) (pow_pos s)))))
    ] refl

-- the front of length 0 is 0
front_none : (a : ℕ) → a < 2 ^ 32 → front 0 a ≡ 0
front_none a small = ap (λ n. n * 2 ^ 32) (div-eq_of_lt small)

-- what one field of a filter says, and how many bits it gives
abbrev len_of : Option Prefix → ℕ
len_of x = option_map_or (λ p. p.len) x 0

abbrev bits_of : Option Prefix → ℕ
bits_of x = option_map_or (λ p. p.bits) x 0

number_matches : (x : Option ℕ) (a : ℕ) → agrees nat_eq x a ≡ eqb (unwrap_or x 0) (where_given (is_some x) a)
number_matches None a = refl
number_matches (Some x) a = refl

prefix_matches : (x : Option Prefix) (a : ℕ) → a < 2 ^ 32 → agrees holds x a ≡ eqb (bits_of x) (front (len_of x) a)
prefix_matches None a small = sym (eq-eqb 0 (front 0 a) (sym (front_none a small)))
prefix_matches (Some p) a small = front_test (32 - p.len) p.bits a p.aligned

-- the five tests in the order in which flows are compared
five_in_order : (p l lp r rp : Bool) → (p && l && lp && r && rp) ≡ (l && (r && (lp && (rp && p))))
five_in_order p false lp r rp = ap (λ b. b && lp && r && rp) (and-false p)
five_in_order true true false r rp = sym (and-false r)
five_in_order true true true false rp = refl
five_in_order true true true true rp = sym (and-true rp)
five_in_order false true lp false rp = refl
five_in_order false true false true rp = refl
five_in_order false true true true rp = sym (and-false rp)

matches_by_field : {p l lp r rp p' l' lp' r' rp' : Bool} → p ≡ p' → l ≡ l' → lp ≡ lp' → r ≡ r' → rp ≡ rp'
    → (p && l && lp && r && rp) ≡ (l' && (r' && (lp' && (rp' && p'))))
matches_by_field {p' = p} {l' = l} {lp' = lp} {r' = r} {rp' = rp} is_p is_l is_lp is_r is_rp = rw (is_p, is_l, is_lp, is_r, is_rp) (five_in_order p l lp r rp)

-- a flow matches a filter exactly where it has the filter's values under its mask
pub matches-masked : (f : Filter) (flow : Flow) → IsFlow flow → matches f flow ≡ flow_eq (values_of f) (masked (mask_of f) flow)
matches-masked f flow fits = matches_by_field
    (number_matches f.proto flow.proto) (prefix_matches f.local flow.local fits.local) (number_matches f.lport flow.lport)
    (prefix_matches f.remote flow.remote fits.remote) (number_matches f.rport flow.rport)

-- masks that are equal by their test are the same
beq_same : (a b : Bool) → beq a b ≡ true → a ≡ b
beq_same true true e = refl
beq_same false false e = refl
beq_same true false e = sym e
beq_same false true e = e

pub mask_eq_same : (a b : Mask) → mask_eq a b ≡ true → a ≡ b
mask_eq_same a b e =
    let proto = and_parts (beq a.proto b.proto) _ e in let local = and_parts (eqb a.local b.local) _ proto.1 in
    let lport = and_parts (beq a.lport b.lport) _ local.1 in let remote = and_parts (eqb a.remote b.remote) _ lport.1 in
    let same_proto = beq_same _ _ proto.0 in let same_local = eqb-true _ _ local.0 in let same_lport = beq_same _ _ lport.0 in
    let same_remote = eqb-true _ _ remote.0 in let same_rport = beq_same _ _ remote.1 in
    λ i. record { proto = same_proto i; local = same_local i; lport = same_lport i; remote = same_remote i; rport = same_rport i }

beq_refl : (a : Bool) → beq a a ≡ true
beq_refl true = refl
beq_refl false = refl

pub mask_eq_refl : (a : Mask) → mask_eq a a ≡ true
mask_eq_refl a = rw (beq_refl a.proto, beq_refl a.lport, beq_refl a.rport, eq-eqb a.local a.local refl, eq-eqb a.remote a.remote refl) refl

pub mask_eq_flips : (a b : Mask) → mask_eq a b ≡ mask_eq b a
mask_eq_flips a b = elim (mask_eq a b) as (λ t. mask_eq a b ≡ t → t ≡ mask_eq b a) [
  | true ↦ λ is. let same = mask_eq_same a b is in sym (ap (λ m. mask_eq m a) (sym same) ∙ mask_eq_refl a)
  | false ↦ λ is. sym (false_from_ne_true (mask_eq b a) (λ back. true≢false (sym (mask_eq_refl a) ∙ ap (mask_eq a) (sym (mask_eq_same b a back)) ∙ is)))
] refl

-- flows that are equal by their test are the same
pub flow_eq_same : (a b : Flow) → flow_eq a b ≡ true → a ≡ b
flow_eq_same a b e =
    let local = and_parts (eqb a.local b.local) _ e in let remote = and_parts (eqb a.remote b.remote) _ local.1 in
    let lport = and_parts (eqb a.lport b.lport) _ remote.1 in let rport = and_parts (eqb a.rport b.rport) _ lport.1 in
    let same_local = eqb-true _ _ local.0 in let same_remote = eqb-true _ _ remote.0 in let same_lport = eqb-true _ _ lport.0 in
    let same_rport = eqb-true _ _ rport.0 in let same_proto = eqb-true _ _ rport.1 in
    λ i. record { local = same_local i; remote = same_remote i; lport = same_lport i; rport = same_rport i; proto = same_proto i }

pub flow_eq_refl : (a : Flow) → flow_eq a a ≡ true
flow_eq_refl a =
    rw (eq-eqb a.local a.local refl, eq-eqb a.remote a.remote refl, eq-eqb a.lport a.lport refl, eq-eqb a.rport a.rport refl, eq-eqb a.proto a.proto refl)
    refl

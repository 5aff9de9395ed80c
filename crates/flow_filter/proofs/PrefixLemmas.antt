-- Blocks of addresses, as quotients of plain numbers.
use Rattle.std.proofs.Common.{◌≡◌, ℕ, ◌+◌, ◌-◌, ◌*◌, ◌/◌, ◌%◌, ◌^◌, ◌<◌, ◌≤◌, true, eqb, refl, ap, sym, ◌∙◌, arith}
use Rattle.std.proofs.lemmas.Nat.{shr-shr, pow-add, pow_pos, pow_below, shr_split, shr_below}
use Rattle.std.proofs.Math.Nat.{div-eq_of_lt, add-mul-div_right, mul-le-mul_right}
use Rattle.std.proofs.lemmas.Bool.{eqb-true, eq-eqb}
use Rattle.std.proofs.lemmas.Nat.{div-mul-add}
use Rattle.flow_filter.specs.Prefixes.{in_prefix}

-- addresses that agree down to bit s agree down to a higher bit t
pub same_front : (s t a b : ℕ) → s ≤ t → a / 2 ^ s ≡ b / 2 ^ s → a / 2 ^ t ≡ b / 2 ^ t
same_front s t a b le e =
    let split : s + (t - s) ≡ t = omega arith in
    let left : a / 2 ^ s / 2 ^ (t - s) ≡ a / 2 ^ t = shr-shr a s (t - s) ∙ ap (λ n. a / 2 ^ n) split in
    let right : b / 2 ^ s / 2 ^ (t - s) ≡ b / 2 ^ t = shr-shr b s (t - s) ∙ ap (λ n. b / 2 ^ n) split in
    sym left ∙ ap (λ n. n / 2 ^ (t - s)) e ∙ right

-- a block with the bits of another block's address has all of its addresses, or none
pub block_inside : (pb plen qb qlen a : ℕ) → plen ≤ qlen → in_prefix qb qlen a ≡ true → in_prefix pb plen a ≡ in_prefix pb plen qb
block_inside pb plen qb qlen a le h =
    ap (λ n. eqb n (pb / 2 ^ (32 - plen))) (same_front (32 - qlen) (32 - plen) a qb (omega arith) (eqb-true _ _ h))

-- a block has its own bits
pub block_own : (b len : ℕ) → in_prefix b len b ≡ true
block_own b len = eq-eqb _ _ refl

-- the block of length 0 has every address
pub block_whole : (b a : ℕ) → b < 2 ^ 32 → a < 2 ^ 32 → in_prefix b 0 a ≡ true
block_whole b a small below = eq-eqb _ _ (div-eq_of_lt below ∙ sym (div-eq_of_lt small))

-- the address half a block or less after the first one of a block at bit t is in the block, and in another one at bit s
pub far_same : (s t b : ℕ) → s < t → b % 2 ^ t ≡ 0 → (b + 2 ^ s) / 2 ^ t ≡ b / 2 ^ t
far_same s t b lt aligned =
    let less : 2 ^ s < 2 ^ t = pow_below s t lt in
    let whole : b / 2 ^ t * 2 ^ t + b % 2 ^ t ≡ b = shr_split b t in
    let whole' : b / 2 ^ t * 2 ^ t ≡ b = omega arith in
    ap (λ n. (n + 2 ^ s) / 2 ^ t) (sym whole') ∙ div-mul-add (b / 2 ^ t) (2 ^ t) (2 ^ s) less

pub far_other : (s b : ℕ) → (b + 2 ^ s) / 2 ^ s ≡ b / 2 ^ s + 1
far_other s b =
    let one : b + 2 ^ s ≡ b + 1 * 2 ^ s = omega arith in
    ap (λ n. n / 2 ^ s) one ∙ add-mul-div_right b 1 (pow_pos s)

-- it is still an address
pub far_small : (s t b : ℕ) → s < t → t ≤ 32 → b < 2 ^ 32 → b % 2 ^ t ≡ 0 → b + 2 ^ s < 2 ^ 32
far_small s t b lt top small aligned =
    let less : 2 ^ s < 2 ^ t = pow_below s t lt in
    let sum : (32 - t) + t ≡ 32 = omega arith in
    let split : 2 ^ (32 - t) * 2 ^ t ≡ 2 ^ 32 = sym (pow-add 2 (32 - t) t) ∙ ap (λ n. 2 ^ n) sum in
    let whole : b / 2 ^ t * 2 ^ t + b % 2 ^ t ≡ b = shr_split b t in
    let front : b / 2 ^ t < 2 ^ (32 - t) = shr_below b (32 - t) t (rw sum small) in
    let next : (b / 2 ^ t + 1) * 2 ^ t ≤ 2 ^ (32 - t) * 2 ^ t = mul-le-mul_right (2 ^ t) (omega arith) in
    let more : (b / 2 ^ t + 1) * 2 ^ t ≡ b / 2 ^ t * 2 ^ t + 2 ^ t = grind arith in
    omega arith

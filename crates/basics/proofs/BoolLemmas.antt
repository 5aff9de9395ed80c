-- Plain facts on tests joined by `&&`.
use Rattle.std.proofs.Common.{◌≡◌, Bool, true, false, ◌&&◌, refl, sym}

-- tests that are never true together
pub not_both : (p q : Bool) → (p ≡ true → q ≡ true → ⊥) → (p && q) ≡ false
not_both true true never = absurd (never refl refl)
not_both true false never = refl
not_both false q never = refl

-- a test that implies another absorbs it
pub absorbed_left : (p q : Bool) → (q ≡ true → p ≡ true) → q ≡ (p && q)
absorbed_left true q given = refl
absorbed_left false true given = sym (given refl)
absorbed_left false false given = refl

-- two pairs, joined crosswise
pub and_cross : (a b c d : Bool) → ((a && b) && (c && d)) ≡ ((a && c) && (b && d))
and_cross false b c d = refl
and_cross true b true d = refl
and_cross true true false d = refl
and_cross true false false d = refl

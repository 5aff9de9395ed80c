-- Remainders stay where the number is taken off, once or several times.
use Rattle.std.proofs.Common.{◌≡◌, ◌<◌, ◌≤◌, ◌+◌, ◌-◌, ◌*◌, ℕ, ap, sym, subst, ◌∙◌, arith}
use Rattle.std.specs.Prelude.{◌%◌}
use Rattle.std.proofs.Math.Nat.{add-mod_right, mod-eq_of_lt, mul-add-mod_self_right}

pub less_one : (w n : ℕ) → n ≤ w → (w - n) % n ≡ w % n
less_one w n most =
    let whole : (w - n) + n ≡ w = omega arith in
    sym (add-mod_right (w - n) n) ∙ ap (λ x. x % n) whole

pub less_some : (w n q : ℕ) → q * n ≤ w → (w - q * n) % n ≡ w % n
less_some w n q most =
    let whole : q * n + (w - q * n) ≡ w = omega arith in
    sym (mul-add-mod_self_right q n (w - q * n)) ∙ ap (λ x. x % n) whole

-- what is left of a word by a quotient, less the number once or not at all, is the remainder where it is less than the number
pub remainder_is : (w n q whole left r : ℕ) → whole ≡ q * n → whole ≤ w → left ≡ w - whole → r % n ≡ left % n → r < n → r ≡ w % n
remainder_is w n q whole left r is most rest once less =
    sym (mod-eq_of_lt less) ∙ once ∙ ap (λ x. x % n) (rest ∙ ap (λ p. w - p) is) ∙ less_some w n q (subst (λ p. p ≤ w) is most)

-- Services of which each comes before the next rise, and only those.
use Rattle.std.proofs.Common.{◌≡◌, ◌∙◌, ◌<◌, ◌+◌, ℕ, suc, Bool, true, false, List, [], ◌∷◌, length, get_or, add-one, refl, sym, ap, arith}
use Rattle.std.specs.List.{IsAllAdjacentAnswer}
use Rattle.std.specs.Ordering.{is_lt}
use Rattle.std.proofs.lemmas.Bool.{and_from}
use Rattle.asset_monitor.specs.declared.service.Service.{Service}
use Rattle.asset_monitor.specs.Services.{end_cmp, is_rising}
use Rattle.asset_monitor.specs.ServiceLemmas.{before_all, rising_pair}

-- each comes before the next
abbrev AreAdjacent : List Service → Type 0
AreAdjacent xs = (k : ℕ) (d : Service) → suc k < length xs → true ≡ is_lt (end_cmp (get_or xs k d) (get_or xs (suc k) d))

rising_from_adjacent : (xs : List Service) → AreAdjacent xs → is_rising xs ≡ true
rising_from_adjacent [] h = refl
rising_from_adjacent (x ∷ []) h = refl
rising_from_adjacent (x ∷ y ∷ more) h =
    let rest : is_rising (y ∷ more) ≡ true = rising_from_adjacent (y ∷ more) (λ k d below. h (suc k) d (omega (arith, below))) in
    let first : is_lt (end_cmp x y) ≡ true = sym (h 0 x (omega arith)) in
    and_from _ _ (before_all x y more first rest) rest

not_rising : (xs : List Service) (k : ℕ) → k + 1 < length xs → ((d : Service) → false ≡ is_lt (end_cmp (get_or xs k d) (get_or xs (k + 1) d))) → (b : Bool)
    → is_rising xs ≡ b
    → false ≡ b
not_rising xs k in_range h false e = refl
not_rising [] k in_range h true e = absurd (omega (arith, in_range))
not_rising (x ∷ xs) k in_range h true e = h x ∙ ap is_lt (rising_pair (x ∷ xs) e k (k + 1) x (omega arith) in_range)

pub rising_decided : (xs : List Service) (r : Bool) → IsAllAdjacentAnswer (λ x y b. b ≡ is_lt (end_cmp x y)) xs r → r ≡ is_rising xs
rising_decided xs true h = sym (rising_from_adjacent xs (λ k d below. rw (← add-one k) (h k d (omega (arith, below)))))
rising_decided xs false h = not_rising xs h.0 h.1 h.2 (is_rising xs) refl

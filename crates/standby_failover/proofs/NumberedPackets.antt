-- Among packets that are numbered from 1 the one with a number stands at its place.
use Rattle.standby_failover.proofs.Words.{◌≡◌, ℕ, zero, suc, ◌+◌, ◌-◌, ◌<◌, ◌≤◌, true, false, Option, None, List, [], ◌∷◌, refl, ap, ◌∙◌, arith, ◌==◌, find}
use Rattle.standby_failover.proofs.Words.{slice_get, nat_tests, Packet}
use Rattle.trace_reader.specs.Records.{AreNumbered}

-- the packet with a number
abbrev pub found : List Packet → ℕ → Option Packet
found ps n = find (λ p. p.number == n) ps

-- numbers below the first are none's
pub none_below : (first n : ℕ) (ps : List Packet) → AreNumbered first ps → n < first → found ps n ≡ None
none_below first n [] h few = refl
none_below first n (p ∷ ps) h few =
    let off : (p.number == n) ≡ false = grind (arith, nat_tests, h.0, few) in
    rw off (none_below (first + 1) n ps h.1 (omega (arith, few)))

found_at : (first place : ℕ) (ps : List Packet) → AreNumbered first ps → found ps (first + place) ≡ slice_get ps place
found_at first place [] h = refl
found_at first zero (p ∷ ps) h = let on : (p.number == first + 0) ≡ true = grind (arith, nat_tests, h.0) in rw on refl
found_at first (suc place) (p ∷ ps) h =
    let off : (p.number == first + suc place) ≡ false = grind (arith, nat_tests, h.0) in
    let next : first + suc place ≡ (first + 1) + place = omega arith in
    rw off (ap (found ps) next ∙ found_at (first + 1) place ps h.1)

pub found_number : (n : ℕ) (ps : List Packet) → AreNumbered 1 ps → 1 ≤ n → found ps n ≡ slice_get ps (n - 1)
found_number n ps h some = let same : n ≡ 1 + (n - 1) = omega (arith, some) in ap (found ps) same ∙ found_at 1 (n - 1) ps h

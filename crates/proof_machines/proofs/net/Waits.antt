-- What it means that the numbers of waiting commands rise.
use Rattle.std.proofs.Common.{ℕ, suc, ◌≤◌, List, [], ◌∷◌, arith}

abbrev pub Rising : ℕ → List ℕ → Type 0
Rising b [] = Unit {0}
Rising b (k ∷ ks) = (b ≤ k) × Rising (suc k) ks

pub rising_less : (b c : ℕ) (ks : List ℕ) → b ≤ c → Rising c ks → Rising b ks
rising_less b c [] e h = tt
rising_less b c (k ∷ ks) e h = let f = h.0 in (omega (arith, e, f), h.1)

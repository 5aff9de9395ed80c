-- Packets and their numbers, where these rise: a number that one of them has finds that one, and no other.
use Rattle.run_headline.proofs.Words.{◌≡◌, ℕ, suc, ◌+◌, ◌<◌, ◌≤◌, Bool, true, false, cond, Some, List, [], ◌∷◌, map, refl, sym, ap, ◌∙◌, subst, arith, ◌==◌}
use Rattle.run_headline.proofs.Words.{if◌then◌else◌, filter, find, unwrap_or, AllByRecursion, nat_tests, Decides-eqb, Packet, times, IsRising, no_packet}
use Rattle.run_headline.proofs.FoundNumbers.{IsFound}

abbrev pub numbers : List Packet → List ℕ
numbers ps = map (λ p. p.number) ps

-- those that pass a test
pub filter_numbers : (mine : ℕ → Bool) (part : Packet → Bool) (ps : List Packet) → AllByRecursion (λ p. mine p.number ≡ part p) ps
    → filter mine (numbers ps) ≡ numbers (filter part ps)
filter_numbers mine part [] all = refl
filter_numbers mine part (p ∷ ps) all =
    subst (λ b. cond b (p.number ∷ filter mine (numbers ps)) (filter mine (numbers ps)) ≡ numbers (cond (part p) (p ∷ filter part ps) (filter part ps)))
    (sym all.0)
    (elim (part p) as (λ b. cond b (p.number ∷ filter mine (numbers ps)) (filter mine (numbers ps)) ≡ numbers (cond b (p ∷ filter part ps) (filter part ps))) [
      | true ↦ ap (λ l. p.number ∷ l) (filter_numbers mine part ps all.1)
      | false ↦ filter_numbers mine part ps all.1
    ])

-- a number below those that rise isn't there
none_below : (n least : ℕ) (ps : List Packet) → IsRising least (numbers ps) → n < least → filter (λ p. p.number == n) ps ≡ []
none_below n least [] rising low = refl
none_below n least (p ∷ ps) rising low =
    let first = rising.0 in
    let off : (p.number == n) ≡ false = grind (arith, nat_tests, low, first) in
    rw off (none_below n (suc p.number) ps rising.1 (omega (arith, low, first)))

module _ (all : List Packet) where
  -- the packet with a number
  abbrev pub numbered : ℕ → Packet
  numbered n = unwrap_or (find (λ p. p.number == n) all) no_packet

  pub numbered_is : (p : Packet) → IsFound (λ q. q.number) all p → numbered p.number ≡ p
  numbered_is p there = ap (λ o. unwrap_or o no_packet) there

  pub all_numbered : (ps : List Packet) → AllByRecursion (IsFound (λ q. q.number) all) ps → map numbered (numbers ps) ≡ ps
  all_numbered [] there = refl
  all_numbered (p ∷ ps) there = ap (λ q. q ∷ map numbered (numbers ps)) (numbered_is p there.0) ∙ ap (λ l. p ∷ l) (all_numbered ps there.1)

  pub tests_agree : (test : Packet → Bool) (ps : List Packet) → AllByRecursion (IsFound (λ q. q.number) all) ps
      → AllByRecursion (λ p. test (numbered p.number) ≡ test p) ps
  tests_agree test [] there = tt
  tests_agree test (p ∷ ps) there = (ap test (numbered_is p there.0), tests_agree test ps there.1)

  pub filter_numbered : (part : Packet → Bool) (ns : List ℕ) → filter part (map numbered ns) ≡ map numbered (filter (λ n. part (numbered n)) ns)
  filter_numbered part [] = refl
  filter_numbered part (n ∷ ns) = elim (part (numbered n)) as (λ b. cond b (numbered n ∷ filter part (map numbered ns)) (filter part (map numbered ns))
      ≡ map numbered (cond b (n ∷ filter (λ m. part (numbered m)) ns) (filter (λ m. part (numbered m)) ns))) [
        | true ↦ ap (λ l. numbered n ∷ l) (filter_numbered part ns)
        | false ↦ filter_numbered part ns
      ]

-- a number that one of them has
pub has_number : (n : ℕ) (ps : List Packet) → 1 ≤ times n (numbers ps) → (numbered ps n).number ≡ n
has_number n [] some = absurd (omega (arith, some))
has_number n (p ∷ ps) some = elim (p.number == n) as (λ b. (p.number == n) ≡ b
    → (unwrap_or (if b then Some p else find (λ q. q.number == n) ps) no_packet).number ≡ n) [
      | true ↦ λ is. (Decides-eqb p.number n).0 is
      | false ↦ λ off.
          let turned : (n == p.number) ≡ false = grind (arith, nat_tests) in
          let rest : 0 + times n (numbers ps) ≡ times n (p.number ∷ numbers ps) = rw turned refl in
          has_number n ps (omega (arith, some, rest))
    ] refl

pub one_found : (n least : ℕ) (ps : List Packet) → IsRising least (numbers ps) → 1 ≤ times n (numbers ps)
    → filter (λ p. p.number == n) ps ≡ numbered ps n ∷ []
one_found n least [] rising some = absurd (omega (arith, some))
one_found n least (p ∷ ps) rising some = elim (p.number == n) as (λ b. (p.number == n) ≡ b
    → cond b (p ∷ filter (λ q. q.number == n) ps) (filter (λ q. q.number == n) ps)
    ≡ unwrap_or (if b then Some p else find (λ q. q.number == n) ps) no_packet ∷ []) [
      | true ↦ λ is.
          let same : p.number ≡ n = (Decides-eqb p.number n).0 is in
          ap (λ l. p ∷ l) (none_below n (suc p.number) ps rising.1 (omega (arith, same)))
      | false ↦ λ off.
          let turned : (n == p.number) ≡ false = grind (arith, nat_tests) in
          let rest : 0 + times n (numbers ps) ≡ times n (p.number ∷ numbers ps) = rw turned refl in
          one_found n (suc p.number) ps rising.1 (omega (arith, some, rest))
    ] refl

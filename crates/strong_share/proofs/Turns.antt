-- How many members have yet to answer, where a turn changes and where the chunk goes to all but one; and any such count where one changes.
use Rattle.strong_share.proofs.Words.{◌≡◌, ℕ, zero, suc, ◌+◌, ◌<◌, ◌≤◌, Bool, true, false, refl, ap, arith, if◌then◌else◌, ◌==◌, nat_tests, Decides-eqb}
use Rattle.strong_share.proofs.Lists.{put}
use Rattle.strong_share.proofs.ServedPackets.{Turn, Turn.Going, Turn.Quiet, is_pending, one_if, count_below, pending}

-- a count after one of those that are counted changes
module _ {X : Type 0} (test : X → Bool) (g : ℕ → X) (j : ℕ) (y : X) where
  count_over : (n : ℕ) → n ≤ j → count_below (λ k. test (put g j y k)) n ≡ count_below (λ k. test (g k)) n
  count_over zero over = refl
  count_over (suc k) over =
      let other : (k == j) ≡ false = grind (arith, nat_tests, over) in
      rw (count_over k (omega (arith, over)), other) refl

  pub count_put : (n : ℕ) → j < n
      → count_below (λ k. test (put g j y k)) n + one_if (test (g j)) ≡ count_below (λ k. test (g k)) n + one_if (test y)
  count_put zero there = absurd (omega arith)
  count_put (suc k) there =
      elim (k == j) as (λ b. (k == j) ≡ b → count_below (λ i. test (put g j y i)) k + one_if (test (if b then y else g k)) + one_if (test (g j))
      ≡ count_below (λ i. test (g i)) k + one_if (test (g k)) + one_if (test y)) [
        | true ↦ λ on.
            let same : k ≡ j = (Decides-eqb k j).0 on in
            let here : one_if (test (g k)) ≡ one_if (test (g j)) = ap (λ i. one_if (test (g i))) same in
            omega (arith, count_over k (omega (arith, same)), here)
        | false ↦ λ off.
            let apart : j < k = grind (arith, nat_tests, there, off) in
            omega (arith, count_put k apart)
      ] refl

-- a turn that changes
pub pending_put : (at : ℕ → Turn) (j n : ℕ) (t : Turn) → j < n → pending (put at j t) n + one_if (is_pending (at j)) ≡ pending at n + one_if (is_pending t)
pending_put at j n t there = count_put is_pending at j t n there

-- where none has yet to answer, all is quiet
pub none_pending : (at : ℕ → Turn) (n : ℕ) → pending at n ≡ 0 → (k : ℕ) → k < n → at k ≡ Quiet
none_pending at zero none k there = absurd (omega arith)
none_pending at (suc n) none k there = elim (k == n) as (λ b. (k == n) ≡ b → at k ≡ Quiet) [
  | true ↦ λ on. (let same : k ≡ n =
      (Decides-eqb k n).0 on in by (at k) (let here : one_if (is_pending (at k)) ≡ one_if (is_pending (at n)) = ap (λ i. one_if (is_pending (at i))) same in
      omega (arith, none, here)))
  | false ↦ λ off. (let less : k < n = grind (arith, nat_tests, there, off) in none_pending at n (omega (arith, none)) k less)
] refl
  where
    by : (t : Turn) → one_if (is_pending t) ≡ 0 → t ≡ Quiet
    by Quiet e = refl
    by x e = absurd (omega (arith, e))

-- to all but one
abbrev pub all_but : ℕ → ℕ → Turn
all_but m k = if k == m then Quiet else Going

all_pending : (m n : ℕ) → n ≤ m → pending (all_but m) n ≡ n
all_pending m zero over = refl
all_pending m (suc k) over =
    let other : (k == m) ≡ false = grind (arith, nat_tests, over) in
    rw other (omega (arith, all_pending m k (omega (arith, over))))

pub pending_all_but : (m n : ℕ) → m < n → pending (all_but m) n + 1 ≡ n
pending_all_but m zero there = absurd (omega arith)
pending_all_but m (suc k) there = elim (k == m) as (λ b. (k == m) ≡ b → pending (all_but m) k + one_if (is_pending (if b then Quiet else Going)) + 1 ≡ suc k) [
  | true ↦ λ on. (let same : k ≡ m = (Decides-eqb k m).0 on in let rest = all_pending m k (omega (arith, same)) in omega (arith, rest))
  | false ↦ λ off. (let less : m < k = grind (arith, nat_tests, there, off) in let rest = pending_all_but m k less in omega (arith, rest))
] refl

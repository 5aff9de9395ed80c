-- Notes cut by their counts.
use Rattle.std.proofs.Common.{◌≡◌, ℕ, zero, suc, ◌+◌, ◌-◌, ◌<◌, ◌≤◌, List, [], ◌∷◌, ◌++◌, length, take, drop, sum, sym, ◌∙◌, ap, refl, arith, length-drop}
use Rattle.std.proofs.lemmas.List.{take-append-le, drop-append-le}
use Rattle.std.proofs.lemmas.List.Sums.{sum_by-cons}
use Rattle.std.proofs.Math.Seq.{take-length}
use Rattle.actor_threads.specs.declared.notes.Run.{Run}
use Rattle.actor_threads.specs.NoteCounts.{zeros_then, counts_of, by_counts}

zeros-append : (n : ℕ) (xs ys : List ℕ) → zeros_then n xs ++ ys ≡ zeros_then n (xs ++ ys)
zeros-append zero xs ys = refl
zeros-append (suc k) xs ys = ap (λ l. 0 ∷ l) (zeros-append k xs ys)

zeros_more : (n : ℕ) → zeros_then (suc n) [] ≡ zeros_then n [] ++ 0 ∷ []
zeros_more zero = refl
zeros_more (suc k) = ap (λ l. 0 ∷ l) (zeros_more k)

counts_more : (runs : List Run) (silent : ℕ) → counts_of runs (suc silent) ≡ counts_of runs silent ++ 0 ∷ []
counts_more [] silent = zeros_more silent
counts_more (r ∷ rs) silent =
    ap (λ l. zeros_then r.silent (r.count ∷ l)) (counts_more rs silent) ∙ sym (zeros-append r.silent (r.count ∷ counts_of rs silent) (0 ∷ []))

-- one more step without notes
pub counts_one : (runs : List Run) (silent : ℕ) → counts_of runs (silent + 1) ≡ counts_of runs silent ++ 0 ∷ []
counts_one runs silent = let e : silent + 1 ≡ suc silent = omega arith in rw e (counts_more runs silent)

-- one more run
pub counts_run : (runs : List Run) (silent count : ℕ)
    → counts_of (runs ++ record { silent = silent; count = count } ∷ []) 0 ≡ counts_of runs silent ++ count ∷ []
counts_run [] silent count = sym (zeros-append silent [] (count ∷ []))
counts_run (r ∷ rs) silent count =
    ap (λ l. zeros_then r.silent (r.count ∷ l)) (counts_run rs silent count) ∙ sym (zeros-append r.silent (r.count ∷ counts_of rs silent) (count ∷ []))

-- the first of some zeros
zeros_first : (n : ℕ) (xs : List ℕ) → 0 < n → zeros_then n xs ≡ 0 ∷ zeros_then (n - 1) xs
zeros_first zero xs some = absurd (omega (arith, some))
zeros_first (suc k) xs some = let e : suc k - 1 ≡ k = omega arith in rw e refl

-- where no run is left
pub silent_pop : (old now : List Run) (silent : ℕ) → old ≡ [] → now ≡ [] → 0 < silent → counts_of old silent ≡ 0 ∷ counts_of now (silent - 1)
silent_pop old now silent o n some = rw (o, n) (zeros_first silent [] some)

module _ {N : Type 0} where
  pub none : (all : List N) → 0 ≡ length all → all ≡ []
  none [] e = refl
  none (x ∷ xs) e = absurd (omega arith)

  -- one more list after the others
  pub by_counts-snoc : (counts : List ℕ) (all more : List N) (count : ℕ) → sum counts ≡ length all → count ≡ length more
      → by_counts (counts ++ count ∷ []) (all ++ more) ≡ by_counts counts all ++ more ∷ []
  by_counts-snoc [] all more count s c = rw (none all s, c, take-length more)
  by_counts-snoc (k ∷ ks) all more count s c =
      let first = sum_by-cons (λ x. x) k ks in
      let within : k ≤ length all = omega (arith, first) in let rest : sum ks ≡ length (drop k all) = omega (arith, first, length-drop k all) in
      rw (take-append-le k all more within, drop-append-le k all more within, by_counts-snoc ks (drop k all) more count rest c)

  -- one more item of a list
  pub rest_after : (k : ℕ) (xs : List N) (x : N) (rest : List N) → drop k xs ≡ x ∷ rest → drop (suc k) xs ≡ rest
  rest_after zero xs x rest e = ap (drop 1) e
  rest_after (suc k) [] x rest e = absurd (cc)
  rest_after (suc k) (y ∷ ys) x rest e = rest_after k ys x rest e

  pub taken_more : (k : ℕ) (xs : List N) (x : N) (rest : List N) → drop k xs ≡ x ∷ rest → take (suc k) xs ≡ take k xs ++ x ∷ []
  taken_more zero xs x rest e = ap (take 1) e
  taken_more (suc k) [] x rest e = absurd (cc)
  taken_more (suc k) (y ∷ ys) x rest e = ap (λ l. y ∷ l) (taken_more k ys x rest e)

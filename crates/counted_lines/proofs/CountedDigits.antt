-- A number's digits, where only the last one changes when it is counted up, or the one before it and then a 0.
use Rattle.std.proofs.Common.{◌≡◌, ◌≤◌, ◌<◌, ℕ, ◌+◌, ◌/◌, ◌%◌, ◌^◌, zero, suc, nat_lt, List, [], ◌∷◌, ◌++◌}
use Rattle.std.proofs.Common.{◌-◌, length, length-take, take, ap, sym, subst, ◌∙◌, append_assoc, decimal, arith, inl, inr}
use Rattle.std.specs.Prelude.{if◌then◌else◌}
use Rattle.std.proofs.Math.Seq.{take-append_seam}
use Rattle.std.proofs.lemmas.List.{length-append}
use Rattle.std.proofs.lemmas.Bool.{cases_lt}
use Rattle.std.proofs.lemmas.Bool.Decides.{nat_tests}
use Rattle.std.proofs.lemmas.Fmt.{AppendsLastDigit, decimal_from_appends, decimal_digit, decimal_step, decimal_nonempty, length-decimal-le}

-- the last k digits of n at most
by_last : ℕ → ℕ → List ℕ
by_last zero n = []
by_last (suc k) n = if nat_lt n 10 then (48 + n) ∷ [] else by_last k (n / 10) ++ (48 + n % 10) ∷ []

by_last-appends : AppendsLastDigit by_last
unfolding by_last
by_last-appends = record {
  one = λ k n small. grind (arith, nat_tests);
  more = λ k n large. grind (arith, nat_tests);
}

last_digit : (n : ℕ) → 10 ≤ n → n < 2 ^ 64 → decimal n ≡ by_last 20 (n / 10) ++ (48 + n % 10) ∷ []
last_digit n large small =
    let short : length (decimal n) ≤ 20 = length-decimal-le 20 n (omega arith) (omega arith) small in
    sym (decimal_from_appends by_last by_last-appends (suc 20) n small (omega (arith, short))) ∙ by_last-appends.more 20 n large

-- counting up changes the last digit alone, where that doesn't become 0
pub record NextDigit (n : ℕ) : Type 0 where
  pub front : List ℕ
  pub before : decimal n ≡ front ++ (48 + n % 10) ∷ []
  pub after : decimal (n + 1) ≡ front ++ (48 + (n + 1) % 10) ∷ []

pub next_digit : (n : ℕ) → n + 1 < 2 ^ 64 → 0 < (n + 1) % 10 → NextDigit n
next_digit n small some = elim (cases_lt n 9) [
  | inl one ↦
      let here : n ≡ n % 10 = omega (arith, one) in
      let there : n + 1 ≡ (n + 1) % 10 = omega (arith, one) in
      record {
        front = [];
        before = decimal_digit n (omega (arith, one)) ∙ ap (λ d. (48 + d) ∷ []) here;
        after = decimal_digit (n + 1) (omega (arith, one)) ∙ ap (λ d. (48 + d) ∷ []) there;
      }
  | inr more ↦
      let large : 10 ≤ n = omega (arith, more, some) in
      let same : (n + 1) / 10 ≡ n / 10 = omega (arith, some) in
      record {
        front = by_last 20 (n / 10);
        before = last_digit n large (omega (arith, small));
        after = last_digit (n + 1) (omega (arith, large)) small ∙ ap (λ m. by_last 20 m ++ (48 + (n + 1) % 10) ∷ []) same;
      }
]

-- a list without its last, and then another last
pub with_last : (front : List ℕ) (x y : ℕ) → take (length (front ++ x ∷ []) - 1) (front ++ x ∷ []) ++ y ∷ [] ≡ front ++ y ∷ []
with_last front x y =
    let count : length (front ++ x ∷ []) - 1 ≡ length front = omega (arith, length-append front (x ∷ [])) in
    ap (λ n. take n (front ++ x ∷ []) ++ y ∷ []) count ∙ ap (λ l. l ++ y ∷ []) (take-append_seam front (x ∷ []))

-- any number's last digit
some_last : (n : ℕ) → n < 2 ^ 64 → (front : List ℕ) × (decimal n ≡ front ++ (48 + n % 10) ∷ [])
some_last n small = elim (cases_lt n 10) [
  | inl one ↦ ([], decimal_digit n one ∙ (let here : n ≡ n % 10 = omega (arith, one) in ap (λ d. (48 + d) ∷ []) here))
  | inr more ↦ (by_last 20 (n / 10), last_digit n more small)
]

-- a word and a number, with the last digit written again
pub same_last : (word block : List ℕ) (n : ℕ) → n < 2 ^ 64 → block ≡ word ++ decimal n
    → (0 < length block) × (take (length block - 1) block ++ (48 + n % 10) ∷ [] ≡ word ++ decimal n)
same_last word block n small is =
    let last = some_last n small in
    let whole : block ≡ (word ++ last.0) ++ (48 + n % 10) ∷ [] = is ∙ ap (λ l. word ++ l) last.1 ∙ sym (append_assoc word last.0 ((48 + n % 10) ∷ [])) in (
      rw whole (omega (arith, length-append (word ++ last.0) ((48 + n % 10) ∷ []))),
      rw whole (with_last (word ++ last.0) (48 + n % 10) (48 + n % 10)) ∙ append_assoc word last.0 ((48 + n % 10) ∷ []) ∙ ap (λ l. word ++ l) (sym last.1),
    )

-- lists with the same last have the same front
same_front : (a b : List ℕ) (x : ℕ) → a ++ x ∷ [] ≡ b ++ x ∷ [] → a ≡ b
same_front a b x same =
    let long : length a ≡ length b = omega (arith, length-append a (x ∷ []), length-append b (x ∷ []), ap length same) in
    sym (take-append_seam a (x ∷ [])) ∙ ap (λ l. take (length a) l) same ∙ ap (λ n. take n (b ++ x ∷ [])) long ∙ take-append_seam b (x ∷ [])

-- counting up without a carry changes the last digit alone
pub next_last : (word front : List ℕ) (n : ℕ) → n + 1 < 2 ^ 64 → 0 < (n + 1) % 10
    → front ++ (48 + n % 10) ∷ [] ≡ word ++ decimal n → front ++ (48 + (n + 1) % 10) ∷ [] ≡ word ++ decimal (n + 1)
next_last word front n small some is =
    let next = next_digit n small some in
    let same : front ≡ word ++ next.front = same_front front (word ++ next.front) (48 + n % 10)
    (is ∙ ap (λ l. word ++ l) next.before ∙ sym (append_assoc word next.front ((48 + n % 10) ∷ []))) in
    ap (λ l. l ++ (48 + (n + 1) % 10) ∷ []) same ∙ append_assoc word next.front ((48 + (n + 1) % 10) ∷ []) ∙ ap (λ l. word ++ l) (sym next.after)

-- counting up to a number that ends in a 0, where the digit before it isn't 0
module _ (word block : List ℕ) (n : ℕ) (small : n + 1 < 2 ^ 64) (many : 20 ≤ n + 1) (ends : (n + 1) % 10 ≡ 0)
    (is : take (length block - 1) block ++ (48 + n % 10) ∷ [] ≡ word ++ decimal n) where
  before_last : take (length block - 1) block ≡ word ++ decimal (n / 10)
  before_last =
      same_front (take (length block - 1) block) (word ++ decimal (n / 10)) (48 + n % 10)
      (is ∙ ap (λ l. word ++ l) (decimal_step n (omega (arith, many)) (omega (arith, small)))
      ∙ sym (append_assoc word (decimal (n / 10)) ((48 + n % 10) ∷ [])))

  -- there is a digit before the last
  pub two_digits : 1 < length block
  two_digits =
      let some : 0 < length (decimal (n / 10)) = decimal_nonempty (n / 10) (omega (arith, small)) in
      omega (arith, length-take (length block - 1) block, ap length before_last, length-append word (decimal (n / 10)), some)

  -- that one counts up, and the last is written again
  pub next_carried : (new : List ℕ) → 0 < (n + 1) / 10 % 10
      → ((front : List ℕ) (last : ℕ) → take (length block - 1) block ≡ front ++ last ∷ []
      → take (length new - 1) new ≡ front ++ (48 + (n + 1) / 10 % 10) ∷ [])
      → take (length new - 1) new ++ (48 + (n + 1) % 10) ∷ [] ≡ word ++ decimal (n + 1)
  next_carried new some set =
      let up : (n + 1) / 10 ≡ n / 10 + 1 = omega (arith, ends) in
      let next = next_digit (n / 10) (omega (arith, small)) (subst (λ k. 0 < k % 10) up some) in
      let tens = 48 + (n + 1) / 10 % 10 in
      let placed : take (length new - 1) new ≡ (word ++ next.front) ++ tens ∷ [] =
      set (word ++ next.front) (48 + n / 10 % 10)
      (before_last ∙ ap (λ l. word ++ l) next.before ∙ sym (append_assoc word next.front ((48 + n / 10 % 10) ∷ []))) in
      let fronts : next.front ++ tens ∷ [] ≡ decimal ((n + 1) / 10) =
      ap (λ k. next.front ++ (48 + k % 10) ∷ []) up ∙ sym next.after ∙ ap decimal (sym up) in
      let ones = 48 + (n + 1) % 10 in
      ap (λ l. l ++ ones ∷ []) (placed ∙ append_assoc word next.front (tens ∷ []) ∙ ap (λ l. word ++ l) fronts)
      ∙ append_assoc word (decimal ((n + 1) / 10)) (ones ∷ []) ∙ ap (λ l. word ++ l) (sym (decimal_step (n + 1) (omega (arith, many)) small))

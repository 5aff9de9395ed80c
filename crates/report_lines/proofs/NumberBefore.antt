-- A number's digits go before a text, the last of them first.
use Rattle.std.proofs.Common.{◌≡◌, ℕ, ◌<◌, ◌≤◌, ◌+◌, ◌/◌, ◌%◌, ◌^◌, List, [], ◌∷◌, ◌++◌, length, ap, sym, ◌∙◌, append_assoc, decimal, arith}
use Rattle.std.proofs.lemmas.List.{length-append}
use Rattle.std.proofs.lemmas.Fmt.{decimal_step, decimal_digit, decimal_nonempty, length-decimal-le}

module _ (left number : ℕ) (now old : List ℕ) (small : left < 2 ^ 32) (within : number < 2 ^ 32) (same : decimal left ++ now ≡ decimal number ++ old) where
  -- there is room for another digit
  pub room_left : (room : ℕ) → length old + 10 ≤ room → length now < room
  room_left room fits =
      let some : 0 < length (decimal left) = decimal_nonempty left (omega (arith, small)) in
      let most : length (decimal number) ≤ 10 = length-decimal-le 10 number (omega arith) (omega (arith, within)) (omega (arith, within)) in
      omega (arith, length-append (decimal left) now, length-append (decimal number) old, ap length same, some, most, fits)

  pub one_more : 10 ≤ left → decimal (left / 10) ++ (48 + left % 10) ∷ now ≡ decimal number ++ old
  one_more large =
      sym (append_assoc (decimal (left / 10)) ((48 + left % 10) ∷ []) now) ∙ ap (λ l. l ++ now) (sym (decimal_step left large (omega (arith, small)))) ∙ same

  pub last_one : left < 10 → (48 + left) ∷ now ≡ decimal number ++ old
  last_one one = ap (λ l. l ++ now) (sym (decimal_digit left one)) ∙ same

-- how long a text is with a number before it
pub length_before : (number : ℕ) (new old : List ℕ) → number < 2 ^ 32 → new ≡ decimal number ++ old → length new ≤ length old + 10
length_before number new old within same =
    let most : length (decimal number) ≤ 10 = length-decimal-le 10 number (omega arith) (omega (arith, within)) (omega (arith, within)) in
    omega (arith, length-append (decimal number) old, ap length same, most)

-- Numbers that were printed: they are read again, and hold digits alone.
use Rattle.std.proofs.Common.{◌≡◌, ℕ, ◌^◌, ◌<◌, ◌≤◌, suc, List, [], ◌∷◌, Some, refl, ap, ◌∙◌, arith}
use Rattle.std.specs.Bool.{then_some}
use Rattle.std.specs.Int.{IsInRange}
use Rattle.std.specs.Fmt.{decimal}
use Rattle.std.proofs.lemmas.Bool.{le-leb, ne_eqb}
use Rattle.std.proofs.lemmas.Fmt.{digits_decimal}
use Rattle.basics.specs.Parsing.{parse_number}
use Rattle.basics.proofs.SplitLemmas.{Lacks}
use Rattle.basics.proofs.DecimalLemmas.{AreDigits, own, parse_number-decimal}

-- digits lack what is no digit
lacks_digits : (separator : ℕ) (ds : List ℕ) → (IsInRange 48 57 separator → ⊥) → AreDigits ds → Lacks separator ds
lacks_digits separator [] other digits = tt
lacks_digits separator (d ∷ ds) other digits = (
  ne_eqb d separator (λ e. other (let first : IsInRange 48 57 d = digits 0 (omega arith) in rw (← e) first)),
  lacks_digits separator ds other (λ i below. digits (suc i) (omega arith)),
)

pub Lacks-decimal : (separator n : ℕ) → (IsInRange 48 57 separator → ⊥) → n < 2 ^ 64 → Lacks separator (decimal n)
Lacks-decimal separator n other small = lacks_digits separator (decimal n) other (digits_decimal own n small)

-- a number within its bound
pub parse_number-printed : (most n : ℕ) → n ≤ most → n < 2 ^ 64 → parse_number most (decimal n) ≡ Some n
parse_number-printed most n within small = parse_number-decimal most n (decimal n) small refl ∙ ap (λ test. then_some test n) (le-leb n most within)

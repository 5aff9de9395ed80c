-- Numbers in text: what `decimal` writes is read again, and nothing else is read.
use Rattle.std.proofs.Common.{◌≡◌, ℕ, ◌^◌, ◌<◌, ◌≤◌, Bool, true, false, cond, eqb, leb, ◌&&◌, List, [], ◌∷◌}
use Rattle.std.proofs.Common.{length, get_or, drop, None, Some, refl, ap, sym, ◌∙◌, arith, rules, lit<, zero, suc}
use Rattle.std.specs.Str.{bytes_eq, IsUtf8, IsAscii}
use Rattle.std.specs.Int.{IsInRange}
use Rattle.std.specs.Str.Parse.{digits_value, without_leading_plus, IsNumeral, AllDigits}
use Rattle.std.specs.Fmt.{decimal}
use Rattle.std.specs.Option.{SomeIff}
use Rattle.std.specs.Bool.{then_some}
use Rattle.std.proofs.lemmas.Bool.{leb-true, eqb-true}
use Rattle.std.proofs.lemmas.Slice.Eq.{bytes_eq-Decides}
use Rattle.std.proofs.lemmas.Str.{IsUtf8-from_ascii}
use Rattle.std.proofs.lemmas.Str.Parse.{IsNumeralModel, numerals_by_value, tells_by_index, without_leading_plus_none}
use Rattle.std.proofs.lemmas.Fmt.{digits_value-decimal, decimal-digits_value, digits_decimal, decimal_nonempty}
use Rattle.std.proofs.lemmas.Fmt.{first_decimal, IsAscii-from_digits, decimal_is_IsNumeral, decimal_digit}
use Rattle.basics.specs.Parsing.{parse_number}

-- texts of digits, and their value
abbrev pub AreDigits : List ℕ → Type 0
AreDigits ds = (i : ℕ) → i < length ds → IsInRange 48 57 (get_or ds i 0)

pub own : IsNumeralModel AreDigits (digits_value 10)
own = numerals_by_value _ tells_by_index

no_number : (same below : Bool) (n : ℕ) → (same ≡ true → below ≡ true → ⊥) → cond (same && below) (Some n) None ≡ None
no_number true true n never = absurd (never refl refl)
no_number true false n never = refl
no_number false below n never = refl

-- a text that is no decimal below 2 ^ 64 is no number
pub parse_number-None : (most : ℕ) (text : List ℕ) → most < 2 ^ 64 → (digits_value 10 text < 2 ^ 64 → text ≡ decimal (digits_value 10 text) → ⊥)
    → parse_number most text ≡ None
unfolding parse_number
parse_number-None most text small never =
    no_number (bytes_eq text (decimal (digits_value 10 text))) (leb (digits_value 10 text) most) (digits_value 10 text) (λ same below.
    let value : digits_value 10 text ≤ most = leb-true _ _ below in
    never (omega arith) ((bytes_eq-Decides text (decimal (digits_value 10 text))).0 same))

chosen : (test : Bool) (n : ℕ) → cond test (Some n) None ≡ then_some test n
chosen true n = refl
chosen false n = refl

-- the decimal of a number is read as the number
pub parse_number-decimal : (most n : ℕ) (text : List ℕ) → n < 2 ^ 64 → text ≡ decimal n → parse_number most text ≡ then_some (leb n most) n
unfolding parse_number
parse_number-decimal most n text small is =
    let value : digits_value 10 text ≡ n = rw is (digits_value-decimal own n small) in
    let same : bytes_eq text (decimal (digits_value 10 text)) ≡ true = (bytes_eq-Decides text (decimal (digits_value 10 text))).1
    (is ∙ ap decimal (sym value)) in
    rw (same, value) (chosen (leb n most) n)

single : (n : ℕ) → n < 2 ^ 64 → get_or (decimal n) 0 0 ≡ 48 → length (decimal n) ≡ 1
single zero small first = rw (decimal_digit 0 (lit< tt)) refl
single (suc n) small first = let over : 48 < get_or (decimal (suc n)) 0 0 = first_decimal (suc n) (omega arith) small in absurd (omega arith)

-- a decimal is a digit, or doesn't begin with a zero
pub decimal_plain : (n : ℕ) (text : List ℕ) → n < 2 ^ 64 → text ≡ decimal n
    → (0 < length text) × IsInRange 48 57 (get_or text 0 0) × (get_or text 0 0 ≡ 48 → length text ≡ 1)
decimal_plain n text small is =
    rw is (decimal_nonempty n small, digits_decimal own n small 0 (decimal_nonempty n small), single n small)

-- a plain text that is read as digits is the decimal of its value
pub plain_decimal : (text : List ℕ) (n : ℕ) → 0 < length text → IsInRange 48 57 (get_or text 0 0) → (get_or text 0 0 ≡ 48 → length text ≡ 1)
    → SomeIff (Some n) (IsNumeral 10 (without_leading_plus text) × (digits_value 10 (without_leading_plus text) < 2 ^ 64))
    (digits_value 10 (without_leading_plus text))
    → (n < 2 ^ 64) × (text ≡ decimal n)
plain_decimal text n some first zeros read =
    let bare : without_leading_plus text ≡ text = without_leading_plus_none text (omega arith) in
    let read' = rw bare at read in
    let digits : AreDigits text = own.from text read'.0.0.1 in
    let value : digits_value 10 text < 2 ^ 64 = read'.0.1 in
    let is : n ≡ digits_value 10 text = read'.1 in
    (rw is value, sym (ap decimal is ∙ decimal-digits_value own text digits some zeros value))

-- what isn't read as digits is no decimal
pub no_decimal : (text : List ℕ) → IsInRange 48 57 (get_or text 0 0)
    → (IsNumeral 10 (without_leading_plus text) × (digits_value 10 (without_leading_plus text) < 2 ^ 64) → ⊥)
    → digits_value 10 text < 2 ^ 64 → text ≡ decimal (digits_value 10 text) → ⊥
no_decimal text first never small is =
    let bare : without_leading_plus text ≡ text = without_leading_plus_none text (omega arith) in
    never (rw bare ((rw is (decimal_is_IsNumeral (digits_value 10 text) small).0), small))

ascii_more : (c : ℕ) (cs : List ℕ) → c < 128 → IsAscii cs → IsAscii (c ∷ cs)
ascii_more c cs small rest zero = small
ascii_more c cs small rest (suc i) = rest i

ascii_by : (c : ℕ) (cs : List ℕ) (plus : Bool) → eqb c 43 ≡ plus → AllDigits 10 (drop (cond plus 1 0) (c ∷ cs)) → IsAscii (c ∷ cs)
ascii_by c cs true is digits = ascii_more c cs (let plus : c ≡ 43 = eqb-true c 43 is in omega arith) (IsAscii-from_digits cs digits)
ascii_by c cs false is digits = IsAscii-from_digits (c ∷ cs) digits

-- a text of digits is UTF-8, also after a plus sign
pub numeral_utf8 : (text : List ℕ) → IsNumeral 10 (without_leading_plus text) → IsUtf8 text
numeral_utf8 [] numeral = IsUtf8-from_ascii [] (search rules)
numeral_utf8 (c ∷ cs) numeral = IsUtf8-from_ascii (c ∷ cs) (ascii_by c cs (eqb c 43) refl numeral.1)

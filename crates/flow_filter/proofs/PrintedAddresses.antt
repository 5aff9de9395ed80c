-- Numbers, addresses and prefixes that were printed are read again.
use Rattle.std.proofs.Common.{◌≡◌, ℕ, ◌-◌, ◌/◌, ◌%◌, ◌^◌, ◌<◌, ◌≤◌, true, false, eqb, List, [], ◌∷◌, ◌++◌, Some, refl, ap, ◌∙◌, append_assoc, arith}
use Rattle.std.specs.Int.{IsInRange, w32, from_be_bytes}
use Rattle.std.specs.Fmt.{decimal}
use Rattle.std.specs.Prelude.{codes}
use Rattle.std.proofs.Math.Nat.{div-one}
use Rattle.basics.specs.Address.{address_text}
use Rattle.std.proofs.lemmas.Bool.{eq-eqb}
use Rattle.std.proofs.lemmas.Nat.{from_be_bytes-to_be_bytes_4}
use Rattle.flow_filter.specs.declared.prefix.Prefix.{Prefix}
use Rattle.flow_filter.specs.Reading.{address_of, prefix_of}
use Rattle.flow_filter.specs.FilterText.{prefix_text}
use Rattle.basics.proofs.SplitLemmas.{Lacks, Lacks-append, split_once-append}
use Rattle.basics.proofs.PrintedNumbers.{Lacks-decimal, parse_number-printed}

-- four numbers with dots between them
abbrev dotted_text : ℕ → ℕ → ℕ → ℕ → List ℕ
dotted_text a b c d = decimal a ++ codes "." ++ decimal b ++ codes "." ++ decimal c ++ codes "." ++ decimal d

nested : (a b c d : ℕ) → dotted_text a b c d ≡ decimal a ++ 46 ∷ (decimal b ++ 46 ∷ (decimal c ++ 46 ∷ decimal d))
nested a b c d = simp append_assoc

-- four numbers up to 255
address-dotted : (a b c d : ℕ) → a < 256 → b < 256 → c < 256 → d < 256 → address_of (dotted_text a b c d) ≡ Some (from_be_bytes w32 (a ∷ b ∷ c ∷ d ∷ []))
unfolding address_of
address-dotted a b c d in_a in_b in_c in_d =
    let dot : IsInRange 48 57 46 → ⊥ = λ range. omega arith in
    let first = split_once-append 46 (decimal a) (decimal b ++ 46 ∷ (decimal c ++ 46 ∷ decimal d)) (Lacks-decimal 46 a dot (omega arith)) in
    let second = split_once-append 46 (decimal b) (decimal c ++ 46 ∷ decimal d) (Lacks-decimal 46 b dot (omega arith)) in
    let third = split_once-append 46 (decimal c) (decimal d) (Lacks-decimal 46 c dot (omega arith)) in
    rw (
      nested a b c d,
      first,
      second,
      third,
      parse_number-printed 255 a (omega arith) (omega arith),
      parse_number-printed 255 b (omega arith) (omega arith),
      parse_number-printed 255 c (omega arith) (omega arith),
      parse_number-printed 255 d (omega arith) (omega arith),
    ) refl

pub address-text : (bits : ℕ) → bits < 2 ^ 32 → address_of (address_text bits) ≡ Some bits
unfolding address_text
address-text bits small =
    address-dotted (bits / 16777216 % 256) (bits / 65536 % 256) (bits / 256 % 256) (bits / 1 % 256) (omega arith) (omega arith) (omega arith) (omega arith)
    ∙ ap (λ n. Some (from_be_bytes w32 (bits / 16777216 % 256 ∷ bits / 65536 % 256 ∷ bits / 256 % 256 ∷ n % 256 ∷ []))) (div-one bits)
    ∙ ap (λ n. Some n) (from_be_bytes-to_be_bytes_4 bits small)

Lacks-address : (separator a b c d : ℕ) → (IsInRange 48 57 separator → ⊥) → eqb 46 separator ≡ false → a < 256 → b < 256 → c < 256 → d < 256
    → Lacks separator (dotted_text a b c d)
Lacks-address separator a b c d other dot in_a in_b in_c in_d = rw (nested a b c d)
    (Lacks-append separator (decimal a) _ (Lacks-decimal separator a other (omega arith)) (
      dot,
      Lacks-append separator (decimal b) _ (Lacks-decimal separator b other (omega arith)) (
        dot,
        Lacks-append separator (decimal c) _ (Lacks-decimal separator c other (omega arith)) (dot, Lacks-decimal separator d other (omega arith)),
      ),
    ))

-- a prefix
pub prefix-text : (p : Prefix) → p.bits < 2 ^ 32 → prefix_of (prefix_text p) ≡ Some (p.bits, p.len)
unfolding prefix_of address_text
prefix-text p small =
    let slash : IsInRange 48 57 47 → ⊥ = λ range. omega arith in
    let at = split_once-append 47 (address_text p.bits) (decimal p.len)
    (Lacks-address 47 (p.bits / 16777216 % 256) (p.bits / 65536 % 256) (p.bits / 256 % 256) (p.bits / 1 % 256) slash refl (omega arith) (omega arith)
    (omega arith) (omega arith)) in
    let within : p.len ≤ 32 = p.within in
    let aligned : eqb (p.bits % 2 ^ (32 - p.len)) 0 ≡ true = eq-eqb _ _ p.aligned in
    rw (at, address-text p.bits small, parse_number-printed 32 p.len within (omega arith), aligned) refl

-- the comma, the equals sign and a blank stand in no number, address or prefix
pub Lacks-prefix : (separator : ℕ) (p : Prefix) → (IsInRange 48 57 separator → ⊥) → eqb 46 separator ≡ false → eqb 47 separator ≡ false
    → Lacks separator (prefix_text p)
unfolding address_text
Lacks-prefix separator p other dot slash = Lacks-append separator (address_text p.bits) _
    (Lacks-address separator (p.bits / 16777216 % 256) (p.bits / 65536 % 256) (p.bits / 256 % 256) (p.bits / 1 % 256) other dot (omega arith) (omega arith)
    (omega arith) (omega arith))
    (slash, Lacks-decimal separator p.len other (let within : p.len ≤ 32 = p.within in omega arith))

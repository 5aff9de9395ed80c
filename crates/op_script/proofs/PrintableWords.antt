-- Words that can be printed: no blank, no line's end, and ASCII alone.
use Rattle.op_script.proofs.Words.{◌≡◌, ℕ, ◌-◌, ◌<◌, ◌≤◌, zero, suc, Bool, true, false, not, eqb, leb, ◌&&◌, List, [], ◌∷◌, ◌++◌, length, get_or, filter, refl}
use Rattle.op_script.proofs.Words.{ap, ◌∙◌, arith, inl, inr, ◌^◌, AllByRecursion, slice_split, join_with_byte, list_all, is_utf8, strip_carriage_return}
use Rattle.op_script.proofs.Words.{decimal, and_parts, leb-true, ne_eqb, is_utf8-from_IsUtf8, is_name, is_name_byte, Word, words, is_blank}
use Rattle.std.proofs.Common.{ltb, lit<}
use Rattle.std.specs.List.{All}
use Rattle.std.specs.Str.{IsAscii}
use Rattle.std.specs.Int.{IsInRange}
use Rattle.std.proofs.lemmas.Bool.{or_cases, ltb-true}
use Rattle.std.proofs.lemmas.Str.{IsUtf8-from_ascii}
use Rattle.std.proofs.lemmas.Fmt.{digits_decimal, decimal_nonempty}
use Rattle.std.proofs.lemmas.List.Splits.{slice_split_none, slice_split_at}
use Rattle.basics.proofs.DecimalLemmas.{AreDigits, own}
use Rattle.op_script.proofs.ScriptLineLemmas.{All-append}

-- each byte lies between two bounds
abbrev pub Within : ℕ → ℕ → List ℕ → Type 0
Within low high text = AllByRecursion (λ b. (low ≤ b) × (b < high)) text

pub Within-append : (low high : ℕ) (a b : List ℕ) → Within low high a → Within low high b → Within low high (a ++ b)
Within-append low high a b in_a in_b = All-append (λ x. (low ≤ x) × (x < high)) a b in_a in_b

pub Within-wider : (low high low' high' : ℕ) (a : List ℕ) → low' ≤ low → high ≤ high' → Within low high a → Within low' high' a
Within-wider low high low' high' [] less more in_a = tt
Within-wider low high low' high' (x ∷ a) less more in_a =
    ((let first = in_a.0 in omega arith, let first = in_a.0 in omega arith), Within-wider low high low' high' a less more in_a.1)

-- the same, as a test, for texts that are written out
abbrev pub within : ℕ → ℕ → List ℕ → Bool
within low high text = list_all (λ b. leb low b && ltb b high) text

pub Within-literal : (low high : ℕ) (text : List ℕ) → within low high text ≡ true → Within low high text
Within-literal low high [] test = tt
Within-literal low high (b ∷ more) test =
    let all = and_parts (leb low b && ltb b high) (within low high more) test in let first = and_parts (leb low b) (ltb b high) all.0 in
    ((leb-true low b first.0, ltb-true b high first.1), Within-literal low high more all.1)

ascii : (text : List ℕ) → Within 32 127 text → IsAscii text
ascii [] in_text i = lit< tt
ascii (b ∷ more) in_text zero = let first = in_text.0 in omega arith
ascii (b ∷ more) in_text (suc i) = ascii more in_text.1 i

-- a line of bytes from the space on is UTF-8
pub line_utf8 : (text : List ℕ) → Within 32 127 text → is_utf8 text ≡ true
line_utf8 text in_text = is_utf8-from_IsUtf8 text (IsUtf8-from_ascii text (ascii text in_text))

not_return : (text : List ℕ) → Within 32 127 text → (i : ℕ) → eqb (get_or text i 0) 13 ≡ false
not_return [] in_text i = refl
not_return (b ∷ more) in_text zero = let first = in_text.0 in ne_eqb b 13 (omega arith)
not_return (b ∷ more) in_text (suc i) = not_return more in_text.1 i

-- nothing is stripped from a line without a carriage return
pub strip-line : (text : List ℕ) → Within 32 127 text → strip_carriage_return text ≡ text
strip-line text in_text = rw (not_return text in_text (length text - 1)) refl

-- a word has some bytes, and none is a blank
pub record IsWord (word : List ℕ) : Type 0 where
  pub some : 0 < length word
  pub seen : Within 33 127 word

-- a word that is written out
pub literal_word : (word : List ℕ) → (ltb 0 (length word) && within 33 127 word) ≡ true → IsWord word
literal_word word test =
    let p = and_parts (ltb 0 (length word)) (within 33 127 word) test in
    record { some = ltb-true 0 (length word) p.0; seen = Within-literal 33 127 word p.1 }

not_blank : (b : ℕ) → 33 ≤ b → is_blank b ≡ false
not_blank b seen = rw (ne_eqb b 32 (omega arith), ne_eqb b 9 (omega arith)) refl

no_blank : (word : List ℕ) → Within 33 127 word → All (λ b. is_blank b ≡ false) word
no_blank [] seen k d below = absurd (omega arith)
no_blank (b ∷ more) seen zero d below = not_blank b seen.0.0
no_blank (b ∷ more) seen (suc k) d below = no_blank more seen.1 k d (omega arith)

split-joined : (first : Word) (more : List Word) → AllByRecursion IsWord (first ∷ more) → slice_split is_blank (join_with_byte 32 (first ∷ more)) ≡ first ∷ more
split-joined first [] are = slice_split_none is_blank first (no_blank first are.0.seen)
split-joined first (next ∷ more) are =
    slice_split_at is_blank first 32 (join_with_byte 32 (next ∷ more)) (no_blank first are.0.seen) refl ∙ ap (λ t. first ∷ t) (split-joined next more are.1)

all_some : (ws : List Word) → AllByRecursion IsWord ws → filter (λ w. not (eqb (length w) 0)) ws ≡ ws
all_some [] are = refl
all_some (w ∷ ws) are = let some : 0 < length w = are.0.some in rw (ne_eqb (length w) 0 (omega arith)) (ap (λ t. w ∷ t) (all_some ws are.1))

-- the words of a line of words
pub words-joined : (first : Word) (more : List Word) → AllByRecursion IsWord (first ∷ more) → words (join_with_byte 32 (first ∷ more)) ≡ first ∷ more
words-joined first more are = ap (filter (λ w. not (eqb (length w) 0))) (split-joined first more are) ∙ all_some (first ∷ more) are

pub line_seen : (first : Word) (more : List Word) → AllByRecursion IsWord (first ∷ more) → Within 32 127 (join_with_byte 32 (first ∷ more))
line_seen first [] are = Within-wider 33 127 32 127 first (omega arith) (omega arith) are.0.seen
line_seen first (next ∷ more) are =
    Within-append 32 127 first (32 ∷ join_with_byte 32 (next ∷ more)) (Within-wider 33 127 32 127 first (omega arith) (omega arith) are.0.seen)
    ((omega arith, omega arith), line_seen next more are.1)

digits_seen : (ds : List ℕ) → AreDigits ds → Within 33 127 ds
digits_seen [] digits = tt
digits_seen (d ∷ ds) digits = let first : IsInRange 48 57 d = digits 0 (omega arith) in
    ((omega arith, omega arith), digits_seen ds (λ i below. digits (suc i) (omega arith)))

pub decimal_word : (n : ℕ) → n < 2 ^ 64 → IsWord (decimal n)
decimal_word n small = record { some = decimal_nonempty n small; seen = digits_seen (decimal n) (digits_decimal own n small) }

letter_seen : (b : ℕ) → is_name_byte b ≡ true → (33 ≤ b) × (b < 127)
letter_seen b is = elim (or_cases (leb 97 b && leb b 122) (leb 48 b && leb b 57) is) [
  | inl letter ↦ let p = and_parts (leb 97 b) (leb b 122) letter in let low = leb-true 97 b p.0 in let high = leb-true b 122 p.1 in (omega arith, omega arith)
  | inr digit ↦ let p = and_parts (leb 48 b) (leb b 57) digit in let low = leb-true 48 b p.0 in let high = leb-true b 57 p.1 in (omega arith, omega arith)
]

letters_seen : (name : List ℕ) → list_all is_name_byte name ≡ true → Within 33 127 name
letters_seen [] is = tt
letters_seen (b ∷ more) is = let p = and_parts (is_name_byte b) (list_all is_name_byte more) is in (letter_seen b p.0, letters_seen more p.1)

-- a name is a word
pub name_word : (name : List ℕ) → is_name name ≡ true → IsWord name
name_word name is =
    let both = and_parts (leb 1 (length name) && leb (length name) 16) (list_all is_name_byte name) is in
    let size = and_parts (leb 1 (length name)) (leb (length name) 16) both.0 in
    record { some = leb-true 1 (length name) size.0; seen = letters_seen name both.1 }

-- What bytes spell as choices, two by two.
use Rattle.std.proofs.Common.{◌≡◌, ◌∙◌, ◌<◌, ◌≤◌, ◌*◌, ◌-◌, ℕ, zero, suc, List, [], ◌∷◌, ◌++◌, length}
use Rattle.std.proofs.Common.{take, drop, slice_index, refl, ap, sym, arith, append_assoc, length-drop}
use Rattle.std.proofs.Math.Seq.{take-length}
use Rattle.std.specs.List.{flat_map}
use Rattle.actor_net.specs.declared.choice.Choice.{Choice}
use Rattle.journal_file.specs.Format.{choice_bytes}
use Rattle.journal_file.specs.Reading.{choices_in}

-- the first two bytes are a choice
pub choices_in_next : (bytes : List ℕ) → 2 ≤ length bytes
    → choices_in bytes ≡ record { node = slice_index bytes 0; port = slice_index bytes 1 } ∷ choices_in (drop 2 bytes)
unfolding choices_in
choices_in_next [] long = absurd (omega (arith, long))
choices_in_next (a ∷ []) long = absurd (omega (arith, long))
choices_in_next (a ∷ b ∷ more) long = refl

-- fewer than two bytes are none
pub choices_in_end : (bytes : List ℕ) → length bytes < 2 → choices_in bytes ≡ []
unfolding choices_in
choices_in_end [] short = refl
choices_in_end (a ∷ []) short = refl
choices_in_end (a ∷ b ∷ more) short = absurd (omega (arith, short))

-- the choices so far, and those that the rest spells, stay the whole when one more is read
pub one_choice_more : (taken more whole : List Choice) (rest : List ℕ) → 2 ≤ length rest
    → more ≡ taken ++ record { node = slice_index rest 0; port = slice_index rest 1 } ∷ [] → taken ++ choices_in rest ≡ whole
    → more ++ choices_in (take (length rest - 2) (drop 2 rest)) ≡ whole
one_choice_more taken more whole rest long pushed same =
    let choice : Choice = record { node = slice_index rest 0; port = slice_index rest 1 } in
    let left : take (length rest - 2) (drop 2 rest) ≡ drop 2 rest =
    ap (λ (n : ℕ). take n (drop 2 rest)) (sym (length-drop 2 rest)) ∙ take-length (drop 2 rest) in
    ap (λ (l : List Choice). l ++ choices_in (take (length rest - 2) (drop 2 rest))) pushed
    ∙ append_assoc taken (choice ∷ []) (choices_in (take (length rest - 2) (drop 2 rest)))
    ∙ ap (λ (l : List ℕ). taken ++ choice ∷ choices_in l) left
    ∙ ap (λ (l : List Choice). taken ++ l) (sym (choices_in_next rest long)) ∙ same

-- the choices of an even number of bytes, and then those of the bytes that follow
pub choices_in_append : (n : ℕ) (xs ys : List ℕ) → length xs ≡ 2 * n → choices_in (xs ++ ys) ≡ choices_in xs ++ choices_in ys
unfolding choices_in
choices_in_append zero [] ys even = refl
choices_in_append zero (a ∷ xs) ys even = absurd (omega (arith, even))
choices_in_append (suc n) [] ys even = absurd (omega (arith, even))
choices_in_append (suc n) (a ∷ []) ys even = absurd (omega (arith, even))
choices_in_append (suc n) (a ∷ b ∷ xs) ys even =
    ap (λ (more : List Choice). record { node = a; port = b } ∷ more) (choices_in_append n xs ys (omega (arith, even)))

-- choices that were written are read again
pub choices_in_written : (choices : List Choice) → choices_in (flat_map choice_bytes choices) ≡ choices
unfolding choices_in
choices_in_written [] = refl
choices_in_written (choice ∷ choices) = ap (λ (more : List Choice). choice ∷ more) (choices_in_written choices)

-- each choice has two bytes
pub written_length : (choices : List Choice) → length (flat_map choice_bytes choices) ≡ 2 * length choices
written_length [] = refl
written_length (choice ∷ choices) = let rest = written_length choices in omega (arith, rest)

-- an even number of bytes is what its choices are written as
pub written_choices_in : (n : ℕ) (bytes : List ℕ) → length bytes ≡ 2 * n → flat_map choice_bytes (choices_in bytes) ≡ bytes
unfolding choices_in
written_choices_in zero [] even = refl
written_choices_in zero (a ∷ bytes) even = absurd (omega (arith, even))
written_choices_in (suc n) [] even = absurd (omega (arith, even))
written_choices_in (suc n) (a ∷ []) even = absurd (omega (arith, even))
written_choices_in (suc n) (a ∷ b ∷ bytes) even = ap (λ (more : List ℕ). a ∷ b ∷ more) (written_choices_in n bytes (omega (arith, even)))

-- so many bytes spell half as many choices
pub choices_in_length : (n : ℕ) (bytes : List ℕ) → length bytes ≡ 2 * n → length (choices_in bytes) ≡ n
unfolding choices_in
choices_in_length zero [] even = refl
choices_in_length zero (a ∷ bytes) even = absurd (omega (arith, even))
choices_in_length (suc n) [] even = absurd (omega (arith, even))
choices_in_length (suc n) (a ∷ []) even = absurd (omega (arith, even))
choices_in_length (suc n) (a ∷ b ∷ bytes) even = ap suc (choices_in_length n bytes (omega (arith, even)))

-- Where a text is split at a separator.
use Rattle.std.proofs.Common.{◌≡◌, ℕ, ◌+◌, ◌-◌, suc, Bool, true, false, not, ◌&&◌, cond, eqb, ltb, List, [], ◌∷◌, ◌++◌}
use Rattle.std.proofs.Common.{length, take, drop, Option, None, Some, option_map, refl, ap, sym, ◌∙◌, arith, length-drop}
use Rattle.std.specs.Prelude.{◌==◌}
use Rattle.std.specs.List.{position, position_or_len, prefix_len, slice_split, onto_first}
use Rattle.std.proofs.Math.Dec.{leb-suc-suc}
use Rattle.std.proofs.lemmas.Bool.{and_parts, not-true, lt-ltb, eq-eqb}
use Rattle.std.proofs.lemmas.List.{take_all}
use Rattle.basics.specs.Parsing.{split_once}

-- the two parts at a place that is within the text, or none
abbrev pub split_at_place : List ℕ → ℕ → Bool → Option (List ℕ × List ℕ)
split_at_place text i true = Some (take i text, drop (i + 1) text)
split_at_place text i false = None

-- one more byte that isn't the separator
shifted : (byte : ℕ) (more : List ℕ) (p : ℕ) (within : Bool)
    → option_map (λ (q : List ℕ × List ℕ). (byte ∷ q.0, q.1)) (split_at_place more p within) ≡ split_at_place (byte ∷ more) (1 + p) within
shifted byte more p true =
    let next : suc p ≡ 1 + p = omega arith in
    let next_place : suc (p + 1) ≡ 1 + p + 1 = omega arith in
    ap (λ (n : ℕ). Some (byte ∷ take p more, drop n (byte ∷ more))) next_place
    ∙ ap (λ (n : ℕ). Some (take n (byte ∷ more), drop (1 + p + 1) (byte ∷ more))) next
shifted byte more p false = refl

ltb-next : (a b : ℕ) → ltb (1 + a) (suc b) ≡ ltb a b
ltb-next a b = let next : 1 + a ≡ suc a = omega arith in rw next (leb-suc-suc (suc a) b)

-- by the first byte
split_once-step : (separator byte : ℕ) (more : List ℕ) (same : Bool) → eqb byte separator ≡ same
    → split_once separator more
    ≡ split_at_place more (prefix_len (λ b. not (eqb b separator)) more) (ltb (prefix_len (λ b. not (eqb b separator)) more) (length more))
    → cond same (Some ([], more)) (option_map (λ (p : List ℕ × List ℕ). (byte ∷ p.0, p.1)) (split_once separator more))
    ≡ split_at_place (byte ∷ more) (cond (not same) (1 + prefix_len (λ b. not (eqb b separator)) more) 0)
    (ltb (cond (not same) (1 + prefix_len (λ b. not (eqb b separator)) more) 0) (suc (length more)))
split_once-step separator byte more true is before =
    let within : ltb 0 (suc (length more)) ≡ true = lt-ltb 0 (suc (length more)) (omega arith) in
    rw within refl
split_once-step separator byte more false is before =
    ap (option_map (λ (p : List ℕ × List ℕ). (byte ∷ p.0, p.1))) before
    ∙ shifted byte more (prefix_len (λ b. not (eqb b separator)) more) (ltb (prefix_len (λ b. not (eqb b separator)) more) (length more))
    ∙ ap (split_at_place (byte ∷ more) (1 + prefix_len (λ b. not (eqb b separator)) more))
    (sym (ltb-next (prefix_len (λ b. not (eqb b separator)) more) (length more)))

pub split_once-place : (separator : ℕ) (text : List ℕ) → split_once separator text
    ≡ split_at_place text (position_or_len (λ b. eqb b separator) text) (ltb (position_or_len (λ b. eqb b separator) text) (length text))
split_once-place separator [] = refl
split_once-place separator (byte ∷ more) = split_once-step separator byte more (eqb byte separator) refl (split_once-place separator more)

-- the place that `position` gives
place-Some : (text : List ℕ) (n i : ℕ) (within : Bool) → cond within (Some n) None ≡ Some i
    → split_at_place text n within ≡ Some (take i text, drop (i + 1) text)
place-Some text n i true at = let same : n ≡ i = cc in rw same refl
place-Some text n i false at = absurd cc

place-None : (text : List ℕ) (n : ℕ) (within : Bool) → cond within (Some n) None ≡ None → split_at_place text n within ≡ None
place-None text n true at = absurd cc
place-None text n false at = refl

-- a text is split at the first place of the separator
pub split_once-Some : (separator : ℕ) (text : List ℕ) (i : ℕ) → position (λ b. b == separator) text ≡ Some i
    → Some (take i text, take (length text - (i + 1)) (drop (i + 1) text)) ≡ split_once separator text
split_once-Some separator text i at =
    let whole : take (length text - (i + 1)) (drop (i + 1) text) ≡ drop (i + 1) text = take_all _ _ (omega (arith, length-drop (i + 1) text)) in
    sym (split_once-place separator text ∙ place-Some text _ i _ at ∙ ap (λ (rest : List ℕ). Some (take i text, rest)) (sym whole))

pub split_once-None : (separator : ℕ) (text : List ℕ) → position (λ b. b == separator) text ≡ None → split_once separator text ≡ None
split_once-None separator text at = split_once-place separator text ∙ place-None text _ _ at

-- a text without the separator
abbrev pub Lacks : ℕ → List ℕ → Type 0
Lacks separator [] = Unit {0}
Lacks separator (byte ∷ more) = (eqb byte separator ≡ false) × Lacks separator more

-- the same, as a test, for texts that are written out
abbrev pub lacks : ℕ → List ℕ → Bool
lacks separator [] = true
lacks separator (byte ∷ more) = not (eqb byte separator) && lacks separator more

pub Lacks-literal : (separator : ℕ) (text : List ℕ) → lacks separator text ≡ true → Lacks separator text
Lacks-literal separator [] test = tt
Lacks-literal separator (byte ∷ more) test = let both = and_parts (not (eqb byte separator)) (lacks separator more) test in
    (not-true (eqb byte separator) both.0, Lacks-literal separator more both.1)

pub Lacks-append : (separator : ℕ) (a b : List ℕ) → Lacks separator a → Lacks separator b → Lacks separator (a ++ b)
Lacks-append separator [] b in_a in_b = in_b
Lacks-append separator (byte ∷ a) b in_a in_b = (in_a.0, Lacks-append separator a b in_a.1 in_b)

-- a text is split after a part that lacks the separator
pub split_once-append : (separator : ℕ) (front rest : List ℕ) → Lacks separator front → split_once separator (front ++ separator ∷ rest) ≡ Some (front, rest)
split_once-append separator [] rest lacks = rw (eq-eqb separator separator refl) refl
split_once-append separator (byte ∷ front) rest lacks =
    let isnt = lacks.0 in rw isnt (ap (option_map (λ (p : List ℕ × List ℕ). (byte ∷ p.0, p.1))) (split_once-append separator front rest lacks.1))

pub split_once-lacks : (separator : ℕ) (text : List ℕ) → Lacks separator text → split_once separator text ≡ None
split_once-lacks separator [] lacks = refl
split_once-lacks separator (byte ∷ text) lacks =
    let isnt = lacks.0 in rw isnt (ap (option_map (λ (p : List ℕ × List ℕ). (byte ∷ p.0, p.1))) (split_once-lacks separator text lacks.1))

-- the pieces between the marks, by the first split
abbrev pub pieces_of : List ℕ → Option (List ℕ × List ℕ) → ℕ → List (List ℕ)
pieces_of text None separator = text ∷ []
pieces_of text (Some p) separator = p.0 ∷ slice_split (λ b. eqb b separator) p.1

split_step : (separator byte : ℕ) (more : List ℕ) (r : Option (List ℕ × List ℕ)) → split_once separator more ≡ r
    → slice_split (λ b. eqb b separator) more ≡ pieces_of more r separator
    → onto_first byte (slice_split (λ b. eqb b separator) more) ≡ pieces_of (byte ∷ more) (option_map (λ (p : List ℕ × List ℕ). (byte ∷ p.0, p.1)) r) separator
split_step separator byte more None is before = rw before refl
split_step separator byte more (Some p) is before = rw before refl

split_by : (separator byte : ℕ) (more : List ℕ) (same : Bool) → eqb byte separator ≡ same
    → slice_split (λ b. eqb b separator) more ≡ pieces_of more (split_once separator more) separator
    → slice_split (λ b. eqb b separator) (byte ∷ more) ≡ pieces_of (byte ∷ more) (split_once separator (byte ∷ more)) separator
split_by separator byte more true is before = rw is refl
split_by separator byte more false is before = rw is (split_step separator byte more (split_once separator more) refl before)

pub slice_split-split_once : (separator : ℕ) (text : List ℕ) → slice_split (λ b. eqb b separator) text ≡ pieces_of text (split_once separator text) separator
slice_split-split_once separator [] = refl
slice_split-split_once separator (byte ∷ more) = split_by separator byte more (eqb byte separator) refl (slice_split-split_once separator more)

pub split-Some : (separator : ℕ) (text front rest : List ℕ) → Some (front, rest) ≡ split_once separator text
    → slice_split (λ b. eqb b separator) text ≡ front ∷ slice_split (λ b. eqb b separator) rest
split-Some separator text front rest at = slice_split-split_once separator text ∙ ap (λ r. pieces_of text r separator) (sym at)

pub split-None : (separator : ℕ) (text : List ℕ) → None ≡ split_once separator text → slice_split (λ b. eqb b separator) text ≡ text ∷ []
split-None separator text at = slice_split-split_once separator text ∙ ap (λ r. pieces_of text r separator) (sym at)

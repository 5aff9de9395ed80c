-- Lines that follow one another, and one line more.
use Rattle.op_script.proofs.Words.{◌≡◌, ℕ, ◌+◌, ◌≤◌, Bool, true, false, cond, eqb, leb, List, [], ◌∷◌, ◌++◌, Option, None, Some, is_some, refl, ◌∙◌, arith}
use Rattle.op_script.proofs.Words.{AllByRecursion, and_parts, OrderView, LineView, command_count, numbered, is_in_order, next_after, and_then}
use Rattle.std.specs.List.{fold}
use Rattle.std.proofs.lemmas.Bool.{and_from, le-leb, eq-eqb}
use Rattle.std.proofs.lemmas.List.Sums.{sum_by-append, sum_by-cons}
use Rattle.op_script.specs.ReadingSteps.{is_command}

pub All-append : {X : Type 0} (P : X → Type 0) (xs ys : List X) → AllByRecursion P xs → AllByRecursion P ys → AllByRecursion P (xs ++ ys)
All-append P [] ys in_xs in_ys = in_ys
All-append P (x ∷ xs) ys in_xs in_ys = (in_xs.0, All-append P xs ys in_xs.1 in_ys)

-- the point of the last line
abbrev pub last_at : ℕ → List LineView → ℕ
last_at at lines = fold (λ before line. line.at) at lines

-- what happens has the number that is next
abbrev pub IsNext : ℕ → Option (ℕ × OrderView) → Type 0
IsNext next what = and_then (next_after next what) (λ n. true) ≡ true

follow_first : (next at count : ℕ) (more longer : List LineView) (first what : Option (ℕ × OrderView))
    → ((n : ℕ) → is_in_order at n more ≡ true → IsNext (n + count) what → is_in_order at n longer ≡ true)
    → and_then (next_after next first) (λ n. is_in_order at n more) ≡ true → IsNext (next + (cond (is_some first) 1 0 + count)) what
    → and_then (next_after next first) (λ n. is_in_order at n longer) ≡ true
follow_first next at count more longer None what rest given fits =
    rest next given (let same : next + (0 + count) ≡ next + count = omega arith in rw same at fits)
follow_first next at count more longer (Some command) what rest given fits =
    follow_command next at count more longer command (eqb command.0 next) what rest given fits
  where
    follow_command : (next at count : ℕ) (more longer : List LineView) (command : ℕ × OrderView) (test : Bool) (what : Option (ℕ × OrderView))
        → ((n : ℕ) → is_in_order at n more ≡ true → IsNext (n + count) what → is_in_order at n longer ≡ true)
        → and_then (cond test (Some (next + 1)) None) (λ n. is_in_order at n more) ≡ true → IsNext (next + (1 + count)) what
        → and_then (cond test (Some (next + 1)) None) (λ n. is_in_order at n longer) ≡ true
    follow_command next at count more longer command true what rest given fits =
        rest (next + 1) given (let same : next + (1 + count) ≡ next + 1 + count = omega arith in rw same at fits)
    follow_command next at count more longer command false what rest given fits = absurd cc

-- one line more after those that follow one another
pub follows-append : (last next : ℕ) (lines : List LineView) (line : LineView) → is_in_order last next lines ≡ true → last_at last lines ≤ line.at
    → IsNext (next + command_count lines) line.what → is_in_order last next (lines ++ line ∷ []) ≡ true
follows-append last next [] line given far fits =
    and_from (leb last line.at) _ (le-leb last line.at far) (let same : next + 0 ≡ next = omega arith in rw same at fits)
follows-append last next (first ∷ more) line given far fits =
    let parts = and_parts (leb last first.at) (and_then (next_after next first.what) (λ n. is_in_order first.at n more)) given in
    and_from (leb last first.at) _ parts.0
    (follow_first next first.at (command_count more) more (more ++ line ∷ []) first.what line.what
    (λ n rest fit. follows-append first.at n more line rest far fit) parts.1
    (rw (sum_by-cons (λ l. cond (is_command l) 1 0) first more) at fits))

-- one command more, or none
pub count-append : (lines : List LineView) (line : LineView) → command_count (lines ++ line ∷ []) ≡ command_count lines + cond (is_command line) 1 0
count-append lines line = sum_by-append (λ l. cond (is_command l) 1 0) lines (line ∷ []) ∙ omega arith

-- the number that a line is given is the next
pub numbered_next : (lines : List LineView) (order : Option OrderView) → IsNext (1 + command_count lines) (numbered lines order)
numbered_next lines None = refl
numbered_next lines (Some order) = rw (eq-eqb (command_count lines + 1) (1 + command_count lines) (omega arith)) refl

-- The lines of packets by their numbers: how often a number stands in them, what is printed of them, and whether a unit has a packet.
use Rattle.run_headline.proofs.Words.{◌≡◌, ℕ, Bool, true, false, ◌||◌, cond, Option, Some, None, List, [], ◌∷◌, ◌++◌, length, map, refl, sym, ap, ◌∙◌, subst}
use Rattle.run_headline.proofs.Words.{arith, ◌==◌, if◌then◌else◌, codes, filter, filter_map, fold, option_to_list, AllByRecursion, flat_map, list_any, Packet}
use Rattle.run_headline.proofs.Words.{Note, times, dones_in, none_in, numbered_times, done_lines, named_line, done_in}
use Rattle.nf_msgs.specs.declared.note.Note.TheVariants as note
use Rattle.report_lines.specs.Lines.{done_line}

-- What is printed of packets has the numbers of those that were processed.
done_numbers : (log : List Note) → map (λ d. d.0) (filter_map done_in log) ≡ map (λ d. d.number) (dones_in log)
done_numbers [] = refl
done_numbers (note.Processed number instance output ∷ log) = ap (λ l. number ∷ l) (done_numbers log)
done_numbers (other ∷ log) = done_numbers log

pub dones_times : (n : ℕ) (log : List Note) → length (filter (λ d. d.0 == n) (filter_map done_in log)) ≡ times n (map (λ d. d.number) (dones_in log))
dones_times n log = numbered_times (λ d. d.0) n (filter_map done_in log) ∙ ap (times n) (done_numbers log)

-- there is a number
abbrev pub has_some : List ℕ → Bool
has_some [] = false
has_some (n ∷ ns) = true

-- a fold whose every step keeps something
module _ {R : Type 0} (step : Option R → ℕ → Option R) (some : (o : Option R) (n : ℕ) → (r : R) × (step o n ≡ Some r)) where
  some_kept : (r : R) (ns : List ℕ) → length (option_to_list (fold step (Some r) ns)) ≡ 1
  some_kept r [] = refl
  some_kept r (n ∷ ns) = let next = some (Some r) n in ap (λ o. length (option_to_list (fold step o ns))) next.1 ∙ some_kept next.0 ns

  pub one_kept : (ns : List ℕ) → length (option_to_list (fold step None ns)) ≡ (if has_some ns then 1 else 0)
  one_kept [] = refl
  one_kept (n ∷ ns) = let next = some None n in ap (λ o. length (option_to_list (fold step o ns))) next.1 ∙ some_kept next.0 ns

-- whether one of some packets passes a test
pub any_own : (mine : ℕ → Bool) (part : Packet → Bool) (ps : List Packet) → AllByRecursion (λ p. mine p.number ≡ part p) ps
    → has_some (filter mine (map (λ p. p.number) ps)) ≡ list_any part ps
any_own mine part [] all = refl
any_own mine part (p ∷ ps) all = subst (λ b. has_some (cond b (p.number ∷ filter mine (map (λ q. q.number) ps)) (filter mine (map (λ q. q.number) ps)))
    ≡ (part p || list_any part ps)) (sym all.0)
    (elim (part p) as (λ b. has_some (cond b (p.number ∷ filter mine (map (λ q. q.number) ps)) (filter mine (map (λ q. q.number) ps)))
    ≡ (b || list_any part ps)) [
      | true ↦ refl
      | false ↦ any_own mine part ps all.1
    ])

pub none_both : (xs ys : List ℕ) → ((p : ℕ) → times p xs ≡ times p ys) → has_some xs ≡ has_some ys
none_both [] ys same = ap has_some (sym (none_in ys (λ p. sym (same p))))
none_both (x ∷ xs) [] same = absurd (let none = none_in (x ∷ xs) same in let long = ap length none in omega (arith, long))
none_both (x ∷ xs) (y ∷ ys) same = refl

-- the lines of what was processed
pub done_text : (names : List (List ℕ)) (log : List Note) → flat_map (named_line (codes "done ") names) (filter_map done_in log) ≡ done_lines names log
done_text names [] = refl
done_text names (note.Processed number instance output ∷ log) = ap (λ l. done_line names (note.Processed number instance output) ++ l) (done_text names log)
done_text names (other ∷ log) = done_text names log

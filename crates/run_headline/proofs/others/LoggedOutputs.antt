-- The outputs that a log notes, by the numbers of their packets; and how often numbers stand among those that pass a test.
use Rattle.run_headline.proofs.Words.{◌≡◌, ℕ, ◌+◌, Bool, true, false, cond, List, [], ◌∷◌, map, refl, sym, ap, ◌∙◌, arith, ◌==◌, if◌then◌else◌, filter}
use Rattle.run_headline.proofs.Words.{filter_map, Decides-eqb, Note, times, dones_in, times_filter, output_in}
use Rattle.nf_msgs.specs.declared.note.Note.TheVariants as note

-- what the log has an output for is what was processed
pub noted : (log : List Note) → map (λ x. x.0) (filter_map output_in log) ≡ map (λ d. d.number) (dones_in log)
noted [] = refl
noted (note.Processed number instance output ∷ log) = ap (λ ns. number ∷ ns) (noted log)
noted (other ∷ log) = noted log

module _ (mine : ℕ → Bool) where
  none_filtered : (n : ℕ) (ns : List ℕ) → mine n ≡ false → times n (filter mine ns) ≡ 0
  none_filtered n [] off = refl
  none_filtered n (m ∷ ns) off = elim (mine m) as (λ b. mine m ≡ b → times n (cond b (m ∷ filter mine ns) (filter mine ns)) ≡ 0) [
    | true ↦ λ on. elim (n == m) as (λ b. (n == m) ≡ b → (if b then 1 else 0) + times n (filter mine ns) ≡ 0) [
      | true ↦ λ is. (let never : true ≡ false = sym on ∙ ap mine (sym ((Decides-eqb n m).0 is)) ∙ off in cc)
      | false ↦ λ _. (let rest = none_filtered n ns off in omega (arith, rest))
    ] refl
    | false ↦ λ _. none_filtered n ns off
  ] refl

  -- what stands as often among all does so among those that pass
  pub both_filtered : (ms ns : List ℕ) → ((n : ℕ) → times n ms ≡ times n ns) → (n : ℕ) → times n (filter mine ms) ≡ times n (filter mine ns)
  both_filtered ms ns same n = elim (mine n) as (λ b. mine n ≡ b → times n (filter mine ms) ≡ times n (filter mine ns)) [
    | true ↦ λ on. times_filter mine n on ms ∙ same n ∙ sym (times_filter mine n on ns)
    | false ↦ λ off. none_filtered n ms off ∙ sym (none_filtered n ns off)
  ] refl

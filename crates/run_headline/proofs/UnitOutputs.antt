-- The outputs of a unit that no plain move handed on, as they stand among all outputs sorted by the packets' numbers.
use Rattle.run_headline.proofs.Words.{◌≡◌, ℕ, suc, Bool, true, false, cond, Option, Some, None, List, [], ◌∷◌, map, refl, sym, ap, ◌∙◌, subst, arith, ◌==◌}
use Rattle.run_headline.proofs.Words.{filter, filter_map, find, fold, scan, zip, AllByRecursion, Packet, Output, Semantics, kept_after, output_for, Msg, Note}
use Rattle.run_headline.proofs.Words.{Network, Config, Node, IsRising, packets, dones_in, done_where, is_loose, by_number, output_in, outs_of, outputs_to}
use Rattle.run_headline.proofs.Words.{packets_of, is_of, subject, nat_cmp_total, Setting}
use Rattle.nf_function.specs.declared.unit.Unit as units
use Rattle.nf_msgs.specs.declared.note.Note.TheVariants as note
use Rattle.net_world.specs.Fold as folds
use Rattle.run_report.specs.nf_net.specs.Promises.{Promises, Completed}
use Rattle.run_headline.proofs.FoundNumbers.{all_found, rising_from}
use Rattle.run_headline.proofs.others.PacketNumbers.{filter_numbers, numbered_is, tests_agree as tests_found}
use Rattle.run_headline.proofs.SortedParts.{all_filter, part_stays, up_rising}

abbrev Outs : Type 0
Outs = List (ℕ × Output)

-- the outputs that pass a test, as they were noted
module _ (mine : ℕ → Bool) where
  abbrev mine_of : Outs → Outs
  mine_of outs = filter (λ o. mine o.0) outs

  -- what is picked of their numbers and outputs is what is picked of those that were processed
  picks_noted : {X : Type 0} (pick : ℕ → Output → X) (log : List Note)
      → map (λ o. pick o.0 o.1) (mine_of (filter_map output_in log)) ≡ map (λ d. pick d.number d.output) (done_where mine (dones_in log))
  picks_noted pick [] = refl
  picks_noted pick (note.Processed number instance output ∷ log) = elim (mine number) as (λ b.
      map (λ o. pick o.0 o.1) (cond b ((number, output) ∷ mine_of (filter_map output_in log)) (mine_of (filter_map output_in log)))
      ≡ map (λ d. pick d.number d.output)
      (cond b (record { number = number; instance = instance; output = output } ∷ done_where mine (dones_in log)) (done_where mine (dones_in log)))) [
        | true ↦ ap (λ l. pick number output ∷ l) (picks_noted pick log)
        | false ↦ picks_noted pick log
      ]
  picks_noted pick (n ∷ log) = picks_noted pick log

  pub numbers_noted : (log : List Note) → map (λ o. o.0) (mine_of (filter_map output_in log)) ≡ map (λ d. d.number) (done_where mine (dones_in log))
  numbers_noted log = picks_noted (λ number output. number) log

  pub outputs_noted : (log : List Note) → map (λ o. o.1) (mine_of (filter_map output_in log)) ≡ map (λ d. d.output) (done_where mine (dones_in log))
  outputs_noted log = picks_noted (λ number output. output) log

  -- some of rising numbers rise
  pub some_rise : (least : ℕ) (ns : List ℕ) → IsRising least ns → IsRising least (filter mine ns)
  some_rise least [] rising = tt
  some_rise least (n ∷ ns) rising = elim (mine n) as (λ b. IsRising least (cond b (n ∷ filter mine ns) (filter mine ns))) [
    | true ↦ (rising.0, some_rise (suc n) ns rising.1)
    | false ↦ rising_from least (suc n) (filter mine ns) (let first = rising.0 in omega (arith, first)) (some_rise (suc n) ns rising.1)
  ]

  -- the outputs beside the packets that pass the test
  pub beside : (part : Packet → Bool) (ps : List Packet) (outs : Outs) → map (λ o. o.0) outs ≡ map (λ p. p.number) ps
      → AllByRecursion (λ p. mine p.number ≡ part p) ps → map (λ x. x.1.1) (filter (λ x. part x.0) (zip ps outs)) ≡ map (λ o. o.1) (mine_of outs)
  beside part [] [] same all = refl
  beside part [] (o ∷ outs) same all = cc
  beside part (p ∷ ps) [] same all = cc
  beside part (p ∷ ps) (o ∷ outs) same all =
      let number : o.0 ≡ p.number = cc in
      let rest : map (λ x. x.0) outs ≡ map (λ q. q.number) ps = cc in
      let more = beside part ps outs rest all.1 in
      let passes : mine o.0 ≡ part p = ap mine number ∙ all.0 in
      subst (λ b. map (λ x. x.1.1) (cond (part p) ((p, o) ∷ filter (λ x. part x.0) (zip ps outs)) (filter (λ x. part x.0) (zip ps outs)))
      ≡ map (λ x. x.1) (cond b (o ∷ mine_of outs) (mine_of outs))) (sym passes)
      (elim (part p) as (λ b. map (λ x. x.1.1) (cond b ((p, o) ∷ filter (λ x. part x.0) (zip ps outs)) (filter (λ x. part x.0) (zip ps outs)))
      ≡ map (λ x. x.1) (cond b (o ∷ mine_of outs) (mine_of outs))) [
        | true ↦ ap (λ l. o.1 ∷ l) more
        | false ↦ more
      ])

module _ {R : Type 0} (f : Semantics R) (c : Config) (items : List Msg) (u : units.Unit) where
  abbrev pub mine : ℕ → Bool
  mine = folds.is_of f c items u

  abbrev pub part : Packet → Bool
  part = is_of (subject f c items) u

  abbrev pub IsThere : Packet → Type 0
  IsThere p = find (λ q. q.number == p.number) (packets items) ≡ Some p

  pub tests_agree : (ps : List Packet) → AllByRecursion IsThere ps → AllByRecursion (λ p. mine p.number ≡ part p) ps
  tests_agree ps all = tests_found (packets items) part ps all

  -- the numbers of its packets
  pub those_numbers : (ps : List Packet) → AllByRecursion IsThere ps → filter mine (map (λ p. p.number) ps) ≡ map (λ p. p.number) (filter part ps)
  those_numbers ps all = filter_numbers mine part ps (tests_agree ps all)

  -- one instance is given numbers, or packets
  outputs_numbers : (kept : Option R) (ps : List Packet) → AllByRecursion IsThere ps
      → folds.outputs f c items kept (map (λ p. p.number) ps) ≡ scan (kept_after f c.site) (output_for f c.site) kept ps
  outputs_numbers kept [] all = refl
  outputs_numbers kept (p ∷ ps) all =
      subst (λ (q : Packet). output_for f c.site kept q ∷ folds.outputs f c items (kept_after f c.site kept q) (map (λ r. r.number) ps)
      ≡ output_for f c.site kept p ∷ scan (kept_after f c.site) (output_for f c.site) (kept_after f c.site kept p) ps)
      (sym (numbered_is (packets items) p all.0))
      (ap (λ l. output_for f c.site kept p ∷ l) (outputs_numbers (kept_after f c.site kept p) ps all.1))

  pub outputs_same : (kept : Option R) (ps : List Packet) → AllByRecursion IsThere ps
      → folds.outputs f c items kept (filter mine (map (λ p. p.number) ps)) ≡ scan (kept_after f c.site) (output_for f c.site) kept (filter part ps)
  outputs_same kept ps all =
      ap (folds.outputs f c items kept) (those_numbers ps all) ∙ outputs_numbers kept (filter part ps) (all_filter IsThere part ps all)

  pub folds_numbers : (kept : Option R) (ps : List Packet) → AllByRecursion IsThere ps
      → folds.fold f c items kept (map (λ p. p.number) ps) ≡ fold (kept_after f c.site) kept ps
  folds_numbers kept [] all = refl
  folds_numbers kept (p ∷ ps) all =
      subst (λ (q : Packet). folds.fold f c items (kept_after f c.site kept q) (map (λ r. r.number) ps)
      ≡ fold (kept_after f c.site) (kept_after f c.site kept p) ps)
      (sym (numbered_is (packets items) p all.0)) (folds_numbers (kept_after f c.site kept p) ps all.1)

  pub folds_same : (kept : Option R) (ps : List Packet) → AllByRecursion IsThere ps
      → folds.fold f c items kept (filter mine (map (λ p. p.number) ps)) ≡ fold (kept_after f c.site) kept (filter part ps)
  folds_same kept ps all = ap (folds.fold f c items kept) (those_numbers ps all) ∙ folds_numbers kept (filter part ps) (all_filter IsThere part ps all)

module _ {F R : Type 0} (setting : Setting F R) (w : Network (Node F R) Msg Note) (promises : Promises setting.function setting.config setting.items w)
    (completed : Completed setting.function setting.config setting.items w) (u : units.Unit)
    (loose : is_loose setting.config setting.items u w.log ≡ false) where
  open setting use {function as f, config as c, items, is_input as is}

  all_there : AllByRecursion (IsThere f c items u) (packets items)
  all_there = all_found (λ p. p.number) 0 (packets items) is.numbers

  -- what was processed of the unit is all its packets, in their order
  pub processed_all : folds.processed_of f c items u w.log ≡ filter (mine f c items u) (map (λ p. p.number) (packets items))
  processed_all = completed.all_went u loose ∙ ap (filter (mine f c items u)) completed.all_came

  up : IsRising 0 (map (λ o. o.0) (mine_of (mine f c items u) (filter_map output_in w.log)))
  up = subst (IsRising 0) (sym (numbers_noted (mine f c items u) w.log
      ∙ processed_all)) (some_rise (mine f c items u) 0 (map (λ p. p.number) (packets items)) is.numbers)

  pub unit_outputs : map (λ x. x.0) (by_number output_in w.log) ≡ map (λ p. p.number) (packets items)
      → outs_of (subject f c items) u (by_number output_in w.log) ≡ outputs_to (subject f c items) (packets_of (subject f c items) u)
  unit_outputs numbers =
      beside (mine f c items u) (part f c items u) (packets items) (by_number output_in w.log) numbers (tests_agree f c items u (packets items) all_there)
      ∙ ap (map (λ o. o.1)) (part_stays (λ o. o.0) _ nat_cmp_total (λ o. mine f c items u o.0) (filter_map output_in w.log) (up_rising 0 _ up))
      ∙ outputs_noted (mine f c items u) w.log ∙ promises.outputs_are u ∙ ap (folds.outputs f c items None) processed_all
      ∙ outputs_same f c items u None (packets items) all_there

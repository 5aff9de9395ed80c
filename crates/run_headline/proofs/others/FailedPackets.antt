-- The packets that came where an instance fails, by their numbers: those of a unit, in the order in which one instance may have got them, are first
-- those that the record that stands by has seen, then the lost ones, and then the open ones.
use Rattle.run_headline.proofs.Words.{◌≡◌, ℕ, ◌+◌, ◌≤◌, Bool, true, false, not, ◌&&◌, ◌||◌, Option, None, List, [], ◌∷◌, ◌++◌, length, map, take, drop, refl}
use Rattle.run_headline.proofs.Words.{sym, ap, ◌∙◌, subst, arith, IsPermutation, ◌==◌, filter, fold, AllByRecursion, and-true, or-true, and_parts, map-append}
use Rattle.run_headline.proofs.Words.{filter-append, Packet, Semantics, kept_after, Msg, Note, same_unit-true, Config, times, packets, arrivals_in, is_loose}
use Rattle.run_headline.proofs.Words.{unit_in, times-append, times_filter, Failover, IsLeft, is_affected, is_in, is_lost, is_open, lost_packets, open_packets}
use Rattle.run_headline.proofs.Words.{reflected_by, standing, filter_same, in_filter, same_number, those_filter, is_of, record_after, Subject, subject}
use Rattle.run_headline.proofs.Words.{numbered_in}
use Rattle.std.proofs.Math.Seq.{take-append_seam}
use Rattle.std.proofs.lemmas.List.{append-nil, drop-append-le, drop-map, take-append-le, take-map}
use Rattle.std.proofs.lemmas.List.Sorted.{IsPermutation-map}
use Rattle.nf_function.specs.declared.unit.Unit as units
use Rattle.net_world.specs.Fold as folds
use Rattle.standby_failover.specs.Failover.{record_kept, numbers_done, open_of, processed_of}
use Rattle.standby_failover.proofs.ListLemmas.{IsOnce, filter_none, front_and_others, in_drop, later_kept, none_times, not_before, once_those, others_are}
use Rattle.standby_failover.proofs.ListLemmas.{some_in}
use Rattle.standby_failover.proofs.Reflected.{once_done, processed_those}
use Rattle.run_headline.proofs.FoundNumbers.{IsFound, all_found}
use Rattle.run_headline.proofs.others.PacketNumbers.{all_numbered, filter_numbered, has_number, numbered, numbers}
use Rattle.run_headline.proofs.others.SameNumbers.{another_order}

module _ {F R : Type 0} (x : Failover F R) (left : IsLeft x) where
  open x.job use {function as f, config as c, items}
  open x.world use {log}

  abbrev pub of : Subject R
  of = subject f c items

  abbrev all : List Packet
  all = packets items

  -- the packets with some numbers
  abbrev pub with_numbers : List ℕ → List Packet
  with_numbers ns = map (numbered all) ns

  -- how many packets came, and these
  abbrev pub count : ℕ
  count = length (arrivals_in log)

  abbrev pub first : List Packet
  first = take count all

  found : AllByRecursion (IsFound (λ p. p.number) all) all
  found = all_found (λ p. p.number) 0 all left.is_input.numbers

  pub first_is : first ≡ with_numbers (arrivals_in log)
  first_is =
      ap (take count) (sym (all_numbered all all found)) ∙ take-map (numbered all) count (numbers all)
      ∙ ap with_numbers (ap (take count) (sym left.promises.in_turn.whole) ∙ take-append_seam (arrivals_in log) left.promises.in_turn.rest)

  -- one that came has its number
  abbrev pub HaveCome : List ℕ → Type 0
  HaveCome ns = (n : ℕ) → is_in n ns ≡ true → is_in n (arrivals_in log) ≡ true

  number_is : (n : ℕ) → is_in n (arrivals_in log) ≡ true → (numbered all n).number ≡ n
  number_is n there =
      let both = times-append n (arrivals_in log) left.promises.in_turn.rest in
      has_number n all (omega (arith, some_in n (arrivals_in log) there, ap (times n) left.promises.in_turn.whole, both))

  pub numbers_are : (ns : List ℕ) → HaveCome ns → numbers (with_numbers ns) ≡ ns
  numbers_are [] come = refl
  numbers_are (n ∷ ns) come =
      ap (λ m. m ∷ numbers (with_numbers ns)) (number_is n (come n (ap (λ b. b || is_in n ns) (same_number n))))
      ∙ ap (λ l. n ∷ l) (numbers_are ns (λ m on. come m (ap (λ b. (m == n) || b) on ∙ or-true (m == n))))

  -- those whose numbers stand among some
  pub numbered_are : (among ns : List ℕ) → HaveCome ns → numbered_in among (with_numbers ns) ≡ with_numbers (filter (λ n. is_in n among) ns)
  numbered_are among ns come =
      filter_numbered all (λ p. is_in p.number among) ns
      ∙ ap with_numbers (filter_same (λ n. is_in (numbered all n).number among) (λ n. is_in n among) ns (λ n there.
      ap (λ m. is_in m among) (number_is n (come n there))))

  -- one instance is given packets, or their numbers
  fold_same : (now : Option R) (ns : List ℕ) → fold (kept_after f c.site) now (with_numbers ns) ≡ folds.fold f c items now ns
  fold_same now [] = refl
  fold_same now (n ∷ ns) = fold_same (kept_after f c.site now (numbered all n)) ns

  module _ (u : units.Unit) where
    abbrev mine : ℕ → Bool
    mine = folds.is_of f c items u

    abbrev pub came : List ℕ
    came = folds.arrived_of f c items u log

    -- the packets of the unit that came
    abbrev own : List Packet
    own = filter (is_of of u) first

    own_is : own ≡ with_numbers came
    own_is = ap (filter (is_of of u)) first_is ∙ filter_numbered all (is_of of u) (arrivals_in log)

    -- a packet of the unit that came
    module _ (n : ℕ) (there : is_in n came ≡ true) where
      parts : (mine n ≡ true) × (is_in n (arrivals_in log) ≡ true)
      parts = and_parts (mine n) (is_in n (arrivals_in log)) (sym (in_filter n mine (arrivals_in log)) ∙ there)

      unit_is : unit_in x.job n ≡ u
      unit_is = same_unit-true (unit_in x.job n) u parts.0

    -- those that were processed, and then those that are open
    abbrev went : List ℕ
    went = processed_of x u

    abbrev waits : List ℕ
    waits = open_of x u

    abbrev pub row : List ℕ
    row = went ++ waits

    abbrev pub order : List Packet
    order = with_numbers row

    once_came : IsOnce came
    once_came = once_those mine (arrivals_in log) left.promises.came_once

    module _ (on : is_affected x u ≡ true) where
      done_is : (n : ℕ) → is_in n came ≡ true → is_in n went ≡ is_in n (numbers_done log)
      done_is n there = ap (is_in n) (processed_those x u) ∙ in_filter n mine (numbers_done log) ∙ ap (λ b. b && is_in n (numbers_done log)) (parts n there).0

      open_is : (n : ℕ) → is_in n came ≡ true → is_open x n ≡ not (is_in n went)
      open_is n there =
          ap (λ v. is_affected x v && not (is_in n (numbers_done log))) (unit_is n there) ∙ ap (λ b. b && not (is_in n (numbers_done log))) on
          ∙ ap not (sym (done_is n there))

      waits_are : waits ≡ filter (λ n. not (is_in n went)) came
      waits_are = those_filter mine (is_open x) (arrivals_in log) ∙ filter_same (is_open x) (λ n. not (is_in n went)) came open_is

      -- these are all that came, each once
      times_waits : (p : ℕ) (b : Bool) → is_in p went ≡ b → times p went + times p waits ≡ times p came
      times_waits p true is =
          let off : is_in p waits ≡ false = ap (is_in p) waits_are ∙ in_filter p (λ n. not (is_in n went)) came ∙ ap (λ b. not b && is_in p came) is in
          omega (arith, none_times p waits off, some_in p went is, left.promises.once u p, once_came p)
      times_waits p false is =
          let same = ap (times p) waits_are ∙ times_filter (λ n. not (is_in n went)) p (ap not is) came in
          omega (arith, none_times p went is, same)

      row_times : (p : ℕ) → times p row ≡ times p came
      row_times p = times-append p went waits ∙ times_waits p (is_in p went) refl

      once_row : IsOnce row
      once_row p = (let one = once_came p in let same = row_times p in omega (arith, one, same))

      once_went : IsOnce went
      once_went = subst IsOnce (sym (processed_those x u)) (once_those mine (numbers_done log) (once_done x left.is_input left.promises))

      row_came : (n : ℕ) → is_in n row ≡ true → is_in n came ≡ true
      row_came n there = elim (is_in n came) as (λ b. is_in n came ≡ b → b ≡ true) [
        | true ↦ λ _. refl
        | false ↦ λ off. absurd (omega (arith, none_times n came off, some_in n row there, row_times n))
      ] refl

      have_come : HaveCome row
      have_come n there = (parts n (row_came n there)).1

      pub is_all : IsPermutation order own
      is_all = subst (IsPermutation order) (sym own_is) (IsPermutation-map (numbered all) row came (another_order row came row_times))

      pub in_order : is_loose c items u log ≡ false → order ≡ own
      in_order steady =
          ap with_numbers (ap (λ l. went ++ l) waits_are ∙ front_and_others went came (left.promises.in_order u steady) once_came) ∙ sym own_is

      -- the lost ones are those that were processed later
      abbrev later : List ℕ
      later = drop (reflected_by x u) went

      few : reflected_by x u ≤ length went
      few = (left.reflects u).is.within

      lost_is : (n : ℕ) → is_in n row ≡ true → is_in n (lost_packets x) ≡ is_in n later
      lost_is n there =
          in_filter n (is_lost x) (arrivals_in log) ∙ ap (λ b. is_lost x n && b) (have_come n there) ∙ and-true (is_lost x n)
          ∙ ap (λ v. is_affected x v && is_in n (drop (reflected_by x v) (processed_of x v))) (unit_is n (row_came n there)) ∙ ap (λ b. b && is_in n later) on

      none_later : (n : ℕ) → is_in n waits ≡ true → is_in n later ≡ false
      none_later n there = elim (is_in n later) as (λ b. is_in n later ≡ b → b ≡ false) [
        | true ↦ λ is. sym (in_drop n (reflected_by x u) went is) ∙ not_before went waits once_row n there
        | false ↦ λ _. refl
      ] refl

      lost_are : filter (λ n. is_in n (lost_packets x)) row ≡ later
      lost_are =
          filter_same (λ n. is_in n (lost_packets x)) (λ n. is_in n later) row lost_is ∙ filter-append (λ n. is_in n later) went waits
          ∙ ap (λ l. l ++ filter (λ n. is_in n later) waits) (later_kept (reflected_by x u) went once_went)
          ∙ ap (λ l. later ++ l) (filter_none (λ n. is_in n later) waits none_later) ∙ append-nil later

      -- and the open ones those that weren't
      named_open : (n : ℕ) → is_in n row ≡ true → is_in n (open_packets x) ≡ not (is_in n went)
      named_open n there =
          in_filter n (is_open x) (arrivals_in log) ∙ ap (λ b. is_open x n && b) (have_come n there) ∙ and-true (is_open x n) ∙ open_is n (row_came n there)

      open_are : filter (λ n. is_in n (open_packets x)) row ≡ waits
      open_are = filter_same (λ n. is_in n (open_packets x)) (λ n. not (is_in n went)) row named_open ∙ others_are went waits once_row

      pub others_named : numbered_in (lost_packets x) order ++ numbered_in (open_packets x) order ≡ drop (reflected_by x u) order
      others_named =
          ap (λ l. l ++ numbered_in (open_packets x) order) (numbered_are (lost_packets x) row have_come ∙ ap with_numbers lost_are)
          ∙ ap (λ l. with_numbers later ++ l) (numbered_are (open_packets x) row have_come ∙ ap with_numbers open_are)
          ∙ sym (map-append (numbered all) later waits) ∙ ap with_numbers (sym (drop-append-le (reflected_by x u) went waits few))
          ∙ sym (drop-map (numbered all) (reflected_by x u) row)

      -- what stands by has seen the first so many of them, and what has caught up all
      pub seen_record : standing x u ≡ record_after of (take (reflected_by x u) order)
      seen_record = sym (
          ap (record_after of) (take-map (numbered all) (reflected_by x u) row) ∙ fold_same None (take (reflected_by x u) row)
          ∙ ap (record_kept x) (take-append-le (reflected_by x u) went waits few) ∙ (left.reflects u).is.folds)

    pub whole_record : record_after of order ≡ record_kept x row
    whole_record = fold_same None row

-- In a world of a run the record of a unit that stands by has seen exactly as many of its processed packets as it has counted; each packet was processed
-- once at most.
use Rattle.standby_failover.proofs.Words.{◌≡◌, ℕ, ◌+◌, ◌≤◌, true, Option, Some, None, List, [], ◌∷◌, map, take, length, refl, sym, ap, ◌∙◌, subst, arith}
use Rattle.standby_failover.proofs.Words.{take_at, FunctionLaws, packets_in, same_unit_equiv, IsFront, arrived_of, fold, is_of, packet_numbered, packets}
use Rattle.standby_failover.proofs.Words.{arrivals_in, dones_in, unit_in, times_filter, Promises, done_times, input_fits, Failover, record_kept, numbers_done}
use Rattle.standby_failover.proofs.Words.{processed_of, reflected_by, standing}
use Rattle.std.specs.List.{filter}
use Rattle.std.proofs.Math.Nat.{min-eq_left}
use Rattle.std.proofs.lemmas.List.{length-take-le, length-map}
use Rattle.std.proofs.lemmas.List.Sums.{count_by-le-length, length-filter}
use Rattle.nf_function.specs.declared.unit.Unit as units
use Rattle.net_world.specs.Input.{most_counted, IsInput}
use Rattle.net_world.specs.Standby.{StandsBy}
use Rattle.net_world.proofs.NumberCounts.{done_numbers}
use Rattle.nf_net.proofs.FrontLemmas.{front_length}
use Rattle.nf_net.proofs.PacketCounts.{no_longer}
use Rattle.standby_failover.specs.Failover.{AreReflected, IsReflected}
use Rattle.standby_failover.proofs.ListLemmas.{IsOnce}

module _ {F R : Type 0} (x : Failover F R) where
  open x.job use {function as f, config as c, items}

  pub of_itself : (p : ℕ) → is_of f c items (unit_in x.job p) p ≡ true
  of_itself p = same_unit_equiv.refl (unit_in x.job p)

  pub processed_those : (u : units.Unit) → processed_of x u ≡ filter (is_of f c items u) (numbers_done x.world.log)
  processed_those u = done_numbers (is_of f c items u) (dones_in x.world.log)

  module _ (is : IsInput x.job.function.kind x.job.config x.job.items) (ps : Promises x.job.function x.job.config x.job.items x.world) where
    pub once_done : IsOnce (numbers_done x.world.log)
    once_done p =
        let u = unit_in x.job p in
        let own = of_itself p in
        let came_is = times_filter (is_of f c items u) p own (arrivals_in x.world.log) in
        omega (arith, done_times (is_of f c items u) p own (dones_in x.world.log), ps.once u p, came_is, ps.came_once p)

    -- no more is processed of a unit than a record counts
    pub room : (u : units.Unit) → length (processed_of x u) ≤ most_counted
    room u =
        let kept = length-filter (is_of f c items u) (arrivals_in x.world.log) in
        let fewer = count_by-le-length (is_of f c items u) (arrivals_in x.world.log) in
        let turn = front_length (arrivals_in x.world.log) (map (λ p. p.number) (packets items)) ps.in_turn in
        let all = length-map (packets items) (λ p. p.number) in
        omega (arith, no_longer (processed_of x u) (arrived_of f c items u x.world.log) (ps.once u), kept, fewer, turn, all, is.few)

    module _ (laws : FunctionLaws x.job.function) where
      fold_counts : (r : Option R) (ns : List ℕ) → packets_in f r + length ns ≤ most_counted → packets_in f (fold f c items r ns) ≡ packets_in f r + length ns
      fold_counts r [] few = omega arith
      fold_counts r (p ∷ ns) few =
          let next : Option R = Some (f.stepped c.site r (packet_numbered items p)).kept in
          let one : packets_in f next ≡ packets_in f r + 1 = laws.counts c.site r (packet_numbered items p) ∙ min-eq_left (omega (arith, few)) in
          rw ((input_fits c items is p).transport) (omega (arith, fold_counts next ns (omega (arith, few, one)), one))

      -- a record has counted the packets that it is folded of
      pub counts : (ns : List ℕ) → length ns ≤ most_counted → packets_in f (record_kept x ns) ≡ length ns
      counts ns few = let all = fold_counts None ns (omega (arith, few)) in omega (arith, all)

      pub counts_first : (u : units.Unit) (k : ℕ) → k ≤ length (processed_of x u) → packets_in f (record_kept x (take k (processed_of x u))) ≡ k
      counts_first u k few =
          let long = length-take-le k (processed_of x u) few in
          omega (arith, counts (take k (processed_of x u)) (omega (arith, long, few, room u)), long)

      only_one : (u : units.Unit) (k : ℕ) → IsReflected x u k → k ≡ reflected_by x u
      only_one u k h = sym (counts_first u k h.within) ∙ ap (packets_in f) h.folds

      -- where a front of what was processed has that record
      of_front : (u : units.Unit) (front : List ℕ) → IsFront front (processed_of x u) → record_kept x front ≡ standing x u → AreReflected x u
      of_front u front h folds =
          let first : take (length front) (processed_of x u) ≡ front = ap (take (length front)) (sym h.whole) ∙ take_at front h.rest (length front) refl in
          let short = front_length front (processed_of x u) h in
          let counted : IsReflected x u (length front) = record { within = short; folds = ap (record_kept x) first ∙ folds } in
          record { is = subst (IsReflected x u) (only_one u (length front) counted) counted; only = only_one u }

      pub reflects : (u : units.Unit) → ((r : R) → standing x u ≡ Some r → StandsBy x.job x.world x.to u) → AreReflected x u
      reflects u stood = by_record (standing x u) refl
        where
          by_record : (o : Option R) → standing x u ≡ o → AreReflected x u
          by_record None e = of_front u [] (record { rest = processed_of x u; whole = refl }) (sym e)
          by_record (Some r) e = let h = stood r e in of_front u h.front h.is_front (h.folds ∙ sym h.there)

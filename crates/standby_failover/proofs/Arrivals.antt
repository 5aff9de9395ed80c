-- The lost packets by their numbers are those of the list by their order, picked out of what came; and each packet of the log is one of the input.
use Rattle.standby_failover.proofs.Words.{◌≡◌, ℕ, Bool, true, false, Option, Some, List, [], ◌∷◌, map, drop, filter, refl, sym, ap, ◌∙◌, arith, if◌then◌else◌}
use Rattle.standby_failover.proofs.Words.{◌==◌, ◌&&◌, ◌||◌, find, and_parts, Packet, is_of, packets, arrivals_in, dones_in, unit_in, times_filter, done_times}
use Rattle.standby_failover.proofs.Words.{Failover, lost_in_order, numbers_done, processed_of, reflected_by, is_affected, is_in, is_lost, IsLeft}
use Rattle.std.proofs.lemmas.Cmp.{nat_eq_equiv}
use Rattle.standby_failover.specs.Failover.{lost_packets}
use Rattle.standby_failover.proofs.ListLemmas.{in_filter, in_drop, in-append, filter_same, none_times, some_in}
use Rattle.standby_failover.proofs.Reflected.{of_itself, processed_those}

module _ {F R : Type 0} (x : Failover F R) where
  -- a lost packet was processed
  lost_done : (p : ℕ) → is_lost x p ≡ true → is_in p (numbers_done x.world.log) ≡ true
  lost_done p e =
      let u = unit_in x.job p in
      let m = is_of x.job.function x.job.config x.job.items u in
      let both = and_parts (is_affected x u) (is_in p (drop (reflected_by x u) (processed_of x u))) e in
      let own : is_in p (processed_of x u) ≡ true = in_drop p (reflected_by x u) (processed_of x u) both.1 in
      let among : (m p && is_in p (numbers_done x.world.log)) ≡ true = sym (in_filter p m (numbers_done x.world.log)) ∙ ap (is_in p) (sym (processed_those x u))
      ∙ own in
      (and_parts (m p) (is_in p (numbers_done x.world.log)) among).1

  -- so it is lost where it stands in the list
  listed : (p : ℕ) → is_in p (lost_in_order x) ≡ is_lost x p
  listed p = in_filter p (is_lost x) (numbers_done x.world.log) ∙ by_test (is_lost x p) refl
    where
      by_test : (b : Bool) → is_lost x p ≡ b → (is_lost x p && is_in p (numbers_done x.world.log)) ≡ is_lost x p
      by_test true e = ap (λ b. b && is_in p (numbers_done x.world.log)) e ∙ lost_done p e ∙ sym e
      by_test false e = ap (λ b. b && is_in p (numbers_done x.world.log)) e ∙ sym e

  pub lost_by_number : filter (λ p. is_in p (lost_in_order x)) (arrivals_in x.world.log) ≡ lost_packets x
  lost_by_number = filter_same (λ p. is_in p (lost_in_order x)) (is_lost x) (arrivals_in x.world.log) (λ p e. listed p)

found_next : (b : Bool) (q : Packet) (o : Option Packet) → (b ≡ false → (r : Packet) × (o ≡ Some r)) → (r : Packet) × ((if b then Some q else o) ≡ Some r)
found_next true q o h = (q, refl)
found_next false q o h = h refl

-- a number among those of packets is that of one that is found
pub found_in : (p : ℕ) (ps : List Packet) → is_in p (map (λ q. q.number) ps) ≡ true → (q : Packet) × (find (λ q. q.number == p) ps ≡ Some q)
found_in p [] e = cc
found_in p (q ∷ ps) e =
    found_next (q.number == p) q (find (λ r. r.number == p) ps)
    (λ off. found_in p ps (sym (ap (λ b. b || is_in p (map (λ r. r.number) ps)) (nat_eq_equiv.symm p q.number ∙ off)) ∙ e))

module _ {F R : Type 0} (x : Failover F R) (left : IsLeft x) where
  pub found_came : (p : ℕ) → is_in p (arrivals_in x.world.log) ≡ true → (q : Packet) × (find (λ q. q.number == p) (packets x.job.items) ≡ Some q)
  found_came p e =
      found_in p (packets x.job.items) (ap (is_in p) (sym left.promises.in_turn.whole) ∙ in-append p (arrivals_in x.world.log) left.promises.in_turn.rest
      ∙ ap (λ b. b || is_in p left.promises.in_turn.rest) e)

  -- what was processed came
  came_done : (p : ℕ) → is_in p (numbers_done x.world.log) ≡ true → is_in p (arrivals_in x.world.log) ≡ true
  came_done p e = by_test (is_in p (arrivals_in x.world.log)) refl
    where
      by_test : (b : Bool) → is_in p (arrivals_in x.world.log) ≡ b → is_in p (arrivals_in x.world.log) ≡ true
      by_test true t = t
      by_test false t =
          let u = unit_in x.job p in
          let m = is_of x.job.function x.job.config x.job.items u in
          let own = of_itself x p in
          let came_is = times_filter m p own (arrivals_in x.world.log) in
          let none = none_times p (arrivals_in x.world.log) t in
          absurd (omega (arith, some_in p (numbers_done x.world.log) e, done_times m p own (dones_in x.world.log), left.promises.once u p, came_is, none))

  pub found_done : (p : ℕ) → is_in p (numbers_done x.world.log) ≡ true → (q : Packet) × (find (λ q. q.number == p) (packets x.job.items) ≡ Some q)
  found_done p e = found_came p (came_done p e)

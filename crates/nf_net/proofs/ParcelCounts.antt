-- The packets under way at their places are as many as came and aren't processed, since of each number as many stand there.
use Rattle.nf_net.proofs.Words.{◌≡◌, ℕ, zero, suc, ◌+◌, ◌<◌, ◌≤◌, Bool, true, false, Option, Some, None, List, [], ◌++◌, map, length, length-append, append-nil}
use Rattle.nf_net.proofs.Words.{refl, sym, ap, ◌∙◌, arith, if◌then◌else◌, ◌&&◌, ◌==◌, nat_lt, slice_get, slice_index_or, flat_map, nat_tests, Decides-eqb}
use Rattle.nf_net.proofs.Words.{Decides-ltb, length-map, slice_get_within, Semantics, unit_at, same_unit_equiv, Msg, Note, switch_node, instance_node, Network}
use Rattle.nf_net.proofs.Words.{on_link, Config, Node, packet_numbered, arrivals_in, dones_in, is_of, arrived_of, processed_of, in_flight_of, all_but}
use Rattle.nf_net.proofs.Words.{carried_in, held_by, on_links, passed_in, forwarded_in, stored_by, handed_over_in, queued_by, diverted_in, owner, times_filter}
use Rattle.nf_net.proofs.Words.{Unit, split}
use Rattle.std.specs.Prelude.{◌*◌}
use Rattle.net_world.specs.Fold.{times}
use Rattle.net_world.specs.Path.{at_instance, in_flight}
use Rattle.net_world.proofs.NumberCounts.{times-append}
use Rattle.nf_net.proofs.PacketCounts.{no_longer, done_times}

neither : (a b : Bool) → b ≡ false → a && b ≡ false
neither true b off = off
neither false b off = refl

-- what each of the first numbers has
abbrev every : (ℕ → List ℕ) → ℕ → List ℕ
every of zero = []
every of (suc i) = every of i ++ of i

module _ (p one : ℕ) (of : ℕ → List ℕ) where
  but_none_of : (n : ℕ) → n ≤ one → times p (all_but one of n) ≡ times p (every of n)
  but_none_of zero low = refl
  but_none_of (suc i) low =
      let off : (i == one) ≡ false = grind (arith, nat_tests, low) in
      let left : ◌≡◌ {A = List ℕ} (if i == one then [] else of i) (of i) = rw off refl in
      let both = times-append p (all_but one of i) (if i == one then [] else of i) in
      let same = ap (times p) left in
      let all = times-append p (every of i) (of i) in
      omega (arith, but_none_of i (omega (arith, low)), both, same, all)

  -- one after the others, or none of them, has what all have
  but_one_of : (n : ℕ) → one < n → times p (all_but one of n) + times p (of one) ≡ times p (every of n)
  but_one_of zero low = absurd (omega (arith, low))
  but_one_of (suc i) low =
      split (i == one) (λ b. times p (all_but one of i ++ (if b then [] else of i)) + times p (of one) ≡ times p (every of i ++ of i))
      (λ on.
      let same : i ≡ one = (Decides-eqb i one).0 on in
      let own = ap (λ k. times p (of k)) same in
      let left = ap (times p) (append-nil (all_but one of i)) in
      let all = times-append p (every of i) (of i) in
      omega (arith, but_none_of i (omega (arith, same)), own, left, all))
      (λ off.
      let below : one < i = grind (arith, nat_tests, low, off) in
      omega (arith, but_one_of i below, times-append p (all_but one of i) (of i), times-append p (every of i) (of i)))

  all_have : (n : ℕ) → (n ≤ one → of one ≡ []) → times p (all_but one of n) + times p (of one) ≡ times p (every of n)
  all_have n none = split (nat_lt one n) (λ _. times p (all_but one of n) + times p (of one) ≡ times p (every of n))
      (λ low. but_one_of n ((Decides-ltb one n).0 low))
      (λ high.
      let above : n ≤ one = grind (arith, nat_tests, high) in
      omega (arith, ap (times p) (none above), but_none_of n above))

module _ {F R : Type 0} (f : Semantics R) (c : Config) (items : List Msg) (w : Network (Node F R) Msg Note) (count : length w.nodes ≡ length c.names + 2)
    (each_in_place : (u : Unit) (p : ℕ)
    → times p (processed_of f c items u w.log) + times p (in_flight_of f c items u w) ≡ times p (arrived_of f c items u w.log)) where
  abbrev instances : ℕ
  instances = length c.names

  -- nothing is at an instance that isn't there
  nowhere : (i : ℕ) → instances ≤ i → at_instance w i ≡ []
  nowhere i high =
      let off : nat_lt (instance_node i) (length w.nodes) ≡ false = grind (arith, nat_tests, high, count) in
      let link : on_link w switch_node (instance_node i) ≡ [] =
      ap (λ b. if b then slice_index_or w.links (switch_node * length w.nodes + instance_node i) [] else [])
      (neither (nat_lt switch_node (length w.nodes)) (nat_lt (instance_node i) (length w.nodes)) off) in
      ap (λ v. held_by (slice_get w.nodes (instance_node i)) ++ flat_map carried_in v) link ∙ by_node (slice_get w.nodes (instance_node i)) refl
    where
      by_node : (o : Option (Node F R)) → slice_get w.nodes (instance_node i) ≡ o → held_by o ++ [] ≡ []
      by_node None e = refl
      by_node (Some node) e = let there = slice_get_within w.nodes (instance_node i) node e in absurd (omega (arith, there, high, count))

  -- what waits for shares
  abbrev behind : List ℕ
  behind = flat_map queued_by w.nodes ++ on_links w diverted_in

  -- so it makes no difference which instance comes last
  any_order : (p one other : ℕ) → times p (in_flight w instances one) ≡ times p (in_flight w instances other)
  any_order p one other = parts one ∙ sym (parts other)
    where
      parts : (one : ℕ) → times p (in_flight w instances one) ≡ times p (on_links w passed_in) + (times p (on_links w forwarded_in)
          + (times p (flat_map stored_by w.nodes) + (times p (on_links w handed_over_in) + (times p (every (at_instance w) instances) + times p behind))))
      parts one =
          let first = times-append p (on_links w passed_in) (on_links w forwarded_in
          ++ (flat_map stored_by w.nodes ++ (on_links w handed_over_in ++ (all_but one (at_instance w) instances ++ (at_instance w one ++ behind))))) in
          let second = times-append p (on_links w forwarded_in)
          (flat_map stored_by w.nodes ++ (on_links w handed_over_in ++ (all_but one (at_instance w) instances ++ (at_instance w one ++ behind)))) in
          let third = times-append p (flat_map stored_by w.nodes)
          (on_links w handed_over_in ++ (all_but one (at_instance w) instances ++ (at_instance w one ++ behind))) in
          let fourth = times-append p (on_links w handed_over_in) (all_but one (at_instance w) instances ++ (at_instance w one ++ behind)) in
          let last = times-append p (at_instance w one) behind in
          let all = all_have p one (at_instance w) instances (nowhere one) in
          omega (arith, first, second, third, fourth, times-append p (all_but one (at_instance w) instances) (at_instance w one ++ behind), last, all)

  pub parcels_are : (one : ℕ) → length (in_flight w instances one) + length (dones_in w.log) ≡ length (arrivals_in w.log)
  parcels_are one =
      let numbers : List ℕ = map (λ d. d.number) (dones_in w.log) in
      let long : length numbers ≡ length (dones_in w.log) = length-map (dones_in w.log) (λ d. d.number) in
      let both : length (in_flight w instances one ++ numbers) ≡ length (in_flight w instances one) + length numbers =
      length-append (in_flight w instances one) numbers in
      let most = no_longer (in_flight w instances one ++ numbers) (arrivals_in w.log) (λ p. let same = same_times p in omega (arith, same)) in
      let least = no_longer (arrivals_in w.log) (in_flight w instances one ++ numbers) (λ p. let same = same_times p in omega (arith, same)) in
      omega (arith, long, both, most, least)
    where
      same_times : (p : ℕ) → times p (in_flight w instances one ++ map (λ d. d.number) (dones_in w.log)) ≡ times p (arrivals_in w.log)
      same_times p =
          let u : Unit = unit_at f.kind c.site (packet_numbered items p) in
          let own : is_of f c items u p ≡ true = same_unit_equiv.refl u in
          let all : times p (arrived_of f c items u w.log) ≡ times p (arrivals_in w.log) = times_filter (is_of f c items u) p own (arrivals_in w.log) in
          let ran : times p (processed_of f c items u w.log) ≡ times p (map (λ d. d.number) (dones_in w.log)) = done_times (is_of f c items u) p own
          (dones_in w.log) in
          let way : times p (in_flight_of f c items u w) ≡ times p (in_flight w instances (owner c items u w.log)) = times_filter (is_of f c items u) p own
          (in_flight w instances (owner c items u w.log)) in
          let append = times-append p (in_flight w instances one) (map (λ d. d.number) (dones_in w.log)) in
          omega (arith, all, ran, way, each_in_place u p, any_order p one (owner c items u w.log), append)

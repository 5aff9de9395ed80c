-- Where no message is on a link no packet is under way: each unit that came rests, with all its packets processed.
use Rattle.nf_net.proofs.Words.{◌≡◌, ℕ, ◌+◌, ◌<◌, ◌≤◌, true, false, List, [], ◌∷◌, ◌++◌, map, length, append-nil, refl, sym, ap, ◌∙◌, subst, arith}
use Rattle.nf_net.proofs.Words.{filter-append, if◌then◌else◌, ◌&&◌, ◌==◌, nat_lt, filter, Packet, unit_at, same_unit-true, Target, Msg, Note, is_there, Network}
use Rattle.nf_net.proofs.Words.{IsWorld, queue_at, at, Each, firsts, nil_right, same_of, none_in, IsSys, AtEnd, OpenShare, moves_of, EndsAll, At_share}
use Rattle.nf_net.proofs.Words.{ShareRests, end_all, Node, Switch, packet_numbered, arrivals_in, is_loose, is_of, arrived_of, processed_of, is_sys, target_node}
use Rattle.nf_net.proofs.Words.{Given, Label, GenuinePacket, S, A, came_by, Joined, done_same, same_times, given, genuine, silent_total, Unit, flow_of, split}
use Rattle.nf_net.proofs.Words.{Setting}
use Rattle.actor_net.proofs.WeightLaws as weights
use Rattle.proof_machines.proofs.unit.Stages as stages
use Rattle.proof_machines.proofs.whole.EndAll.{As_moves}
use Rattle.net_world.specs.Input.{packets}
use Rattle.net_world.specs.Fold.{times}
use Rattle.nf_net.proofs.answers.ArrivalLemmas.{numbers}
use Rattle.nf_net.proofs.RunWords.{credit, there, sides, members_few}
use Rattle.nf_net.proofs.PacketCounts.{few_done, few_came}
use Rattle.nf_net.proofs.WindowRuns.{InWindow, items_none}
use Rattle.nf_net.proofs.ends.NoMoves.{quiet_links}

module _ {F R : Type 0} (setting : Setting F R) (n : ℕ) (count : n ≡ length setting.config.names + 2) (w : Network (Node F R) Msg Note)
    (nodes : length w.nodes ≡ n) (j : Joined setting.function (given setting) n w)
    (in_turn : arrivals_in w.log ++ numbers (queue_at w (at 0 0)) ≡ numbers setting.items)
    (silent : (s r : ℕ) → (r == 0) && (s == 0) ≡ false → queue_at w (at r s) ≡ []) where
  open setting use {function as f, config as c, items}

  abbrev g : Given
  g = given setting

  abbrev laws_of : IsSys (S f g)
  laws_of = is_sys f g.site g.packet

  module _ (u : Unit) where
    -- a unit that a packet of the input has goes to an instance that is there, where it goes to one
    target_there : 2 ≤ j.world.target u → (qs : List Packet) → Each (GenuinePacket f g) qs → (p : ℕ) (ps : List ℕ)
        → filter (is_of f c items u) (map (λ q. q.number) qs) ≡ p ∷ ps → j.world.target u < n
    target_there two [] h p ps e = cc
    target_there two (q ∷ qs) h p ps e =
        split (is_of f c items u q.number)
        (λ b. (if b then q.number ∷ filter (is_of f c items u) (map (λ x. x.number) qs) else filter (is_of f c items u) (map (λ x. x.number) qs)) ≡ p ∷ ps
        → j.world.target u < n)
        (λ mine _.
        let way = j.shown_is.switch.routes (flow_of c.site q).0 h.0.fits in
        let unit : unit_at f.kind c.site q ≡ u = ap (unit_at f.kind c.site) h.0.same
        ∙ same_unit-true (unit_at f.kind c.site (packet_numbered items q.number)) u mine in
        by_target way.target (ap j.world.target (sym unit) ∙ way.node) way.there) (λ _ rest. target_there two qs h.1 p ps rest) e
      where
        by_target : (t : Target) → j.world.target u ≡ target_node t → is_there j.nodes.switch t ≡ true → j.world.target u < n
        by_target Target.Controller at_node inside = absurd (omega (arith, two, at_node))
        by_target (Target.Instance i) at_node inside =
            subst (λ k. k < n) (sym at_node) (there c n count i (subst (λ k. nat_lt i k ≡ true) j.shown_is.switch.instances inside))

    -- what came is among what was given
    given_first : (p : ℕ) (ps : List ℕ) → arrived_of f c items u w.log ≡ p ∷ ps
        → filter (is_of f c items u) (numbers items) ≡ p ∷ (ps ++ filter (is_of f c items u) (numbers (queue_at w (at 0 0))))
    given_first p ps e =
        ap (filter (is_of f c items u)) (sym in_turn)
        ∙ filter-append (is_of f c items u) (arrivals_in w.log) (numbers (queue_at w (at 0 0)))
        ∙ ap (λ xs. xs ++ filter (is_of f c items u) (numbers (queue_at w (at 0 0)))) e

    module _ (e : AtEnd (S f g) laws_of u n (moves_of (S f g) (A f g) j.world) (arrived_of f c items u w.log) (is_loose c items u w.log)) where
      left_none : e.left ≡ []
      left_none = by_list (arrived_of f c items u w.log) refl
        where
          by_list : (ps : List ℕ) → arrived_of f c items u w.log ≡ ps → e.left ≡ []
          by_list [] k = nil_right (firsts e.ran) e.left (none_in (firsts e.ran ++ e.left)
              (λ p. same_of e.flag (firsts e.ran ++ e.left) (arrived_of f c items u w.log) e.order p ∙ ap (stages.times p) k))
          by_list (p ∷ ps) k = e.none (target_there e.two (packets items) (genuine setting) p
              (ps ++ filter (is_of f c items u) (numbers (queue_at w (at 0 0)))) (given_first p ps k))

      went_is : firsts e.ran ++ e.left ≡ processed_of f c items u w.log
      went_is = ap (λ xs. firsts e.ran ++ xs) left_none ∙ append-nil (firsts e.ran) ∙ sym e.done ∙ done_same setting n w j u

      moves_went : (p : ℕ) → times p (processed_of f c items u w.log) ≡ times p (arrived_of f c items u w.log)
      moves_went p = sym (same_times p (processed_of f c items u w.log)) ∙ ap (stages.times p) (sym went_is)
          ∙ same_of e.flag (firsts e.ran ++ e.left) (arrived_of f c items u w.log) e.order p ∙ same_times p (arrived_of f c items u w.log)

    shares_went : (e : OpenShare) → ShareRests (S f g) (A f g) laws_of u n j.world (came_by f g w.log u) e → (p : ℕ)
        → times p (processed_of f c items u w.log) ≡ times p (arrived_of f c items u w.log)
    shares_went e s p = sym (same_times p (processed_of f c items u w.log)) ∙ ap (stages.times p) (sym (done_same setting n w j u))
        ∙ same_of s.flag _ (arrived_of f c items u w.log) s.order p ∙ same_times p (arrived_of f c items u w.log)

    -- each packet that came was processed
    all_went : (p : ℕ) → times p (processed_of f c items u w.log) ≡ times p (arrived_of f c items u w.log)
    all_went = by_end (end_all (S f g) (A f g) laws_of u n j.world (omega (arith, count)) (quiet_links f g n count w j silent)
        (sides setting n count w j) (members_few setting n count w j) (came_by f g w.log u) (j.shown_is.every.unit u))
      where
        by_end : EndsAll (S f g) (A f g) laws_of u n j.world (came_by f g w.log u) → (p : ℕ)
            → times p (processed_of f c items u w.log) ≡ times p (arrived_of f c items u w.log)
        by_end (As_moves e) = moves_went e
        by_end (At_share e s) = shares_went e s

  -- so the switch counts none as under way
  pub grounded : IsWorld w → (h : InWindow c.window w) → (j.nodes.switch.flying ≡ 0) × (j.nodes.switch.pool.cells ≡ c.window)
  grounded world h = (ap (λ s. s.flying) (sym same) ∙ none, ap (λ s. s.pool.cells) (sym same) ∙ h.cells)
    where
      same : h.switch ≡ j.nodes.switch
      same = let is_switch : ◌≡◌ {A = Node F R} (Switch h.switch) (Switch j.nodes.switch) = sym (h.there (Switch h.switch))
          ∙ j.nodes_are 0 (omega (arith, count)) (Switch h.switch) in
          cc

      input_label : Each (Label f g 0 0) (queue_at w (at 0 0))
      input_label = j.labels 0 0 (omega (arith, nodes, count)) (omega (arith, nodes, count))

      none : h.switch.flying ≡ 0
      none =
          let input : weights.weigh credit w.input ≡ 0 = items_none f g (queue_at w (at 0 0)) input_label in
          omega (arith, h.balance, silent_total w world silent credit, input, few_done setting n w j, few_came f c items w.log all_went)

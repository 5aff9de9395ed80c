-- The switch's step, and a packet of the input, lead from a world that shows a seat to one that shows a seat.
use Rattle.proof_machines.proofs.net.Links.{same_controller}
use Rattle.proof_machines.proofs.net.Words.{◌≡◌, ◌≢◌, ℕ, ◌≤◌, Bool, true, false, Some, None, List, [], ◌∷◌, ◌++◌, drop, refl, sym, ap, ◌∙◌, subst, append-nil}
use Rattle.proof_machines.proofs.net.Words.{arith, if◌then◌else◌, ◌&&◌, ◌==◌, nat_tests, Decides-eqb, and_parts, Where, At_a, At_b, At_c, Item, Pass, Fence_to}
use Rattle.proof_machines.proofs.net.Words.{State, moved, switch_does, redirected, send_to, MoveMsg, where_true, add, Nodes, expect, after_take, switch_from_c}
use Rattle.proof_machines.proofs.net.Words.{nothing_seen, arrives_at, By_sa, By_sb, By_sc, By_ca, By_cb, By_ac, By_bc, By_cc, By_cs, shown_by, Each, UnitSeat}
use Rattle.proof_machines.proofs.net.Words.{seat_shape, seat_all, seat_loose, filter_map, never_true, Filter, sw_next, in_next, Msg, In_packet, Asked, Carry_on}
use Rattle.proof_machines.proofs.net.Words.{Pass_on, Fence_on, Of_move, Sys, IsSys, find_op, sw_target, sw_sends, World, links_after, seen, Seeing, EachSent}
use Rattle.proof_machines.proofs.net.Words.{frame, Label, shows, node_at, place, Holds, sent, head, view_some, view_none, view_put, each_after, each_put}
use Rattle.proof_machines.proofs.net.Words.{same_unit, same_unit-true, either_way, split}
use Rattle.proof_machines.proofs.unit.Machine.{Carry, Fence, Forward, Install, Stray, Arrive, Take_cs}
use Rattle.proof_machines.proofs.unit.Lists.{head_passes}
use Rattle.proof_machines.proofs.unit.Sides.{for_switch, seat_stands}
use Rattle.proof_machines.proofs.net.InstWorld.{Goes_to, moves_on, same_order}
use Rattle.proof_machines.proofs.net.OtherWorld.{one_unseen, put_unseen, two_not}

module _ {R : Type 0} (S : Sys R) (laws : IsSys S) (z : Seeing) where
  abbrev its : List (Msg R) → List (Item R)
  its ms = filter_map (seen (frame S z)) ms

  sends_label : (m : Msg R) → EachSent (λ j q. Label S z 0 q) (sw_sends m)
  sends_label (Of_move g (MoveMsg.Forward p to)) = (tt, tt)
  sends_label (Of_move g (MoveMsg.Install n from to)) = (tt, tt)
  sends_label (Of_move g (MoveMsg.Fence_to n to)) = (tt, tt)
  sends_label m = tt

  -- a message that waits at the switch, in a world that shows the unit's seat
  record Waits (m : Msg R) : Type 0 where
    w : World S
    s : UnitSeat S.F
    h : Holds S z w (seat_shape S.F s)
    p : ℕ
    rest : List (Msg R)
    p0 : (p == 0) ≡ false
    waits : w.link p 0 ≡ m ∷ rest

  module _ {m : Msg R} (at : Waits m) where
    open at use {w, s, h, p, rest, p0, waits}

    abbrev Leads : Type 0
    Leads = Goes_to S laws z (sw_next S w p m) s []

    abbrev x : State R
    x = seat_shape S.F s

    no_input : (p == 0) && (0 == 0) ≡ false
    no_input = rw p0 refl

    label : Label S z p m
    label = (subst (λ ms. Each (Label S z p) ms) waits (h.labels p 0 no_input)).0

    next_holds : (x' : State R) → ((i j : ℕ) → shows S z (links_after w.link p 0 (sw_sends m)) i j ≡ expect z.op.src z.op.dst z.third x' i j)
        → ((k : ℕ) → node_at S z x' k ≡ node_at S z x k) → sw_target S w.target m z.unit ≡ place S z x'.target → x'.phase ≡ x.phase → x'.store ≡ x.store
        → x'.keep ≡ x.keep → x'.done ≡ x.done → Holds S z (sw_next S w p m) x'
    next_holds x' views nodes target phase store keep done = record {
      apart = h.apart;
      nodes = h.nodes;
      views = views;
      labels = each_after (λ i j q. Label S z i q) w.link p 0 (sw_sends m) h.labels (sends_label m);
      insts = λ k. rw (nodes k) (h.insts k);
      target = target;
      ctrl = same_controller S z x x' phase store keep (find_op w.ops z.op.num) h.ctrl;
      ops = h.ops;
      done = rw done h.done;
    }

    -- a message that isn't seen, and that shows nothing
    quiet_sw : seen (frame S z) m ≡ None → ((j : ℕ) → sent S z 0 (sw_sends m) j ≡ []) → sw_target S w.target m z.unit ≡ w.target z.unit
        → Leads
    quiet_sw none un target = record {
      seat = s;
      holds = next_holds x (λ i j. view_none S z w.link p 0 m rest waits no_input (sw_sends m) none i j
          ∙ ap (λ v. v ++ (if i == 0 then sent S z 0 (sw_sends m) j else [])) (h.views i j)
          ∙ nothing_seen z.op.src z.op.dst z.third x i j 0 (sent S z 0 (sw_sends m)) un) (λ k. refl) (target ∙ h.target) refl refl refl refl;
      order = same_order S laws z (seat_loose s) (seat_all s);
      covered = refl;
    }

    module _ (it : Item R) (is : seen (frame S z) m ≡ Some it) where
      abbrev v : List (Item R)
      v = its rest

      shown : it ∷ v ≡ expect z.op.src z.op.dst z.third x p 0
      shown = ap (λ o. add o v) (sym is) ∙ head S z w.link p 0 m rest waits no_input (sw_sends m) ∙ h.views p 0

      from_ctrl : (p ≡ 1) × (x.cs ≡ it ∷ v)
      from_ctrl = elim (shown_by z.op.src z.op.dst z.third h.nodes x p 0 it v shown) as (λ _. (p ≡ 1) × (x.cs ≡ it ∷ v)) [
        | By_sa e _ _ ↦ two_not 0 z.op.src h.nodes.a_is e refl
        | By_sb e _ _ ↦ two_not 0 z.op.dst h.nodes.b_is e refl
        | By_sc e _ _ ↦ two_not 0 z.third h.nodes.c_is e refl
        | By_ca e _ _ ↦ two_not 0 z.op.src h.nodes.a_is e refl
        | By_cb e _ _ ↦ two_not 0 z.op.dst h.nodes.b_is e refl
        | By_ac e _ _ ↦ (let never : 0 ≡ 1 = e in cc)
        | By_bc e _ _ ↦ (let never : 0 ≡ 1 = e in cc)
        | By_cc e _ _ ↦ (let never : 0 ≡ 1 = e in cc)
        | By_cs _ p1 e ↦ (p1, e)
      ]

      is_for : for_switch it ≡ true
      is_for = head_passes for_switch it v x.cs from_ctrl.1 (seat_stands S.F s).known

      abbrev grown : Where → List (Item R) → List (Item R) → List (Item R) → State R
      grown t ta tb tc = record x { cs = v; sa = x.sa ++ ta; sb = x.sb ++ tb; sc = x.sc ++ tc; target = t }

      sw_move : (t : Where) (ta tb tc : List (Item R)) → switch_does (record x { cs = v }) it ≡ grown t ta tb tc
          → sent S z 0 (sw_sends m) z.op.src ≡ ta → sent S z 0 (sw_sends m) z.op.dst ≡ tb → sent S z 0 (sw_sends m) z.third ≡ tc
          → ((j : ℕ) → j ≢ z.op.src → j ≢ z.op.dst → j ≢ z.third → sent S z 0 (sw_sends m) j ≡ []) → sw_target S w.target m z.unit ≡ place S z t
          → Leads
      sw_move t ta tb tc does sa sb sc none target =
          let x' = grown t ta tb tc in
          let links = switch_from_c z.op.src z.op.dst z.third h.nodes x it v (sent S z 0 (sw_sends m)) ta tb tc from_ctrl.1 sa sb sc none in
          moves_on S laws z (sw_next S w p m) s Take_cs x' (next_holds x' (λ i j. view_some S z w.link p 0 m rest waits no_input (sw_sends m) it is i j
          ∙ ap (λ l. (if (i == p) && (j == 0) then drop 1 l else l) ++ (if i == 0 then sent S z 0 (sw_sends m) j else [])) (h.views i j)
          ∙ subst (λ q. after_take q 0 (expect z.op.src z.op.dst z.third x) (sent S z 0 (sw_sends m)) i j ≡ expect z.op.src z.op.dst z.third x' i j)
          (sym from_ctrl.0) (links i j)) (λ k. refl) target refl refl refl refl) (rw (from_ctrl.1, moved) does) tt

      nil_grown : record x { cs = v } ≡ grown x.target [] [] []
      nil_grown = rw (append-nil x.sa, append-nil x.sb, append-nil x.sc) refl

      -- an item on which the switch does nothing
      sw_idle : switch_does (record x { cs = v }) it ≡ record x { cs = v } → sw_sends m ≡ [] → sw_target S w.target m z.unit ≡ w.target z.unit
          → Leads
      sw_idle does empty target =
          let none : (j : ℕ) → sent S z 0 (sw_sends m) j ≡ [] =
          λ j. rw empty (elim (j == 0) as (λ b. ◌≡◌ {A = List (Item R)} (if b then [] else []) []) [ true ↦ refl | false ↦ refl ]) in
          sw_move x.target [] [] [] (does ∙ nil_grown) (none z.op.src) (none z.op.dst) (none z.third) (λ j _ _ _. none j) (target ∙ h.target)

      -- one item to a side
      sent_one : (r : ℕ) (q : Msg R) (i2 : Item R) → sw_sends m ≡ (r, q) ∷ [] → seen (frame S z) q ≡ Some i2 → 2 ≤ r
          → (sent S z 0 (sw_sends m) r ≡ i2 ∷ []) × ((j : ℕ) → j ≢ r → sent S z 0 (sw_sends m) j ≡ [])
      sent_one r q i2 e sees two = (
        (let r0 : (r == 0) ≡ false = grind (arith, nat_tests, two) in let rr : (r == r) ≡ true = grind (arith, nat_tests) in rw (e, r0, rr, sees) refl),
        λ j off. let rj : (r == j) ≡ false = grind (arith, nat_tests) in
            rw (e, rj) (elim (j == 0) as (λ b. ◌≡◌ {A = List (Item R)} (if b then [] else []) []) [ true ↦ refl | false ↦ refl ]),
      )

      to_src : (t : Where) (r : ℕ) (q : Msg R) (i2 : Item R) → (r == z.op.src) ≡ true → sw_sends m ≡ (r, q) ∷ [] → seen (frame S z) q ≡ Some i2
          → switch_does (record x { cs = v }) it ≡ record x { cs = v; sa = x.sa ++ i2 ∷ []; target = t } → sw_target S w.target m z.unit ≡ place S z t
          → Leads
      to_src t r q i2 on e sees does target =
          let same : r ≡ z.op.src = (Decides-eqb r z.op.src).0 on in
          let a = sent_one r q i2 e sees (rw same h.nodes.a_is) in
          let ab = h.nodes.ab in let ac = h.nodes.ac in
          sw_move t (i2 ∷ []) [] [] (does ∙ rw (append-nil x.sb, append-nil x.sc) refl) (subst (λ k. sent S z 0 (sw_sends m) k ≡ i2 ∷ []) same a.0)
          (a.1 z.op.dst (rw same (grind (arith, nat_tests)))) (a.1 z.third (rw same (grind (arith, nat_tests)))) (λ j na _ _. a.1 j (rw same na)) target

      to_dst : (t : Where) (r : ℕ) (q : Msg R) (i2 : Item R) → (r == z.op.dst) ≡ true → sw_sends m ≡ (r, q) ∷ [] → seen (frame S z) q ≡ Some i2
          → switch_does (record x { cs = v }) it ≡ record x { cs = v; sb = x.sb ++ i2 ∷ []; target = t } → sw_target S w.target m z.unit ≡ place S z t
          → Leads
      to_dst t r q i2 on e sees does target =
          let same : r ≡ z.op.dst = (Decides-eqb r z.op.dst).0 on in
          let a = sent_one r q i2 e sees (rw same h.nodes.b_is) in
          let ab = h.nodes.ab in let bc = h.nodes.bc in
          sw_move t [] (i2 ∷ []) [] (does ∙ rw (append-nil x.sa, append-nil x.sc) refl) (a.1 z.op.src (rw same ab))
          (subst (λ k. sent S z 0 (sw_sends m) k ≡ i2 ∷ []) same a.0) (a.1 z.third (rw same (grind (arith, nat_tests)))) (λ j _ nb _. a.1 j (rw same nb))
          target

  nil_sent : (j : ℕ) → sent S z 0 [] j ≡ []
  nil_sent j = elim (j == 0) as (λ b. ◌≡◌ {A = List (Item R)} (if b then [] else []) []) [ true ↦ refl | false ↦ refl ]

  idle_case : {m : Msg R} (at : Waits m) (b : Bool) (it : Item R) → seen (frame S z) m ≡ where_true b it → sw_sends m ≡ []
      → sw_target S at.w.target m z.unit ≡ at.w.target z.unit → ((u : State R) → switch_does u it ≡ u) → Leads at
  idle_case at true it is none target does = sw_idle at it is (does _) none target
  idle_case at false it is none target does = quiet_sw at is (λ j. ap (λ xs. sent S z 0 xs j) none ∙ nil_sent j) target

  forward_case : (g : Filter) (q to : ℕ) (at : Waits (Of_move g (MoveMsg.Forward q to))) → Leads at
  forward_case g q to at =
      either_way (same_unit (S.packet_unit q) z.unit)
      (λ ours. either_way (to == z.op.src)
      (λ a. to_src at (Forward At_a q) (rw (ours, a) refl) (x at).target to (Pass_on q) (Pass q) a refl (rw ours refl) refl at.h.target)
      (λ na. either_way (to == z.op.dst)
      (λ b. to_dst at (Forward At_b q) (rw (ours, na, b) refl) (x at).target to (Pass_on q) (Pass q) b refl (rw ours refl) refl at.h.target)
      (λ nb. never_true (is_for at Stray (rw (ours, na, nb) refl)))))
      (λ off. quiet_sw at (rw off refl) (one_unseen S laws z 0 to (Pass_on q) (rw off refl)) refl)

  fence_case : (g : Filter) (k to : ℕ) (at : Waits (Of_move g (MoveMsg.Fence_to k to))) → Leads at
  fence_case g k to at =
      either_way (k == z.op.num)
      (λ ours. either_way (to == z.op.src)
      (λ a. to_src at (Fence_to At_a) (rw (ours, a) refl) (x at).target to (Fence_on k) Fence a refl (rw ours refl) refl at.h.target)
      (λ na. either_way (to == z.op.dst)
      (λ b. to_dst at (Fence_to At_b) (rw (ours, na, b) refl) (x at).target to (Fence_on k) Fence b refl (rw ours refl) refl at.h.target)
      (λ nb. never_true (is_for at Stray (rw (ours, na, nb) refl)))))
      (λ off. quiet_sw at (rw off refl) (one_unseen S laws z 0 to (Fence_on k) (rw off refl)) refl)

  -- the route of the unit after an Install
  routed : (t : Where) (r from to : ℕ) (b : Bool) → Nodes z.op.src z.op.dst z.third → (from == z.op.src) ≡ true → (to == z.op.dst) ≡ true → b ≡ true
      → r ≡ place S z t → (if b && (r == from) then to else r) ≡ place S z (redirected t)
  routed At_a r from to b n f d e is =
      let same : r ≡ from = (let g : from ≡ z.op.src = (Decides-eqb from z.op.src).0 f in is ∙ sym g) in
      let on : (r == from) ≡ true = grind (arith, nat_tests, same) in rw (e, on) ((Decides-eqb to z.op.dst).0 d)
  routed At_b r from to b n f d e is =
      let g : from ≡ z.op.src = (Decides-eqb from z.op.src).0 f in let off : (r == from) ≡ false = grind (arith, nat_tests, is, g, n.ab) in rw (e, off) is
  routed At_c r from to b n f d e is =
      let g : from ≡ z.op.src = (Decides-eqb from z.op.src).0 f in let off : (r == from) ≡ false = grind (arith, nat_tests, is, g, n.ac) in rw (e, off) is

  install_case : (g : Filter) (k from to : ℕ) (at : Waits (Of_move g (MoveMsg.Install k from to))) → Leads at
  install_case g k from to at =
      let lab = (label at).1 in
      either_way (k == z.op.num)
      (λ ours. either_way ((from == z.op.src) && (to == z.op.dst))
      (λ both.
      let ab = and_parts (from == z.op.src) (to == z.op.dst) both in
      to_src at Install (rw (ours, both) refl) (redirected (x at).target) from (Fence_on k) Fence ab.0 refl (rw ours refl) refl
      (routed (x at).target (at.w.target z.unit) from to (S.takes g z.unit) at.h.nodes ab.0 ab.1 (lab ∙ ours) at.h.target))
      (λ off. never_true (is_for at Stray (rw (ours, off) refl))))
      (λ off. quiet_sw at (rw off refl) (one_unseen S laws z 0 from (Fence_on k) (rw off refl))
      (let out : S.takes g z.unit ≡ false = lab ∙ off in rw out refl))

  by_message : (m : Msg R) (at : Waits m) → Leads at
  by_message (Of_move g (MoveMsg.Forward q to)) at = forward_case g q to at
  by_message (Of_move g (MoveMsg.Install k from to)) at = install_case g k from to at
  by_message (Of_move g (MoveMsg.Fence_to k to)) at = fence_case g k to at
  by_message (In_packet q) at = quiet_sw at refl nil_sent refl
  by_message (Asked a) at = quiet_sw at refl nil_sent refl
  by_message m at = idle_case at _ _ refl refl refl (λ u. refl)

  pub switch_holds : (w : World S) (s : UnitSeat S.F) → Holds S z w (seat_shape S.F s) → (p : ℕ) (m : Msg R) (rest : List (Msg R)) → (p == 0) ≡ false
      → w.link p 0 ≡ m ∷ rest → Goes_to S laws z (sw_next S w p m) s []
  switch_holds w s h p m rest p0 waits = by_message m (record { w = w; s = s; h = h; p = p; rest = rest; p0 = p0; waits = waits })

  -- A packet comes from the input.
  abbrev pub came : ℕ → List ℕ
  came q = if same_unit (S.packet_unit q) z.unit then q ∷ [] else []

  -- its own packet, at one side
  module _ (w : World S) (s : UnitSeat S.F) (h : Holds S z w (seat_shape S.F s)) (q : ℕ) (ours : (same_unit (S.packet_unit q) z.unit) ≡ true) where
    abbrev now : State R
    now = seat_shape S.F s

    abbrev carried : List (Item R)
    carried = Carry q ∷ []

    -- what is shown where a node is sent the packet, and no other is sent anything
    abbrev Shows : State R → ℕ → Type 0
    Shows x' r = (send : ℕ → List (Item R)) → send r ≡ carried → ((j : ℕ) → j ≢ r → send j ≡ []) → (i j : ℕ)
        → expect z.op.src z.op.dst z.third now i j ++ (if i == 0 then send j else []) ≡ expect z.op.src z.op.dst z.third x' i j

    puts : (x' : State R) (r : ℕ) → w.target (S.packet_unit q) ≡ r → 2 ≤ r → Shows x' r → ((k : ℕ) → node_at S z x' k ≡ node_at S z now k)
        → x'.target ≡ now.target → x'.phase ≡ now.phase → x'.store ≡ now.store → x'.keep ≡ now.keep → x'.done ≡ now.done → Holds S z (in_next S w q) x'
    puts x' r is two links nodes target phase store keep done =
        let sends : List (ℕ × Msg R) = (w.target (S.packet_unit q), Carry_on q) ∷ [] in
        let at_r : sent S z 0 sends r ≡ carried = (let r0 : (r == 0) ≡ false = grind (arith, nat_tests, two) in
        let rr : (r == r) ≡ true = grind (arith, nat_tests) in rw (is, r0, rr, ours) refl) in
        let at_j = (λ (j : ℕ) (off : j ≢ r). (let rj : (r == j) ≡ false = grind (arith, nat_tests) in
        let e : sent S z 0 sends j ≡ [] = rw (is, rj) (nil_sent j) in e)) in
        record {
          apart = h.apart;
          nodes = h.nodes;
          views = λ i j. view_put S z w.link 0 sends i j ∙ ap (λ v. v ++ (if i == 0 then sent S z 0 sends j else [])) (h.views i j)
              ∙ links (sent S z 0 sends) at_r at_j i j;
          labels = each_put (λ i j m. Label S z i m) w.link 0 sends h.labels (tt, tt);
          insts = λ k. rw (nodes k) (h.insts k);
          target = rw target h.target;
          ctrl = same_controller S z now x' phase store keep (find_op w.ops z.op.num) h.ctrl;
          ops = h.ops;
          done = rw done h.done;
        }

    grown_at : (ta tb tc : List (Item R)) (x' : State R) → record now { sa = now.sa ++ ta; sb = now.sb ++ tb; sc = now.sc ++ tc } ≡ x' → (r : ℕ)
        → ((send : ℕ → List (Item R)) → send r ≡ carried → ((j : ℕ) → j ≢ r → send j ≡ [])
        → (send z.op.src ≡ ta) × (send z.op.dst ≡ tb) × (send z.third ≡ tc) × ((j : ℕ) → j ≢ z.op.src → j ≢ z.op.dst → j ≢ z.third → send j ≡ []))
        → Shows x' r
    grown_at ta tb tc x' grow r all send at el i j =
        let a = all send at el in
        arrives_at z.op.src z.op.dst z.third h.nodes now send ta tb tc a.0 a.1 a.2 a.3 i j ∙ ap (λ u. expect z.op.src z.op.dst z.third u i j) grow

    by_side : (t : Where) → w.target (S.packet_unit q) ≡ place S z t → Holds S z (in_next S w q) (send_to t now (Carry q))
    by_side At_a to =
        let ab = h.nodes.ab in let ac = h.nodes.ac in
        puts (send_to At_a now (Carry q)) z.op.src to h.nodes.a_is
        (grown_at carried [] [] (send_to At_a now (Carry q)) (rw (append-nil now.sb, append-nil now.sc) refl) z.op.src
        (λ send at el. (at, el z.op.dst (grind (arith, nat_tests)), el z.third (grind (arith, nat_tests)), λ j na _ _. el j na)))
        (λ k. refl) refl refl refl refl refl
    by_side At_b to =
        let bc = h.nodes.bc in
        puts (send_to At_b now (Carry q)) z.op.dst to h.nodes.b_is
        (grown_at [] carried [] (send_to At_b now (Carry q)) (rw (append-nil now.sa, append-nil now.sc) refl) z.op.dst
        (λ send at el. (el z.op.src h.nodes.ab, at, el z.third (grind (arith, nat_tests)), λ j _ nb _. el j nb)))
        (λ k. refl) refl refl refl refl refl
    by_side At_c to =
        puts (send_to At_c now (Carry q)) z.third to h.nodes.c_is
        (grown_at [] [] carried (send_to At_c now (Carry q)) (rw (append-nil now.sa, append-nil now.sb) refl) z.third
        (λ send at el. (el z.op.src h.nodes.ac, el z.op.dst h.nodes.bc, at, λ j _ _ nc. el j nc)))
        (λ k. refl) refl refl refl refl refl

    arrive_at : Goes_to S laws z (in_next S w q) s (q ∷ [])
    arrive_at =
        let same : S.packet_unit q ≡ z.unit = same_unit-true (S.packet_unit q) z.unit ours in
        moves_on S laws z (in_next S w q) s (Arrive q) (send_to now.target now (Carry q)) (by_side now.target (ap w.target same ∙ h.target)) refl tt

  pub input_holds : (w : World S) (s : UnitSeat S.F) → Holds S z w (seat_shape S.F s) → (q : ℕ) → Goes_to S laws z (in_next S w q) s (came q)
  input_holds w s h q = split (same_unit (S.packet_unit q) z.unit) (λ b. Goes_to S laws z (in_next S w q) s (if b then q ∷ [] else []))
      (λ ours. arrive_at w s h q ours)
      (λ off. record {
        seat = s;
        holds = put_unseen S laws z w (seat_shape S.F s) h 0 ((w.target (S.packet_unit q), Carry_on q) ∷ [])
            (one_unseen S laws z 0 (w.target (S.packet_unit q)) (Carry_on q) (rw off refl)) (tt, tt);
        order = same_order S laws z (seat_loose s) (seat_all s);
        covered = refl;
      })

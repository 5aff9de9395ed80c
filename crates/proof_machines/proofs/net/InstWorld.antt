-- An instance's step leads from a world that shows a seat to one that shows a seat, whatever it takes.
use Rattle.proof_machines.proofs.net.Links.{same_controller}
use Rattle.proof_machines.proofs.EachLaws.{each_map}
use Rattle.proof_machines.proofs.net.Words.{◌≡◌, ◌≢◌, ℕ, Bool, true, false, Option, Some, None, List, [], ◌∷◌, ◌++◌, refl, sym, ap, ◌∙◌, subst, append-nil}
use Rattle.proof_machines.proofs.net.Words.{arith, if◌then◌else◌, ◌&&◌, ◌==◌, nat_tests, Decides-eqb, same_Some, Where, At_a, At_b, At_c, Part, Inst, Did}
use Rattle.proof_machines.proofs.net.Words.{inst_does, Item, Stream, Put, State, MachineStep, Take_sa, Take_sb, Take_ca, Take_cb, moved, put_a, put_b, put_c}
use Rattle.proof_machines.proofs.net.Words.{firsts, map-append, ArePiecesOf, IsOrderedAs, Allowed, arrived_by, add, sent_for, some_parts, expect, after_take}
use Rattle.proof_machines.proofs.net.Words.{a_from_s, a_from_c, b_from_s, b_from_c, c_from_s, nothing_seen, ShownBy, By_sa, By_sb, By_sc, By_ca, By_cb, By_ac}
use Rattle.proof_machines.proofs.net.Words.{By_bc, By_cc, By_cs, shown_by, Each, UnitSeat, is_covered, seat_shape, seat_all, seat_loose, seat_goes_on}
use Rattle.proof_machines.proofs.net.Words.{covered_stays, seat_allowed, base_of, filter_map, inst_next, Msg, In_packet, Asked, Carry_on, Pass_on, Fence_on}
use Rattle.proof_machines.proofs.net.Words.{Of_move, Sys, IsSys, NumberedInstance, InstanceTurn, inst_step, World, links_after, at_node, seen, find_op, Seeing}
use Rattle.proof_machines.proofs.net.Words.{sides_of, EachSent, frame, Label, SeesNode, shows, node_at, done_of, Holds, sent, head, view_some, view_none}
use Rattle.proof_machines.proofs.net.Words.{done_of-append, done_at, each_after, Answer, either_way, split, did_sends}
use Rattle.proof_machines.proofs.unit.Machine.{Take_sc}
use Rattle.proof_machines.proofs.unit.Stages.{shape}
use Rattle.proof_machines.proofs.net.Insts.{InstanceGoes, does, carry_goes, pass_goes, fence_goes}
use Rattle.proof_machines.proofs.net.InstMoves.{MovesInstance, Any, Streams_out, Puts_in, move_goes}
use Rattle.proof_machines.proofs.unit.Lists.{head_passes}
use Rattle.proof_machines.proofs.unit.Bare.{to_source, to_dest}
use Rattle.proof_machines.proofs.unit.Seats.{ca_seat, cb_seat}

falsely : false ≡ true → ⊥
falsely e = cc

module _ {R : Type 0} (S : Sys R) (laws : IsSys S) (z : Seeing) where
  -- where a world's step leads
  pub record Goes_to (w : World S) (s : UnitSeat S.F) (came : List ℕ) : Type 0 where
    pub seat : UnitSeat S.F
    pub holds : Holds S z w (seat_shape S.F seat)
    pub order : IsOrderedAs (seat_loose seat) (seat_all seat) (seat_all s ++ came)
    pub covered : is_covered seat ≡ is_covered s

  -- labels of what an instance sends
  relabel : (y : ℕ) (xs : List (ℕ × Msg R)) → (y == 0) ≡ false → EachSent (λ j m. Label S z 1 m) xs → EachSent (λ j m. Label S z y m) xs
  relabel y xs y0 h = each_map (λ x l. by_msg x.1 l) xs h
    where
      by_msg : (m : Msg R) → Label S z 1 m → Label S z y m
      by_msg (Of_move g m) l = (y0, l.1)
      by_msg (In_packet p) l = tt
      by_msg (Asked a) l = tt
      by_msg (Carry_on p) l = tt
      by_msg (Pass_on p) l = tt
      by_msg (Fence_on k) l = tt

  -- a move of the machine, once the world shows the state that it leads to
  pub moves_on : (w' : World S) (s : UnitSeat S.F) (mv : MachineStep R) (x' : State R) → Holds S z w' x' → moved S.F (seat_shape S.F s) mv ≡ x'
      → Allowed (shape S.F (base_of s)) mv → Goes_to w' s (arrived_by mv)
  moves_on w' s mv x' hx is al =
      let g = seat_goes_on S.F s mv al in
      record { seat = g.0; holds = subst (λ v. Holds S z w' v) (sym is ∙ g.1) hx; order = g.2; covered = covered_stays S.F s mv al }

  pub same_order : (b : Bool) (ys : List ℕ) → IsOrderedAs b ys (ys ++ [])
  same_order true ys = λ q. ap (λ v. Rattle.proof_machines.proofs.unit.Stages.times q v) (sym (append-nil ys))
  same_order false ys = sym (append-nil ys)

  module _ (w : World S) (s : UnitSeat S.F) (h : Holds S z w (seat_shape S.F s)) (p y : ℕ) (m : Msg R) (rest : List (Msg R)) (y0 : (y == 0) ≡ false)
      (y1 : (y == 1) ≡ false) (waits : w.link p y ≡ m ∷ rest) where
    abbrev x : State R
    x = seat_shape S.F s

    abbrev i : NumberedInstance S
    i = w.inst y

    abbrev did : InstanceTurn S
    did = inst_step S i m

    pub num : (z.op.num == z.op.num) ≡ true
    num = h.apart.num

    no_input : (p == 0) && (y == 0) ≡ false
    no_input = rw y0 (elim (p == 0) as (λ b. b && false ≡ false) [ true ↦ refl | false ↦ refl ])

    pub label : Label S z p m
    label = (subst (λ ms. Each (Label S z p) ms) waits (h.labels p y no_input)).0

    -- what the node's step is, at the machine's instance
    pub step_at : (wh : Where) (k : Inst R) (n : SeesNode S z i k) → (m : Msg R) → Label S z p m
        → MovesInstance S laws z num wh i k n (inst_step S i m) (seen (frame S z) m)
    step_at wh k n (Carry_on q) l = Any (λ parts refuse. carry_goes S laws z num wh i k n q parts refuse)
    step_at wh k n (Pass_on q) l = Any (λ parts refuse. pass_goes S laws z num wh i k n q parts refuse)
    step_at wh k n (Fence_on q) l = Any (λ parts refuse. fence_goes S laws z num wh i k n q parts refuse)
    step_at wh k n (Of_move g q) l = move_goes S laws z num wh i k n g q l.1
    step_at wh k n m l = Any (λ parts refuse. record { node = n; to_c = refl; others = λ j e. refl; labels = tt; ran = refl })

    -- from the switch none is of a move
    plain_at : (wh : Where) (k : Inst R) (n : SeesNode S z i k) → (m : Msg R) → Label S z 0 m
        → InstanceGoes S laws z num (inst_step S i m) (does S laws z num wh [] None k (seen (frame S z) m))
    plain_at wh k n (Carry_on q) l = carry_goes S laws z num wh i k n q [] None
    plain_at wh k n (Pass_on q) l = pass_goes S laws z num wh i k n q [] None
    plain_at wh k n (Fence_on q) l = fence_goes S laws z num wh i k n q [] None
    plain_at wh k n (Of_move g q) l = let never = l.0 in cc
    plain_at wh k n m l = record { node = n; to_c = refl; others = λ j e. refl; labels = tt; ran = refl }

    -- a state of the machine whose instance y did that, and whose links are these
    next_holds : (x' : State R) (d : Did R) → InstanceGoes S laws z num did d
        → ((i j : ℕ) → shows S z (links_after w.link p y did.sends) i j ≡ expect z.op.src z.op.dst z.third x' i j) → node_at S z x' y ≡ d.inst
        → ((k : ℕ) → (k == y) ≡ false → node_at S z x' k ≡ node_at S z x k) → x'.target ≡ x.target → x'.phase ≡ x.phase → x'.store ≡ x.store
        → x'.keep ≡ x.keep → x'.done ≡ x.done ++ d.ran → Holds S z (inst_next S w p y m) x'
    next_holds x' d g views own rest_of target phase store keep done = record {
      apart = h.apart;
      nodes = h.nodes;
      views = views;
      labels = each_after (λ i j q. Label S z i q) w.link p y did.sends h.labels (relabel y did.sends y0 g.labels);
      insts = λ k. split (k == y) (λ b. SeesNode S z (if b then did.node else w.inst k) (node_at S z x' k))
          (λ e. let same : k ≡ y = (Decides-eqb k y).0 e in
          subst (λ q. SeesNode S z did.node (node_at S z x' q)) (sym same) (subst (λ v. SeesNode S z did.node v) (sym own) g.node))
          (λ e. subst (λ v. SeesNode S z (w.inst k) v) (sym (rest_of k e)) (h.insts k));
      target = rw target h.target;
      ctrl = same_controller S z x x' phase store keep (find_op w.ops z.op.num) h.ctrl;
      ops = h.ops;
      done = done_of-append S z w.done (at_node y did.ran) ∙ ap (λ v. v ++ done_of S z (at_node y did.ran)) h.done
          ∙ ap (λ v. firsts x.done ++ v) (done_at S z y did.ran ∙ g.ran) ∙ sym (map-append _ x.done d.ran) ∙ ap firsts (sym done);
    }

    pub here : SeesNode S z i (node_at S z x y)
    here = h.insts y

    -- nothing is seen
    quiet_inst : seen (frame S z) m ≡ None → Goes_to (inst_next S w p y m) s []
    quiet_inst none =
        let g : InstanceGoes S laws z num did (did_sends (node_at S z x y) []) = quiet_of (seen (frame S z) m) (step_at At_a (node_at S z x y) here m label)
        none in
        record {
          seat = s;
          holds = next_holds x (did_sends (node_at S z x y) []) g (λ i j. view_none S z w.link p y m rest waits no_input did.sends none i j
              ∙ ap (λ v. v ++ (if i == y then sent S z y did.sends j else [])) (h.views i j)
              ∙ nothing_seen z.op.src z.op.dst z.third x i j y (sent S z y did.sends) (λ j. sent_none g j))
              refl (λ k e. refl) refl refl refl refl (sym (append-nil x.done));
          order = same_order (seat_loose s) (seat_all s);
          covered = refl;
        }
      where
        quiet_of : (o : Option (Item R)) → MovesInstance S laws z num At_a i (node_at S z x y) here did o → o ≡ None
            → InstanceGoes S laws z num did (did_sends (node_at S z x y) [])
        quiet_of o (Any f) e = subst (λ q. InstanceGoes S laws z num did (does S laws z num At_a [] None (node_at S z x y) q)) e (f [] None)
        quiet_of o (Streams_out parts fits is f) e = let never : None ≡ Some Stream = sym e ∙ is in cc
        quiet_of o (Puts_in refuse k first is f) e = let never : None ≡ Some (Put k first) = sym e ∙ is in cc

        sent_none : InstanceGoes S laws z num did (did_sends (node_at S z x y) []) → (j : ℕ) → sent S z y did.sends j ≡ []
        sent_none g j = rw y0 (either_way (1 == j)
            (λ e. let same : 1 ≡ j = (Decides-eqb 1 j).0 e in subst (λ q. filter_map (seen (frame S z)) (sent_for q did.sends) ≡ []) same g.to_c)
            (λ e. g.others j e))

    -- an item is seen
    module _ (it : Item R) (is : seen (frame S z) m ≡ Some it) where
      abbrev v : List (Item R)
      v = filter_map (seen (frame S z)) rest

      pub shown : it ∷ v ≡ expect z.op.src z.op.dst z.third x p y
      shown = ap (λ o. add o v) (sym is) ∙ head S z w.link p y m rest waits no_input did.sends ∙ h.views p y

      views_on : (x' : State R)
          → ((i j : ℕ) → after_take p y (expect z.op.src z.op.dst z.third x) (sent S z y did.sends) i j ≡ expect z.op.src z.op.dst z.third x' i j)
          → (i j : ℕ) → shows S z (links_after w.link p y did.sends) i j ≡ expect z.op.src z.op.dst z.third x' i j
      views_on x' e i j = view_some S z w.link p y m rest waits no_input did.sends it is i j
          ∙ ap (λ l. (if (i == p) && (j == y) then Rattle.std.proofs.Common.drop 1 l else l) ++ (if i == y then sent S z y did.sends j else []))
          (h.views i j) ∙ e i j

      pair : (q r : ℕ) (x' : State R) → p ≡ q → y ≡ r
          → ((i j : ℕ) → after_take q r (expect z.op.src z.op.dst z.third x) (sent S z y did.sends) i j ≡ expect z.op.src z.op.dst z.third x' i j)
          → (i j : ℕ) → after_take p y (expect z.op.src z.op.dst z.third x) (sent S z y did.sends) i j ≡ expect z.op.src z.op.dst z.third x' i j
      pair q r x' pq yr e i j =
          subst (λ a. after_take a y (expect z.op.src z.op.dst z.third x) (sent S z y did.sends) i j ≡ expect z.op.src z.op.dst z.third x' i j) (sym pq)
          (subst (λ b. after_take q b (expect z.op.src z.op.dst z.third x) (sent S z y did.sends) i j ≡ expect z.op.src z.op.dst z.third x' i j) (sym yr)
          (e i j))

      at_1 : (d : Did R) → InstanceGoes S laws z num did d → sent S z y did.sends 1 ≡ d.to_c
      at_1 d g = rw y0 g.to_c

      at_else : (d : Did R) → InstanceGoes S laws z num did d → (j : ℕ) → j ≢ 1 → sent S z y did.sends j ≡ []
      at_else d g j e = rw y0 (g.others j (grind (arith, nat_tests)))

      seen_it : (wh : Where) (parts : List (Part R)) (refuse : Option Answer) (k : Inst R)
          → InstanceGoes S laws z num did (does S laws z num wh parts refuse k (seen (frame S z) m))
          → InstanceGoes S laws z num did (inst_does S.F wh parts refuse k it)
      seen_it wh parts refuse k g = subst (λ o. InstanceGoes S laws z num did (does S laws z num wh parts refuse k o)) is g

      pub is_src : y ≡ z.op.src → node_at S z x y ≡ x.a
      is_src ya = let same = h.apart.src in rw (ya, same) refl

      pub is_dst : y ≡ z.op.dst → node_at S z x y ≡ x.b
      is_dst yb = let off = h.apart.dst_src in let same = h.apart.dst in rw (yb, off, same) refl

      third_tests : ((z.third == z.op.src) ≡ false) × ((z.third == z.op.dst) ≡ false) × ((z.third == z.third) ≡ true)
      third_tests = let n = h.nodes.ac in let k = h.nodes.bc in (grind (arith, nat_tests), grind (arith, nat_tests), grind (arith, nat_tests))

      pub is_third : y ≡ z.third → node_at S z x y ≡ x.c
      is_third yc = let t = third_tests.0 in let u = third_tests.1 in let q = third_tests.2 in rw (yc, t, u, q) refl

      label_0 : p ≡ 0 → Label S z 0 m
      label_0 p0 = subst (λ q. Label S z q m) p0 label

      by_sa : y ≡ z.op.src → p ≡ 0 → x.sa ≡ it ∷ v → Goes_to (inst_next S w p y m) s []
      by_sa ya p0 e =
          let n : SeesNode S z i x.a = subst (λ k. SeesNode S z i k) (is_src ya) here in
          let d = inst_does S.F At_a [] None x.a it in
          let g = seen_it At_a [] None x.a (plain_at At_a x.a n m (label_0 p0)) in
          let x' = put_a (record x { sa = v }) d in
          moves_on (inst_next S w p y m) s Take_sa x' (next_holds x' d g (views_on x'
          (pair 0 z.op.src x' p0 ya (a_from_s z.op.src z.op.dst z.third h.nodes x it v (sent S z y did.sends) d.to_c e (at_1 d g) (at_else d g))))
          (rw (ya, h.apart.src) refl) (λ k off. let out : (k == z.op.src) ≡ false = grind (arith, nat_tests) in rw out refl) refl refl refl refl refl)
          (rw (e, moved) refl) tt

      by_sb : y ≡ z.op.dst → p ≡ 0 → x.sb ≡ it ∷ v → Goes_to (inst_next S w p y m) s []
      by_sb yb p0 e =
          let n : SeesNode S z i x.b = subst (λ k. SeesNode S z i k) (is_dst yb) here in
          let d = inst_does S.F At_b [] None x.b it in
          let g = seen_it At_b [] None x.b (plain_at At_b x.b n m (label_0 p0)) in
          let x' = put_b (record x { sb = v }) d in
          let same = h.apart.dst in
          moves_on (inst_next S w p y m) s Take_sb x' (next_holds x' d g (views_on x'
          (pair 0 z.op.dst x' p0 yb (b_from_s z.op.src z.op.dst z.third h.nodes x it v (sent S z y did.sends) d.to_c e (at_1 d g) (at_else d g))))
          (rw (yb, h.apart.dst_src, same) refl) (λ k off. let out : (k == z.op.dst) ≡ false = grind (arith, nat_tests) in rw out refl) refl refl refl refl refl)
          (rw (e, moved) refl) tt

      by_sc : y ≡ z.third → p ≡ 0 → x.sc ≡ it ∷ v → Goes_to (inst_next S w p y m) s []
      by_sc yc p0 e =
          let n : SeesNode S z i x.c = subst (λ k. SeesNode S z i k) (is_third yc) here in
          let d = inst_does S.F At_c [] None x.c it in
          let g = seen_it At_c [] None x.c (plain_at At_c x.c n m (label_0 p0)) in
          let x' = put_c (record x { sc = v }) d in
          let t = third_tests.0 in let u = third_tests.1 in let q = third_tests.2 in
          moves_on (inst_next S w p y m) s Take_sc x' (next_holds x' d g (views_on x'
          (pair 0 z.third x' p0 yc (c_from_s z.op.src z.op.dst z.third h.nodes x it v (sent S z y did.sends) d.to_c e (at_1 d g) (at_else d g))))
          (rw (yc, t, u, q) refl) (λ k off. let out : (k == z.third) ≡ false = grind (arith, nat_tests) in rw out refl) refl refl refl refl refl)
          (rw (e, moved) refl) tt

      ca_goes : (parts : List (Part R)) → y ≡ z.op.src → p ≡ 1 → x.ca ≡ it ∷ v → ArePiecesOf parts x.a.live
          → InstanceGoes S laws z num did (inst_does S.F At_a parts None x.a it) → Goes_to (inst_next S w p y m) s []
      ca_goes parts ya p1 e fits g =
          let d = inst_does S.F At_a parts None x.a it in
          let x' = put_a (record x { ca = v }) d in
          moves_on (inst_next S w p y m) s (Take_ca parts) x' (next_holds x' d g (views_on x'
          (pair 1 z.op.src x' p1 ya (a_from_c z.op.src z.op.dst z.third h.nodes x it v (sent S z y did.sends) d.to_c e (at_1 d g) (at_else d g))))
          (rw (ya, h.apart.src) refl) (λ k off. let out : (k == z.op.src) ≡ false = grind (arith, nat_tests) in rw out refl) refl refl refl refl refl)
          (rw (e, moved) refl) (subst (λ o. ArePiecesOf parts o) (seat_allowed S.F s) fits)

      by_ca : y ≡ z.op.src → p ≡ 1 → x.ca ≡ it ∷ v → Goes_to (inst_next S w p y m) s []
      by_ca ya p1 e = by_kind (step_at At_a x.a n m label)
        where
          n : SeesNode S z i x.a
          n = subst (λ k. SeesNode S z i k) (is_src ya) here

          by_kind : MovesInstance S laws z num At_a i x.a n did (seen (frame S z) m) → Goes_to (inst_next S w p y m) s []
          by_kind (Any f) =
              let parts : List (Part R) = record { own = x.a.live; last = true } ∷ [] in
              ca_goes parts ya p1 e (some_parts x.a.live) (seen_it At_a parts None x.a (f parts None))
          by_kind (Streams_out parts fits _ f) = ca_goes parts ya p1 e fits (seen_it At_a parts None x.a (f None))
          by_kind (Puts_in refuse k first o f) =
              let same_it : it ≡ Put k first = same_Some _ _ (sym is ∙ o) in
              let never : false ≡ true = ap to_source (sym same_it) ∙ head_passes to_source it v x.ca e (ca_seat S.F s) in absurd (falsely never)

      cb_goes : (refuse : Option Answer) → y ≡ z.op.dst → p ≡ 1 → x.cb ≡ it ∷ v → InstanceGoes S laws z num did (inst_does S.F At_b [] refuse x.b it)
          → Goes_to (inst_next S w p y m) s []
      cb_goes refuse yb p1 e g =
          let d = inst_does S.F At_b [] refuse x.b it in
          let x' = put_b (record x { cb = v }) d in
          let same = h.apart.dst in
          moves_on (inst_next S w p y m) s (Take_cb refuse) x' (next_holds x' d g (views_on x'
          (pair 1 z.op.dst x' p1 yb (b_from_c z.op.src z.op.dst z.third h.nodes x it v (sent S z y did.sends) d.to_c e (at_1 d g) (at_else d g))))
          (rw (yb, h.apart.dst_src, same) refl) (λ k off. let out : (k == z.op.dst) ≡ false = grind (arith, nat_tests) in rw out refl) refl refl refl refl refl)
          (rw (e, moved) refl) tt

      by_cb : y ≡ z.op.dst → p ≡ 1 → x.cb ≡ it ∷ v → Goes_to (inst_next S w p y m) s []
      by_cb yb p1 e = by_kind (step_at At_b x.b n m label)
        where
          n : SeesNode S z i x.b
          n = subst (λ k. SeesNode S z i k) (is_dst yb) here

          by_kind : MovesInstance S laws z num At_b i x.b n did (seen (frame S z) m) → Goes_to (inst_next S w p y m) s []
          by_kind (Any f) = cb_goes None yb p1 e (seen_it At_b [] None x.b (f [] None))
          by_kind (Puts_in refuse k first _ f) = cb_goes refuse yb p1 e (seen_it At_b [] refuse x.b (f []))
          by_kind (Streams_out parts fits o f) =
              let same_it : it ≡ Stream = same_Some _ _ (sym is ∙ o) in
              let never : false ≡ true = ap to_dest (sym same_it) ∙ head_passes to_dest it v x.cb e (cb_seat S.F s) in absurd (falsely never)

      not_one : y ≡ 1 → ⊥
      not_one e = let never : (1 == 1) ≡ false = subst (λ q. (q == 1) ≡ false) e y1 in cc

      not_zero : y ≡ 0 → ⊥
      not_zero e = let never : (0 == 0) ≡ false = subst (λ q. (q == 0) ≡ false) e y0 in cc

      moves_inst : ShownBy (sides_of z) x (record { from = p; to = y; items = it ∷ v }) → Goes_to (inst_next S w p y m) s []
      moves_inst (By_sa ya p0 e) = by_sa ya p0 e
      moves_inst (By_sb yb p0 e) = by_sb yb p0 e
      moves_inst (By_sc yc p0 e) = by_sc yc p0 e
      moves_inst (By_ca ya p1 e) = by_ca ya p1 e
      moves_inst (By_cb yb p1 e) = by_cb yb p1 e
      moves_inst (By_ac e _ _) = absurd (not_one e)
      moves_inst (By_bc e _ _) = absurd (not_one e)
      moves_inst (By_cc e _ _) = absurd (not_one e)
      moves_inst (By_cs e _ _) = absurd (not_zero e)

    -- an instance takes a message
    pub inst_holds : Goes_to (inst_next S w p y m) s []
    inst_holds = elim (seen (frame S z) m) as (λ o. seen (frame S z) m ≡ o → Goes_to (inst_next S w p y m) s []) [
      | None ↦ λ none. quiet_inst none
      | Some it ↦ λ is. moves_inst it is (shown_by z.op.src z.op.dst z.third h.nodes x p y it (filter_map (seen (frame S z)) rest) (shown it is))
    ] refl

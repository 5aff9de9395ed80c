-- The controller's step leads from a world that shows a seat to one that shows a seat; and what a node sends unseen leaves a world's
-- views.
use Rattle.proof_machines.proofs.net.Words.{◌≡◌, ◌≢◌, ℕ, ◌≤◌, Bool, true, false, Option, Some, None, List, [], ◌∷◌, ◌++◌, drop, refl, sym, ap, ◌∙◌, subst}
use Rattle.proof_machines.proofs.net.Words.{arith, if◌then◌else◌, ◌&&◌, ◌==◌, nat_tests, Decides-eqb, Item, State, ControllerTurn, goes, from_source}
use Rattle.proof_machines.proofs.net.Words.{from_destination, Take_ac, Take_bc, moved, put_ctrl, add, sent_for, expect, after_take, ctrl_from_a, ctrl_from_b}
use Rattle.proof_machines.proofs.net.Words.{nothing_seen, ShownBy, By_sa, By_sb, By_sc, By_ca, By_cb, By_ac, By_bc, By_cc, By_cs, shown_by, Each, UnitSeat}
use Rattle.proof_machines.proofs.net.Words.{seat_shape, seat_all, seat_loose, filter_map, ctrl_next, Msg, Sys, IsSys, Open, find_op, ControllerMove, ctrl_step}
use Rattle.proof_machines.proofs.net.Words.{World, links_after, seen, Seeing, sides_of, EachSent, frame, Label, shows, node_at, Holds, IsController, sent, head}
use Rattle.proof_machines.proofs.net.Words.{view_some, view_none, view_put, each_after, each_put, either_way}
use Rattle.proof_machines.proofs.unit.ToRemove.{third_silent}
use Rattle.proof_machines.proofs.unit.Between.{over_quiet}
use Rattle.proof_machines.proofs.net.InstWorld.{Goes_to, moves_on, same_order}
use Rattle.proof_machines.proofs.net.CtrlUnit.{SeesController, ctrl_unit, mdid}

cons_nil : {X P : Type 0} {x : X} {xs ys : List X} → ys ≡ x ∷ xs → ys ≡ [] → P
cons_nil e f = let never = sym f ∙ e in cc

pub two_not : {P : Type 0} (y a : ℕ) → 2 ≤ a → y ≡ a → y ≡ 0 → P
two_not y a two e z = let never : ⊥ = grind (arith, nat_tests, two, e, z) in absurd never

two_not_1 : {P : Type 0} (y a : ℕ) → 2 ≤ a → y ≡ a → y ≡ 1 → P
two_not_1 y a two e z = let never : ⊥ = grind (arith, nat_tests, two, e, z) in absurd never

module _ {R : Type 0} (S : Sys R) (laws : IsSys S) (z : Seeing) where
  abbrev its : List (Msg R) → List (Item R)
  its ms = filter_map (seen (frame S z)) ms

  -- something is put on a node's links, and nothing of it is seen
  pub put_unseen : (w : World S) (x : State R) → Holds S z w x → (y : ℕ) (sends : List (ℕ × Msg R)) → ((j : ℕ) → sent S z y sends j ≡ [])
      → EachSent (λ j m. Label S z y m) sends → Holds S z (record w { link = λ i j. w.link i j ++ (if i == y then sent_for j sends else []) }) x
  put_unseen w x h y sends none l = record {
    apart = h.apart;
    nodes = h.nodes;
    views = λ i j. view_put S z w.link y sends i j ∙ ap (λ v. v ++ (if i == y then sent S z y sends j else [])) (h.views i j)
        ∙ nothing_seen z.op.src z.op.dst z.third x i j y (sent S z y sends) none;
    labels = each_put (λ i j m. Label S z i m) w.link y sends h.labels l;
    insts = h.insts;
    target = h.target;
    ctrl = h.ctrl;
    ops = h.ops;
    done = h.done;
  }

  pub one_unseen : (y r : ℕ) (m : Msg R) → seen (frame S z) m ≡ None → (j : ℕ) → sent S z y ((r, m) ∷ []) j ≡ []
  one_unseen y r m none j = elim ((y == 0) && (j == 0)) as (λ b. (if b then [] else its (if r == j then m ∷ [] else [])) ≡ [])
      [ true ↦ refl | false ↦ elim (r == j) as (λ b. its (if b then m ∷ [] else []) ≡ []) [ true ↦ rw none refl | false ↦ refl ] ]

  module _ (w : World S) (s : UnitSeat S.F) (h : Holds S z w (seat_shape S.F s)) (p : ℕ) (m : Msg R) (rest : List (Msg R)) (waits : w.link p 1 ≡ m ∷ rest) where
    abbrev x : State R
    x = seat_shape S.F s

    abbrev c : ControllerMove R
    c = ctrl_step w.ops p m

    no_input : (p == 0) && (1 == 0) ≡ false
    no_input = elim (p == 0) as (λ b. b && false ≡ false) [ true ↦ refl | false ↦ refl ]

    label : Label S z p m
    label = (subst (λ ms. Each (Label S z p) ms) waits (h.labels p 1 no_input)).0

    shown : (it : Item R) → seen (frame S z) m ≡ Some it → it ∷ its rest ≡ expect z.op.src z.op.dst z.third x p 1
    shown it is = ap (λ o. add o (its rest)) (sym is) ∙ head S z w.link p 1 m rest waits no_input c.sends ∙ h.views p 1

    by : (it : Item R) → seen (frame S z) m ≡ Some it → ShownBy (sides_of z) x (record { from = p; to = 1; items = it ∷ its rest })
    by it is = shown_by z.op.src z.op.dst z.third h.nodes x p 1 it (its rest) (shown it is)

    closed : (it : Item R) → find_op w.ops z.op.num ≡ None → seen (frame S z) m ≡ Some it → ⊥
    closed it none is =
        let over = over_quiet S.F s (subst (λ o. IsController S z o x) none h.ctrl) in
        elim (by it is) as (λ _. ⊥) [
          | By_sa e _ _ ↦ two_not_1 1 z.op.src h.nodes.a_is e refl
          | By_sb e _ _ ↦ two_not_1 1 z.op.dst h.nodes.b_is e refl
          | By_sc e _ _ ↦ two_not_1 1 z.third h.nodes.c_is e refl
          | By_ca e _ _ ↦ two_not_1 1 z.op.src h.nodes.a_is e refl
          | By_cb e _ _ ↦ two_not_1 1 z.op.dst h.nodes.b_is e refl
          | By_ac _ _ e ↦ cons_nil e over.0
          | By_bc _ _ e ↦ cons_nil e over.1
          | By_cc _ _ e ↦ cons_nil e (third_silent S.F s)
          | By_cs e _ _ ↦ (let never : 1 ≡ 0 = e in cc)
        ]

    does : SeesController S z w.ops x h.apart h.ops h.ctrl c
        (mdid S z w.ops x h.apart h.ops h.ctrl (p == z.op.src) (p == z.op.dst) x.phase x.store (seen (frame S z) m))
    does = ctrl_unit S z w.ops x h.apart h.ops h.ctrl p p m label closed

    abbrev Does : ControllerTurn R → Type 0
    Does d = SeesController S z w.ops x h.apart h.ops h.ctrl c d

    -- a state whose controller did that
    next_holds : (x' : State R) (d : ControllerTurn R) → Does d
        → ((i j : ℕ) → shows S z (links_after w.link p 1 c.sends) i j ≡ expect z.op.src z.op.dst z.third x' i j)
        → ((k : ℕ) → node_at S z x' k ≡ node_at S z x k) → x'.target ≡ x.target → x'.phase ≡ d.phase → x'.store ≡ d.store → x'.keep ≡ x.keep
        → x'.done ≡ x.done → Holds S z (ctrl_next S w p m) x'
    next_holds x' d g views nodes target phase store keep done = record {
      apart = h.apart;
      nodes = h.nodes;
      views = views;
      labels = each_after (λ i j q. Label S z i q) w.link p 1 c.sends h.labels g.labels;
      insts = λ k. rw (nodes k) (h.insts k);
      target = rw target h.target;
      ctrl = g.ctrl x' phase store keep;
      ops = g.ops;
      done = rw done h.done;
    }

    quiet_ctrl : seen (frame S z) m ≡ None → Goes_to S laws z (ctrl_next S w p m) s []
    quiet_ctrl none =
        let g : Does (goes x.phase x.store) = subst (λ o. SeesController S z w.ops x h.apart h.ops h.ctrl c
        (mdid S z w.ops x h.apart h.ops h.ctrl (p == z.op.src) (p == z.op.dst) x.phase x.store o)) none does in
        record {
          seat = s;
          holds = next_holds x (goes x.phase x.store) g (λ i j. view_none S z w.link p 1 m rest waits no_input c.sends none i j
              ∙ ap (λ v. v ++ (if i == 1 then sent S z 1 c.sends j else [])) (h.views i j)
              ∙ nothing_seen z.op.src z.op.dst z.third x i j 1 (sent S z 1 c.sends) (λ j. all_none g j)) (λ k. refl) refl refl refl refl refl;
          order = same_order S laws z (seat_loose s) (seat_all s);
          covered = refl;
        }
      where
        all_none : SeesController S z w.ops x h.apart h.ops h.ctrl c (goes x.phase x.store) → (j : ℕ) → its (sent_for j c.sends) ≡ []
        all_none g j =
            either_way (z.op.src == j) (λ e. let same : z.op.src ≡ j = (Decides-eqb z.op.src j).0 e in subst (λ q. its (sent_for q c.sends) ≡ []) same g.to_a)
            (λ na. either_way (z.op.dst == j)
            (λ e. let same : z.op.dst ≡ j = (Decides-eqb z.op.dst j).0 e in subst (λ q. its (sent_for q c.sends) ≡ []) same g.to_b)
            (λ nb. either_way (0 == j) (λ e. let same : 0 ≡ j = (Decides-eqb 0 j).0 e in subst (λ q. its (sent_for q c.sends) ≡ []) same g.to_s)
            (λ n0. g.others j na nb n0)))

    module _ (it : Item R) (is : seen (frame S z) m ≡ Some it) where
      abbrev v : List (Item R)
      v = its rest

      seen_does : (a b : Bool) → (p == z.op.src) ≡ a → (p == z.op.dst) ≡ b
          → SeesController S z w.ops x h.apart h.ops h.ctrl c (mdid S z w.ops x h.apart h.ops h.ctrl a b x.phase x.store (Some it))
      seen_does a b ea eb =
          subst (λ t. SeesController S z w.ops x h.apart h.ops h.ctrl c (mdid S z w.ops x h.apart h.ops h.ctrl a t x.phase x.store (Some it))) eb (subst
          (λ t. SeesController S z w.ops x h.apart h.ops h.ctrl c (mdid S z w.ops x h.apart h.ops h.ctrl t (p == z.op.dst) x.phase x.store (Some it))) ea
          (subst (λ o. SeesController S z w.ops x h.apart h.ops h.ctrl c
          (mdid S z w.ops x h.apart h.ops h.ctrl (p == z.op.src) (p == z.op.dst) x.phase x.store o)) is does))

      views_on : (a : ℕ) (x' : State R) → p ≡ a
          → ((i j : ℕ) → after_take a 1 (expect z.op.src z.op.dst z.third x) (sent S z 1 c.sends) i j ≡ expect z.op.src z.op.dst z.third x' i j) → (i j : ℕ)
          → shows S z (links_after w.link p 1 c.sends) i j ≡ expect z.op.src z.op.dst z.third x' i j
      views_on a x' pa e i j = view_some S z w.link p 1 m rest waits no_input c.sends it is i j
          ∙ ap (λ l. (if (i == p) && (j == 1) then drop 1 l else l) ++ (if i == 1 then sent S z 1 c.sends j else [])) (h.views i j) ∙ subst
          (λ q. after_take q 1 (expect z.op.src z.op.dst z.third x) (sent S z 1 c.sends) i j ≡ expect z.op.src z.op.dst z.third x' i j) (sym pa) (e i j)

      no_test : (q j : ℕ) → j ≢ q → (q == j) ≡ false
      no_test q j e = grind (arith, nat_tests)

      by_ac : p ≡ z.op.src → x.ac ≡ it ∷ v → Goes_to S laws z (ctrl_next S w p m) s []
      by_ac pa e =
          let d = from_source x.phase x.store it in
          let same = h.apart.src in
          let g = seen_does true (p == z.op.dst) (rw pa same) refl in
          let x' = put_ctrl (record x { ac = v }) d in
          moves_on S laws z (ctrl_next S w p m) s Take_ac x' (next_holds x' d g
          (views_on z.op.src x' pa (ctrl_from_a z.op.src z.op.dst z.third h.nodes x it v (sent S z 1 c.sends) d.to_a d.to_b d.to_s e g.to_a g.to_b g.to_s
          (λ j na nb n0. g.others j (no_test z.op.src j na) (no_test z.op.dst j nb) (no_test 0 j n0)))) (λ k. refl) refl refl refl refl refl)
          (rw (e, moved) refl) tt

      keep_is : z.op.keep ≡ x.keep
      keep_is = by_op (find_op w.ops z.op.num) refl h.ctrl
        where
          by_op : (o : Option (Open R)) → find_op w.ops z.op.num ≡ o → IsController S z o x → z.op.keep ≡ x.keep
          by_op None e _ = absurd (closed it e is)
          by_op (Some e) _ (q, a, b, k) = ap (λ o. o.keep) (sym q) ∙ k

      by_bc : p ≡ z.op.dst → x.bc ≡ it ∷ v → Goes_to S laws z (ctrl_next S w p m) s []
      by_bc pb e =
          let d = from_destination x.keep x.phase x.store it in
          let off = h.apart.dst_src in
          let same = h.apart.dst in
          let g = subst (λ k. SeesController S z w.ops x h.apart h.ops h.ctrl c (from_destination k x.phase x.store it)) keep_is
          (seen_does false true (rw pb off) (rw pb same)) in
          let x' = put_ctrl (record x { bc = v }) d in
          moves_on S laws z (ctrl_next S w p m) s Take_bc x' (next_holds x' d g
          (views_on z.op.dst x' pb (ctrl_from_b z.op.src z.op.dst z.third h.nodes x it v (sent S z 1 c.sends) d.to_a d.to_b d.to_s e g.to_a g.to_b g.to_s
          (λ j na nb n0. g.others j (no_test z.op.src j na) (no_test z.op.dst j nb) (no_test 0 j n0)))) (λ k. refl) refl refl refl refl refl)
          (rw (e, moved) refl) tt

      moves_ctrl : ShownBy (sides_of z) x (record { from = p; to = 1; items = it ∷ v }) → Goes_to S laws z (ctrl_next S w p m) s []
      moves_ctrl (By_ac _ pa e) = by_ac pa e
      moves_ctrl (By_bc _ pb e) = by_bc pb e
      moves_ctrl (By_cc _ _ e) = cons_nil e (third_silent S.F s)
      moves_ctrl (By_sa e _ _) = two_not_1 1 z.op.src h.nodes.a_is e refl
      moves_ctrl (By_sb e _ _) = two_not_1 1 z.op.dst h.nodes.b_is e refl
      moves_ctrl (By_sc e _ _) = two_not_1 1 z.third h.nodes.c_is e refl
      moves_ctrl (By_ca e _ _) = two_not_1 1 z.op.src h.nodes.a_is e refl
      moves_ctrl (By_cb e _ _) = two_not_1 1 z.op.dst h.nodes.b_is e refl
      moves_ctrl (By_cs e _ _) = let never : 1 ≡ 0 = e in cc

    -- the controller takes a message
    pub ctrl_holds : Goes_to S laws z (ctrl_next S w p m) s []
    ctrl_holds = elim (seen (frame S z) m) as (λ o. seen (frame S z) m ≡ o → Goes_to S laws z (ctrl_next S w p m) s []) [
      | None ↦ λ none. quiet_ctrl none
      | Some it ↦ λ is. moves_ctrl it is (by it is)
    ] refl

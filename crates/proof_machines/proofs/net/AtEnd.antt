-- Where no message stands on the links between the first nodes, among them the switch, the controller and the sides of each open move:
-- a unit whose target is among them has no packet left, and its record is live at its target.
use Rattle.proof_machines.proofs.unit.Lists.{map_nil}
use Rattle.proof_machines.proofs.net.Words.{◌≡◌, ℕ, ◌<◌, ◌≤◌, Bool, true, false, Some, List, [], ◌++◌, map, refl, sym, ap, ◌∙◌, subst, arith, if◌then◌else◌}
use Rattle.proof_machines.proofs.net.Words.{◌&&◌, ◌==◌, nat_tests, At_a, At_b, At_c, Ran, after, State, firsts, IsOrderedAs, Nodes, expect, filter_map, Silent}
use Rattle.proof_machines.proofs.net.Words.{AtRestNow, Rests_at, rest_at, seat_ends, UnitSeat, seat_shape, seat_all, seat_rests, Op, Sys, IsSys, Open, find_op}
use Rattle.proof_machines.proofs.net.Words.{World, seen, Seeing, frame, node_at, place, IsController, Holds, Rest, carries_of, done_u, split, Unit, Side}
use Rattle.proof_machines.proofs.unit.Machine.{Carry, Phase}
use Rattle.proof_machines.proofs.net.Units.{Where, Where.At_rest, Where.In_move, see}

-- the links of the machine that its nodes tell
module _ {R : Type 0} (a b c : ℕ) (nodes : Nodes a b c) (x : State R) where
  silent : expect a b c x 0 a ≡ [] → expect a b c x 0 b ≡ [] → expect a b c x a 1 ≡ [] → expect a b c x b 1 ≡ [] → expect a b c x 1 a ≡ []
      → expect a b c x 1 b ≡ [] → expect a b c x 1 0 ≡ [] → Silent x
  silent sa sb ac bc ca cb cs =
      let aa : (a == a) ≡ true = grind (arith, nat_tests) in
      let bb : (b == b) ≡ true = grind (arith, nat_tests) in
      let ba : (b == a) ≡ false = grind (arith, nat_tests, nodes.ab) in
      let a0 : (a == 0) ≡ false = grind (arith, nat_tests, nodes.a_is) in
      let a1 : (a == 1) ≡ false = grind (arith, nat_tests, nodes.a_is) in
      let b0 : (b == 0) ≡ false = grind (arith, nat_tests, nodes.b_is) in
      let b1 : (b == 1) ≡ false = grind (arith, nat_tests, nodes.b_is) in
      record {
        sa = rw aa at sa;
        sb = rw (ba, bb) at sb;
        ac = rw (a0, a1, aa) at ac;
        bc = rw (b0, b1, ba, bb) at bc;
        ca = rw (a0, aa) at ca;
        cb = rw (b0, ba, bb) at cb;
        cs = cs;
      }

module _ {R : Type 0} (S : Sys R) (laws : IsSys S) (u : Unit) (n : ℕ) (w : World S) where
  -- the unit's packets that are done, and those that are left
  pub record AtEnd (ps : List ℕ) (c : Bool) : Type 0 where
    pub ran : List Ran
    pub left : List ℕ
    pub flag : Bool
    pub two : 2 ≤ w.target u
    pub none : w.target u < n → left ≡ []
    pub live : S.B.at u (w.inst (w.target u)).live ≡ after S.F ran
    pub done : done_u S u w.done ≡ firsts ran
    pub order : IsOrderedAs flag (firsts ran ++ left) ps
    pub flag_is : flag ≡ true → c ≡ true

  module _ (some : 2 ≤ n) (quiet : (i j : ℕ) → i < n → j < n → (i == 0) && (j == 0) ≡ false → w.link i j ≡ []) where
    rest_end : (ps : List ℕ) (c : Bool) (owner : ℕ) (d : List Ran) (l : List ℕ) (b : Bool) → Rest S u w owner d l → IsOrderedAs b (firsts d ++ l) ps
        → (b ≡ true → c ≡ true) → AtEnd ps c
    rest_end ps c owner d l b h o e =
        let two = h.two in
        let self : (owner == owner) ≡ true = grind (arith, nat_tests) in
        let off : (0 == 0) && (owner == 0) ≡ false = grind (arith, nat_tests, two) in
        let link : carries_of S u (w.link 0 owner) ≡ l = rw self at (h.links 0 owner off) in
        record {
          ran = d;
          left = l;
          flag = b;
          two = subst (λ k. 2 ≤ k) (sym h.target) two;
          none = λ few. sym link ∙ ap (carries_of S u) (quiet 0 owner (omega (arith, some)) (subst (λ k. k < n) h.target few) off);
          live = ap (λ k. S.B.at u (w.inst k).live) h.target ∙ (rw self at (h.live owner));
          done = h.done;
          order = o;
          flag_is = e;
        }

    module _ (z : Seeing) (x : State R) (h : Holds S z w x) (src : z.op.src < n) (dst : z.op.dst < n) where
      no_items : (i j : ℕ) → i < n → j < n → expect z.op.src z.op.dst z.third x i j ≡ []
      no_items i j hi hj = sym (h.views i j)
          ∙ split ((i == 0) && (j == 0)) (λ b. (if b then [] else filter_map (seen (frame S z)) (w.link i j)) ≡ []) (λ _. refl)
          (λ off. ap (filter_map (seen (frame S z))) (quiet i j hi hj off))

      pub is_silent : Silent x
      is_silent =
          let zero : 0 < n = omega (arith, some) in
          let one : 1 < n = omega (arith, some) in
          silent z.op.src z.op.dst z.third h.nodes x (no_items 0 z.op.src zero src) (no_items 0 z.op.dst zero dst) (no_items z.op.src 1 src one)
          (no_items z.op.dst 1 dst one) (no_items 1 z.op.src one src) (no_items 1 z.op.dst one dst) (no_items 1 0 one zero)

    -- at one of a move's sides
    module _ (z : Seeing) (d : List Ran) (l : List ℕ) (phase : Phase R) (k : Bool) (nodes : Nodes z.op.src z.op.dst z.third) where
      -- the packets on the link to the side, and the live record there
      at_place : (side : Side) → (expect z.op.src z.op.dst z.third (rest_at S.F side d l phase k) 0 (place S z side) ≡ map Carry l)
          × ((node_at S z (rest_at S.F side d l phase k) (place S z side)).live ≡ after S.F d)
      at_place At_a = let aa : (z.op.src == z.op.src) ≡ true = grind (arith, nat_tests) in (rw aa refl, rw aa refl)
      at_place At_b =
          let ba : (z.op.dst == z.op.src) ≡ false = grind (arith, nat_tests, nodes.ab) in
          let bb : (z.op.dst == z.op.dst) ≡ true = grind (arith, nat_tests) in (rw (ba, bb) refl, rw (ba, bb) refl)
      at_place At_c =
          let ca : (z.third == z.op.src) ≡ false = grind (arith, nat_tests, nodes.ac) in
          let cb : (z.third == z.op.dst) ≡ false = grind (arith, nat_tests, nodes.bc) in
          let self : (z.third == z.third) ≡ true = grind (arith, nat_tests) in (rw (ca, cb, self) refl, rw (ca, cb, self) refl)

      done_at : (side : Side) → (rest_at S.F side d l phase k).done ≡ d
      done_at At_a = refl
      done_at side = refl

      target_at : (side : Side) → (rest_at S.F side d l phase k).target ≡ side
      target_at At_a = refl
      target_at side = refl

      place_two : (side : Side) → 2 ≤ place S z side
      place_two At_a = nodes.a_is
      place_two At_b = nodes.b_is
      place_two At_c = nodes.c_is

    side_end : (ps : List ℕ) (c : Bool) (o : Op) (third : ℕ) (side : Side) (d : List Ran) (l : List ℕ) (phase : Phase R) (k b : Bool)
        → Holds S (see S laws u o third) w (rest_at S.F side d l phase k) → o.src < n → o.dst < n → IsOrderedAs b (firsts d ++ l) ps → (b ≡ true → c ≡ true)
        → AtEnd ps c
    side_end ps c o third side d l phase k b h src dst ordered e =
        let z = see S laws u o third in
        let at : w.target u ≡ place S z side = h.target ∙ ap (place S z) (target_at z d l phase k h.nodes side) in
        record {
          ran = d;
          left = l;
          flag = b;
          two = subst (λ y. 2 ≤ y) (sym at) (place_two z d l phase k h.nodes side);
          none = λ few. map_nil _ l (sym (at_place z d l phase k h.nodes side).0
              ∙ no_items z (rest_at S.F side d l phase k) h src dst 0 (place S z side) (omega (arith, some)) (subst (λ y. y < n) at few));
          live = ap (λ y. S.B.at u (w.inst y).live) at ∙ (h.insts (place S z side)).live ∙ (at_place z d l phase k h.nodes side).1;
          done = h.done ∙ ap firsts (done_at z d l phase k h.nodes side);
          order = ordered;
          flag_is = e;
        }

    move_end : (ps : List ℕ) (c : Bool) (o : Op) (third : ℕ) (s : UnitSeat S.F) (b : Bool) → Holds S (see S laws u o third) w (seat_shape S.F s) → o.src < n
        → o.dst < n → IsOrderedAs b (seat_all s) ps → (b ≡ true → c ≡ true) → AtEnd ps c
    move_end ps c o third s b h src dst ordered e = by_rest (seat_ends S.F s (seat_rests S.F s (is_silent (see S laws u o third) (seat_shape S.F s) h src dst)))
      where
        by_rest : AtRestNow S.F (seat_shape S.F s) (seat_all s) → AtEnd ps c
        by_rest (Rests_at side d l phase k is all) = side_end ps c o third side d l phase k b (subst (λ x. Holds S (see S laws u o third) w x) is h) src dst
            (subst (λ v. IsOrderedAs b v ps) all ordered) e

    -- wherever the unit is
    pub at_end : ((k : ℕ) (e : Open R) → find_op w.ops k ≡ Some e → (e.op.src < n) × (e.op.dst < n)) → (ps : List ℕ) (c : Bool) → Where S laws u w ps c
        → AtEnd ps c
    at_end sides ps c (At_rest owner d l b h o e) = rest_end ps c owner d l b h o e
    at_end sides ps c (In_move o third x s b there h ordered e keep) =
        let it : IsController S (see S laws u o third) (Some x) (seat_shape S.F s) = subst (λ y. IsController S (see S laws u o third) y (seat_shape S.F s))
        there h.ctrl in
        let same = it.0 in
        let there_are = sides o.num x there in
        move_end ps c o third s b h (subst (λ y. y.src < n) same there_are.0) (subst (λ y. y.dst < n) same there_are.1) ordered e

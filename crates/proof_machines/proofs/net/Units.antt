-- Each node's step and each begin of a move leaves a unit at rest or in a move, with all its packets that arrived.
use Rattle.proof_machines.proofs.NumberedLists.{find-append_own, find-append_other, none_below}
use Rattle.proof_machines.proofs.net.Words.{◌≡◌, ◌≢◌, ℕ, suc, ◌+◌, ◌≤◌, Bool, true, false, Option, Some, None, List, [], ◌∷◌, ◌++◌, refl, sym, ap, ◌∙◌, subst}
use Rattle.proof_machines.proofs.net.Words.{append-nil, arith, if◌then◌else◌, ◌&&◌, ◌||◌, ◌==◌, nat_tests, Decides-eqb, self, At_a, At_b, Ran, Drops, Item}
use Rattle.proof_machines.proofs.net.Words.{Enable, State, Freezing, firsts, Turned_loose, Fenced_loose, Ending_loose, Fence_loose, loose, times, IsOrderedAs}
use Rattle.proof_machines.proofs.net.Words.{MoveMsg, Op, sent_for, NodesDiffer, Each, each-append, Nodes, expect, is_over, AtRestNow, Rests_at, seat_ends}
use Rattle.proof_machines.proofs.net.Words.{seat_at, UnitSeat, Covered, is_covered, seat_shape, seat_all, seat_loose, Filter, inst_next, ctrl_next, sw_next}
use Rattle.proof_machines.proofs.net.Words.{in_next, begin_next, sw_target, Msg, Of_move, MoveAsked, Sys, IsSys, Open, find_op, meets_any, new_op, begin_sends}
use Rattle.proof_machines.proofs.net.Words.{World, seen, Seeing, frame, Label, OpLabel, place, IsController, Holds, sent, view_put, each_put, Rest, Global}
use Rattle.proof_machines.proofs.net.Words.{same_unit, Unit, same_of}
use Rattle.proof_machines.proofs.unit.Stages.{Stage, shape}
use Rattle.proof_machines.proofs.unit.Loose.{times-append}
use Rattle.proof_machines.proofs.net.InstWorld.{Goes_to, inst_holds}
use Rattle.proof_machines.proofs.net.OtherWorld.{ctrl_holds, put_unseen, one_unseen}
use Rattle.proof_machines.proofs.net.SwitchWorld.{switch_holds, input_holds}
use Rattle.proof_machines.proofs.net.RestingSeats.{rest_holds, holds_rest}

-- one order behind another
pub order_join : (b c : Bool) (xs ys zs came : List ℕ) → IsOrderedAs b xs ys → IsOrderedAs c zs (xs ++ came) → IsOrderedAs (b || c) zs (ys ++ came)
order_join true c xs ys zs came a o =
    λ p. same_of c zs (xs ++ came) o p ∙ times-append p xs came ∙ ap (λ k. k + times p came) (a p) ∙ sym (times-append p ys came)
order_join false true xs ys zs came a o = λ p. o p ∙ ap (λ v. times p (v ++ came)) a
order_join false false xs ys zs came a o = o ∙ ap (λ v. v ++ came) a

pub order_same : (b : Bool) (xs ys zs : List ℕ) → xs ≡ zs → IsOrderedAs b xs ys → IsOrderedAs b zs ys
order_same b xs ys zs e o = subst (λ v. IsOrderedAs b v ys) e o

-- what the controller asked for
pub record May {R : Type 0} (S : Sys R) (w : World S) (x : MoveAsked) : Type 0 where
  pub fresh : w.next ≤ x.num
  pub src : 2 ≤ x.src
  pub dst : 2 ≤ x.dst
  pub other : x.src ≢ x.dst
  pub apart : meets_any S x.filter w.ops ≡ false

module _ {R : Type 0} (S : Sys R) (laws : IsSys S) (u : Unit) where
  abbrev pub see : Op → ℕ → Seeing
  see o c = record { unit = u; op = o; third = c }

  -- a move without a buffer that covers the unit has handed it on only where the flag says so
  abbrev pub Flagged : World S → Op → UnitSeat S.F → Bool → Type 0
  Flagged w o s c = is_covered s ≡ true → o.keep ≡ false → w.target u ≡ o.dst → c ≡ true

  -- with all its packets that have arrived; the flag b says whether it was ever loose, c whether a move without a buffer ever handed it on
  pub data Where (w : World S) (ps : List ℕ) (c : Bool) : Type 0 where
    At_rest : (owner : ℕ) (d : List Ran) (l : List ℕ) (b : Bool) → Rest S u w owner d l → IsOrderedAs b (firsts d ++ l) ps → (b ≡ true → c ≡ true)
        → Where w ps c
    In_move : (o : Op) (third : ℕ) (e : Open R) (s : UnitSeat S.F) (b : Bool) → find_op w.ops o.num ≡ Some e → Holds S (see o third) w (seat_shape S.F s)
        → IsOrderedAs b (seat_all s) ps → (b ≡ true → c ≡ true) → Flagged w o s c → Where w ps c

  -- in either case a seat shows it, open or not
  pub record ShowsUnit (w : World S) (ps : List ℕ) (c : Bool) : Type 0 where
    pub op : Op
    pub third : ℕ
    pub seat : UnitSeat S.F
    pub flag : Bool
    pub holds : Holds S (see op third) w (seat_shape S.F seat)
    pub order : IsOrderedAs flag (seat_all seat) ps
    pub flag_is : flag ≡ true → c ≡ true
    pub handed : Flagged w op seat c

  -- back: the move is open, or has ended
  pub settle : (w : World S) (ps : List ℕ) (c : Bool) → ShowsUnit w ps c → Where w ps c
  settle w ps c h = by_op (find_op w.ops h.op.num) refl
    where
      ended : find_op w.ops h.op.num ≡ None → AtRestNow S.F (seat_shape S.F h.seat) (seat_all h.seat) → Where w ps c
      ended none (Rests_at side d l ph k is all) = At_rest (place S (see h.op h.third) side) d l h.flag (holds_rest S (see h.op h.third) w side d l ph k
          (subst (λ x. Holds S (see h.op h.third) w x) is h.holds) none) (order_same h.flag (seat_all h.seat) ps (firsts d ++ l) all h.order) h.flag_is

      by_op : (f : Option (Open R)) → find_op w.ops h.op.num ≡ f → Where w ps c
      by_op None none = ended none (seat_ends S.F h.seat (subst (λ f. IsController S (see h.op h.third) f (seat_shape S.F h.seat)) none h.holds.ctrl))
      by_op (Some e) there = In_move h.op h.third e h.seat h.flag there h.holds h.order h.flag_is h.handed

  -- two instances
  pub apart_of : (n a b : ℕ) (k : Bool) → 2 ≤ a → 2 ≤ b → a ≢ b → NodesDiffer (record { num = n; src = a; dst = b; keep = k })
  apart_of n a b k two_a two_b ab = record {
    num = self n;
    src = self a;
    dst = self b;
    src_dst = grind (arith, nat_tests, ab);
    dst_src = grind (arith, nat_tests, ab);
    src_0 = grind (arith, nat_tests, two_a);
    dst_0 = grind (arith, nat_tests, two_b);
    0_src = grind (arith, nat_tests, two_a);
    0_dst = grind (arith, nat_tests, two_b);
  }

  -- a unit at rest, seen with a number that nothing has
  pub shown_rest : (w : World S) (n owner : ℕ) (d : List Ran) (l : List ℕ) → Global S w → w.next ≤ n → Rest S u w owner d l
      → Holds S (see (record { num = n; src = owner; dst = suc owner; keep = true }) (suc (suc owner))) w (seat_shape S.F (seat_at S.F At_a d l true))
  shown_rest w n owner d l g new h =
      let two = h.two in
      rest_holds S (see (record { num = n; src = owner; dst = suc owner; keep = true }) (suc (suc owner))) w g new
      (apart_of n owner (suc owner) true two (omega (arith, two)) (grind (arith, nat_tests))) (record {
        a_is = two;
        b_is = omega (arith, two);
        c_is = omega (arith, two);
        ab = grind (arith, nat_tests);
        ac = grind (arith, nat_tests);
        bc = grind (arith, nat_tests);
      }) At_a d l true h

  pub shown : (w : World S) (ps : List ℕ) (c : Bool) → Global S w → Where w ps c → ShowsUnit w ps c
  shown w ps c g (At_rest owner d l b h o f) = record {
    op = record { num = w.next; src = owner; dst = suc owner; keep = true };
    third = suc (suc owner);
    seat = seat_at S.F At_a d l true;
    flag = b;
    holds = shown_rest w w.next owner d l g (omega arith) h;
    order = o;
    flag_is = f;
    handed = λ _ e. let never : true ≡ false = e in cc;
  }
  shown w ps c g (In_move op third e s b there h o f k) = record { op = op; third = third; seat = s; flag = b; holds = h; order = o; flag_is = f; handed = k }

  -- a loose seat is that of an open move without a buffer that has handed the unit on
  loose_stage : (s : Stage S.F) → loose s ≡ true → ((shape S.F s).keep ≡ false) × (is_over (shape S.F s).phase ≡ false) × ((shape S.F s).target ≡ At_b)
  loose_stage (Turned_loose d x f e l) h = (refl, refl, refl)
  loose_stage (Fenced_loose d x f e) h = (refl, refl, refl)
  loose_stage (Ending_loose d x f) h = (refl, refl, refl)
  loose_stage (Fence_loose d x n) h = (refl, refl, refl)
  loose_stage s h = let never : false ≡ true = h in cc

  loose_seat : (s : UnitSeat S.F) → seat_loose s ≡ true
      → (is_covered s ≡ true) × ((seat_shape S.F s).keep ≡ false) × (is_over (seat_shape S.F s).phase ≡ false) × ((seat_shape S.F s).target ≡ At_b)
  loose_seat (Covered s) h = let k = loose_stage s h in (refl, k.0, k.1, k.2)
  loose_seat s h = let never : false ≡ true = h in cc

  loose_keep : (o : Op) (third : ℕ) (x : State R) (f : Option (Open R)) → IsController S (see o third) f x → x.keep ≡ false → is_over x.phase ≡ false
      → o.keep ≡ false
  loose_keep o third x None h k p = let never : true ≡ false = sym h ∙ p in cc
  loose_keep o third x (Some e) (q, _, _, keep) k p = ap (λ y. y.keep) (sym q) ∙ keep ∙ k

  pub either : (a b c : Bool) → a || b ≡ true → (a ≡ true → c ≡ true) → (b ≡ true → c ≡ true) → c ≡ true
  either true b c e f g = f refl
  either false b c e f g = g e

  -- where a loose seat is found, its flag says so
  pub loose_flag : (w : World S) (o : Op) (third : ℕ) (s : UnitSeat S.F) (c : Bool) → Holds S (see o third) w (seat_shape S.F s) → Flagged w o s c
      → seat_loose s ≡ true → c ≡ true
  loose_flag w o third s c h handed l = let k = loose_seat s l in
      handed k.0 (loose_keep o third (seat_shape S.F s) (find_op w.ops o.num) h.ctrl k.1 k.2) (h.target ∙ ap (place S (see o third)) k.3)

  -- the flag may turn true on the way
  pub goes_on : (w w' : World S) (ps came : List ℕ) (c d : Bool) (h : ShowsUnit w ps c) → (c ≡ true → d ≡ true) → Flagged w' h.op h.seat d
      → Goes_to S laws (see h.op h.third) w' h.seat came → Where w' (ps ++ came) d
  goes_on w w' ps came c d h grows handed g = settle w' (ps ++ came) d (record {
    op = h.op;
    third = h.third;
    seat = g.seat;
    flag = h.flag || seat_loose g.seat;
    holds = g.holds;
    order = order_join h.flag (seat_loose g.seat) (seat_all h.seat) ps (seat_all g.seat) came h.order g.order;
    flag_is = λ e. either h.flag (seat_loose g.seat) d e (λ q. grows (h.flag_is q)) (loose_flag w' h.op h.third g.seat d g.holds after);
    handed = after;
  })
    where
      after : Flagged w' h.op g.seat d
      after on = handed (sym g.covered ∙ on)

  pub stays : (w : World S) (ps : List ℕ) (c : Bool) → Where w (ps ++ []) c → Where w ps c
  stays w ps c h = subst (λ v. Where w v c) (append-nil ps) h

  pub inst_where : (w : World S) (ps : List ℕ) (c : Bool) → Global S w → (p y : ℕ) (m : Msg R) (rest : List (Msg R)) → (y == 0) ≡ false → (y == 1) ≡ false
      → w.link p y ≡ m ∷ rest → Where w ps c → Where (inst_next S w p y m) ps c
  inst_where w ps c g p y m rest y0 y1 waits h = let k = shown w ps c g h in
      stays (inst_next S w p y m) ps c
      (goes_on w (inst_next S w p y m) ps [] c c k (λ e. e) k.handed (inst_holds S laws (see k.op k.third) w k.seat k.holds p y m rest y0 y1 waits))

  pub ctrl_where : (w : World S) (ps : List ℕ) (c : Bool) → Global S w → (p : ℕ) (m : Msg R) (rest : List (Msg R)) → w.link p 1 ≡ m ∷ rest → Where w ps c
      → Where (ctrl_next S w p m) ps c
  ctrl_where w ps c g p m rest waits h = let k = shown w ps c g h in
      stays (ctrl_next S w p m) ps c
      (goes_on w (ctrl_next S w p m) ps [] c c k (λ e. e) k.handed (ctrl_holds S laws (see k.op k.third) w k.seat k.holds p m rest waits))

  -- the switch changes the flag where it takes the message by which a move without a buffer hands the unit on
  abbrev pub Hands_on : World S → Msg R → Bool → Type 0
  Hands_on w m d = (f : Filter) (n from to : ℕ) (e : Open R) → m ≡ Of_move f (MoveMsg.Install n from to) → find_op w.ops n ≡ Some e → e.op.keep ≡ false
      → S.takes f u ≡ true → w.target u ≡ from → d ≡ true

  -- a target that isn't changed is what it was
  install_flag : (w : World S) (d : Bool) (o : Op) (e : Open R) (s : UnitSeat S.F) (f : Filter) (n from to : ℕ) → find_op w.ops o.num ≡ Some e
      → e.op.keep ≡ o.keep → S.takes f u ≡ (n == o.num) → Hands_on w (Of_move f (MoveMsg.Install n from to)) d → Flagged w o s d → is_covered s ≡ true → o.keep
      ≡ false
      → (b k : Bool) → S.takes f u ≡ b → (w.target u == from) ≡ k → (if b && k then to else w.target u) ≡ o.dst → d ≡ true
  install_flag w d o e s f n from to there keep lab hands old on plain true true t at is =
      let same : n ≡ o.num = (Decides-eqb n o.num).0 (sym lab ∙ t) in
      hands f n from to e refl (subst (λ k. find_op w.ops k ≡ Some e) (sym same) there) (keep ∙ plain) t ((Decides-eqb (w.target u) from).0 at)
  install_flag w d o e s f n from to there keep lab hands old on plain true false t at is = old on plain is
  install_flag w d o e s f n from to there keep lab hands old on plain false k t at is = old on plain is

  switch_flag : (w : World S) (ps : List ℕ) (c d : Bool) (g : Global S w) (p : ℕ) (m : Msg R) (rest : List (Msg R)) → (p == 0) ≡ false → w.link p 0 ≡ m ∷ rest
      → (c ≡ true → d ≡ true) → Hands_on w m d → (h : Where w ps c) → Flagged (sw_next S w p m) (shown w ps c g h).op (shown w ps c g h).seat d
  unfolding shown
  switch_flag w ps c d g p m rest p0 waits grows hands (At_rest owner l q b h o f) on plain is = let never : true ≡ false = plain in cc
  switch_flag w ps c d g p m rest p0 waits grows hands (In_move op third e s b there h o f old) on plain is =
      by_msg m ((subst (λ ms. Each (Label S (see op third) p) ms) waits (h.labels p 0 (rw p0 refl))).0) hands is
    where
      before : Flagged w op s d
      before a k at = grows (old a k at)

      keep : e.op.keep ≡ op.keep
      keep = ap (λ x. x.keep) (subst (λ x. IsController S (see op third) x (seat_shape S.F s)) there h.ctrl).0

      by_msg : (m : Msg R) → Label S (see op third) p m → Hands_on w m d → sw_target S w.target m u ≡ op.dst → d ≡ true
      by_msg (Of_move x (MoveMsg.Install n from to)) lab hands at =
          install_flag w d op e s x n from to there keep lab.1 hands before on plain (S.takes x u) (w.target u == from) refl refl at
      by_msg m lab hands at = before on plain at

  pub switch_where : (w : World S) (ps : List ℕ) (c d : Bool) → Global S w → (p : ℕ) (m : Msg R) (rest : List (Msg R)) → (p == 0) ≡ false
      → w.link p 0 ≡ m ∷ rest → (c ≡ true → d ≡ true) → Hands_on w m d → Where w ps c → Where (sw_next S w p m) ps d
  switch_where w ps c d g p m rest p0 waits grows hands h = let k = shown w ps c g h in
      stays (sw_next S w p m) ps d (goes_on w (sw_next S w p m) ps [] c d k grows (switch_flag w ps c d g p m rest p0 waits grows hands h)
      (switch_holds S laws (see k.op k.third) w k.seat k.holds p m rest p0 waits))

  pub input_where : (w : World S) (ps : List ℕ) (c : Bool) → Global S w → (q : ℕ) → Where w ps c
      → Where (in_next S w q) (ps ++ (if same_unit (S.packet_unit q) u then q ∷ [] else [])) c
  input_where w ps c g q h = let k = shown w ps c g h in
      goes_on w (in_next S w q) ps (if same_unit (S.packet_unit q) u then q ∷ [] else []) c c k (λ e. e) k.handed
      (input_holds S laws (see k.op k.third) w k.seat k.holds q)

  -- a message that nobody sees is put on a node's link
  pub put_where : (w : World S) (ps : List ℕ) (c : Bool) → Global S w → (y r : ℕ) (m : Msg R) → ((z : Seeing) → seen (frame S z) m ≡ None)
      → ((z : Seeing) → Label S z y m) → Where w ps c → Where (record w { link = λ i j. w.link i j ++ (if i == y then sent_for j ((r, m) ∷ []) else []) }) ps c
  put_where w ps c g y r m none lab h =
      let k = shown w ps c g h in
      let z = see k.op k.third in
      settle (record w { link = λ i j. w.link i j ++ (if i == y then sent_for j ((r, m) ∷ []) else []) }) ps c (record {
        op = k.op;
        third = k.third;
        seat = k.seat;
        flag = k.flag;
        holds = put_unseen S laws z w (seat_shape S.F k.seat) k.holds y ((r, m) ∷ []) (one_unseen S laws z y r m (none z)) (lab z, tt);
        order = k.order;
        flag_is = k.flag_is;
        handed = k.handed;
      })

  -- A move begins: for a unit that the filter doesn't take
  pub other_begins : (o : Op) (third : ℕ) (w : World S) (x : MoveAsked) (v : State R) → (x.num == o.num) ≡ false → S.takes x.filter u ≡ false
      → NodesDiffer (new_op {R = R} x.num x).op → Holds S (see o third) w v → Holds S (see o third) (begin_next S w x) v
  other_begins o third w x v off out apart h =
      let z = see o third in
      let p = put_unseen S laws z w v h 1 (begin_sends x.num x) (one_unseen S laws z 1 x.src (Of_move x.filter (MoveMsg.Enable x.num Drops)) (rw off refl))
      ((refl, (out ∙ sym off, refl)), tt) in
      record {
        apart = h.apart;
        nodes = h.nodes;
        views = p.views;
        labels = p.labels;
        insts = h.insts;
        target = h.target;
        ctrl = subst (λ f. IsController S z f v) (sym (find-append_other _ o.num (new_op x.num x) w.ops off)) h.ctrl;
        ops = each-append (OpLabel S z) w.ops (new_op x.num x ∷ []) h.ops ((out ∙ sym off, (λ _. (tt, refl)), apart), tt);
        done = h.done;
      }

  -- for one that it takes: the move's first message goes out
  enable_links : (z : Seeing) (v : State R) (send : ℕ → List (Item R)) → Nodes z.op.src z.op.dst z.third → send z.op.src ≡ Enable Drops ∷ []
      → ((j : ℕ) → j ≢ z.op.src → send j ≡ []) → (i j : ℕ) → expect z.op.src z.op.dst z.third v i j ++ (if i == 1 then send j else [])
      ≡ expect z.op.src z.op.dst z.third (record v { ca = v.ca ++ Enable Drops ∷ [] }) i j
  enable_links z v send n at none i j = grind (arith, nat_tests, append-nil, at, none j, n.a_is, n.b_is, n.c_is, n.ab, n.ac, n.bc)

  pub covered_begins : (third : ℕ) (w : World S) (x : MoveAsked) (v : State R) → Global S w → w.next ≤ x.num → S.takes x.filter u ≡ true
      → v.store ≡ [] → v.keep ≡ x.keep → NodesDiffer (new_op {R = R} x.num x).op → Holds S (see (new_op {R = R} x.num x).op third) w v
      → Holds S (see (new_op {R = R} x.num x).op third) (begin_next S w x) (record v { phase = Freezing; keep = x.keep; ca = v.ca ++ Enable Drops ∷ [] })
  covered_begins third w x v g fresh takes store keep apart h =
      let z = see (new_op {R = R} x.num x).op third in
      let on = apart.num in
      let sends : List (ℕ × Msg R) = begin_sends x.num x in
      let at : sent S z 1 sends x.src ≡ Enable Drops ∷ [] = (let s = apart.src in rw (s, on) refl) in
      let none = (λ (j : ℕ) (off : j ≢ x.src). (let t : (x.src == j) ≡ false = grind (arith, nat_tests) in let e : sent S z 1 sends j ≡ [] = rw t refl in e)) in
      record {
        apart = h.apart;
        nodes = h.nodes;
        views = λ i j. view_put S z w.link 1 sends i j ∙ ap (λ k. k ++ (if i == 1 then sent S z 1 sends j else [])) (h.views i j)
            ∙ enable_links z v (sent S z 1 sends) h.nodes at none i j;
        labels = each_put (λ i j m. Label S z i m) w.link 1 sends h.labels ((refl, (takes ∙ sym on, refl)), tt);
        insts = h.insts;
        target = h.target;
        ctrl = subst (λ f. IsController S z f (record v { phase = Freezing; keep = x.keep; ca = v.ca ++ Enable Drops ∷ [] }))
            (sym (find-append_own _ x.num (new_op x.num x) w.ops on (none_below _ w.next x.num w.ops fresh g.ops))) (refl, refl, sym store, refl);
        ops = each-append (OpLabel S z) w.ops (new_op x.num x ∷ []) h.ops ((takes ∙ sym on, (λ _. (tt, refl)), apart), tt);
        done = h.done;
      }

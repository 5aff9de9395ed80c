-- A begun move leaves its units in a move, with all their packets that arrived.
use Rattle.proof_machines.proofs.unit.Path.{all_carries}
use Rattle.proof_machines.proofs.net.Words.{◌||◌, ◌≡◌, ◌≢◌, ℕ, suc, ◌+◌, ◌≤◌, ◌<◌, Bool, true, false, Some, List, [], ◌∷◌, ◌++◌, refl, sym, ap, ◌∙◌, subst}
use Rattle.proof_machines.proofs.net.Words.{arith, if◌then◌else◌, ◌==◌, nat_tests, Decides-eqb, At_a, At_b, At_c, Ran, Drops, Enable, Freezing, Begin, moved}
use Rattle.proof_machines.proofs.net.Words.{Over, firsts, IsOrderedAs, Op, Nodes, rest_at, seat_at, seat_begins, UnitSeat, is_covered, seat_shape, seat_all}
use Rattle.proof_machines.proofs.net.Words.{seat_loose, Filter, begin_next, MoveAsked, Sys, IsSys, Open, find_op, meets_any, new_op, World, OpLabel, place}
use Rattle.proof_machines.proofs.net.Words.{Rest, Global, either_way, split, false_from_ne_true, Unit, Side}
use Rattle.proof_machines.proofs.unit.Machine.{Idle}
use Rattle.proof_machines.proofs.net.Ctrl.{each_found}
use Rattle.proof_machines.proofs.net.InstWorld.{moves_on}
use Rattle.proof_machines.proofs.net.RestingSeats.{rest_holds}
use Rattle.proof_machines.proofs.net.Units.{order_join, order_same, May, see, Flagged, Where, Where.At_rest, Where.In_move, settle, apart_of, shown_rest}
use Rattle.proof_machines.proofs.net.Units.{either, loose_flag, stays, other_begins, covered_begins}

module _ {R : Type 0} (S : Sys R) (laws : IsSys S) (u : Unit) where
  any_tells : (g : Filter) (es : List (Open R)) (n : ℕ) (e : Open R) → meets_any S g es ≡ false → find_op es n ≡ Some e → S.takes g u ≡ true
      → S.takes e.filter u ≡ false
  any_tells g [] n e apart there t = cc
  any_tells g (x ∷ es) n e apart there t =
      split (S.meets g x.filter) (λ b. b || meets_any S g es ≡ false → S.takes e.filter u ≡ false) (λ _ bad. cc)
      (λ out more. split (x.op.num == n) (λ b. (if b then Some x else find_op es n) ≡ Some e → S.takes e.filter u ≡ false)
      (λ _. λ is. let same : x ≡ e = cc in subst (λ y. S.takes y.filter u ≡ false) same (laws.apart g x.filter u out t))
      (λ _. λ is. any_tells g es n e more is t) there) apart

  all_at_rest : (side : Side) (d : List Ran) (l : List ℕ) (k : Bool) → seat_all (seat_at S.F side d l k) ≡ firsts d ++ l
  all_at_rest At_b d l k = ap (λ v. firsts d ++ v) (all_carries R l)
  all_at_rest side d l k = refl

  rest_store : (side : Side) (d : List Ran) (l : List ℕ) (k : Bool)
      → ((rest_at S.F side d l (Over Idle) k).store ≡ []) × ((rest_at S.F side d l (Over Idle) k).keep ≡ k)
  rest_store At_a d l k = (refl, refl)
  rest_store side d l k = (refl, refl)

  begun_rest : (side : Side) (d : List Ran) (l : List ℕ) (k : Bool) → moved S.F (rest_at S.F side d l (Over Idle) k) (Begin k)
      ≡ record (rest_at S.F side d l (Over Idle) k) { phase = Freezing; keep = k; ca = (rest_at S.F side d l (Over Idle) k).ca ++ Enable Drops ∷ [] }
  begun_rest At_a d l k = refl
  begun_rest side d l k = refl

  -- a unit at rest that the filter takes: covered, beside or away
  takes_seat : (w : World S) (ps : List ℕ) (c : Bool) (x : MoveAsked) (side : Side) (third : ℕ) (d : List Ran) (l : List ℕ) (b : Bool) → Global S w
      → May S w x → S.takes x.filter u ≡ true → Nodes x.src x.dst third → Rest S u w (place S (see S laws u (new_op {R = R} x.num x).op third) side) d l
      → IsOrderedAs b (firsts d ++ l) ps → (b ≡ true → c ≡ true) → Where S laws u (begin_next S w x) ps c
  takes_seat w ps c x side third d l b g may takes nodes h o f =
      let z = see S laws u (new_op {R = R} x.num x).op third in
      let apart = apart_of S laws u x.num x.src x.dst x.keep may.src may.dst may.other in
      let v = rest_at S.F side d l (Over Idle) x.keep in
      let s = seat_at S.F side d l x.keep in
      let facts = rest_store side d l x.keep in
      let at = covered_begins S laws u third w x v g may.fresh takes facts.0 facts.1 apart (rest_holds S z w g may.fresh apart nodes side d l x.keep h) in
      let goes = moves_on S laws z (begin_next S w x) s (Begin x.keep) (record v { phase = Freezing; keep = x.keep; ca = v.ca ++ Enable Drops ∷ [] }) at
      (ap (λ q. moved S.F q (Begin x.keep)) (seat_begins S.F side d l x.keep) ∙ begun_rest side d l x.keep) tt in
      let all : IsOrderedAs b (seat_all s) ps = order_same b (firsts d ++ l) ps (seat_all s) (sym (all_at_rest side d l x.keep)) o in
      stays S laws u (begin_next S w x) ps c (settle S laws u (begin_next S w x) (ps ++ []) c (record {
        op = z.op;
        third = third;
        seat = goes.seat;
        flag = b || seat_loose goes.seat;
        holds = goes.holds;
        order = order_join b (seat_loose goes.seat) (seat_all s) ps (seat_all goes.seat) [] all goes.order;
        flag_is = λ e. either S laws u b (seat_loose goes.seat) c e f
            (loose_flag S laws u (begin_next S w x) z.op third goes.seat c goes.holds (flagged goes.seat goes.covered));
        handed = flagged goes.seat goes.covered;
      }))
    where
      -- a unit that the new move covers is still at the source
      at_source : (side : Side) → is_covered (seat_at S.F side d l x.keep) ≡ true → place S (see S laws u (new_op {R = R} x.num x).op third) side ≡ x.src
      at_source At_a e = refl
      at_source At_b e = let never : false ≡ true = e in cc
      at_source At_c e = let never : false ≡ true = e in cc

      flagged : (t : UnitSeat S.F) → is_covered t ≡ is_covered (seat_at S.F side d l x.keep)
          → Flagged S laws u (begin_next S w x) (new_op {R = R} x.num x).op t c
      flagged t same on plain at = absurd (may.other (sym (at_source side (sym same ∙ on)) ∙ sym h.target ∙ at))

  third_of : (a b : ℕ) → 2 ≤ a → 2 ≤ b → a ≢ b → Nodes a b (a + b)
  third_of a b two_a two_b ab = record {
    a_is = two_a;
    b_is = two_b;
    c_is = omega (arith, two_a);
    ab = ab;
    ac = (λ e. let never : ⊥ = omega (arith, two_b, e) in absurd never);
    bc = (λ e. let never : ⊥ = omega (arith, two_a, e) in absurd never);
  }

  pub begin_where : (w : World S) (ps : List ℕ) (c : Bool) (x : MoveAsked) → Global S w → May S w x → Where S laws u w ps c
      → Where S laws u (begin_next S w x) ps c
  begin_where w ps c x g may (At_rest owner d l b h o f) =
      either_way (S.takes x.filter u)
      (λ takes. either_way (owner == x.src)
      (λ e. takes_seat w ps c x At_a (x.src + x.dst) d l b g may takes (third_of x.src x.dst may.src may.dst may.other)
      (subst (λ k. Rest S u w k d l) ((Decides-eqb owner x.src).0 e) h) o f)
      (λ na. either_way (owner == x.dst)
      (λ e. takes_seat w ps c x At_b (x.src + x.dst) d l b g may takes (third_of x.src x.dst may.src may.dst may.other)
      (subst (λ k. Rest S u w k d l) ((Decides-eqb owner x.dst).0 e) h) o f)
      (λ nb. takes_seat w ps c x At_c owner d l b g may takes
      (record { a_is = may.src; b_is = may.dst; c_is = h.two; ab = may.other; ac = grind (arith, nat_tests); bc = grind (arith, nat_tests) }) h o f)))
      (λ out.
      let n = suc x.num in
      let op : Op = record { num = n; src = owner; dst = suc owner; keep = true } in
      let off : (x.num == n) ≡ false = grind (arith, nat_tests) in
      settle S laws u (begin_next S w x) ps c (record {
        op = op;
        third = suc (suc owner);
        seat = seat_at S.F At_a d l true;
        flag = b;
        holds = other_begins S laws u op (suc (suc owner)) w x (seat_shape S.F (seat_at S.F At_a d l true)) off out
            (apart_of S laws u x.num x.src x.dst x.keep may.src may.dst may.other) (shown_rest S laws u w n owner d l g (omega (arith, may.fresh)) h);
        order = o;
        flag_is = f;
        handed = λ _ e. let never : true ≡ false = e in cc;
      }))
  begin_where w ps c x g may (In_move op third e s b there h o f fk) =
      let few = (each_found (λ y. y.op.num < w.next) op.num w.ops e g.ops there) in
      let same : e.op.num ≡ op.num = (Decides-eqb e.op.num op.num).0 few.1 in
      let less : e.op.num < w.next = few.0 in
      let off : (x.num == op.num) ≡ false = grind (arith, nat_tests, same, less, may.fresh) in
      let lab : S.takes e.filter u ≡ (e.op.num == op.num) = (each_found (OpLabel S (see S laws u op third)) op.num w.ops e h.ops there).0.0 in
      let out : S.takes x.filter u ≡ false = false_from_ne_true (S.takes x.filter u)
      (λ on. let never : false ≡ true = sym (any_tells x.filter w.ops op.num e may.apart there on) ∙ lab ∙ few.1 in cc) in
      settle S laws u (begin_next S w x) ps c (record {
        op = op;
        third = third;
        seat = s;
        flag = b;
        holds = other_begins S laws u op third w x (seat_shape S.F s) off out (apart_of S laws u x.num x.src x.dst x.keep may.src may.dst may.other) h;
        order = o;
        flag_is = f;
        handed = fk;
      })

-- Of one unit in a world of moves: where an instance processes packets of it, it may do so (`MayRun`), and its record is the fold of all that
-- was done before.
use Rattle.proof_machines.proofs.net.Words.{◌≡◌, ◌≢◌, ℕ, suc, Bool, true, false, Some, None, List, [], ◌∷◌, refl, sym, ap, ◌∙◌, subst, arith, ◌==◌, At_a, At_c}
use Rattle.proof_machines.proofs.net.Words.{Steps, Ran, Item, State, after, cons_nil, At_rest, UnitSeat, Covered, Is_beside, Is_away, seat_shape, seat_at, Op}
use Rattle.proof_machines.proofs.net.Words.{Msg, Sys, IsSys, Open, World, find_op, inst_step, Seeing, node_at, place, IsController, OpLabel, Holds, Rest}
use Rattle.proof_machines.proofs.net.Words.{Global, none_mine, done_u, Unit}
use Rattle.proof_machines.proofs.unit.Fresh.{fresh_sa, fresh_sb, fresh_sc, sc_stage}
use Rattle.proof_machines.proofs.net.Ctrl.{each_found}
use Rattle.proof_machines.proofs.net.Readings.{fold}
use Rattle.proof_machines.proofs.net.Units.{Where, Where.At_rest, Where.In_move, shown_rest, see}
use Rattle.proof_machines.proofs.net.Fresh.{From_switch, From_switch.From_sa, From_switch.From_sb, From_switch.From_sc, comes_from_switch}
use Rattle.proof_machines.proofs.whole.RoutedSteps.{Routed, To_source, To_destination, source_routed, destination_routed}

third_target : {R : Type 0} (F : Steps R) (s : UnitSeat F) (it : Item R) (v : List (Item R)) → (seat_shape F s).sc ≡ it ∷ v → (seat_shape F s).target ≡ At_c
third_target F (Covered s) it v e = cons_nil (sym e ∙ sc_stage F s)
third_target F (Is_beside s) it v e = cons_nil (sym e ∙ sc_stage F s.base)
third_target F (Is_away s) it v e = refl

module _ {R : Type 0} (S : Sys R) (laws : IsSys S) (z : Seeing) (w : World S) (s : UnitSeat S.F) (h : Holds S z w (seat_shape S.F s))
    (p y : ℕ) (m : Msg R) (rest : List (Msg R)) (y0 : (y == 0) ≡ false) (y1 : (y == 1) ≡ false) (waits : w.link p y ≡ m ∷ rest)
    (some : none_mine S z.unit (inst_step S (w.inst y) m).ran ≢ []) where
  abbrev x : State R
  x = seat_shape S.F s

  abbrev Link : Type 0
  Link = From_switch S laws z w s h p y m rest y0 y1 waits some

  by_link : Link → (node_at S z x y).live ≡ after S.F x.done
  by_link (From_sa ya it v e at g) = ap (λ k. k.live) at ∙ fresh_sa S.F s it v g.parts g.refuse e g.runs
  by_link (From_sb yb it v e at g) = ap (λ k. k.live) at ∙ fresh_sb S.F s it v g.parts g.refuse e g.runs
  by_link (From_sc yc it v e at) = ap (λ k. k.live) at ∙ fresh_sc S.F s it v e

  -- the instance is where the unit's packets go, or the destination while they go to the source
  pub data IsPlaced : Type 0 where
    Routed_here : place S z x.target ≡ y → IsPlaced
    Moved_here : place S z x.target ≡ z.op.src → y ≡ z.op.dst → IsPlaced

  by_route : y ≡ z.op.dst → Routed x → IsPlaced
  by_route yb (To_source t) = Moved_here (ap (place S z) t) yb
  by_route yb (To_destination t) = Routed_here (ap (place S z) t ∙ sym yb)

  placed : Link → IsPlaced
  placed (From_sa ya it v e at g) = Routed_here (ap (place S z) (source_routed S.F s it v g.parts g.refuse e g.runs) ∙ sym ya)
  placed (From_sb yb it v e at g) = by_route yb (destination_routed S.F s it v g.parts g.refuse e g.runs)
  placed (From_sc yc it v e at) = Routed_here (ap (place S z) (third_target S.F s it v e) ∙ sym yc)

  -- the link that shows the message, and the place and the record of the instance that takes it
  pub record Met : Type 0 where
    pub link : Link
    pub at : IsPlaced
    pub live : S.B.at z.unit (w.inst y).live ≡ fold S.F None (done_u S z.unit w.done)

  pub met : Met
  met =
      let link = comes_from_switch S laws z w s h p y m rest y0 y1 waits some in
      record {
        link = link;
        at = placed link;
        live = (h.insts y).live ∙ by_link link ∙ ap (λ d. fold S.F None d) (sym h.done);
      }

-- where a packet of the unit may be processed: where its packets go, and at the destination of an open move of it as long as they go to the
-- move's source
module _ {R : Type 0} (S : Sys R) where
  pub data MayRun (w : World S) (u : Unit) (y : ℕ) : Type 0 where
    At_route : w.target u ≡ y → MayRun w u y
    At_destination : (n : ℕ) (e : Open R) → find_op w.ops n ≡ Some e → S.takes e.filter u ≡ true → w.target u ≡ e.op.src → y ≡ e.op.dst → MayRun w u y

module _ {R : Type 0} (S : Sys R) (laws : IsSys S) (u : Unit) (w : World S) where
  pub record Processed (y : ℕ) : Type 0 where
    pub place : MayRun S w u y
    pub live : S.B.at u (w.inst y).live ≡ fold S.F None (done_u S u w.done)

  module _ (p y : ℕ) (m : Msg R) (rest : List (Msg R)) (y0 : (y == 0) ≡ false) (y1 : (y == 1) ≡ false) (waits : w.link p y ≡ m ∷ rest)
      (some : none_mine S u (inst_step S (w.inst y) m).ran ≢ []) where
    -- where its packets go, or at the destination of an open move
    in_move : (op : Op) (third : ℕ) (e : Open R) (s : UnitSeat S.F) → find_op w.ops op.num ≡ Some e
        → (h : Holds S (see S laws u op third) w (seat_shape S.F s)) → IsPlaced S laws (see S laws u op third) w s h p y m rest y0 y1 waits some
        → MayRun S w u y
    in_move op third e s there h (Routed_here at) = At_route (h.target ∙ at)
    in_move op third e s there h (Moved_here goes at) =
        At_destination op.num e there takes (h.target ∙ goes ∙ ap (λ o. o.src) (sym same)) (at ∙ ap (λ o. o.dst) (sym same))
      where
        found : OpLabel S (see S laws u op third) e × ((e.op.num == op.num) ≡ true)
        found = each_found (OpLabel S (see S laws u op third)) op.num w.ops e h.ops there

        takes : S.takes e.filter u ≡ true
        takes = found.0.0 ∙ found.1

        same : e.op ≡ op
        same = (subst (λ f. IsController S (see S laws u op third) f (seat_shape S.F s)) there h.ctrl).0

    at_rest : (owner : ℕ) (d : List Ran) (l : List ℕ) (h : Rest S u w owner d l) (op : Op) (third : ℕ) → op.src ≡ owner
        → (k : Holds S (see S laws u op third) w (seat_shape S.F (seat_at S.F At_a d l true)))
        → From_switch S laws (see S laws u op third) w (seat_at S.F At_a d l true) k p y m rest y0 y1 waits some → MayRun S w u y
    at_rest owner d l h op third same k (From_sa at it v e _ _) = At_route (h.target ∙ sym same ∙ sym at)
    at_rest owner d l h op third same k (From_sb at it v e _ _) = cons_nil (sym e)
    at_rest owner d l h op third same k (From_sc at it v e _) = cons_nil (sym e)

    pub processed_where : (ps : List ℕ) (c : Bool) → Global S w → Where S laws u w ps c → Processed y
    processed_where ps c g (At_rest owner d l b h o f) =
        let op : Op = record { num = w.next; src = owner; dst = suc owner; keep = true } in
        let shown = shown_rest S laws u w w.next owner d l g (omega arith) h in
        let k = met S laws (see S laws u op (suc (suc owner))) w (seat_at S.F At_a d l true) shown p y m rest y0 y1 waits some in
        record { place = at_rest owner d l h op (suc (suc owner)) refl shown k.link; live = k.live }
    processed_where ps c g (In_move op third e s b there h o f c') =
        let k = met S laws (see S laws u op third) w s h p y m rest y0 y1 waits some in
        record { place = in_move op third e s there h k.at; live = k.live }

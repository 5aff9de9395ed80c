-- Where an instance processes packets of a unit, its record of the unit is the fold of all that was done of it before.
use Rattle.proof_machines.proofs.net.Words.{◌≡◌, ◌≢◌, ℕ, true, false, Option, Some, None, List, [], ◌∷◌, refl, sym, ap, ◌∙◌, subst, ◌==◌, At_a, At_b, Part}
use Rattle.proof_machines.proofs.net.Words.{Inst, Did, inst_does, Item, State, firsts, ShownBy, By_sa, By_sb, By_sc, By_ca, By_cb, By_ac, By_bc, By_cc, By_cs}
use Rattle.proof_machines.proofs.net.Words.{shown_by, UnitSeat, seat_shape, filter_map, Msg, Sys, IsSys, InstanceTurn, World, inst_step, seen, Seeing, sides_of}
use Rattle.proof_machines.proofs.net.Words.{frame, SeesNode, node_at, Holds, none_mine, Answer, Side, did_sends, never_true}
use Rattle.proof_machines.proofs.unit.Fresh.{still_ca, still_cb, still_ran}
use Rattle.proof_machines.proofs.net.Insts.{InstanceGoes, does}
use Rattle.proof_machines.proofs.net.InstMoves.{MovesInstance, Any, Streams_out, Puts_in}
use Rattle.proof_machines.proofs.net.InstWorld.{num, label, step_at, here, is_src, is_dst, is_third, shown}

module _ {R : Type 0} (S : Sys R) (laws : IsSys S) (z : Seeing) where
  module _ (w : World S) (s : UnitSeat S.F) (h : Holds S z w (seat_shape S.F s)) (p y : ℕ) (m : Msg R) (rest : List (Msg R)) (y0 : (y == 0) ≡ false)
      (y1 : (y == 1) ≡ false) (waits : w.link p y ≡ m ∷ rest) where
    abbrev x : State R
    x = seat_shape S.F s

    abbrev did : InstanceTurn S
    did = inst_step S (w.inst y) m

    abbrev own : (z.op.num == z.op.num) ≡ true
    own = num S laws z w s h p y m rest y0 y1 waits

    -- what the machine's instance does, with the flags that it takes
    record GoesSo (wh : Side) (k : Inst R) (o : Option (Item R)) : Type 0 where
      parts : List (Part R)
      refuse : Option Answer
      goes : InstanceGoes S laws z own did (does S laws z own wh parts refuse k o)

    goes_so : (wh : Side) (k : Inst R) (n : SeesNode S z (w.inst y) k) (o : Option (Item R)) → MovesInstance S laws z own wh (w.inst y) k n did o
        → GoesSo wh k o
    goes_so wh k n o (Any f) = record { parts = []; refuse = None; goes = f [] None }
    goes_so wh k n o (Streams_out parts fits is f) = record { parts = parts; refuse = None; goes = f None }
    goes_so wh k n o (Puts_in refuse part first is f) = record { parts = []; refuse = refuse; goes = f [] }

    ran : (wh : Side) (k : Inst R) → node_at S z x y ≡ k → GoesSo wh k (seen (frame S z) m)
    ran wh k at = let n = subst (λ q. SeesNode S z (w.inst y) q) at (here S laws z w s h p y m rest y0 y1 waits) in
        goes_so wh k n (seen (frame S z) m) (step_at S laws z w s h p y m rest y0 y1 waits wh k n m (label S laws z w s h p y m rest y0 y1 waits))

    module _ (some : none_mine S z.unit did.ran ≢ []) where
      some_ran : (d : Did R) → InstanceGoes S laws z own did d → d.ran ≢ []
      some_ran d g none = some (g.ran ∙ ap firsts none)

      -- where packets of the unit are processed, the unit sees the message
      pub some_seen : (it : Item R) × (seen (frame S z) m ≡ Some it)
      some_seen = elim (seen (frame S z) m) as (λ o. seen (frame S z) m ≡ o → (it : Item R) × (seen (frame S z) m ≡ Some it)) [
        | None ↦ λ none. (let g = ran At_a (node_at S z x y) refl in
            absurd (some_ran (did_sends (node_at S z x y) [])
            (subst (λ o. InstanceGoes S laws z own did (does S laws z own At_a g.parts g.refuse (node_at S z x y) o)) none g.goes) refl))
        | Some it ↦ λ is. (it, is)
      ] refl

      -- the machine's instance processes something, with the flags that it takes
      pub record RanSo (wh : Side) (k : Inst R) (it : Item R) : Type 0 where
        pub parts : List (Part R)
        pub refuse : Option Answer
        pub runs : (inst_does S.F wh parts refuse k it).ran ≢ []

      its_ran : (it : Item R) → seen (frame S z) m ≡ Some it → (wh : Side) (k : Inst R) → node_at S z x y ≡ k → RanSo wh k it
      its_ran it is wh k at =
          let g = ran wh k at in
          record {
            parts = g.parts;
            refuse = g.refuse;
            runs = some_ran (inst_does S.F wh g.parts g.refuse k it)
                (subst (λ o. InstanceGoes S laws z own did (does S laws z own wh g.parts g.refuse k o)) is g.goes);
          }

      -- the link that the message comes from is one from the switch
      pub data From_switch : Type 0 where
        From_sa : y ≡ z.op.src → (it : Item R) (v : List (Item R)) → x.sa ≡ it ∷ v → node_at S z x y ≡ x.a → RanSo At_a x.a it → From_switch
        From_sb : y ≡ z.op.dst → (it : Item R) (v : List (Item R)) → x.sb ≡ it ∷ v → node_at S z x y ≡ x.b → RanSo At_b x.b it → From_switch
        From_sc : y ≡ z.third → (it : Item R) (v : List (Item R)) → x.sc ≡ it ∷ v → node_at S z x y ≡ x.c → From_switch

      from_switch : (it : Item R) (is : seen (frame S z) m ≡ Some it)
          → ShownBy (sides_of z) x (record { from = p; to = y; items = it ∷ filter_map (seen (frame S z)) rest }) → From_switch
      from_switch it is (By_sa ya p0 e) =
          let at = is_src S laws z w s h p y m rest y0 y1 waits it is ya in From_sa ya it (filter_map (seen (frame S z)) rest) e at (its_ran it is At_a x.a at)
      from_switch it is (By_sb yb p0 e) =
          let at = is_dst S laws z w s h p y m rest y0 y1 waits it is yb in From_sb yb it (filter_map (seen (frame S z)) rest) e at (its_ran it is At_b x.b at)
      from_switch it is (By_sc yc p0 e) =
          From_sc yc it (filter_map (seen (frame S z)) rest) e (is_third S laws z w s h p y m rest y0 y1 waits it is yc)
      from_switch it is (By_ca ya p1 e) =
          let g = its_ran it is At_a x.a (is_src S laws z w s h p y m rest y0 y1 waits it is ya) in
          absurd (g.runs (still_ran S.F At_a g.parts g.refuse x.a it (still_ca S.F s it (filter_map (seen (frame S z)) rest) e)))
      from_switch it is (By_cb yb p1 e) =
          let g = its_ran it is At_b x.b (is_dst S laws z w s h p y m rest y0 y1 waits it is yb) in
          absurd (g.runs (still_ran S.F At_b g.parts g.refuse x.b it (still_cb S.F s it (filter_map (seen (frame S z)) rest) e)))
      from_switch it is (By_ac e _ _) = never_true (sym y1 ∙ ap (λ q. q == 1) e)
      from_switch it is (By_bc e _ _) = never_true (sym y1 ∙ ap (λ q. q == 1) e)
      from_switch it is (By_cc e _ _) = never_true (sym y1 ∙ ap (λ q. q == 1) e)
      from_switch it is (By_cs e _ _) = never_true (sym y0 ∙ ap (λ q. q == 0) e)

      pub comes_from_switch : From_switch
      comes_from_switch =
          let i = some_seen in
          from_switch i.0 i.1
          (shown_by z.op.src z.op.dst z.third h.nodes x p y i.0 (filter_map (seen (frame S z)) rest) (shown S laws z w s h p y m rest y0 y1 waits i.0 i.1))

-- The invariant of a world: numbers below the next one, and for every unit where it is. Each step keeps it, and so do begins and ends.
use Rattle.proof_machines.proofs.unit.SeenInst.{put_answers}
use Rattle.proof_machines.proofs.EachLaws.{each_made}
use Rattle.proof_machines.proofs.net.Words.{◌≡◌, ℕ, suc, ◌<◌, ◌≤◌, Bool, true, false, Option, Some, None, List, [], ◌∷◌, map, length, refl, subst, arith}
use Rattle.proof_machines.proofs.net.Words.{if◌then◌else◌, ◌&&◌, ◌==◌, Rule, Free, Drops, Buffers, MovePiece, MoveMsg, Op, marks, chop, Each, each-append}
use Rattle.proof_machines.proofs.net.Words.{each_map, Filter, inst_next, ctrl_next, sw_next, in_next, begin_next, Msg, Carry_on, Pass_on, Fence_on, Of_move}
use Rattle.proof_machines.proofs.net.Words.{MoveAsked, Sys, IsSys, Ruling, first_rule, set_rule, hold, holding, to_ctrl, NumberedInstance, by_kind, by_rule}
use Rattle.proof_machines.proofs.net.Words.{inst_step, Open, find_op, num_of, row, wrap, found, numbered, ctrl_step, sw_sends, new_op, begin_sends, World}
use Rattle.proof_machines.proofs.net.Words.{EachSent, each_after, each_put, Below, IsBelow, Global, Unit}
use Rattle.proof_machines.proofs.unit.Real
use Rattle.proof_machines.proofs.NumberedLists.{each-change, each-drop}
use Rattle.proof_machines.proofs.net.RuleLists.{each_set}
use Rattle.proof_machines.proofs.net.RowNumbers.{OfRow, SentOf, row_numbers}
use Rattle.proof_machines.proofs.net.Ctrl.{each_write, each_found}
use Rattle.proof_machines.proofs.net.Units.{Where}

module _ {R : Type 0} (S : Sys R) (laws : IsSys S) where
  -- numbers of what an instance sends and of its rules
  module _ (b : ℕ) where
    abbrev RulesBelow : List Ruling → Type 0
    RulesBelow rs = Each (λ r. r.num < b) rs

    abbrev SendsBelow : List (ℕ × Msg R) → Type 0
    SendsBelow xs = EachSent (λ _ m. Below b m) xs

    rules_hold : (n p : ℕ) (rs : List Ruling) → RulesBelow rs → RulesBelow (hold n p rs)
    rules_hold n p rs h = each-change _ (λ r. r.num < b) n (holding p) (λ r _ e. e) rs h

    rules_set : (n : ℕ) (g : Filter) (k : Rule) (rs : List Ruling) → n < b → RulesBelow rs → RulesBelow (set_rule n g k rs)
    rules_set n g k rs e h = each_set (λ r. r.num < b) n g k rs (λ r _ x. x) e h

    first_below : (u : Unit) (rs : List Ruling) (r : Ruling) → RulesBelow rs → first_rule S u rs ≡ Some r → r.num < b
    first_below u [] r h e = cc
    first_below u (x ∷ rs) r h e = elim (S.takes x.filter u) as (λ t. (if t then Some x else first_rule S u rs) ≡ Some r → r.num < b)
        [ true ↦ λ is. let same : x ≡ r = cc in subst (λ y. y.num < b) same h.0 | false ↦ λ is. first_below u rs r h.1 is ] e

    kind_below : (i : NumberedInstance S) (p n : ℕ) (k : Rule) → n < b → RulesBelow i.rules
        → SendsBelow (by_kind S i p n k).sends × RulesBelow (by_kind S i p n k).node.rules
    kind_below i p n Free e h = (tt, h)
    kind_below i p n Drops e h = ((e, tt), h)
    kind_below i p n Buffers e h = (tt, rules_hold n p i.rules h)

    carry_below : (i : NumberedInstance S) (p : ℕ) (o : Option Ruling) → first_rule S (S.packet_unit p) i.rules ≡ o → RulesBelow i.rules
        → SendsBelow (by_rule S i p o).sends × RulesBelow (by_rule S i p o).node.rules
    carry_below i p None e h = (tt, h)
    carry_below i p (Some r) e h = kind_below i p r.num r.rule (first_below (S.packet_unit p) i.rules r h e) h

    pieces_below : (n : ℕ) (ps : List (MovePiece R)) → n < b → SendsBelow (map to_ctrl (map (λ p. MoveMsg.Piece n p) ps))
    pieces_below n [] e = tt
    pieces_below n (p ∷ ps) e = (e, pieces_below n ps e)

    inst_below : (i : NumberedInstance S) (m : Msg R) → Below b m → RulesBelow i.rules
        → SendsBelow (inst_step S i m).sends × RulesBelow (inst_step S i m).node.rules
    inst_below i (Carry_on p) e h = carry_below i p (first_rule S (S.packet_unit p) i.rules) refl h
    inst_below i (Pass_on p) e h = (tt, h)
    inst_below i (Fence_on n) e h = ((e, tt), each-drop _ (λ r. r.num < b) n i.rules h)
    inst_below i (Of_move g (MoveMsg.Enable n k)) e h = ((e, tt), rules_set n g k i.rules e h)
    inst_below i (Of_move g (MoveMsg.Stream n)) e h = (
      pieces_below n (marks (length (S.B.select (S.takes g) i.live)) (S.newest (S.B.select (S.takes g) i.live))
          (chop (length (S.B.select (S.takes g) i.live)) (S.B.select (S.takes g) i.live))) e,
      h,
    )
    inst_below i (Of_move g (MoveMsg.Delete n us)) e h = ((e, tt), h)
    inst_below i (Of_move g (MoveMsg.Put n p first)) e h =
        (each_made _ to_ctrl (λ _ k. k) _ (put_answers S.F S.B (λ m. IsBelow b (num_of m)) n first (S.refuse i.room i.live p) p i.live e (λ _. e)), h)
    inst_below i (Of_move g (MoveMsg.Restore n cs)) e h = ((e, tt), h)
    inst_below i m e h = (tt, h)

    -- the controller
    of_row_below : (o : Op) (m : MoveMsg R) → o.num < b → OfRow o m → IsBelow b (num_of m)
    of_row_below o (MoveMsg.Enable n k) h e = rw e.0 h
    of_row_below o (MoveMsg.Stream n) h e = rw e h
    of_row_below o (MoveMsg.Delete n us) h e = rw e h
    of_row_below o (MoveMsg.Put n p first) h e = rw e h
    of_row_below o (MoveMsg.Restore n cs) h e = rw e h
    of_row_below o (MoveMsg.Install n from to) h e = rw e h
    of_row_below o (MoveMsg.Fence_to n to) h e = rw e h
    of_row_below o (MoveMsg.Forward p to) h e = tt
    of_row_below o m h e = absurd e

    wrap_below : (o : Op) (g : Filter) (xs : List (ℕ × MoveMsg R)) → o.num < b → Each (SentOf o) xs → SendsBelow (wrap g xs)
    wrap_below o g xs h e = each_made _ _ (λ x row. of_row_below o x.1 h row) xs e

    abbrev OpsBelow : List (Open R) → Type 0
    OpsBelow es = Each (λ e. e.op.num < b) es

    found_below : (es : List (Open R)) (n port : ℕ) (m : MoveMsg R) (o : Option (Open R)) → find_op es n ≡ o → OpsBelow es
        → SendsBelow (found es n port m o).sends × OpsBelow (found es n port m o).ops
    found_below es n port m None e h = (tt, h)
    found_below es n port m (Some x) e h =
        let a = each_found (λ y. y.op.num < b) n es x h e in (
          wrap_below x.op x.filter (row x port m).sends a.0 (row_numbers x.op x.phase x.store port m),
          each_write (λ y. y.op.num < b) n (row x port m).phase (row x port m).store es (λ y _ k. k) h,
        )

    numbered_below : (es : List (Open R)) (port : ℕ) (m : MoveMsg R) (o : Option ℕ) → OpsBelow es
        → SendsBelow (numbered es port m o).sends × OpsBelow (numbered es port m o).ops
    numbered_below es port m None h = (tt, h)
    numbered_below es port m (Some n) h = found_below es n port m (find_op es n) refl h

    ctrl_below : (es : List (Open R)) (port : ℕ) (m : Msg R) → OpsBelow es → SendsBelow (ctrl_step es port m).sends × OpsBelow (ctrl_step es port m).ops
    ctrl_below es port (Of_move g m) h = numbered_below es port m (num_of m) h
    ctrl_below es port (Carry_on p) h = (tt, h)
    ctrl_below es port m h = (tt, h)

    -- the switch
    sw_below : (m : Msg R) → Below b m → SendsBelow (sw_sends m)
    sw_below (Of_move g (MoveMsg.Forward p to)) e = (tt, tt)
    sw_below (Of_move g (MoveMsg.Install n from to)) e = (e, tt)
    sw_below (Of_move g (MoveMsg.Fence_to n to)) e = (e, tt)
    sw_below (Of_move g m) e = tt
    sw_below (Carry_on p) e = tt
    sw_below m e = tt

  head_below : (w : World S) (p y : ℕ) (m : Msg R) (rest : List (Msg R)) → Global S w → (p == 0) && (y == 0) ≡ false → w.link p y ≡ m ∷ rest → Below w.next m
  head_below w p y m rest g off waits = (subst (λ ms. Each (Below w.next) ms) waits (g.messages p y off)).0

  -- numbers below the next one, after each step
  pub inst_global : (w : World S) → Global S w → (p y : ℕ) (m : Msg R) (rest : List (Msg R)) → (y == 0) ≡ false → w.link p y ≡ m ∷ rest
      → Global S (inst_next S w p y m)
  inst_global w g p y m rest y0 waits =
      let off : (p == 0) && (y == 0) ≡ false = rw y0 (elim (p == 0) as (λ b. b && false ≡ false) [ true ↦ refl | false ↦ refl ]) in
      let k = inst_below w.next (w.inst y) m (head_below w p y m rest g off waits) (g.rules y) in
      record {
        messages = each_after (λ _ _ x. Below w.next x) w.link p y (inst_step S (w.inst y) m).sends g.messages k.0;
        rules = λ j. elim (j == y) as (λ b. Each (λ r. r.num < w.next) (if b then (inst_step S (w.inst y) m).node else w.inst j).rules)
            [ true ↦ k.1 | false ↦ g.rules j ];
        ops = g.ops;
      }

  pub ctrl_global : (w : World S) → Global S w → (p : ℕ) (m : Msg R) → Global S (ctrl_next S w p m)
  ctrl_global w g p m =
      let k = ctrl_below w.next w.ops p m g.ops in
      record { messages = each_after (λ _ _ x. Below w.next x) w.link p 1 (ctrl_step w.ops p m).sends g.messages k.0; rules = g.rules; ops = k.1 }

  pub switch_global : (w : World S) → Global S w → (p : ℕ) (m : Msg R) (rest : List (Msg R)) → (p == 0) ≡ false → w.link p 0 ≡ m ∷ rest
      → Global S (sw_next S w p m)
  switch_global w g p m rest p0 waits =
      let off : (p == 0) && (0 == 0) ≡ false = rw p0 refl in
      record {
        messages = each_after (λ _ _ x. Below w.next x) w.link p 0 (sw_sends m) g.messages (sw_below w.next m (head_below w p 0 m rest g off waits));
        rules = g.rules;
        ops = g.ops;
      }

  pub input_global : (w : World S) → Global S w → (q : ℕ) → Global S (in_next S w q)
  input_global w g q = record {
    messages = each_put (λ _ _ x. Below w.next x) w.link 0 ((w.target (S.packet_unit q), Carry_on q) ∷ []) g.messages (tt, tt);
    rules = g.rules;
    ops = g.ops;
  }

  -- the next number grows
  below_num_more : (a b : ℕ) → a ≤ b → (o : Option ℕ) → IsBelow a o → IsBelow b o
  below_num_more a b few None e = tt
  below_num_more a b few (Some k) e = omega (arith, e, few)

  below_more : (a b : ℕ) → a ≤ b → (m : Msg R) → Below a m → Below b m
  below_more a b few (Of_move g m) e = below_num_more a b few (num_of m) e
  below_more a b few (Fence_on k) e = omega (arith, e, few)
  below_more a b few m e = tt

  pub global_more : (w : World S) → Global S w → (b : ℕ) → w.next ≤ b → Global S (record w { next = b })
  global_more w g b few = record {
    messages = λ i j e. each_map (λ m k. below_more w.next b few m k) (w.link i j) (g.messages i j e);
    rules = λ k. each_map (λ r e. omega (arith, e, few)) (w.inst k).rules (g.rules k);
    ops = each_map (λ x k. omega (arith, k, few)) w.ops g.ops;
  }

  pub begin_global : (w : World S) → Global S w → (x : MoveAsked) → w.next ≤ x.num → Global S (begin_next S w x)
  begin_global w g x fresh =
      let more = global_more w g (suc x.num) (omega (arith, fresh)) in
      record {
        messages = each_put (λ _ _ m. Below (suc x.num) m) w.link 1 (begin_sends x.num x) more.messages ((omega arith), tt);
        rules = more.rules;
        ops = each-append (λ e. e.op.num < suc x.num) w.ops (new_op x.num x ∷ []) more.ops (omega arith, tt);
      }

  pub record Every (w : World S) (arrived : Unit → List ℕ) (bared : Unit → Bool) : Type 0 where
    pub global : Global S w
    pub unit : (u : Unit) → Where S laws u w (arrived u) (bared u)

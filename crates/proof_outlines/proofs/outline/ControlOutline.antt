-- The controller's step on a message of an operation, as the proof of moves sees it.
use Rattle.proof_outlines.proofs.Words.{◌≡◌, ℕ, Bool, true, false, Option, Some, None, List, [], ◌∷◌, map, refl, sym, ap, ◌∙◌, subst, append-nil, arith, eqb}
use Rattle.proof_outlines.proofs.Words.{◌==◌, cond, unwrap_or, nat_cmp, nat_cmp_total, nat_tests, Decides-eqb, Semantics, FullCell, stored_of, order_test}
use Rattle.proof_outlines.proofs.Words.{stored-with_parcels, Answer, Msg, Phase, MoveState, row, row_in, store_after, answer_of, Operation, Move, Copy, Share}
use Rattle.proof_outlines.proofs.Words.{OpenOperations, Turn, turn_of, turn_of_move, switch_node, ControllerState, Step, after_turn, takes_turn, MovePhase}
use Rattle.proof_outlines.proofs.Words.{Open}
use Rattle.proof_machines.proofs.NumberedLists.{find-drop_own}
use Rattle.proof_outlines.proofs.Words.{ControllerMove, find_op, write_op, found, wrap, find_set, find_write_other, either_way, MoveMsg}
use Rattle.std.specs.FinMap as finite
use Rattle.move_op.specs.Phases as phase
use Rattle.proof_machines.proofs.unit.Real as real
use Rattle.proof_machines.proofs.net.Net as net
use Rattle.proof_outlines.proofs.outline.Outline.{number, outline_sent, outline_sends}
use Rattle.proof_outlines.proofs.outline.InstanceOutline.{filter_map-put}
use Rattle.proof_outlines.proofs.outline.MoveOutline.{outline_plan, outline_phase, refused_by, RowFollows}

module _ {R : Type 0} (f : Semantics R) (place : List ℕ → Option ℕ) where
  -- an open move, as the proof of moves sees it
  pub record SeesMove (e : Open R) (m : MoveState) (events : List FullCell) : Type 0 where
    pub op : e.op ≡ outline_plan m.plan
    pub filter : e.filter ≡ m.plan.filter
    pub phase : e.phase ≡ outline_phase f place m.phase
    pub store : e.store ≡ map number events

  abbrev pub Sees : Option (Open R) → Option Operation → List FullCell → Type 0
  Sees None None events = Unit {0}
  Sees (Some e) (Some (Move m)) events = SeesMove e m events
  Sees None (Some (Copy c)) events = Unit {0}
  Sees None (Some (Move m)) events = ⊥
  Sees None (Some (Share s)) events = ⊥
  Sees (Some e) (Some (Copy c)) events = ⊥
  Sees (Some e) (Some (Share s)) events = ⊥
  Sees (Some e) None events = ⊥

  -- the open operations by their numbers
  abbrev pub Opens : List (Open R) → ControllerState → Type 0
  Opens ops s = (n : ℕ) → Sees (find_op ops n) (finite.get s.operations n) (stored_of s.store n)

  pub record TurnFollows (s : ControllerState) (step : Step) (did : ControllerMove R) : Type 0 where
    pub ops : Opens did.ops step.node
    pub sends : outline_sends f place step.sends ≡ did.sends

  same_or : {X : Type 0} (b : Bool) (x : X) → x ≡ cond b x x
  same_or true x = refl
  same_or false x = refl

  -- what is stored after a row
  pub stored_after : (store : finite.FinMap nat_cmp (List FullCell)) (op k : ℕ) (o : Option (List FullCell))
      → stored_of (store_after store op o) k ≡ cond (eqb k op) (unwrap_or o (stored_of store k)) (stored_of store k)
  stored_after store op k None = same_or (eqb k op) (stored_of store k)
  stored_after store op k (Some ps) = stored-with_parcels store op k ps

  pub got_insert : (ops : OpenOperations) (op k : ℕ) (o : Operation) → finite.get (finite.insert ops op o) k ≡ cond (eqb k op) (Some o) (finite.get ops k)
  got_insert ops op k o = finite.get-insert nat_cmp_total ops op o k ∙ ap (λ b. cond b (Some o) (finite.get ops k)) (order_test k op)

  pub got_remove : (ops : OpenOperations) (op k : ℕ) → finite.get (finite.remove ops op) k ≡ cond (eqb k op) None (finite.get ops k)
  got_remove ops op k = finite.get-remove nat_cmp_total ops op k ∙ ap (λ b. cond b None (finite.get ops k)) (order_test k op)

  -- how an operation is written after a row that leaves it open
  module _ (s : ControllerState) (ops : List (Open R)) (n : ℕ) (e : Open R) (m : MoveState) (h : Opens ops s) (there : find_op ops n ≡ Some e)
      (op : e.op ≡ outline_plan m.plan) (filter : e.filter ≡ m.plan.filter) (same : m.plan.op ≡ n) (o : Option (List FullCell)) where
    abbrev events : List FullCell
    events = stored_of s.store n

    abbrev after_store : finite.FinMap nat_cmp (List FullCell)
    after_store = store_after s.store m.plan.op o

    -- at another number nothing changes
    at_other : (k : ℕ) (new : Option (Open R)) (got : Option Operation) → eqb k n ≡ false → new ≡ find_op ops k → got ≡ finite.get s.operations k
        → Sees new got (stored_of after_store k)
    at_other k new got off is has =
        let kept : stored_of after_store k ≡ stored_of s.store k = stored_after s.store m.plan.op k o
        ∙ ap (λ b. cond (eqb k b) (unwrap_or o (stored_of s.store k)) (stored_of s.store k)) same
        ∙ ap (λ b. cond b (unwrap_or o (stored_of s.store k)) (stored_of s.store k)) off in
        subst (λ x. Sees x got (stored_of after_store k)) (sym is) (subst (λ x. Sees (find_op ops k) x (stored_of after_store k)) (sym has)
        (subst (λ xs. Sees (find_op ops k) (finite.get s.operations k) xs) (sym kept) (h k)))

    own_stored : stored_of after_store n ≡ unwrap_or o events
    own_stored = stored_after s.store m.plan.op n o ∙ ap (λ b. cond (eqb n b) (unwrap_or o events) events) same
        ∙ ap (λ b. cond b (unwrap_or o events) events) (let self : eqb n n ≡ true = grind (arith, nat_tests) in self)

    open_after : (ph : Phase) (rp : MovePhase R) → rp ≡ outline_phase f place ph → ((f : List ℕ) → write_op n rp f ops ≡ net.set_op n rp f ops)
        → Opens (write_op n rp (map number (unwrap_or o events)) ops)
        (record s { operations = finite.insert s.operations n (Move (record m { phase = ph })); store = after_store })
    open_after ph rp is sets k =
        either_way (eqb k n)
        (λ on. let at : k ≡ n = (Decides-eqb k n).0 on in
        subst (λ j. Sees (find_op (write_op n rp (map number (unwrap_or o events)) ops) j)
        (finite.get (finite.insert s.operations n (Move (record m { phase = ph }))) j) (stored_of after_store j)) (sym at) own)
        (λ off. at_other k _ _ off
        (find_write_other n k rp (map number (unwrap_or o events)) ops (let turned_off : (n == k) ≡ false = grind (arith, nat_tests) in turned_off))
        (got_insert s.operations n k (Move (record m { phase = ph }))
        ∙ ap (λ b. cond b (Some (Move (record m { phase = ph }))) (finite.get s.operations k)) off))
      where
        self : eqb n n ≡ true
        self = grind (arith, nat_tests)

        own : Sees (find_op (write_op n rp (map number (unwrap_or o events)) ops) n)
            (finite.get (finite.insert s.operations n (Move (record m { phase = ph }))) n) (stored_of after_store n)
        own =
            let written : find_op (write_op n rp (map number (unwrap_or o events)) ops) n
            ≡ Some (record e { phase = rp; store = map number (unwrap_or o events) }) =
            ap (λ es. find_op es n) (sets (map number (unwrap_or o events))) ∙ find_set n rp (map number (unwrap_or o events)) ops e there in
            let got : finite.get (finite.insert s.operations n (Move (record m { phase = ph }))) n ≡ Some (Move (record m { phase = ph })) = got_insert
            s.operations n n (Move (record m { phase = ph })) ∙ ap (λ b. cond b (Some (Move (record m { phase = ph }))) (finite.get s.operations n)) self in
            let sees : SeesMove (record e { phase = rp; store = map number (unwrap_or o events) }) (record m { phase = ph }) (stored_of after_store n) =
            record { op = op; filter = filter; phase = is; store = sym (ap (map number) own_stored) } in
            subst (λ x. Sees x (finite.get (finite.insert s.operations n (Move (record m { phase = ph }))) n) (stored_of after_store n)) (sym written)
            (subst (λ x. Sees (Some (record e { phase = rp; store = map number (unwrap_or o events) })) x (stored_of after_store n)) (sym got) sees)

    closed_after : (ph : Phase) (why : Option Answer) → Opens (write_op n (phase.Over why) (map number (unwrap_or o events)) ops)
        (record s { operations = finite.remove (finite.insert s.operations n (Move (record m { phase = ph }))) n; store = after_store })
    closed_after ph why k =
        either_way (eqb k n)
        (λ on. let at : k ≡ n = (Decides-eqb k n).0 on in
        subst (λ j. Sees (find_op (write_op n (phase.Over why) (map number (unwrap_or o events)) ops) j)
        (finite.get (finite.remove (finite.insert s.operations n (Move (record m { phase = ph }))) n) j) (stored_of after_store j)) (sym at) own)
        (λ off. at_other k _ _ off (find_write_other n k (phase.Over why) (map number (unwrap_or o events)) ops
        (let turned_off : (n == k) ≡ false = grind (arith, nat_tests) in turned_off))
        (got_remove (finite.insert s.operations n (Move (record m { phase = ph }))) n k
        ∙ ap (λ b. cond b None (finite.get (finite.insert s.operations n (Move (record m { phase = ph }))) k)) off ∙ got_insert s.operations n k
        (Move (record m { phase = ph })) ∙ ap (λ b. cond b (Some (Move (record m { phase = ph }))) (finite.get s.operations k)) off))
      where
        self : eqb n n ≡ true
        self = grind (arith, nat_tests)

        own : Sees (find_op (write_op n (phase.Over why) (map number (unwrap_or o events)) ops) n)
            (finite.get (finite.remove (finite.insert s.operations n (Move (record m { phase = ph }))) n) n) (stored_of after_store n)
        own =
            let got : finite.get (finite.remove (finite.insert s.operations n (Move (record m { phase = ph }))) n) n ≡ None =
            got_remove (finite.insert s.operations n (Move (record m { phase = ph }))) n n
            ∙ ap (λ b. cond b None (finite.get (finite.insert s.operations n (Move (record m { phase = ph }))) n)) self in
            subst (λ x. Sees x (finite.get (finite.remove (finite.insert s.operations n (Move (record m { phase = ph }))) n) n) (stored_of after_store n))
            (sym (find-drop_own _ n ops)) (subst (λ x. Sees None x (stored_of after_store n)) (sym got) tt)

    -- after a row, by the phase that it leaves
    written_after : (ph : Phase) (rp : MovePhase R) (sends : List (ℕ × Msg)) → rp ≡ outline_phase f place ph
        → Opens (write_op n rp (map number (unwrap_or o events)) ops) (after_turn s n
        (record { operation = Some (Move (record m { phase = ph })); store = after_store; sends = sends; answer = answer_of ph }) (answer_of ph)).node
    written_after (phase.Streaming to_remove removed c d) rp sends is =
        rw is (open_after (phase.Streaming to_remove removed c d) (outline_phase f place (phase.Streaming to_remove removed c d)) refl (λ _. refl))
    written_after (phase.Over why) rp sends is = rw is (closed_after (phase.Over why) (refused_by why))
    written_after ph rp sends is = rw is (open_after ph (outline_phase f place ph) refl (λ _. refl))

  -- what is sent after a turn: an answer isn't looked at
  turn_sends : (s : ControllerState) (n : ℕ) (t : Turn) (a : Option Answer) → outline_sends f place (after_turn s n t a).sends ≡ outline_sends f place t.sends
  turn_sends s n t None = refl
  turn_sends s n t (Some why) = filter_map-put (outline_sent f place) t.sends ((switch_node, Msg.Answered n) ∷ []) ∙ append-nil (outline_sends f place t.sends)

  -- A message of an open operation's number.
  pub turn_same : (s : ControllerState) (ops : List (Open R)) (n port : ℕ) (m : Msg) (pm : MoveMsg R) (e : Open R) (mv : MoveState)
      → Opens ops s → find_op ops n ≡ Some e → finite.get s.operations n ≡ Some (Move mv) → SeesMove e mv (stored_of s.store n) → mv.plan.op ≡ n
      → RowFollows f place mv.plan (stored_of s.store n) (row mv (stored_of s.store n) port m)
      (net.row_of (outline_plan mv.plan) (outline_phase f place mv.phase) (map number (stored_of s.store n)) port pm)
      → TurnFollows s (takes_turn s n (turn_of (finite.get s.operations n) s.store port m)) (found ops n port pm (Some e))
  turn_same s ops n port m pm e mv h there has sees same follows =
      let events = stored_of s.store n in
      let real_row = row mv events port m in
      let seen_row : net.row e port pm ≡ net.row_of (outline_plan mv.plan) (outline_phase f place mv.phase) (map number events) port pm =
      ap (λ x. net.row_of x e.phase e.store port pm) sees.op ∙ ap (λ x. net.row_of (outline_plan mv.plan) x e.store port pm) sees.phase
      ∙ ap (λ x. net.row_of (outline_plan mv.plan) (outline_phase f place mv.phase) x port pm) sees.store in
      let in_store : row_in mv s.store port m ≡ real_row = ap (λ k. row mv (stored_of s.store k) port m) same in
      let turn : turn_of (finite.get s.operations n) s.store port m ≡ turn_of_move mv s.store real_row = ap (λ x. turn_of x s.store port m) has
      ∙ ap (λ r. turn_of_move mv s.store r) in_store in
      let phases : (net.row e port pm).phase ≡ outline_phase f place real_row.next.phase = ap (λ x. x.phase) seen_row ∙ sym follows.phase in
      let stores : (net.row e port pm).store ≡ map number (unwrap_or real_row.stored events) = ap (λ x. x.store) seen_row ∙ sym follows.store in
      let sends : wrap e.filter (net.row e port pm).sends ≡ outline_sends f place real_row.next.sends =
      ap (λ g. wrap g (net.row e port pm).sends) sees.filter ∙ ap (λ x. wrap mv.plan.filter x.sends) seen_row ∙ sym follows.sends in
      let ended : takes_turn s n (turn_of (finite.get s.operations n) s.store port m)
      ≡ after_turn s n (turn_of_move mv s.store real_row) (answer_of real_row.next.phase) =
      ap (takes_turn s n) turn in
      record {
        ops = subst (λ step. Opens (write_op n (net.row e port pm).phase (net.row e port pm).store ops) step.node) (sym ended)
            (subst (λ fs. Opens (write_op n (net.row e port pm).phase fs ops)
            (after_turn s n (turn_of_move mv s.store real_row) (answer_of real_row.next.phase)).node) (sym stores) (written_after s ops n e mv h there
            sees.op sees.filter same real_row.stored real_row.next.phase (net.row e port pm).phase real_row.next.sends phases));
        sends = ap (λ step. outline_sends f place step.sends) ended ∙ turn_sends s n (turn_of_move mv s.store real_row) (answer_of real_row.next.phase)
            ∙ sym sends;
      }

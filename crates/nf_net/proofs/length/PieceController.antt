-- What the controller sends and keeps as it takes a message weighs no more than the message and what it kept before: each move asks its source once.
use Rattle.nf_net.proofs.Words.{◌≡◌, ℕ, ◌+◌, ◌≤◌, true, Option, None, Some, List, [], ◌∷◌, ◌++◌, refl, arith, if◌then◌else◌, stored_of, with_parcels}
use Rattle.nf_net.proofs.Words.{store_after, FullCell, Answer, Command, Msg, switch_node, Store, row_in, answer_of, Operation, Move, Copy, Share, turn_of}
use Rattle.nf_net.proofs.Words.{serving_of, ControllerState, controller_step, row_fits, weigh, split}
use Rattle.std.specs.FinMap as finite
use Rattle.copy_share.specs.Copy as copy
use Rattle.copy_share.specs.Share as share
use Rattle.ctrl_node.specs.Controller as ctrl
use Rattle.ctrl_node.specs.Controller.{Step}
use Rattle.nf_net.proofs.length.MapWeights.{insert_weighs}
use Rattle.nf_net.proofs.length.Chances.{chance, spent, spent-append, arrival, uses, of_operation, of_controller}
use Rattle.nf_net.proofs.length.BegunOperations.{IsBegun, Is_move, Is_copy, Is_share, row_opens}
use Rattle.nf_net.proofs.length.OperationWeights.{ops_weigh, closed_weigh}
use Rattle.nf_net.proofs.length.PieceMoves.{move_falls, copy_none, share_none, served_none}

module _ (a k : ℕ) where
  abbrev pub UsesNoMore : ControllerState → Msg → Step → Type 0
  UsesNoMore c m step = uses a k step + of_controller a k step.node ≤ of_controller a k c + chance a k m

  -- An operation that has taken a message: it stays, or is closed
  module _ (c : ControllerState) (op : ℕ) (old : Operation) (there : finite.get c.operations op ≡ Some old) (store : Store) (sends : List (ℕ × Msg)) where
    abbrev after : Operation → Option Answer → Step
    after new answer = ctrl.after_turn c op (record { operation = Some new; store = store; sends = sends; answer = answer }) answer

    turn_costs : (new : Operation) (answer : Option Answer) → uses a k (after new answer) + of_controller a k (after new answer).node + of_operation a k old
        ≤ of_controller a k c + spent a k sends + of_operation a k new
    turn_costs new None = let less = ops_weigh (of_operation a k) c.operations op old new there in omega (arith, less)
    turn_costs new (Some answer) = by_kind new
      where
        both : spent a k (sends ++ (switch_node, Msg.Answered op) ∷ []) ≡ spent a k sends
        both = let all = spent-append a k sends ((switch_node, Msg.Answered op) ∷ []) in omega (arith, all)

        by_kind : (x : Operation) → uses a k (after x (Some answer)) + of_controller a k (after x (Some answer)).node + of_operation a k old
            ≤ of_controller a k c + spent a k sends + of_operation a k x
        by_kind (Share s) = let less = ops_weigh (of_operation a k) c.operations op old (Share s) there in omega (arith, less, both)
        by_kind (Move m) = let less = closed_weigh (of_operation a k) c.operations op old (Move m) there in omega (arith, less, both)
        by_kind (Copy y) = let less = closed_weigh (of_operation a k) c.operations op old (Copy y) there in omega (arith, less, both)

  -- A message to an open operation
  turn_falls : (c : ControllerState) (op port : ℕ) (m : Msg) (x : Option Operation) → finite.get c.operations op ≡ x
      → UsesNoMore c m (ctrl.takes_turn c op (turn_of x c.store port m))
  turn_falls c op port m None there = omega arith
  turn_falls c op port m (Some (Move mv)) there =
      let r = row_in mv c.store port m in
      let now = turn_costs c op (Move mv) there (store_after c.store mv.plan.op r.stored) r.next.sends (Move (record mv { phase = r.next.phase }))
      (answer_of r.next.phase) in
      omega (arith, move_falls a k mv.plan (stored_of c.store mv.plan.op) mv.phase port m, now)
  turn_falls c op port m (Some (Copy y)) there =
      let r = copy.row y port m in
      let now = turn_costs c op (Copy y) there c.store r.sends (Copy (record y { phase = r.phase })) (copy.answer_of r.phase) in
      omega (arith, copy_none a k y.plan y.phase port m, now)
  turn_falls c op port m (Some (Share s)) there =
      let r = share.row s port m in
      let now = turn_costs c op (Share s) there c.store r.sends (Share (record s { phase = r.phase })) r.answer in
      omega (arith, share_none a k s.plan s.phase port m, now)

  -- What a share serves
  serving_costs : (c : ControllerState) (op : ℕ) (x : Option Operation) → finite.get c.operations op ≡ x
      → spent a k (serving_of x c.store).sends + of_controller a k (ctrl.with_turn c op (serving_of x c.store)) ≤ of_controller a k c
  serving_costs c op None there = omega arith
  serving_costs c op (Some (Move mv)) there = omega arith
  serving_costs c op (Some (Copy y)) there = omega arith
  serving_costs c op (Some (Share s)) there =
      let next = share.service_if_idle s.plan s.phase (stored_of c.store s.plan.op) in
      let ops = ops_weigh (of_operation a k) c.operations op (Share s) (Share (record s { phase = next.phase })) there in
      omega (arith, served_none a k s.plan s.phase (stored_of c.store s.plan.op), ops)

  serves_costs : (c : ControllerState) (op : ℕ) → spent a k (ctrl.serve_step c op).sends + of_controller a k (ctrl.serve_step c op).node ≤ of_controller a k c
  serves_costs c op = serving_costs c op (finite.get c.operations op) refl

  -- The finish behind a step
  finish_costs : (step : Step)
      → uses a k (ctrl.step_and_finish step) + of_controller a k (ctrl.step_and_finish step).node ≡ uses a k step + of_controller a k step.node
  finish_costs step =
      let s = step.node in
      split (ctrl.may_finish s)
      (λ b. spent a k (step.sends ++ (if b then (switch_node, Msg.Finish) ∷ [] else [])) + weigh (arrival a k) step.notes + of_controller a k
      (if b then record s { finish_sent = true } else s) ≡ uses a k step + of_controller a k s)
      (λ _. let both = spent-append a k step.sends ((switch_node, Msg.Finish) ∷ []) in omega (arith, both))
      (λ _. let both = spent-append a k step.sends [] in omega (arith, both))

  module _ (c : ControllerState) where
    handed_falls : (op port : ℕ) (m : Msg) → UsesNoMore c m (ctrl.hand_step c op port m)
    handed_falls op port m =
        let first = ctrl.takes_turn c op (turn_of (finite.get c.operations op) c.store port m) in
        let both = spent-append a k first.sends (ctrl.serve_step first.node op).sends in
        omega (arith, turn_falls c op port m (finite.get c.operations op) refl, serves_costs first.node op, both)

    -- A packet
    queued_falls : (op : ℕ) (cell : FullCell) → UsesNoMore c (Msg.Diverted cell) (ctrl.queue_step c cell (Some op))
    queued_falls op cell =
        let later = serves_costs (record c { store = with_parcels c.store op (stored_of c.store op ++ cell ∷ []) }) op in
        omega (arith, later)

    -- A command
    opens_falls : (x : Command) (op : ℕ) (new : Operation) (sends : List (ℕ × Msg)) → spent a k sends + of_operation a k new ≤ k
        → UsesNoMore c (Msg.Asked x) (ctrl.opening_step c op new sends)
    opens_falls x op new sends low = let more = insert_weighs (of_operation a k) c.operations op new in omega (arith, more, low)

    begun_uses : (x : Operation) (sends : List (ℕ × Msg)) → IsBegun x sends → spent a k sends + of_operation a k x ≤ k
    begun_uses x sends (Is_move plan is does) = rw (is, does) (omega arith)
    begun_uses x sends (Is_copy op from to None is does) = rw (is, does) (omega arith)
    begun_uses x sends (Is_copy op from to (Some filter) is does) = rw (is, does) (omega arith)
    begun_uses x sends (Is_share plan is does) = rw (is, does) (omega arith)

    row_uses : (port : ℕ) (m : Msg) → UsesNoMore c m (ctrl.row c port m)
    row_uses = row_fits c (UsesNoMore c) (record {
      still = λ m. omega arith;
      ended = omega arith;
      stopped = λ i. omega arith;
      returned = λ op i cell. omega arith;
      handed = handed_falls;
      queued = queued_falls;
      answers = λ x op answer. omega arith;
      begins = row_opens c (UsesNoMore c) (λ x op new sends is. opens_falls x op new sends (begun_uses new sends is));
    })

    -- each step of the controller
    pub controller_uses : (port : ℕ) (m : Msg) → UsesNoMore c m (controller_step c port m)
    controller_uses port m = omega (arith, row_uses port m, finish_costs (ctrl.row c port m))

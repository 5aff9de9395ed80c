-- What the controller sends and keeps as it takes a message weighs less than the message and what it kept before.
use Rattle.nf_net.proofs.Words.{◌≡◌, ℕ, ◌+◌, ◌*◌, ◌≤◌, Bool, true, false, Option, None, Some, List, [], ◌∷◌, ◌++◌, length, refl, arith, if◌then◌else◌, ◌&&◌}
use Rattle.nf_net.proofs.Words.{not, is_some, unwrap_or, stored_of, with_parcels, store_after, FullCell, Answer, Command, Msg, switch_node, Phase, MoveState}
use Rattle.nf_net.proofs.Words.{Store, row_in, answer_of, CopyPhase, SharePhase, CopyState, ShareState, home, others, Operation, Move, Copy, Share, turn_of}
use Rattle.nf_net.proofs.Words.{serving_of, are_quiet, ControllerState, controller_step, row_fits, weigh-append, split}
use Rattle.std.specs.FinMap as finite
use Rattle.move_op.specs.Phases as phase
use Rattle.copy_share.specs.Copy as copy
use Rattle.copy_share.specs.Share as share
use Rattle.ctrl_node.specs.Operations.{Turn}
use Rattle.ctrl_node.specs.Controller as ctrl
use Rattle.ctrl_node.specs.Controller.{Step}
use Rattle.nf_net.proofs.length.MapWeights.{in_all, if_found, insert_weighs, remove_weighs}
use Rattle.nf_net.proofs.length.Weights.{one_if, of_move, of_copy, of_share, of_operation, kept, weight, some, cost, cost-append, of_controller, unfinished}
use Rattle.nf_net.proofs.length.Weights.{finish}
use Rattle.nf_net.proofs.length.BegunOperations.{IsBegun, Is_move, Is_copy, Is_share, row_opens}
use Rattle.nf_net.proofs.length.OperationWeights.{ops_weigh, closed_weigh}
use Rattle.nf_net.proofs.length.MoveCosts.{move_falls}
use Rattle.nf_net.proofs.length.ShareCosts.{copy_falls, share_falls, served_costs}

module _ (o : ℕ) where
  -- a share has few members besides the home, and besides the one that has the packet
  pub record HasFew (s : ShareState) : Type 0 where
    pub at_home : length (others s.plan (home s.plan)) ≤ o
    pub at_member : (member : ℕ) → s.phase ≡ SharePhase.Out member → length (others s.plan member) ≤ o

  -- what a step sends and leaves, and the message and what there was
  abbrev pub step_costs : Step → ℕ
  step_costs step = cost o step.sends + of_controller o step.node

  abbrev pub Falls : ControllerState → Msg → Step → Type 0
  Falls c m step = step_costs step + 1 ≤ of_controller o c + weight o m

  -- The store
  found_kept : (x : Option (List FullCell)) → if_found (kept o) x ≡ kept o (unwrap_or x [])
  found_kept None = refl
  found_kept (Some cells) = refl

  parcels_weigh : (store : Store) (op : ℕ) (cells : List FullCell)
      → in_all (kept o) (with_parcels store op cells) + kept o (stored_of store op) ≤ in_all (kept o) store + kept o cells
  parcels_weigh store op [] = omega (arith, remove_weighs (kept o) store op, found_kept (finite.get store op))
  parcels_weigh store op (cell ∷ cells) = omega (arith, insert_weighs (kept o) store op (cell ∷ cells), found_kept (finite.get store op))

  store_weighs : (store : Store) (op : ℕ) (cells : Option (List FullCell))
      → in_all (kept o) (store_after store op cells) + kept o (stored_of store op) ≤ in_all (kept o) store + kept o (unwrap_or cells (stored_of store op))
  store_weighs store op None = omega arith
  store_weighs store op (Some cells) = parcels_weigh store op cells

  -- An operation that has taken a message: what is left of it where it is answered or not
  abbrev closing : Operation → Option Answer → ℕ
  closing x None = of_operation o x
  closing (Share s) (Some answer) = 1 + of_share o s.phase
  closing x (Some answer) = 1

  module _ (c : ControllerState) (op : ℕ) (old new : Operation) (there : finite.get c.operations op ≡ Some old) (store : Store) (sends : List (ℕ × Msg)) where
    abbrev turn : Option Answer → Turn
    turn answer = record { operation = Some new; store = store; sends = sends; answer = answer }

    -- its turn
    after_costs : (answer : Option Answer) → step_costs (ctrl.after_turn c op (turn answer) answer) + of_operation o old + in_all (kept o) c.store
        ≤ of_controller o c + cost o sends + closing new answer + in_all (kept o) store
    after_costs None = let less = ops_weigh (of_operation o) c.operations op old new there in omega (arith, less)
    after_costs (Some answer) = by_kind new refl
      where
        both : cost o (sends ++ (switch_node, Msg.Answered op) ∷ []) ≡ cost o sends + 1
        both = let all = cost-append o sends ((switch_node, Msg.Answered op) ∷ []) in omega (arith, all)

        by_kind : (x : Operation) → new ≡ x
            → step_costs (ctrl.after_turn c op (record { operation = Some x; store = store; sends = sends; answer = Some answer }) (Some answer))
            + of_operation o old + in_all (kept o) c.store ≤ of_controller o c + cost o sends + closing x (Some answer) + in_all (kept o) store
        by_kind (Share s) is = let less = ops_weigh (of_operation o) c.operations op old (Share s) there in omega (arith, less, both)
        by_kind (Move m) is = let less = closed_weigh (of_operation o) c.operations op old (Move m) there in omega (arith, less, both)
        by_kind (Copy y) is = let less = closed_weigh (of_operation o) c.operations op old (Copy y) there in omega (arith, less, both)

  closing_move : (m : MoveState) (ph : Phase) → closing (Move (record m { phase = ph })) (answer_of ph) ≤ of_move ph
  closing_move m (phase.Over why) = omega arith
  closing_move m ph = omega arith

  closing_copy : (y : CopyState) (ph : CopyPhase) → closing (Copy (record y { phase = ph })) (copy.answer_of ph) ≤ of_copy ph
  closing_copy y CopyPhase.Over = omega arith
  closing_copy y ph = omega arith

  closing_share : (s : ShareState) (ph : SharePhase) (answer : Option Answer)
      → closing (Share (record s { phase = ph })) answer ≡ of_share o ph + one_if (is_some answer)
  closing_share s ph None = omega arith
  closing_share s ph (Some answer) = omega arith

  -- A message to an open operation
  turn_falls : (c : ControllerState) (op port : ℕ) (m : Msg) (x : Option Operation) → finite.get c.operations op ≡ x
      → ((s : ShareState) → x ≡ Some (Share s) → HasFew s) → Falls c m (ctrl.takes_turn c op (turn_of x c.store port m))
  turn_falls c op port m None there few = let one = some o m in omega (arith, one)
  turn_falls c op port m (Some (Move mv)) there few =
      let r = row_in mv c.store port m in
      let events = stored_of c.store mv.plan.op in
      let now = after_costs c op (Move mv) (Move (record mv { phase = r.next.phase })) there (store_after c.store mv.plan.op r.stored) r.next.sends
      (answer_of r.next.phase) in
      omega (arith, move_falls o mv.plan events mv.phase port m, now, closing_move mv r.next.phase, store_weighs c.store mv.plan.op r.stored)
  turn_falls c op port m (Some (Copy y)) there few =
      let r = copy.row y port m in
      let now = after_costs c op (Copy y) (Copy (record y { phase = r.phase })) there c.store r.sends (copy.answer_of r.phase) in
      omega (arith, copy_falls o y.plan y.phase port m, now, closing_copy y r.phase)
  turn_falls c op port m (Some (Share s)) there few =
      let r = share.row s port m in
      let own = few s refl in
      let now = after_costs c op (Share s) (Share (record s { phase = r.phase })) there c.store r.sends r.answer in
      omega (arith, share_falls o s.plan own.at_home s.phase own.at_member port m, now, closing_share s r.phase r.answer)

  -- What a share serves was there before
  serving_costs : (c : ControllerState) (op : ℕ) (x : Option Operation) → finite.get c.operations op ≡ x
      → cost o (serving_of x c.store).sends + of_controller o (ctrl.with_turn c op (serving_of x c.store)) ≤ of_controller o c
  serving_costs c op None there = omega arith
  serving_costs c op (Some (Move mv)) there = omega arith
  serving_costs c op (Some (Copy y)) there = omega arith
  serving_costs c op (Some (Share s)) there =
      let next = share.service_if_idle s.plan s.phase (stored_of c.store s.plan.op) in
      let ops = ops_weigh (of_operation o) c.operations op (Share s) (Share (record s { phase = next.phase })) there in
      omega (arith, served_costs o s.plan s.phase (stored_of c.store s.plan.op), ops, store_weighs c.store s.plan.op next.stored)

  serves_costs : (c : ControllerState) (op : ℕ) → step_costs (ctrl.serve_step c op) ≤ of_controller o c
  serves_costs c op = serving_costs c op (finite.get c.operations op) refl

  -- The finish weighs what it weighed before it was told
  untold : (a b c : Bool) → a && not b && c ≡ true → unfinished o b ≡ finish o
  untold true true c e = cc
  untold true false c e = refl
  untold false b c e = cc

  finish_costs : (step : Step) → step_costs (ctrl.step_and_finish step) ≤ step_costs step
  finish_costs step =
      let s = step.node in
      split (ctrl.may_finish s)
      (λ b. cost o (step.sends ++ (if b then (switch_node, Msg.Finish) ∷ [] else [])) + of_controller o
      (if b then record s { finish_sent = true } else s) ≤ step_costs step)
      (λ is.
      let both = cost-append o step.sends ((switch_node, Msg.Finish) ∷ []) in
      let before = untold s.end_came s.finish_sent (are_quiet s.operations s.store) is in
      omega (arith, both, before)) (λ is. let both = cost-append o step.sends [] in omega (arith, both))

  module _ (c : ControllerState) (few : (op : ℕ) (s : ShareState) → finite.get c.operations op ≡ Some (Share s) → HasFew s) where
    still_falls : (m : Msg) → Falls c m (ctrl.still c)
    still_falls m = let one = some o m in omega (arith, one)

    handed_falls : (op port : ℕ) (m : Msg) → Falls c m (ctrl.hand_step c op port m)
    handed_falls op port m =
        let first = ctrl.takes_turn c op (turn_of (finite.get c.operations op) c.store port m) in
        let both = cost-append o first.sends (ctrl.serve_step first.node op).sends in
        omega (arith, turn_falls c op port m (finite.get c.operations op) refl (few op), serves_costs first.node op, both)

    -- A packet that came for a share
    queued_falls : (op : ℕ) (cell : FullCell) → Falls c (Msg.Diverted cell) (ctrl.queue_step c cell (Some op))
    queued_falls op cell =
        let both = weigh-append (λ x. 4 + 2 * o) (stored_of c.store op) (cell ∷ []) in
        let later = serves_costs (record c { store = with_parcels c.store op (stored_of c.store op ++ cell ∷ []) }) op in
        omega (arith, parcels_weigh c.store op (stored_of c.store op ++ cell ∷ []), both, later)

    -- A command
    opens_falls : (k : Command) (op : ℕ) (x : Operation) (sends : List (ℕ × Msg)) → cost o sends + of_operation o x ≤ 14 + 2 * o
        → Falls c (Msg.Asked k) (ctrl.opening_step c op x sends)
    opens_falls k op x sends low = let more = insert_weighs (of_operation o) c.operations op x in omega (arith, more, low)

    begun_weighs : (x : Operation) (sends : List (ℕ × Msg)) → IsBegun x sends → cost o sends + of_operation o x ≤ 14 + 2 * o
    begun_weighs x sends (Is_move plan is does) = rw (is, does) (omega arith)
    begun_weighs x sends (Is_copy op from to None is does) = rw (is, does) (omega arith)
    begun_weighs x sends (Is_copy op from to (Some filter) is does) = rw (is, does) (omega arith)
    begun_weighs x sends (Is_share plan is does) = rw (is, does) (omega arith)

    row_falls : (port : ℕ) (m : Msg) → Falls c m (ctrl.row c port m)
    row_falls = row_fits c (Falls c) (record {
      still = still_falls;
      ended = omega arith;
      stopped = λ i. omega arith;
      returned = λ op i cell. omega arith;
      handed = handed_falls;
      queued = queued_falls;
      answers = λ k op answer. omega arith;
      begins = row_opens c (Falls c) (λ k op x sends is. opens_falls k op x sends (begun_weighs x sends is));
    })

    -- each step of the controller
    pub controller_falls : (port : ℕ) (m : Msg) → Falls c m (controller_step c port m)
    controller_falls port m = omega (arith, row_falls port m, finish_costs (ctrl.row c port m))

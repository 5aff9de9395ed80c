-- What a message of an open share, or a packet at the end of its queue, leaves at the controller: the share in its next phase with what still waits,
-- and all else as it was.
use Rattle.proof_outlines.proofs.Words.{◌≡◌, ℕ, false, cond, Option, Some, None, List, [], ◌∷◌, ◌++◌, refl, sym, ap, ◌∙◌, subst, ◌==◌, unwrap_or, Decides-eqb}
use Rattle.proof_outlines.proofs.Words.{self, cond-cond, FullCell, stored_of, with_parcels, stored-with_parcels, Answer, Msg, Note, switch_node, SharePhase}
use Rattle.proof_outlines.proofs.Words.{SharePlan, ShareState, ShareRow, service_if_idle, Operation, Share, turn_of, turn_of_share, serving_of, ControllerState}
use Rattle.proof_outlines.proofs.Words.{Step, with_turn, after_turn, takes_turn, serve_step, and_serves, hand_step, queue_step, Each, split}
use Rattle.std.specs.FinMap as finite
use Rattle.event_store.specs.Store.{store_after}
use Rattle.copy_share.specs.Share.{next_phase, row}
use Rattle.proof_outlines.proofs.outline.OperationTables.{got_insert}

-- an open share of a controller, with what waits for it
pub record OpenAt : Type 0 where
  pub node : ControllerState
  pub num : ℕ
  pub share : ShareState
  pub cells : List FullCell

-- with its answer
abbrev pub answered : ℕ → Option Answer → List (ℕ × Msg) → List (ℕ × Msg)
answered n None sends = sends
answered n (Some why) sends = sends ++ (switch_node, Msg.Answered n) ∷ []

abbrev pub noted : ℕ → Option Answer → List Note
noted n None = []
noted n (Some why) = Note.Answered n why ∷ []

-- the share in its next phase
abbrev pub next_share : OpenAt → ShareRow → Operation
next_share x r = Share (record x.share { phase = (service_if_idle x.share.plan r.phase x.cells).phase })

-- what still waits
abbrev pub still_waits : OpenAt → ShareRow → List FullCell
still_waits x r = unwrap_or (service_if_idle x.share.plan r.phase x.cells).stored x.cells

-- a row of the share, behind which it serves what it may
pub record ShareLeaves (x : OpenAt) (r : ShareRow) (step : Step) : Type 0 where
  pub names : step.node.names ≡ x.node.names
  pub site : step.node.site ≡ x.node.site
  pub operations : (k : ℕ) → finite.get step.node.operations k ≡ cond (k == x.num) (Some (next_share x r)) (finite.get x.node.operations k)
  pub store : (k : ℕ) → stored_of step.node.store k ≡ cond (k == x.num) (still_waits x r) (stored_of x.node.store k)
  pub sends : step.sends ≡ answered x.num r.answer r.sends ++ (service_if_idle x.share.plan r.phase x.cells).sends
  pub notes : step.notes ≡ noted x.num r.answer

-- what still waits is of what waited
pub waits_each : (P : FullCell → Type 0) (plan : SharePlan) (ph : SharePhase) (cells : List FullCell) → Each P cells
    → Each P (unwrap_or (service_if_idle plan ph cells).stored cells)
waits_each P plan SharePhase.Idle (cell ∷ cells) h = h.1
waits_each P plan SharePhase.Idle [] h = tt
waits_each P plan ph cells h = h

-- a share serves what it may of these cells
abbrev serving_step : ControllerState → ℕ → ShareState → ℕ → List FullCell → Step
serving_step c n s op cells = record {
  node = record c {
    operations = finite.insert c.operations n (Share (record s { phase = (service_if_idle s.plan s.phase cells).phase }));
    store = store_after c.store op (service_if_idle s.plan s.phase cells).stored;
  };
  sends = (service_if_idle s.plan s.phase cells).sends;
  notes = [];
}

serves_is : (c : ControllerState) (n : ℕ) (s : ShareState) (cells : List FullCell) → finite.get c.operations n ≡ Some (Share s) → s.plan.op ≡ n
    → stored_of c.store n ≡ cells → serve_step c n ≡ serving_step c n s n cells
serves_is c n s cells there op has =
    ap (λ p. record { node = with_turn c n (serving_of p c.store); sends = (serving_of p c.store).sends; notes = [] }) there
    ∙ ap (λ j. serving_step c n s j (stored_of c.store j)) op
    ∙ ap (serving_step c n s n) has

-- a store after what waits for one operation has changed, or not
stored_after : (c : ControllerState) (n k : ℕ) (cells : List FullCell) (o : Option (List FullCell)) → stored_of c.store n ≡ cells
    → stored_of (store_after c.store n o) k ≡ cond (k == n) (unwrap_or o cells) (stored_of c.store k)
stored_after c n k cells (Some xs) has = stored-with_parcels c.store n k xs
stored_after c n k cells None has = split (k == n) (λ b. stored_of c.store k ≡ cond b cells (stored_of c.store k))
    (λ on. ap (stored_of c.store) ((Decides-eqb k n).0 on) ∙ has)
    (λ off. refl)

-- a controller that has changed at the share's number alone, to the share in this phase with what now waits for it
record Readies (x : OpenAt) (r : ShareRow) (d : ControllerState) : Type 0 where
  names : d.names ≡ x.node.names
  site : d.site ≡ x.node.site
  operations : (k : ℕ) → finite.get d.operations k ≡ cond (k == x.num) (Some (Share (record x.share { phase = r.phase }))) (finite.get x.node.operations k)
  here : stored_of d.store x.num ≡ x.cells
  store : (k : ℕ) → (k == x.num) ≡ false → stored_of d.store k ≡ stored_of x.node.store k

module _ (x : OpenAt) (r : ShareRow) (op : x.share.plan.op ≡ x.num) where
  abbrev ready_share : Operation
  ready_share = Share (record x.share { phase = r.phase })

  stores_same : (d : ControllerState) → Readies x r d → (k : ℕ)
      → cond (k == x.num) (still_waits x r) (stored_of d.store k) ≡ cond (k == x.num) (still_waits x r) (stored_of x.node.store k)
  stores_same d ready k =
      split (k == x.num) (λ b. cond b (still_waits x r) (stored_of d.store k) ≡ cond b (still_waits x r) (stored_of x.node.store k)) (λ _. refl)
      (λ off. ready.store k off)

  -- the share serves behind what was sent
  serves_leaves : (d : ControllerState) → Readies x r d → ShareLeaves x r
      (record { node = (serve_step d x.num).node; sends = answered x.num r.answer r.sends ++ (serve_step d x.num).sends; notes = noted x.num r.answer })
  serves_leaves d ready =
      let there : finite.get d.operations x.num ≡ Some ready_share = ready.operations x.num
      ∙ ap (λ b. cond b (Some ready_share) (finite.get x.node.operations x.num)) (self x.num) in
      let is : serve_step d x.num ≡ serving_step d x.num (record x.share { phase = r.phase }) x.num x.cells = serves_is d x.num
      (record x.share { phase = r.phase }) x.cells there op ready.here in
      subst (λ step. ShareLeaves x r (record { node = step.node; sends = answered x.num r.answer r.sends ++ step.sends; notes = noted x.num r.answer }))
      (sym is) (record {
        names = ready.names;
        site = ready.site;
        operations = λ k. got_insert d.operations x.num k (next_share x r) ∙ ap (cond (k == x.num) (Some (next_share x r))) (ready.operations k)
            ∙ cond-cond (k == x.num) (Some (next_share x r)) (Some ready_share) (finite.get x.node.operations k);
        store = λ k. stored_after d x.num k x.cells (service_if_idle x.share.plan r.phase x.cells).stored ready.here ∙ stores_same d ready k;
        sends = refl;
        notes = refl;
      })

  -- A message of its number.
  module _ (port : ℕ) (m : Msg) (there : finite.get x.node.operations x.num ≡ Some (Share x.share)) (row_is : row x.share port m ≡ r)
      (has : stored_of x.node.store x.num ≡ x.cells) where
    abbrev mid : ControllerState
    mid = with_turn x.node x.num (turn_of_share x.share x.node.store r)

    mid_ready : Readies x r mid
    mid_ready = record { names = refl; site = refl; operations = λ k. got_insert x.node.operations x.num k ready_share; here = has; store = λ k off. refl }

    by_answer : (a : Option Answer) → r.answer ≡ a → ShareLeaves x r (and_serves (after_turn x.node x.num (turn_of_share x.share x.node.store r) a) x.num)
    by_answer None e = subst (λ o. ShareLeaves x r
        (record { node = (serve_step mid x.num).node; sends = answered x.num o r.sends ++ (serve_step mid x.num).sends; notes = noted x.num o }))
        e (serves_leaves mid mid_ready)
    by_answer (Some why) e = subst (λ o. ShareLeaves x r
        (record { node = (serve_step mid x.num).node; sends = answered x.num o r.sends ++ (serve_step mid x.num).sends; notes = noted x.num o }))
        e (serves_leaves mid mid_ready)

    turn_is : turn_of (finite.get x.node.operations x.num) x.node.store port m ≡ turn_of_share x.share x.node.store r
    turn_is = ap (λ p. turn_of p x.node.store port m) there ∙ ap (turn_of_share x.share x.node.store) row_is

    pub handed_leaves : ShareLeaves x r (hand_step x.node x.num port m)
    handed_leaves = subst (λ t. ShareLeaves x r (and_serves (takes_turn x.node x.num t) x.num)) (sym turn_is) (by_answer r.answer refl)

-- A packet behind its queue.
pub queued_leaves : (c : ControllerState) (n : ℕ) (s : ShareState) (cell : FullCell) → finite.get c.operations n ≡ Some (Share s) → s.plan.op ≡ n
    → ShareLeaves (record { node = c; num = n; share = s; cells = stored_of c.store n ++ cell ∷ [] }) (next_phase s.phase []) (queue_step c cell (Some n))
queued_leaves c n s cell there op =
    let cells = stored_of c.store n ++ cell ∷ [] in
    serves_leaves (record { node = c; num = n; share = s; cells = cells }) (next_phase s.phase []) op (record c { store = with_parcels c.store n cells })
    (record {
      names = refl;
      site = refl;
      operations = λ k. split (k == n) (λ b. finite.get c.operations k ≡ cond b (Some (Share s)) (finite.get c.operations k))
          (λ on. ap (finite.get c.operations) ((Decides-eqb k n).0 on) ∙ there)
          (λ off. refl);
      here = stored-with_parcels c.store n n cells ∙ ap (λ b. cond b cells (stored_of c.store n)) (self n);
      store = λ k off. stored-with_parcels c.store n k cells ∙ ap (λ b. cond b cells (stored_of c.store k)) off;
    })

-- What is to be kept for a copy, and the answer to it, are one message at most: they come as the copy's phase says. Here, what a step of the
-- controller does to that number.
use Rattle.proof_outlines.proofs.Words.{◌≡◌, ℕ, ◌+◌, ◌≤◌, true, false, cond, Option, Some, None, List, [], ◌∷◌, ◌++◌, refl, ap, ◌∙◌, arith, if◌then◌else◌, ◌==◌}
use Rattle.proof_outlines.proofs.Words.{filter_map, nat_tests, Chunk, Answer, Order, Msg, instance_node, op_of, CopyPhase, CopyPlan, CopyRow, Operation, Copy}
use Rattle.proof_outlines.proofs.Words.{OpenOperations, Turn, turn_of, serving_of, lasts, with_operation, place_of, ControllerState, Each, by_if}
use Rattle.std.specs.FinMap as finite
use Rattle.actor_net.proofs.WeightLaws.{weigh, weigh-append}
use Rattle.copy_share.specs.Copy as copy
use Rattle.ctrl_node.specs.Controller as ctrl
use Rattle.proof_outlines.proofs.outline.OperationTables.{got_insert, got_remove}
use Rattle.proof_outlines.proofs.joined.CopyAnswers.{is_uncopied}

-- whether a message is to be kept for the copy of a number, or says that it was
abbrev pub keeps_of : ℕ → Msg → ℕ
keeps_of n (Msg.Standby op chunks) = if op == n then 1 else 0
keeps_of n (Msg.PutAll op chunk) = if op == n then 1 else 0
keeps_of n (Msg.Kept op) = if op == n then 1 else 0
keeps_of n m = 0

-- how many of these there are at most, by the phase
abbrev pub in_phase : CopyPhase → ℕ
in_phase CopyPhase.Keeping = 1
in_phase phase = 0

abbrev pub keeping : Option Operation → ℕ
keeping (Some (Copy y)) = in_phase y.phase
keeping o = 0

-- how many are sent
abbrev pub keeps_sent : ℕ → List (ℕ × Msg) → ℕ
keeps_sent n sends = weigh (λ x. keeps_of n x.1) sends

pub keeps_sent-append : (n : ℕ) (xs ys : List (ℕ × Msg)) → keeps_sent n (xs ++ ys) ≡ keeps_sent n xs + keeps_sent n ys
keeps_sent-append n xs ys = weigh-append (λ (x : ℕ × Msg). keeps_of n x.1) xs ys

abbrev pub IsLight : ℕ → Msg → Type 0
IsLight n m = keeps_of n m ≡ 0

pub light_others : (n : ℕ) (m : Msg) → is_uncopied m ≡ true → IsLight n m
light_others n (Msg.Standby op chunks) e = cc
light_others n (Msg.PutAll op chunk) e = cc
light_others n (Msg.Kept op) e = cc
light_others n m e = refl

pub none_light : (n : ℕ) (sends : List (ℕ × Msg)) → Each (λ x. IsLight n x.1) sends → keeps_sent n sends ≡ 0
none_light n [] h = refl
none_light n (x ∷ xs) h = let one = h.0 in let rest = none_light n xs h.1 in omega (arith, one, rest)

-- what a copy of another number hands on
pub other_light : (n op : ℕ) → (op == n) ≡ false → (chunks : List Chunk) → IsLight n (Msg.Standby op chunks)
other_light n op off chunks = ap (λ b. if b then 1 else 0) off

-- A table at a number, after a change at another.
module _ (n op : ℕ) (off : (n == op) ≡ false) where
  pub with_at : (ops : OpenOperations) (o : Option Operation) → finite.get (with_operation ops op o) n ≡ finite.get ops n
  with_at ops None = refl
  with_at ops (Some o) = got_insert ops op n o ∙ ap (λ b. cond b (Some o) (finite.get ops n)) off

  pub remove_at : (ops : OpenOperations) → finite.get (finite.remove ops op) n ≡ finite.get ops n
  remove_at ops = got_remove ops op n ∙ ap (λ b. cond b None (finite.get ops n)) off

  after_at : (c : ControllerState) (t : Turn) (o : Option Answer) → finite.get (ctrl.after_turn c op t o).node.operations n ≡ finite.get c.operations n
  after_at c t None = with_at c.operations t.operation
  after_at c t (Some why) = by_if (λ (r : ControllerState). finite.get r.operations n ≡ finite.get c.operations n)
      (lasts t.operation) (with_at c.operations t.operation)
      (remove_at (ctrl.with_turn c op t).operations ∙ with_at c.operations t.operation)

  pub serves_at : (c : ControllerState) → finite.get (ctrl.serve_step c op).node.operations n ≡ finite.get c.operations n
  serves_at c = with_at c.operations (serving_of (finite.get c.operations op) c.store).operation

  pub handed_at : (c : ControllerState) (port : ℕ) (m : Msg) → finite.get (ctrl.hand_step c op port m).node.operations n ≡ finite.get c.operations n
  handed_at c port m = let t = turn_of (finite.get c.operations op) c.store port m in serves_at (ctrl.takes_turn c op t).node ∙ after_at c t t.answer

  begins_at : (c : ControllerState) (what : Order) → finite.get (ctrl.begin_step c op what).node.operations n ≡ finite.get c.operations n
  begins_at c (Order.Move source destination filter keep) = between (place_of c.names source) (place_of c.names destination)
    where
      between : (from to : Option ℕ) → finite.get (ctrl.move_between c op filter keep from to).node.operations n ≡ finite.get c.operations n
      between (Some from) (Some to) = with_at c.operations (Some _)
      between (Some from) None = refl
      between None to = refl
  begins_at c (Order.Copy source destination filter) = between (place_of c.names source) (place_of c.names destination)
    where
      between : (from to : Option ℕ) → finite.get (ctrl.copy_between c op filter from to).node.operations n ≡ finite.get c.operations n
      between (Some from) (Some to) = with_at c.operations (Some _)
      between (Some from) None = refl
      between None to = refl
  begins_at c (Order.Share members filter) = among (filter_map (place_of c.names) members)
    where
      among : (places : List ℕ) → finite.get (ctrl.share_begin c op filter places).node.operations n ≡ finite.get c.operations n
      among [] = refl
      among (member ∷ others) = with_at c.operations (Some _)

  pub decided_at : (c : ControllerState) (what : Order) (o : Option Answer)
      → finite.get (ctrl.decision_step c op what o).node.operations n ≡ finite.get c.operations n
  decided_at c what (Some why) = refl
  decided_at c what None = begins_at c what

-- The row of a copy, by its phase.
module _ (n : ℕ) (plan : CopyPlan) (own : plan.op ≡ n) where
  abbrev RowFalls : CopyPhase → Msg → CopyRow → Type 0
  RowFalls ph m r = in_phase ph + keeps_sent n r.sends ≤ in_phase r.phase + keeps_of n m

  one_sent : ◌≡◌ {A = ℕ} (if plan.op == n then 1 else 0) 1
  one_sent = let same : (plan.op == n) ≡ true = grind (arith, nat_tests, own) in ap (λ b. if b then 1 else 0) same

  source_falls : (ph : CopyPhase) (m : Msg) → RowFalls ph m (copy.from_source plan ph m)
  source_falls CopyPhase.Getting (Msg.Chunks op chunks) = let one = one_sent in omega (arith, one)
  source_falls CopyPhase.Getting (Msg.AllChunk op chunk) = let one = one_sent in omega (arith, one)
  source_falls ph m = omega arith

  destination_falls : (ph : CopyPhase) (m : Msg) → op_of m ≡ Some n → RowFalls ph m (copy.from_destination plan ph m)
  destination_falls CopyPhase.Keeping (Msg.Kept op) e =
      let at : op ≡ n = cc in
      let same : (op == n) ≡ true = grind (arith, nat_tests, at) in
      let one : ◌≡◌ {A = ℕ} (if op == n then 1 else 0) 1 = ap (λ b. if b then 1 else 0) same in omega (arith, one)
  destination_falls ph m e = omega arith

  pub row_falls : (ph : CopyPhase) (port : ℕ) (m : Msg) → op_of m ≡ Some n → RowFalls ph m (copy.row (record { plan = plan; phase = ph }) port m)
  row_falls ph port m e = by_if (RowFalls ph m) (port == instance_node plan.from) (source_falls ph m)
      (by_if (RowFalls ph m) (port == instance_node plan.to) (destination_falls ph m e) (omega arith))

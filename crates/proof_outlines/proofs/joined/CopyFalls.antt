-- The controller's step takes and sends what is to be kept for a copy as the copy's phase goes on: of each number there is one such message at most.
use Rattle.proof_outlines.proofs.Words.{◌≡◌, ℕ, ◌+◌, ◌≤◌, Bool, true, false, cond, Option, Some, None, [], ◌∷◌, ◌++◌, refl, sym, ap, ◌∙◌, subst, arith}
use Rattle.proof_outlines.proofs.Words.{if◌then◌else◌, ◌==◌, nat_tests, Decides-eqb, flow_of, FullCell, stored_of, with_parcels, Command, Msg, switch_node}
use Rattle.proof_outlines.proofs.Words.{op_of, CopyPhase, CopyState, CopyRow, Operation, Move, Copy, Share, turn_of, share_of, turn_of_copy, ControllerState}
use Rattle.proof_outlines.proofs.Words.{Step, split}
use Rattle.std.specs.FinMap as finite
use Rattle.copy_share.specs.Copy as copy
use Rattle.ctrl_node.specs.Controller as ctrl
use Rattle.proof_outlines.proofs.joined.Words.{row_by, got_insert, got_remove, handed_is, NotShared}
use Rattle.proof_outlines.proofs.joined.CopyCounts.{keeps_of, in_phase, keeping, keeps_sent, keeps_sent-append, IsLight, light_others, none_light, other_light}
use Rattle.proof_outlines.proofs.joined.CopyCounts.{serves_at, handed_at, decided_at, row_falls}
use Rattle.proof_outlines.proofs.joined.CopySends.{EachIs, TurnSo, BeginSo, handed_sent, asked_sent, queued_sent}

-- the copies that are open have the numbers that they stand under
abbrev pub AreNumbered : ControllerState → Type 0
AreNumbered c = (op : ℕ) (y : CopyState) → finite.get c.operations op ≡ Some (Copy y) → (y.plan.op ≡ op) × (copy.answer_of y.phase ≡ None)

module _ (n : ℕ) (c : ControllerState) (port : ℕ) (numbered : AreNumbered c) where
  -- what is sent of such messages, and what is left to be sent
  abbrev pub Falls : Msg → Step → Type 0
  Falls m did = keeping (finite.get c.operations n) + keeps_sent n did.sends ≤ keeping (finite.get did.node.operations n) + keeps_of n m

  -- An operation of another number sends none
  turn_light : (op : ℕ) → (op == n) ≡ false → (m : Msg) (o : Option Operation) → finite.get c.operations op ≡ o → TurnSo (IsLight n) (light_others n) o m
  turn_light op off m None e = tt
  turn_light op off m (Some (Move mv)) e = tt
  turn_light op off m (Some (Share y)) e = refl
  turn_light op off m (Some (Copy y)) e =
      let own : (y.plan.op == n) ≡ false = ap (λ k. k == n) (numbered op y e).0 ∙ off in
      ((λ k chunks is. other_light n y.plan.op own chunks), (λ k chunk is. ap (λ b. if b then 1 else 0) own))

  begin_light : (m : Msg) → BeginSo (IsLight n) (light_others n) m
  begin_light m k source destination None is e = refl
  begin_light m k source destination (Some filter) is e = refl

  -- where nothing of the number changes
  stays : (m : Msg) (did : Step) → finite.get did.node.operations n ≡ finite.get c.operations n → EachIs (IsLight n) (light_others n) did.sends → Falls m did
  stays m did same light = let none = none_light n did.sends light in let own = ap keeping same in omega (arith, none, own)

  -- The copy's own turn
  module _ (y : CopyState) (there : finite.get c.operations n ≡ Some (Copy y)) (m : Msg) (its : op_of m ≡ Some n) where
    after_row : (r : CopyRow) → in_phase y.phase + keeps_sent n r.sends ≤ in_phase r.phase + keeps_of n m
        → Falls m (ctrl.takes_turn c n (turn_of_copy y c.store r))
    after_row r low = by_phase r.phase refl
      where
        self : (n == n) ≡ true
        self = grind (arith, nat_tests)

        before : keeping (finite.get c.operations n) ≡ in_phase y.phase
        before = ap keeping there

        goes_on : (ph : CopyPhase) → r.phase ≡ ph → copy.answer_of ph ≡ None → Falls m (ctrl.takes_turn c n (turn_of_copy y c.store r))
        goes_on ph is going =
            let written : keeping (finite.get (finite.insert c.operations n (Copy (record y { phase = r.phase }))) n) ≡ in_phase r.phase = ap keeping
            (got_insert c.operations n n (Copy (record y { phase = r.phase }))
            ∙ ap (λ b. cond b (Some (Copy (record y { phase = r.phase }))) (finite.get c.operations n)) self) in
            let left : in_phase y.phase + keeps_sent n r.sends
            ≤ keeping (finite.get (finite.insert c.operations n (Copy (record y { phase = r.phase }))) n) + keeps_of n m =
            omega (arith, written, low) in
            subst (λ o. Falls m (ctrl.after_turn c n (turn_of_copy y c.store r) o)) (sym (ap copy.answer_of is ∙ going)) (omega (arith, left, before))

        by_phase : (ph : CopyPhase) → r.phase ≡ ph → Falls m (ctrl.takes_turn c n (turn_of_copy y c.store r))
        by_phase CopyPhase.Over is =
            let gone : keeping (finite.get (finite.remove (finite.insert c.operations n (Copy (record y { phase = r.phase }))) n) n) ≡ 0 = ap keeping
            (got_remove (finite.insert c.operations n (Copy (record y { phase = r.phase }))) n n
            ∙ ap (λ b. cond b None (finite.get (finite.insert c.operations n (Copy (record y { phase = r.phase }))) n)) self) in
            let none : in_phase r.phase ≡ 0 = ap in_phase is in
            let sent = keeps_sent-append n r.sends ((switch_node, Msg.Answered n) ∷ []) in
            subst (λ o. Falls m (ctrl.after_turn c n (turn_of_copy y c.store r) o)) (sym (ap copy.answer_of is)) (omega (arith, gone, none, sent, low, before))
        by_phase ph is = goes_on ph is refl

    own_turn : Falls m (ctrl.hand_step c n port m)
    own_turn =
        let unshared : NotShared (finite.get c.operations n) = subst NotShared (sym there) tt in
        subst (Falls m) (sym (handed_is c n port m unshared)) (subst (λ o. Falls m (ctrl.takes_turn c n (turn_of o c.store port m))) (sym there)
        (after_row (copy.row y port m) (row_falls n y.plan (numbered n y there).0 y.phase port m its)))

  -- A message of some number
  handed_falls : (op : ℕ) (m : Msg) → op_of m ≡ Some op → Falls m (ctrl.hand_step c op port m)
  handed_falls op m its = by_test (op == n) refl
    where
      by_test : (b : Bool) → (op == n) ≡ b → Falls m (ctrl.hand_step c op port m)
      by_test false off = stays m (ctrl.hand_step c op port m) (handed_at n op (let back : (n == op) ≡ false = grind (arith, nat_tests, off) in back) c port
          m) (handed_sent (IsLight n) (light_others n) c port op m (turn_light op off m (finite.get c.operations op) refl))
      by_test true on = subst (λ k. Falls m (ctrl.hand_step c k port m)) (sym ((Decides-eqb op n).0 on)) (own (its ∙ ap Some ((Decides-eqb op n).0 on)))
        where
          own : op_of m ≡ Some n → Falls m (ctrl.hand_step c n port m)
          own its = by_got (finite.get c.operations n) refl
            where
              none_kept : TurnSo (IsLight n) (light_others n) (finite.get c.operations n) m → keeping (finite.get c.operations n) ≡ 0
                  → Falls m (ctrl.hand_step c n port m)
              none_kept so none =
                  let sent = none_light n (ctrl.hand_step c n port m).sends (handed_sent (IsLight n) (light_others n) c port n m so) in
                  omega (arith, none, sent)

              by_got : (o : Option Operation) → finite.get c.operations n ≡ o → Falls m (ctrl.hand_step c n port m)
              by_got None e = none_kept (subst (λ o. TurnSo (IsLight n) (light_others n) o m) (sym e) tt) (ap keeping e)
              by_got (Some (Move mv)) e = none_kept (subst (λ o. TurnSo (IsLight n) (light_others n) o m) (sym e) tt) (ap keeping e)
              by_got (Some (Share s)) e = none_kept (subst (λ o. TurnSo (IsLight n) (light_others n) o m) (sym e) refl) (ap keeping e)
              by_got (Some (Copy y)) e = own_turn y e m its

  asked_falls : (k : Command) → Falls (Msg.Asked k) (ctrl.on_asked c k)
  asked_falls k = by_test (k.op == n) refl
    where
      light : EachIs (IsLight n) (light_others n) (ctrl.on_asked c k).sends
      light = asked_sent (IsLight n) (light_others n) c port k (begin_light (Msg.Asked k))

      by_test : (b : Bool) → (k.op == n) ≡ b → Falls (Msg.Asked k) (ctrl.on_asked c k)
      by_test false off = stays (Msg.Asked k) (ctrl.on_asked c k)
          (split (finite.contains_key c.operations k.op)
          (λ b. finite.get (if b then ctrl.still c else ctrl.decision_step c k.op k.what (ctrl.refusal c k.what)).node.operations n
          ≡ finite.get c.operations n)
          (λ _. refl) (λ _. decided_at n k.op (let back : (n == k.op) ≡ false = grind (arith, nat_tests, off) in back) c k.what (ctrl.refusal c k.what))) light
      by_test true on = by_got (finite.get c.operations k.op) refl
        where
          by_got : (o : Option Operation) → finite.get c.operations k.op ≡ o → Falls (Msg.Asked k) (ctrl.on_asked c k)
          by_got (Some a) e = stays (Msg.Asked k) (ctrl.on_asked c k) (rw (known a e) refl) light
            where
              known : (x : Operation) → finite.get c.operations k.op ≡ Some x → finite.contains_key c.operations k.op ≡ true
              known x is = rw is refl
          by_got None e =
              let none : keeping (finite.get c.operations n) ≡ 0 = ap keeping (ap (finite.get c.operations) (sym ((Decides-eqb k.op n).0 on)) ∙ e) in
              let sent = none_light n (ctrl.on_asked c k).sends light in omega (arith, none, sent)

  queued_falls : (cell : FullCell) (o : Option ℕ) → Falls (Msg.Diverted cell) (ctrl.queue_step c cell o)
  queued_falls cell None = omega arith
  queued_falls cell (Some op) = by_test (op == n) refl
    where
      d : ControllerState
      d = record c { store = with_parcels c.store op (stored_of c.store op ++ cell ∷ []) }

      light : EachIs (IsLight n) (light_others n) (ctrl.serve_step d op).sends
      light = queued_sent (IsLight n) (light_others n) c port cell (Some op)

      by_test : (b : Bool) → (op == n) ≡ b → Falls (Msg.Diverted cell) (ctrl.serve_step d op)
      by_test false off =
          stays (Msg.Diverted cell) (ctrl.serve_step d op) (serves_at n op (let back : (n == op) ≡ false = grind (arith, nat_tests, off) in back) d) light
      by_test true on = let same : op ≡ n = (Decides-eqb op n).0 on in by_got (finite.get c.operations op) refl
        where
          quiet_at : (o : Option Operation) → finite.get c.operations op ≡ o → (keeping o ≡ 0) → Falls (Msg.Diverted cell) (ctrl.serve_step d op)
          quiet_at o e none =
              let at : keeping (finite.get c.operations n) ≡ 0 = ap (λ k. keeping (finite.get c.operations k)) (sym ((Decides-eqb op n).0 on))
              ∙ ap keeping e ∙ none in
              let sent = none_light n (ctrl.serve_step d op).sends light in omega (arith, at, sent)

          by_got : (o : Option Operation) → finite.get c.operations op ≡ o → Falls (Msg.Diverted cell) (ctrl.serve_step d op)
          by_got None e = quiet_at None e refl
          by_got (Some (Move mv)) e = quiet_at (Some (Move mv)) e refl
          by_got (Some (Share s)) e = quiet_at (Some (Share s)) e refl
          by_got (Some (Copy y)) e = stays (Msg.Diverted cell) (ctrl.serve_step d op) (rw e refl) light

  row_falls_all : (m : Msg) → Falls m (ctrl.row c port m)
  row_falls_all = row_by c port Falls (record {
    still = λ m. omega arith;
    ended = omega arith;
    stopped = λ i. omega arith;
    returned = λ op i cell. omega arith;
    handed = λ op m its. handed_falls op m its;
    diverted = λ cell. queued_falls cell (share_of c.operations (flow_of c.site cell.packet).0);
    asked = λ k. asked_falls k;
  })

  pub controller_falls : (m : Msg) → Falls m (ctrl.controller_step c port m)
  controller_falls m =
      let did = ctrl.row c port m in
      let low = row_falls_all m in
      let sent = keeps_sent-append n did.sends (ctrl.finish_of did.node) in
      split (ctrl.may_finish did.node)
      (λ b. Falls m (record {
        node = if b then record did.node { finish_sent = true } else did.node;
        sends = did.sends ++
            (if b then (switch_node, Msg.Finish) ∷ [] else []);
        notes = did.notes;
      }))
      (λ _. (let more = keeps_sent-append n did.sends ((switch_node, Msg.Finish) ∷ []) in omega (arith, low, more)))
      (λ _. (let more = keeps_sent-append n did.sends [] in omega (arith, low, more)))

-- In every run what is to be kept for a copy is one message at most, and the copy is open as long as it is on its way.
use Rattle.proof_outlines.proofs.Words.{◌≡◌, ℕ, zero, suc, ◌+◌, ◌<◌, ◌≤◌, true, inl, inr, Option, Some, None, List, [], ◌∷◌, get_or, refl, sym, ap, ◌∙◌, subst}
use Rattle.proof_outlines.proofs.Words.{arith, if◌then◌else◌, ◌==◌, nat_tests, Chunk, Semantics, Msg, Note, CopyState, Operation, Move, Copy, Share}
use Rattle.proof_outlines.proofs.Words.{ControllerState, controller_step, instance_step, switch_step, Network, Stepped, reaches, world_next, at, Takes}
use Rattle.proof_outlines.proofs.Words.{taken_outcome, EachSent, total, sent_weight, total_after, Node, Controller, node_step, by_if, InstanceState}
use Rattle.std.specs.FinMap as finite
use Rattle.proof_outlines.proofs.joined.Words.{Given, Label, Joined, node_of}
use Rattle.proof_outlines.proofs.joined.CopyAnswers.{is_uncopied, AreUncopied, IsAnswer, get_sent, standby_sent, put_all_sent, other_sent}
use Rattle.proof_outlines.proofs.joined.CopyCounts.{keeps_of, keeping, keeps_sent, light_others}
use Rattle.proof_outlines.proofs.joined.CopyFalls.{AreNumbered, controller_falls}

-- what arrives is at most what is sent
sent_most : (n count k : ℕ) (sends : List (ℕ × Msg)) → sent_weight (keeps_of n) count k sends ≤ keeps_sent n sends
sent_most n count k [] = omega arith
sent_most n count k (x ∷ xs) =
    let rest = sent_most n count k xs in
    by_if (λ r. r + sent_weight (keeps_of n) count k xs ≤ keeps_of n x.1 + keeps_sent n xs) (reaches count k x.0) (omega (arith, rest)) (omega (arith, rest))

uncopied_sent : (n : ℕ) (sends : List (ℕ × Msg)) → AreUncopied sends → keeps_sent n sends ≡ 0
uncopied_sent n [] h = refl
uncopied_sent n (x ∷ xs) h = let one = light_others n x.1 h.0 in let rest = uncopied_sent n xs h.1 in omega (arith, one, rest)

answer_falls : (n op : ℕ) (sends : List (ℕ × Msg)) → IsAnswer op sends → keeps_sent n sends ≤ (if op == n then 1 else 0)
answer_falls n op sends (inl none) = let sent = ap (keeps_sent n) none in omega (arith, sent)
answer_falls n op sends (inr one) = let sent = ap (keeps_sent n) one in omega (arith, sent)

-- An instance answers as often as it is told to keep.
module _ {F R : Type 0} (f : Semantics R) (n : ℕ) where
  uncopied_falls : (i : InstanceState F R) (m : Msg) → is_uncopied m ≡ true → keeps_sent n (instance_step f i m).sends ≤ keeps_of n m
  uncopied_falls i m e = let sent = uncopied_sent n (instance_step f i m).sends (other_sent f i m e) in omega (arith, sent)

  pub instance_falls : (i : InstanceState F R) (m : Msg) → keeps_sent n (instance_step f i m).sends ≤ keeps_of n m
  instance_falls i (Msg.Get op filter) = let sent = ap (keeps_sent n) (get_sent f i op filter) in omega (arith, sent)
  instance_falls i (Msg.Standby op chunks) = answer_falls n op (instance_step f i (Msg.Standby op chunks)).sends (standby_sent f i op chunks)
  instance_falls i (Msg.PutAll op chunk) = answer_falls n op (instance_step f i (Msg.PutAll op chunk)).sends (put_all_sent f i op chunk)
  instance_falls i (Msg.Chunks op chunks) = omega arith
  instance_falls i (Msg.Kept op) = omega arith
  instance_falls i m = uncopied_falls i m refl

-- The switch sends none.
module _ {R : Type 0} (f : Semantics R) (g : Given) (n : ℕ) where
  pub switch_light : (r : ℕ) (m : Msg) → Label f g 0 r m → keeps_of n m ≡ 0
  switch_light r (Msg.Standby op chunks) label = let never = label.0.0 in cc
  switch_light r (Msg.PutAll op chunk) label = let never = label.0 in cc
  switch_light r (Msg.Kept op) label = let never = label.0 in absurd (omega (arith, never))
  switch_light r m label = refl

  pub switch_sends_none : (sends : List (ℕ × Msg)) → EachSent (Label f g) 0 sends → keeps_sent n sends ≡ 0
  switch_sends_none [] h = refl
  switch_sends_none (x ∷ xs) h = let one = switch_light x.0 x.1 h.0 in let rest = switch_sends_none xs h.1 in omega (arith, one, rest)

-- the messages that stand anywhere are at most what the open copies' phases say
pub record HasTokens {F R : Type 0} (w : Network (Node F R) Msg Note) : Type 0 where
  pub controller : ControllerState
  pub controller_is : (d : Node F R) → get_or w.nodes 1 d ≡ Controller controller
  pub few : (n : ℕ) → total (keeps_of n) w ≤ keeping (finite.get controller.operations n)

pub same_controller : {F R : Type 0} (c d : ControllerState) → ◌≡◌ {A = Node F R} (Controller c) (Controller d) → c ≡ d
same_controller c d e = cc

module _ {F R : Type 0} (f : Semantics R) (g : Given) (count : ℕ) (w : Network (Node F R) Msg Note) (j : Joined f g count w) where
  numbered : AreNumbered j.nodes.controller
  numbered op y there = let is = j.shown_is.controller.copies op y there in (is.op_is ∙ refl, is.going)

  -- the controller of the world is that one
  pub token_controller : 1 < count → (h : HasTokens w) → h.controller ≡ j.nodes.controller
  token_controller some h = same_controller {F = F} {R = R} h.controller j.nodes.controller
      (sym (h.controller_is (Controller h.controller)) ∙ j.nodes_are 1 some (Controller h.controller))

  pub tokens_after : (k p : ℕ) (m : Msg) (rest : List Msg) (takes : Takes (node_step f) count w k p (node_of j.nodes k) m rest)
      → EachSent (Label f g) k (node_step f (node_of j.nodes k) p m).sends → HasTokens w → HasTokens (world_next (node_step f) w (at k p))
  tokens_after zero p m rest takes labels h =
      let left = taken_outcome (node_step f) count w 0 p (node_of j.nodes 0) m rest takes in
      record {
        controller = h.controller;
        controller_is = λ d. left.others 1 d (omega arith) ∙ h.controller_is d;
        few = λ n.
            let most = sent_most n count 0 (switch_step j.nodes.switch m).sends in
            let none = switch_sends_none f g n (switch_step j.nodes.switch m).sends labels in
            omega (arith, total_after (node_step f) count w 0 p (node_of j.nodes 0) m rest takes (keeps_of n), most, none, h.few n);
      }
  tokens_after (suc zero) p m rest takes labels h =
      let c = j.nodes.controller in
      let left = taken_outcome (node_step f) count w 1 p (node_of j.nodes 1) m rest takes in
      let same : h.controller ≡ c = token_controller takes.receiver h in
      record {
        controller = (controller_step c p m).node;
        controller_is = left.own;
        few = λ n.
            let most = sent_most n count 1 (controller_step c p m).sends in
            let before : total (keeps_of n) w ≤ keeping (finite.get c.operations n) =
            subst (λ x. total (keeps_of n) w ≤ keeping (finite.get x.operations n)) same (h.few n) in
            omega (arith, total_after (node_step f) count w 1 p (node_of j.nodes 1) m rest takes (keeps_of n), most, controller_falls n c p numbered m, before);
      }
  tokens_after (suc (suc i)) p m rest takes labels h =
      let left = taken_outcome (node_step f) count w (suc (suc i)) p (node_of j.nodes (suc (suc i))) m rest takes in
      record {
        controller = h.controller;
        controller_is = λ d. left.others 1 d (omega arith) ∙ h.controller_is d;
        few = λ n.
            let weight = total_after (node_step f) count w (suc (suc i)) p (node_of j.nodes (suc (suc i))) m rest takes (keeps_of n) in
            let falls = instance_falls f n (j.nodes.instance (suc (suc i))) m in
            omega (arith, weight, sent_most n count (suc (suc i)) (instance_step f (j.nodes.instance (suc (suc i))) m).sends, falls, h.few n);
      }

  -- where such a message is taken its copy is open
  pub record IsOpenCopy (op : ℕ) : Type 0 where
    pub copy : CopyState
    pub there : finite.get j.nodes.controller.operations op ≡ Some (Copy copy)

  open_copy : (op : ℕ) (o : Option Operation) → finite.get j.nodes.controller.operations op ≡ o → 1 ≤ keeping o → IsOpenCopy op
  open_copy op (Some (Copy y)) e some = record { copy = y; there = e }
  open_copy op None e some = absurd (omega (arith, some))
  open_copy op (Some (Move mv)) e some = absurd (omega (arith, some))
  open_copy op (Some (Share s)) e some = absurd (omega (arith, some))

  pub token_open : (k p op : ℕ) (chunks : List Chunk) (rest : List Msg) → 1 < count
      → Takes (node_step f) count w k p (node_of j.nodes k) (Msg.Standby op chunks) rest → HasTokens w → IsOpenCopy op
  token_open k p op chunks rest some takes h =
      let c = j.nodes.controller in
      let same : h.controller ≡ c = token_controller some h in
      let idle : Node F R → ℕ → Msg → Stepped (Node F R) Msg Note = λ node port m. record { node = node; sends = []; notes = [] } in
      let idly : Takes idle count w k p (node_of j.nodes k) (Msg.Standby op chunks) rest = record {
        count = takes.count;
        some = takes.some;
        square = takes.square;
        receiver = takes.receiver;
        sender = takes.sender;
        node_is = takes.node_is;
        waits = takes.waits;
      } in
      let weight = total_after idle count w k p (node_of j.nodes k) (Msg.Standby op chunks) rest idly (keeps_of op) in
      let self : (op == op) ≡ true = grind (arith, nat_tests) in
      let one : ◌≡◌ {A = ℕ} (if op == op then 1 else 0) 1 = ap (λ b. if b then 1 else 0) self in
      let before : total (keeps_of op) w ≤ keeping (finite.get c.operations op) = subst (λ x. total (keeps_of op) w ≤ keeping (finite.get x.operations op))
      same (h.few op) in
      open_copy op (finite.get c.operations op) refl (omega (arith, weight, one, before))

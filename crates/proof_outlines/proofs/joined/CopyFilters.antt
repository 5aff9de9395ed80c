-- What comes of a copy on any link is of the units of its order's filter: the source is asked for them, gives their records alone, and these
-- are handed on.
use Rattle.proof_outlines.proofs.Words.{◌≡◌, ℕ, zero, suc, true, Option, Some, None, List, [], ◌∷◌, inl, inr, refl, sym, ap, ◌∙◌, subst, arith, if◌then◌else◌}
use Rattle.proof_outlines.proofs.Words.{option_to_list, Filter, Chunk, Semantics, Command, Msg, op_of, CopyState, Operation, Move, Copy, Share, ControllerState}
use Rattle.proof_outlines.proofs.Words.{controller_step, selected_chunks, instance_step, EachSent, Each, Chunks, record_at, Any, New, ShareMsg, OpenShare}
use Rattle.proof_outlines.proofs.Words.{node_step, Order, FunctionLaws, InstanceState}
use Rattle.std.specs.FinMap as finite
use Rattle.copy_share.specs.Copy as copy
use Rattle.proof_machines.proofs.unit.Cuts.{record_first}
use Rattle.proof_machines.proofs.unit.UnitPieces.{first}
use Rattle.proof_machines.proofs.net.Net as net
use Rattle.proof_outlines.proofs.joined.Words.{is_whole, entries, is_sys, HasRecords, outline_all, Given, place, S, node_of, Label, Scene, AreShown, IsCommand}
use Rattle.proof_outlines.proofs.joined.Words.{IsController, IsTaken}
use Rattle.proof_outlines.proofs.whole.MemberOutline.{get_follows}
use Rattle.proof_outlines.proofs.joined.CopyAnswers.{is_uncopied, AreUncopied, IsAnswer, get_sent, standby_sent, put_all_sent, other_sent}
use Rattle.proof_outlines.proofs.joined.CopySends.{TurnSo, controller_sent}
use Rattle.proof_outlines.proofs.joined.StandbyFronts.{each_sent}
use Rattle.proof_outlines.proofs.joined.CopiesUnshared.{AreWithin}

module _ {R : Type 0} (f : Semantics R) (g : Given) where
  -- chunks of units of a filter, which is there
  abbrev pub AreWithinIf : Option Filter → List Chunk → Type 0
  AreWithinIf None chunks = ⊥
  AreWithinIf (Some filter) chunks = AreWithin f g filter chunks

  -- a message of a copy is as its order's filter has it
  abbrev pub IsFiltered : Msg → Type 0
  IsFiltered (Msg.Get op filter) = (source destination : List ℕ) (o : Option Filter) → g.orders op ≡ Some (Order.Copy source destination o) → o ≡ Some filter
  IsFiltered (Msg.Chunks op chunks) =
      (source destination : List ℕ) (o : Option Filter) → g.orders op ≡ Some (Order.Copy source destination o) → AreWithinIf o chunks
  IsFiltered (Msg.Standby op chunks) =
      (source destination : List ℕ) (o : Option Filter) → g.orders op ≡ Some (Order.Copy source destination o) → AreWithinIf o chunks
  IsFiltered m = Unit {0}

  others : (m : Msg) → is_uncopied m ≡ true → IsFiltered m
  others (Msg.Get op filter) e = cc
  others (Msg.Chunks op chunks) e = cc
  others (Msg.Standby op chunks) e = cc
  others m e = tt

  all_others : (sends : List (ℕ × Msg)) → AreUncopied sends → Each (λ x. IsFiltered x.1) sends
  all_others [] h = tt
  all_others (x ∷ xs) h = (others x.1 h.0, all_others xs h.1)

  -- the switch and the input have none of them
  no_copies : (r : ℕ) (m : Msg) → Label f g 0 r m → IsFiltered m
  no_copies r (Msg.Get op filter) label = let never = label.0.0 in absurd (omega (arith, never))
  no_copies r (Msg.Chunks op chunks) label = let never = label.0.0 in absurd (omega (arith, never))
  no_copies r (Msg.Standby op chunks) label = let never = label.0.0 in absurd (omega (arith, never))
  no_copies r m label = tt

  pub of_input : (r : ℕ) (ms : List Msg) → Each (Label f g 0 r) ms → Each IsFiltered ms
  of_input r [] h = tt
  of_input r (m ∷ ms) h = (no_copies r m h.0, of_input r ms h.1)

  switch_filtered : (sends : List (ℕ × Msg)) → EachSent (Label f g) 0 sends → Each (λ x. IsFiltered x.1) sends
  switch_filtered [] h = tt
  switch_filtered (x ∷ xs) h = (no_copies x.0 x.1 h.0, switch_filtered xs h.1)

  -- An order is one thing.
  copy_filter : (op : ℕ) (source destination a b : List ℕ) (o p : Option Filter) → g.orders op ≡ Some (Order.Copy source destination o)
      → g.orders op ≡ Some (Order.Copy a b p) → o ≡ p
  copy_filter op source destination a b o p x y = let both : Some (Order.Copy source destination o) ≡ Some (Order.Copy a b p) = sym x ∙ y in cc

  not_share : (op : ℕ) (source destination : List ℕ) (o : Option Filter) (names : List (List ℕ)) (filter : Filter)
      → g.orders op ≡ Some (Order.Copy source destination o) → g.orders op ≡ Some (Order.Share names filter) → ⊥
  not_share op source destination o names filter x y = let both : Some (Order.Copy source destination o) ≡ Some (Order.Share names filter) = sym x ∙ y in cc

  -- What the controller sends.
  module _ (c : ControllerState) (ops : List (net.Open R)) (shares : List OpenShare) (next p : ℕ) (is : IsController f g c ops shares next) where
    handed_on : (op k : ℕ) (y : CopyState) (m : Msg) → finite.get c.operations op ≡ Some (Copy y) → op_of m ≡ Some op → IsFiltered m → (chunks : List Chunk)
        → m ≡ Msg.Chunks k chunks → IsFiltered (Msg.Standby y.plan.op chunks)
    handed_on op k y m there number its chunks e source destination o known =
        let same : y.plan.op ≡ op = (is.copies op y there).op_is in
        let numbered : Some k ≡ Some op = sym (ap op_of e) ∙ number in
        let from : k ≡ op = cc in
        (subst IsFiltered e its) source destination o (ap g.orders (from ∙ sym same) ∙ known)

    turns : (op : ℕ) (m : Msg) → op_of m ≡ Some op → IsFiltered m → (o : Option Operation) → finite.get c.operations op ≡ o → TurnSo IsFiltered others o m
    turns op m number its None there = tt
    turns op m number its (Some (Move mv)) there = tt
    turns op m number its (Some (Copy y)) there = (λ k chunks e. handed_on op k y m there number its chunks e, λ k chunk e. tt)
    turns op m number its (Some (Share s)) there =
        λ source destination o known. absurd (not_share s.plan.op source destination o _ s.plan.filter known (is.shared op s there).plan.order_is)

    begins : (m : Msg) → Label f g p 1 m → (k : Command) (source destination : List ℕ) (filter : Option Filter) → m ≡ Msg.Asked k
        → k.what ≡ Order.Copy source destination filter → IsFiltered (copy.asks k.op filter)
    begins m label k source destination None e is_copy = tt
    begins m label k source destination (Some filter) e is_copy = λ a b o known.
        let asked : IsCommand f g k = (subst (Label f g p 1) e label).2 in
        let order_is : g.orders k.op ≡ Some (Order.Copy source destination (Some filter)) = asked.known ∙ ap Some is_copy in
        copy_filter k.op a b source destination o (Some filter) known order_is

    pub controller_filtered : (m : Msg) → Label f g p 1 m → IsFiltered m → Each (λ x. IsFiltered x.1) (controller_step c p m).sends
    controller_filtered m label its =
        controller_sent IsFiltered others c p m (λ op number. turns op m number its (finite.get c.operations op) refl) (begins m label)

-- What an instance sends.
abbrev chunks_in : {R : Type 0} → List (ℕ × Any R) → Chunks R
chunks_in ((k, New (ShareMsg.Chunks n cs)) ∷ xs) = cs
chunks_in xs = []

module _ {F R : Type 0} (f : Semantics R) (laws : FunctionLaws f) (g : Given) (i : InstanceState F R) (h : HasRecords f i.table.live) where
  selected_is : (op : ℕ) (filter : Filter) → is_whole f.kind filter ≡ true
      → entries f (selected_chunks f i filter) ≡ (S f g).B.select ((S f g).takes filter) i.table.live
  selected_is op filter whole =
      ap chunks_in (sym (ap (outline_all f (place g)) (get_sent f i op filter)) ∙ (get_follows f laws g.site g.packet (place g) i op filter whole h).sends)

  selected_within : (op : ℕ) (filter : Filter) → is_whole f.kind filter ≡ true → AreWithin f g filter (selected_chunks f i filter)
  selected_within op filter whole u out =
      let t = i.table.live in
      let p = (S f g).takes filter in
      ap (record_at u) (selected_is op filter whole) ∙ record_first u ((S f g).B.select p t) ∙ ap first ((is_sys f g.site g.packet).laws.selected u p t)
      ∙ ap (λ b. first (option_to_list (if b then (S f g).B.at u t else None))) out

  answer_filtered : (op : ℕ) (sends : List (ℕ × Msg)) → IsAnswer op sends → Each (λ x. IsFiltered f g x.1) sends
  answer_filtered op sends (inl none) = subst (λ xs. Each (λ x. IsFiltered f g x.1) xs) (sym none) tt
  answer_filtered op sends (inr one) = subst (λ xs. Each (λ x. IsFiltered f g x.1) xs) (sym one) (tt, tt)

  get_filtered : (op : ℕ) (filter : Filter) → is_whole f.kind filter ≡ true → IsFiltered f g (Msg.Get op filter)
      → IsFiltered f g (Msg.Chunks op (selected_chunks f i filter))
  get_filtered op filter whole its source destination o known =
      subst (λ q. AreWithinIf f g q (selected_chunks f i filter)) (sym (its source destination o known)) (selected_within op filter whole)

  pub instance_filtered : (s r : ℕ) (m : Msg) → Label f g s r m → IsFiltered f g m → Each (λ x. IsFiltered f g x.1) (instance_step f i m).sends
  instance_filtered s r (Msg.Get op filter) label its =
      subst (λ xs. Each (λ x. IsFiltered f g x.1) xs) (sym (get_sent f i op filter)) (get_filtered op filter label.1 its, tt)
  instance_filtered s r (Msg.Standby op chunks) label its = answer_filtered op (instance_step f i (Msg.Standby op chunks)).sends (standby_sent f i op chunks)
  instance_filtered s r (Msg.PutAll op chunk) label its = answer_filtered op (instance_step f i (Msg.PutAll op chunk)).sends (put_all_sent f i op chunk)
  instance_filtered s r (Msg.Chunks op chunks) label its = tt
  instance_filtered s r (Msg.Kept op) label its = tt
  instance_filtered s r m label its = all_others f g (instance_step f i m).sends (other_sent f i m refl)

-- What any node sends.
module _ {F R : Type 0} (f : Semantics R) (laws : FunctionLaws f) (g : Given) (n : ℕ) (x : Scene F f g) (p : ℕ) (are : AreShown f g n x) where
  pub node_filtered : (k : ℕ) (m : Msg) → IsTaken f g n x (record { node = k; port = p; message = m })
      → EachSent (Label f g) k (node_step f (node_of x.nodes k) p m).sends → IsFiltered f g m
      → EachSent (λ s r y. IsFiltered f g y) k (node_step f (node_of x.nodes k) p m).sends
  node_filtered zero m is labels its =
      each_sent (IsFiltered f g) 0 (node_step f (node_of x.nodes 0) p m).sends (switch_filtered f g (node_step f (node_of x.nodes 0) p m).sends labels)
  node_filtered (suc zero) m is labels its = each_sent (IsFiltered f g) 1 (node_step f (node_of x.nodes 1) p m).sends
      (controller_filtered f g x.nodes.controller x.world.ops x.world.shares x.world.next p are.controller m is.label its)
  node_filtered (suc (suc j)) m is labels its =
      let at = are.instances (suc (suc j)) (omega arith) is.receiver in
      each_sent (IsFiltered f g) (suc (suc j)) (node_step f (node_of x.nodes (suc (suc j))) p m).sends
      (instance_filtered f laws g (x.nodes.instance (suc (suc j))) at.records p (suc (suc j)) m is.label its)

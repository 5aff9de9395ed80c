-- What the controller tells while a copy is open, turn by turn.
use Rattle.nf_net.proofs.Words.{◌≡◌, ℕ, Bool, true, false, Option, Some, None, List, [], ◌∷◌, ◌++◌, map, refl, sym, ap, ◌∙◌, subst, arith, if◌then◌else◌, ◌==◌}
use Rattle.nf_net.proofs.Words.{◌||◌, or-true, Decides-eqb, nat_tests, Filter, place_of, Chunk, stored_of, FullCell, Answer, Order, Msg, Note, op_of}
use Rattle.nf_net.proofs.Words.{instance_node, MoveState, MoveRow, row_in, CopyState, ShareState, Operation, Move, Copy, Share, turn_of, turn_of_move}
use Rattle.nf_net.proofs.Words.{turn_of_copy, ControllerState, Choice, Network, EachSent, Each, Open, OpenShare, Node, is_begun, answers_of, has_begun-append}
use Rattle.nf_net.proofs.Words.{sent-append, row_by, CopyTurn, Idle, Hands, Hands_all, Ends, hands, copy_turn, NotShared, noted, is_uncopied, all_sent, TurnSo}
use Rattle.nf_net.proofs.Words.{Given, IsCopyPlan, Label, given, Done, UnitCopy, IsOrdered, split, Setting, start}
use Rattle.std.specs.FinMap as finite
use Rattle.copy_share.specs.Copy as copying
use Rattle.ctrl_node.specs.Controller as ctrl
use Rattle.ctrl_node.specs.Controller.{Step, still}
use Rattle.proof_outlines.proofs.outline.CopyTurns.{ends}
use Rattle.proof_outlines.proofs.joined.CopyAnswers.{is_of_copy, AreNoCopies, move_none}
use Rattle.proof_outlines.proofs.joined.CopySends.{handed_sent, queued_sent}
use Rattle.proof_outlines.proofs.joined.Joined.{IsController}
use Rattle.nf_net.proofs.RunWords.{first_is, ShareStep, handed_share, queued_share}
use Rattle.nf_net.proofs.answers.ControllerCases.{OpensBy, Opens_copy, by_command, by_finish, by_operation, by_queue}
use Rattle.nf_net.proofs.CopyFacts.{WasKept, Told, told_still}
use Rattle.nf_net.proofs.CopyController.{row_ends, not_refused, is_shared, answer_shared}

module _ {F R : Type 0} (setting : Setting F R) (start : Network (Node F R) Msg Note) (cs : List Choice) (d : Choice) (log : List Note) where
  open setting use {function as f, config as c, items}

  abbrev g : Given
  g = given setting

  -- what is known after this choice, which notes this
  abbrev Tells : List Note → ℕ → ℕ → Msg → Type 0
  Tells notes = Told f c items start (cs ++ d ∷ []) (log ++ notes)

  of_none : (notes : List Note) (s r : ℕ) (m : Msg) → is_of_copy m ≡ false → Tells notes s r m
  of_none notes s r (Msg.Get op filter) e = cc
  of_none notes s r (Msg.GetAll op) e = cc
  of_none notes s r (Msg.Chunks op chunks) e = cc
  of_none notes s r (Msg.AllChunk op chunk) e = cc
  of_none notes s r (Msg.Standby op chunks) e = cc
  of_none notes s r (Msg.PutAll op chunk) e = cc
  of_none notes s r (Msg.Kept op) e = cc
  of_none notes s r m e = tt

  pub all_none : (notes : List Note) (s : ℕ) (sends : List (ℕ × Msg)) → AreNoCopies sends → EachSent (Tells notes) s sends
  all_none notes s [] h = tt
  all_none notes s (x ∷ xs) h = (of_none notes s x.0 x.1 h.0, all_none notes s xs h.1)

  -- a message doesn't ask for the units of a copy
  abbrev AsksNot : Msg → Type 0
  AsksNot (Msg.Get op filter) = (copy : UnitCopy) → copy.op ≡ op → IsOrdered c items copy → ⊥
  AsksNot m = Unit {0}

  others : (m : Msg) → is_uncopied m ≡ true → AsksNot m
  others (Msg.Get op filter) e = cc
  others m e = tt

  shared_tells : (notes : List Note) (r : ℕ) (m : Msg) → is_shared m ≡ true → AsksNot m → Tells notes 1 r m
  shared_tells notes r (Msg.Get op filter) e h = λ copy same of. absurd (h copy same of)
  shared_tells notes r (Msg.GetAll op) e h = cc
  shared_tells notes r (Msg.Chunks op chunks) e h = cc
  shared_tells notes r (Msg.AllChunk op chunk) e h = cc
  shared_tells notes r (Msg.Standby op chunks) e h = cc
  shared_tells notes r (Msg.PutAll op chunk) e h = cc
  shared_tells notes r (Msg.Kept op) e h = cc
  shared_tells notes r m e h = tt

  shares_tell : (notes : List Note) (sends : List (ℕ × Msg)) → Each (λ x. is_shared x.1 ≡ true) sends → Each (λ x. AsksNot x.1) sends
      → EachSent (Tells notes) 1 sends
  shares_tell notes [] h k = tt
  shares_tell notes (x ∷ xs) h k = (shared_tells notes x.0 x.1 h.0 k.0, shares_tell notes xs h.1 k.1)

  -- Orders are one thing.
  same_copy : (a b x y : List ℕ) (o p : Option Filter) (k : Option Order) → k ≡ Some (Order.Copy a b o) → k ≡ Some (Order.Copy x y p)
      → (a ≡ x) × (b ≡ y) × (o ≡ p)
  same_copy a b x y o p k h q = let both : Some (Order.Copy a b o) ≡ Some (Order.Copy x y p) = sym h ∙ q in (cc, cc, cc)

  not_move : (a b : List ℕ) (o : Option Filter) (x y : List ℕ) (filter : Filter) (keep : Bool) (k : Option Order) → k ≡ Some (Order.Copy a b o)
      → k ≡ Some (Order.Move x y filter keep) → ⊥
  not_move a b o x y filter keep k h q = let both : Some (Order.Copy a b o) ≡ Some (Order.Move x y filter keep) = sym h ∙ q in cc

  not_share : (a b : List ℕ) (o : Option Filter) (names : List (List ℕ)) (filter : Filter) (k : Option Order) → k ≡ Some (Order.Copy a b o)
      → k ≡ Some (Order.Share names filter) → ⊥
  not_share a b o names filter k h q = let both : Some (Order.Copy a b o) ≡ Some (Order.Share names filter) = sym h ∙ q in cc

  module _ (s : ControllerState) (ops : List (Open R)) (shares : List OpenShare) (next p : ℕ) (known : IsController f g s ops shares next) where
    -- what a step sends is known, and where it answers that a copy is done the destination has kept what came
    pub record Did (did : Step) : Type 0 where
      pub says : EachSent (Tells did.notes) 1 did.sends
      pub found : (copy : UnitCopy) → IsOrdered c items copy → answers_of copy.op did.notes ≡ Done ∷ []
          → WasKept f c items start (cs ++ d ∷ []) (log ++ did.notes) copy

    -- no answer is noted
    quiet : (did : Step) → did.notes ≡ [] → EachSent (Tells did.notes) 1 did.sends → Did did
    quiet did none says = record { says = says; found = λ copy of e. (let never = sym (ap (answers_of copy.op) none) ∙ e in cc) }

    still_did : Did (still s)
    still_did = quiet (still s) refl tt

    -- a command whose answer, if this one, isn't of a copy
    abbrev NeverDone : ℕ → Answer → Type 0
    NeverDone op a = (copy : UnitCopy) → copy.op ≡ op → IsOrdered c items copy → a ≡ Done → ⊥

    -- a step that answers such a command, or none
    told_did : (op : ℕ) (a : Option Answer) (did : Step) → did.notes ≡ noted op a → ((why : Answer) → a ≡ Some why → NeverDone op why)
        → EachSent (Tells did.notes) 1 did.sends → Did did
    told_did op None did notes never says = quiet did notes says
    told_did op (Some a) did notes never says = record {
      says = says;
      found = λ copy of e. split (op == copy.op)
          (λ b. map (λ (one : ℕ × Answer). one.1) (if b then (op, a) ∷ [] else []) ≡ Done ∷ [] → WasKept f c items start (cs ++ d ∷ []) (log ++ did.notes) copy)
          (λ on same. absurd (never a refl copy (sym ((Decides-eqb op copy.op).0 on)) of (first_is a Done same))) (λ _ none. cc)
          (sym (ap (answers_of copy.op) notes) ∙ e);
    }

    -- An open share.
    share_not : (op : ℕ) (x : ShareState) → finite.get s.operations op ≡ Some (Share x) → AsksNot (Msg.Get x.plan.op x.plan.filter)
    share_not op x there = λ copy same of. (let it = known.shared op x there in
        not_share of.source of.destination (Some copy.filter) it.plan.names x.plan.filter (g.orders copy.op) of.order_is (ap g.orders same ∙ it.plan.order_is))

    share_did : (op : ℕ) (x : ShareState) (did : Step) → finite.get s.operations op ≡ Some (Share x) → ShareStep s op x did → Each (λ y. AsksNot y.1) did.sends
        → Did did
    share_did op x did there l asks =
        told_did op l.answer did l.notes_are (λ why e copy same of done. (let it = known.shared op x there in
        not_share of.source of.destination (Some copy.filter) it.plan.names x.plan.filter (g.orders copy.op) of.order_is
        (ap g.orders (same ∙ sym it.op_is) ∙ it.plan.order_is)))
        (shares_tell did.notes did.sends
        (subst (λ xs. Each (λ y. is_shared y.1 ≡ true) xs) (sym l.sends_are) (answer_shared op l.answer l.first l.second l.first_own l.second_own)) asks)

    -- An open move.
    move_did : (op : ℕ) (mv : MoveState) → finite.get s.operations op ≡ Some (Move mv) → (r : MoveRow) → AreNoCopies r.next.sends → (a : Option Answer)
        → Did (ctrl.after_turn s op (turn_of_move mv s.store r) a)
    move_did op mv there r none None = quiet _ refl (all_none [] 1 r.next.sends none)
    move_did op mv there r none (Some why) =
        told_did op (Some why) _ refl (λ a e copy same of done. (let it = known.moves op mv there in
        not_move of.source of.destination (Some copy.filter) it.plan.source it.plan.destination mv.plan.filter mv.plan.keep (g.orders copy.op) of.order_is
        (ap g.orders (same ∙ sym it.op_is) ∙ it.plan.order_is)))
        (sent-append (Tells (Note.Answered op why ∷ [])) 1 r.next.sends ((0, Msg.Answered op) ∷ []) (all_none (Note.Answered op why ∷ []) 1 r.next.sends none)
        (tt, tt))

    -- An open copy.
    module _ (op : ℕ) (y : CopyState) (there : finite.get s.operations op ≡ Some (Copy y)) (m : Msg) (its : op_of m ≡ Some op)
        (was : Told f c items start cs log p 1 m) where
      plan : IsCopyPlan g y.plan.op y.plan
      plan = (known.copies op y there).plan

      own : y.plan.op ≡ op
      own = (known.copies op y there).op_is

      -- the copy of the order goes where the plan says
      goes_to : (copy : UnitCopy) → copy.op ≡ y.plan.op → IsOrdered c items copy → instance_node y.plan.to ≡ instance_node copy.destination
      goes_to copy same of =
          let both = same_copy of.source of.destination plan.source plan.destination (Some copy.filter) y.plan.filter (g.orders copy.op) of.order_is
          (ap g.orders same ∙ plan.order_is) in
          let at : Some copy.destination ≡ Some y.plan.to = sym of.destination_is ∙ ap (place_of c.names) both.1 ∙ plan.to_is in
          let place : copy.destination ≡ y.plan.to = cc in
          ap instance_node (sym place)

      number_of : (k : ℕ) → op_of m ≡ Some k → k ≡ op
      number_of k e = let both : Some k ≡ Some op = sym e ∙ its in cc

      hands_did : (k : ℕ) (chunks : List Chunk) → m ≡ Msg.Chunks k chunks → Did (hands s op y (Msg.Standby y.plan.op chunks))
      hands_did k chunks e = quiet _ refl (
        (λ copy same of.
            let from : k ≡ op = number_of k (ap op_of e) in
            let it = subst (λ x. Told f c items start (cs ++ d ∷ []) (log ++ []) p 1 x) e (told_still f c items start cs d log [] p 1 m was) in
            (goes_to copy same of, it copy (same ∙ own ∙ sym from) of)),
        tt,
      )

      hands_all_did : (k : ℕ) (chunk : Chunk) → m ≡ Msg.AllChunk k chunk → Did (hands s op y (Msg.PutAll y.plan.op chunk))
      hands_all_did k chunk e = quiet _ refl (
        (λ copy same of.
            let from : k ≡ op = number_of k (ap op_of e) in
            (subst (λ x. Told f c items start cs log p 1 x) e was) copy (same ∙ own ∙ sym from) of),
        tt,
      )

      ends_did : (k : ℕ) → m ≡ Msg.Kept k → Did (ends s op)
      ends_did k e = record {
        says = (tt, tt);
        found = λ copy of done. split (op == copy.op)
            (λ b. map (λ (one : ℕ × Answer). one.1) (if b then (op, Done) ∷ [] else []) ≡ Done ∷ [] → WasKept f c items start (cs ++ d ∷ [])
            (log ++ Note.Answered op Done ∷ []) copy)
            (λ on _.
            let from : k ≡ op = number_of k (ap op_of e) in
            let it = subst (λ z. Told f c items start (cs ++ d ∷ []) (log ++ Note.Answered op Done ∷ []) p 1 z) e
            (told_still f c items start cs d log (Note.Answered op Done ∷ []) p 1 m was) in
            it copy (sym ((Decides-eqb op copy.op).0 on) ∙ sym from) of) (λ _ never. cc) done;
      }

      by_turn : (a : Option Answer) → copying.answer_of (copying.row y p m).phase ≡ a → (did : Step)
          → did ≡ ctrl.after_turn s op (turn_of_copy y s.store (copying.row y p m)) a → CopyTurn (record { controller = s; op = op; copy = y }) m did → Did did
      by_turn a row did at (Idle e) = subst Did (sym e) still_did
      by_turn a row did at (Hands k chunks e same) = subst Did (sym same) (hands_did k chunks e)
      by_turn a row did at (Hands_all k chunk e same) = subst Did (sym same) (hands_all_did k chunk e)
      by_turn None row did at (Ends same) = let never : Note.Answered op Done ∷ [] ≡ [] = ap (λ x. x.notes) (sym same ∙ at) in cc
      by_turn (Some a) row did at (Ends same) = let it = row_ends y p m a (known.copies op y there).going row in subst Did (sym same) (ends_did it.0 it.1)

      copy_did : Did (ctrl.takes_turn s op (turn_of (Some (Copy y)) s.store p m))
      copy_did = by_turn (copying.answer_of (copying.row y p m).phase) refl _ refl (copy_turn s op y (known.copies op y there).going there p m)

    -- A message of an operation's number.
    turn_did : (op : ℕ) (m : Msg) (o : Option Operation) → finite.get s.operations op ≡ o → NotShared o → op_of m ≡ Some op → Told f c items start cs log p 1 m
        → Did (ctrl.takes_turn s op (turn_of o s.store p m))
    turn_did op m None at no_share its was = quiet _ refl tt
    turn_did op m (Some (Share x)) at no_share its was = absurd no_share
    turn_did op m (Some (Copy y)) at no_share its was = copy_did op y at m its was
    turn_did op m (Some (Move mv)) at no_share its was =
        move_did op mv at (row_in mv s.store p m) (all_sent (λ x. is_of_copy x ≡ false) move_none mv.plan mv.phase (stored_of s.store mv.plan.op) p m) _

    asks_not : (op : ℕ) (m : Msg) (x : ShareState) → finite.get s.operations op ≡ Some (Share x) → Each (λ y. AsksNot y.1) (ctrl.hand_step s op p m).sends
    asks_not op m x there = handed_sent AsksNot others s p op m (subst (λ o. TurnSo AsksNot others o m) (sym there) (share_not op x there))

    handed_did : (op : ℕ) (m : Msg) → op_of m ≡ Some op → Told f c items start cs log p 1 m → Did (ctrl.hand_step s op p m)
    handed_did op m its was = by_operation Did s op p m
        (λ no_share. turn_did op m (finite.get s.operations op) refl no_share its was)
        (λ x at. share_did op x (ctrl.hand_step s op p m) at (handed_share s op x at (known.shared op x at).op_is p m) (asks_not op m x at))

    diverted_did : (cell : FullCell) → Did (ctrl.on_diverted s cell)
    diverted_did cell = by_queue Did s cell still_did (λ op x at. share_did op x (ctrl.queue_step s cell (Some op)) at
        (queued_share s op x at (known.shared op x at).op_is cell) (queued_sent AsksNot others s p cell (Some op)))

    -- A command that waits.
    module _ (op : ℕ) (none : finite.get s.operations op ≡ None) where
      begun_now : is_begun op (log ++ Note.Begun op ∷ []) ≡ true
      begun_now = let same : (op == op) ≡ true = grind (arith, nat_tests) in
          has_begun-append (λ k. k == op) log (Note.Begun op ∷ []) ∙ ap (λ b. is_begun op log || (b || false)) same ∙ or-true (is_begun op log)

      begun_did : {what : Order} (did : Step) → OpensBy s op what did → g.orders op ≡ Some what → Did did
      begun_did did (Opens_copy {source} {destination} {filter = None} from to at e) what = record {
        says = (
          (λ copy same of. let both = same_copy of.source of.destination source destination (Some copy.filter) None (g.orders copy.op) of.order_is
              (ap g.orders same ∙ what) in
              let never : Some copy.filter ≡ None = both.2 in cc),
          tt,
        );
        found = λ copy of e. cc;
      }
      begun_did did (Opens_copy {source} {destination} {filter = Some filter} from to at e) what = record {
        says = (
          (λ copy same of.
              let both = same_copy of.source of.destination source destination (Some copy.filter) (Some filter) (g.orders copy.op) of.order_is
              (ap g.orders same ∙ what) in
              let filters : Some copy.filter ≡ Some filter = both.2 in
              let one : filter ≡ copy.filter = cc in
              let places : Some copy.source ≡ Some from = sym of.source_is ∙ ap (place_of c.names) both.0 ∙ ap (λ ns. place_of ns source) (sym known.names)
              ∙ at in
              let from_is : from ≡ copy.source = cc in
              (one, ap instance_node from_is, begun_now)),
          tt,
        );
        found = λ copy of e. cc;
      }
      begun_did did by what = record { says = (tt, tt); found = λ copy of e. cc }

    asked_did : (op : ℕ) (what : Order) → g.orders op ≡ Some what → Did (ctrl.on_asked s (record { op = op; what = what }))
    asked_did op what is_what = by_command Did s op what still_did
        (λ a none at. told_did op (Some a) _ refl (λ why e copy same of done. (let is_a : a ≡ why = cc in
        not_refused (ctrl.unknown_name s what) (ctrl.overlap s what) (at ∙ ap Some (is_a ∙ done)))) (tt, tt))
        (λ did none at by. begun_did op none did by is_what)

    row_did : (m : Msg) → Label f g p 1 m → Told f c items start cs log p 1 m → Did (ctrl.row s p m)
    row_did = row_by s p (λ m did. Label f g p 1 m → Told f c items start cs log p 1 m → Did did) (record {
      still = λ m label was. still_did;
      ended = λ label was. quiet _ refl tt;
      stopped = λ i label was. quiet _ refl tt;
      returned = λ op i cell label was. quiet _ refl (tt, tt);
      handed = λ op m its label was. handed_did op m its was;
      diverted = λ cell label was. diverted_did cell;
      asked = λ k label was. asked_did k.op k.what label.2.known;
    })

    -- with the finish behind all else
    finished_did : (did : Step) → Did did → Did (ctrl.step_and_finish did)
    finished_did did h =
        by_finish Did s did (record { says = sent-append (Tells did.notes) 1 did.sends ((0, Msg.Finish) ∷ []) h.says (tt, tt); found = h.found })
        (record { says = sent-append (Tells did.notes) 1 did.sends [] h.says tt; found = h.found })

    pub controller_did : (m : Msg) → Label f g p 1 m → Told f c items start cs log p 1 m → Did (ctrl.controller_step s p m)
    controller_did m label was = finished_did (ctrl.row s p m) (row_did m label was)

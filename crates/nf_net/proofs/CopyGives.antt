-- Where the source of a copy of units is to give what it has, the copy is under way: so what the source has of the units has seen all, and what it
-- sends are the records of them all.
use Rattle.nf_net.proofs.Words.{◌≡◌, ℕ, ◌+◌, ◌<◌, Bool, true, false, Option, Some, None, List, [], ◌∷◌, length, refl, sym, ap, ◌∙◌, subst, arith, ◌&&◌, ◌||◌}
use Rattle.nf_net.proofs.Words.{not, is_some, nat_tests, Filter, place_of, FunctionLaws, Semantics, takes, one_unit, Records, taken_by, Answer, Msg, Note}
use Rattle.nf_net.proofs.Words.{instance_node, CopyState, Operation, Move, Copy, Share, InstanceState, selected_chunks, Choice, Network, Node, answers_of}
use Rattle.nf_net.proofs.Words.{is_begun, has_answered, is_share, job_of, exported_for, is_whole, Given, IsCopyPlan, Joined, given, Unit, Order, records_of}
use Rattle.nf_net.proofs.Words.{Done, UnitCopy, IsOrdered, IsToGive, run_beside, Setting, start, IsCourse, world_of}
use Rattle.std.specs.FinMap as finite
use Rattle.record_table.proofs.MadeChunks.{table_read}
use Rattle.record_table.proofs.RecordLookUps.{sound_retain_keys}
use Rattle.record_table.specs.Table.{AreSound}
use Rattle.proof_outlines.proofs.joined.Joined.{IsCopy, is_whole_if}
use Rattle.nf_net.proofs.RunWords.{unanswered, Busy, keeps_is, run_busy, after_world}
use Rattle.nf_net.proofs.ArrivedCommands.{came_before}
use Rattle.nf_net.proofs.CopiedUnits.{had, owned}
use Rattle.nf_net.proofs.CopyFacts.{WasKept}
use Rattle.nf_net.proofs.JudgedRuns.{verdicts}

both_so : (a s b : Bool) → a ≡ true → b ≡ false → a && (s || not b) ≡ true
both_so true true b h k = refl
both_so true false true h k = cc
both_so true false false h k = refl
both_so false s b h k = cc

-- What an instance gives, its chunks spell.
module _ {F R : Type 0} (f : Semantics R) (laws : FunctionLaws f) (i : InstanceState F R) (filter : Filter) (sound : AreSound f i.table.live) where
  pub given_spell : (u : Unit) (kept : R) → takes filter u ≡ true → finite.get i.table.live u ≡ Some kept
      → finite.get (records_of f (selected_chunks f i filter)) u ≡ Some kept
  given_spell u kept on live =
      let read = table_read f laws (taken_by filter i.table.live) (sound_retain_keys f i.table.live (takes filter) sound) in
      ap (λ (m : Records R). finite.get m u) read.spells
      ∙ finite.get-retain_keys i.table.live (takes filter) u (λ x same. ap (takes filter) (sym (one_unit u x same)))
      ∙ rw on live

module _ {F R : Type 0} (setting : Setting F R) (cs : List Choice) (run_is : IsCourse setting cs) where
  open setting use {function as f, config as c, items}

  abbrev g : Given
  g = given setting

  abbrev n : ℕ
  n = length c.names + 2

  abbrev w : Network (Node F R) Msg Note
  w = world_of setting cs

  abbrev j : Joined f g n w
  j = (run_beside setting cs run_is).joined

  b : Busy g w
  b = (run_busy setting cs run_is).1

  nodes : length w.nodes ≡ n
  nodes = (after_world setting cs run_is).1

  module _ (copy : UnitCopy) (of : IsOrdered c items copy) where
    -- the open copy of the order
    pub record IsOpen : Type 0 where
      pub state : CopyState
      pub there : finite.get j.nodes.controller.operations copy.op ≡ Some (Copy state)
      pub filter_is : state.plan.filter ≡ Some copy.filter
      pub from_is : state.plan.from ≡ copy.source
      pub to_is : state.plan.to ≡ copy.destination

    same_order : (a b x y : List ℕ) (o : Option Filter) → g.orders copy.op ≡ Some (Order.Copy a b (Some copy.filter))
        → g.orders copy.op ≡ Some (Order.Copy x y o) → (a ≡ x) × (b ≡ y) × (Some copy.filter ≡ o)
    same_order a b x y o h k = let both : Some (Order.Copy a b (Some copy.filter)) ≡ Some (Order.Copy x y o) = sym h ∙ k in (cc, cc, cc)

    copy_open : (y : CopyState) → finite.get j.nodes.controller.operations copy.op ≡ Some (Copy y) → IsOpen
    copy_open y there =
        let its : IsCopy f g copy.op y = j.shown_is.controller.copies copy.op y there in
        let plan : IsCopyPlan g y.plan.op y.plan = its.plan in
        let same = same_order of.source of.destination plan.source plan.destination y.plan.filter of.order_is (ap g.orders (sym its.op_is) ∙ plan.order_is) in
        let from : Some y.plan.from ≡ Some copy.source = sym plan.from_is ∙ ap (place_of c.names) (sym same.0) ∙ of.source_is in
        let to : Some y.plan.to ≡ Some copy.destination = sym plan.to_is ∙ ap (place_of c.names) (sym same.1) ∙ of.destination_is in
        record { state = y; there = there; filter_is = sym same.2; from_is = cc; to_is = cc }

    not_move : (a b x y : List ℕ) (p q : Filter) (keep : Bool) → g.orders copy.op ≡ Some (Order.Copy a b (Some p))
        → g.orders copy.op ≡ Some (Order.Move x y q keep) → ⊥
    not_move a b x y p q keep h k = let both : Some (Order.Copy a b (Some p)) ≡ Some (Order.Move x y q keep) = sym h ∙ k in cc

    not_share : (a b : List ℕ) (names : List (List ℕ)) (p q : Filter) → g.orders copy.op ≡ Some (Order.Copy a b (Some p))
        → g.orders copy.op ≡ Some (Order.Share names q) → ⊥
    not_share a b names p q h k = let both : Some (Order.Copy a b (Some p)) ≡ Some (Order.Share names q) = sym h ∙ k in cc

    found_open : (o : Option Operation) → finite.get j.nodes.controller.operations copy.op ≡ o → is_some o ≡ true → IsOpen
    found_open None at some = cc
    found_open (Some (Copy y)) at some = copy_open y at
    found_open (Some (Move m)) at some =
        let its = j.shown_is.controller.moves copy.op m at in
        absurd (not_move of.source of.destination its.plan.source its.plan.destination copy.filter m.plan.filter m.plan.keep of.order_is
        (ap g.orders (sym its.op_is) ∙ its.plan.order_is))
    found_open (Some (Share s)) at some =
        let its = j.shown_is.controller.shared copy.op s at in
        absurd (not_share of.source of.destination its.plan.names copy.filter s.plan.filter of.order_is (ap g.orders (sym its.op_is) ∙ its.plan.order_is))

    -- a copy that began and isn't answered is open
    pub open_of : is_begun copy.op w.log ≡ true → has_answered copy.op w.log ≡ false → IsOpen
    open_of on off = found_open (finite.get j.nodes.controller.operations copy.op) refl
        (keeps_is f g n refl w j b copy.op ∙ both_so (is_begun copy.op w.log) (is_share (g.orders copy.op)) (has_answered copy.op w.log) on off)

    -- its answer is that it is done
    answered_done : (a : Answer) → is_begun copy.op w.log ≡ true → answers_of copy.op w.log ≡ a ∷ [] → answers_of copy.op w.log ≡ Done ∷ []
    answered_done a on e = subst (λ x. answers_of copy.op w.log ≡ x ∷ [])
        ((verdicts setting cs run_is).copied copy.op of.source of.destination (Some copy.filter) a of.order_is on e) e

    -- so one that has given nothing isn't answered
    module _ (found : answers_of copy.op w.log ≡ Done ∷ [] → WasKept f c items (start setting) cs w.log copy)
        (on : is_begun copy.op w.log ≡ true) (none : exported_for copy.op w.log ≡ None) where
      not_answered : (xs : List Answer) → answers_of copy.op w.log ≡ xs → answers_of copy.op w.log ≡ []
      not_answered [] e = e
      not_answered (a ∷ []) e = let it = found (answered_done a on e) in let never : None ≡ Some it.by.given = sym none ∙ it.by.given_is in cc
      not_answered (a ∷ x ∷ xs) e = let few = (b.is.answered copy.op).answered_once in let long = ap length e in absurd (omega (arith, few, long))

      its_open : IsOpen
      its_open = open_of on (unanswered copy.op w.log (not_answered (answers_of copy.op w.log) refl))

      pub to_give : IsToGive (job_of f c items) w copy
      to_give =
          let o = its_open in
          let its : IsCopy f g copy.op o.state = j.shown_is.controller.copies copy.op o.state o.there in
          let whole : is_whole f.kind copy.filter ≡ true = subst (λ q. is_whole_if f g q ≡ true) o.filter_is its.whole in
          let few : instance_node copy.source < n = (let from = its.from in let same = o.from_is in grind (arith, nat_tests)) in
          record {
            has_begun = on;
            came = came_before setting cs run_is copy.op on;
            had = λ u kept taken live. had setting n w nodes j
                (run_beside setting cs run_is).beside.kept.apart copy.op o.state copy.filter o.there o.filter_is u whole taken
                copy.source kept (omega arith) few live;
            owned = λ u kept taken own folds. owned setting n w nodes j
                (run_beside setting cs run_is).beside.kept.apart copy.op o.state copy.filter o.there o.filter_is u whole
                taken copy.source kept few own folds;
          }

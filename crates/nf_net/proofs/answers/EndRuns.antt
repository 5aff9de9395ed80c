-- Where nothing is left to be done, no operation is open but shares that are set up, if no command stands after the input's end.
use Rattle.nf_net.proofs.Words.{◌≡◌, ◌≢◌, ℕ, zero, suc, ◌+◌, ◌<◌, Bool, true, false, None, List, [], ◌∷◌, ◌++◌, length, get_or, refl, sym, ap, ◌∙◌, subst}
use Rattle.nf_net.proofs.Words.{arith, if◌then◌else◌, ◌&&◌, ◌==◌, not, nat_tests, Decides-eqb, and_parts, Semantics, Msg, Note, Choice, Network, is_done}
use Rattle.nf_net.proofs.Words.{reaches, world_next, queue_at, done_node, done_weight, at, opening_waiting, opening_weight, Takes, taken_outcome, EachSent}
use Rattle.nf_net.proofs.Words.{total, sent_weight, total_after, Each, are_quiet, ControllerState, may_finish, controller_step, opened_controller, SwitchState}
use Rattle.nf_net.proofs.Words.{switch_step, Node, Switch, Controller, is_item, commands, ends_last, node_step, node_ended, first_nodes, first_switch, Given}
use Rattle.nf_net.proofs.Words.{Label, Joined, node_of, known, given, all_labelled, count_at_start, all_each, Setting, start, IsCourse, world_of}
use Rattle.std.specs.FinMap as finite
use Rattle.ctrl_node.specs.Controller as controller
use Rattle.nf_net.proofs.RunWords.{own_controller, sent_weight-append, run_keeps}
use Rattle.nf_net.proofs.answers.EndTables.{sign_in, no_command, in_order, ordered_behind, IsSettled, quiet_settled, row_ends, sign_at_switch}
use Rattle.nf_net.proofs.answers.EndTables.{sign_at_controller, flag, switch_closes}
use Rattle.nf_net.proofs.answers.InstallCounts.{finish}
use Rattle.nf_net.proofs.answers.InstalledRules.{row_counts}
use Rattle.nf_net.proofs.answers.InstallNotes.{no_install_to, none_sent, items_none}
use Rattle.proof_outlines.proofs.joined.Joined.{count}
use Rattle.proof_outlines.proofs.joined.KnownOperations.{AreKnown}
use Rattle.nf_net.proofs.answers.LinePicks.{picked, on_way, at_switch, at_controller, at_instance}

-- how far the end of the input has come: on the way to the controller, at the controller, and with the finish to the switch
pub record IsEnding (closed : ℕ) (c : ControllerState) (way : List Bool) (finishes : ℕ) : Type 0 where
  pub order : in_order way ≡ true
  pub ended : c.end_came ≡ true → no_command way ≡ true
  pub unfinished : c.finish_sent ≡ false → finishes + closed ≡ 0
  pub finished : c.finish_sent ≡ true → (c.end_came ≡ true) × ((op : ℕ) → IsSettled (finite.get c.operations op))

may_be : (a b q : Bool) → a && not b && q ≡ true → (a ≡ true) × (q ≡ true)
may_be true false true e = (refl, refl)
may_be true false false e = cc
may_be true true q e = cc
may_be false b q e = cc

-- the controller's step
module _ (n : ℕ) (reach : reaches n 1 0 ≡ true) {R : Type 0} (f : Semantics R) (g : Given) (c : ControllerState) (are : AreKnown g c) where
  controller_ending : (closed : ℕ) (p : ℕ) (m : Msg) → Label f g p 1 m → (way : List Bool) (before after : ℕ)
      → IsEnding closed c (sign_in m ++ way) before → after + finish m ≡ before + sent_weight finish n 1 (controller_step c p m).sends → finish m ≡ 0
      → IsEnding closed (controller_step c p m).node way after
  controller_ending closed p m label way before after h weight none = by_may (may_finish r.node) refl weight
    where
      r : controller.Step
      r = controller.row c p m

      by_may : (b : Bool) → may_finish r.node ≡ b → after + finish m ≡ before + sent_weight finish n 1 (r.sends ++ (if b then (0, Msg.Finish) ∷ [] else []))
          → IsEnding closed (if b then record r.node { finish_sent = true } else r.node) way after
      by_may true e weight =
          let ends = row_ends g c are way f p m label h.order h.ended in
          let may = may_be r.node.end_came r.node.finish_sent (are_quiet r.node.operations r.node.store) e in
          record {
            order = ordered_behind (sign_in m) way h.order;
            ended = ends.ended;
            unfinished = λ off. (let never : true ≡ false = off in cc);
            finished = λ on. (may.0, quiet_settled r.node.operations r.node.store may.1);
          }
      by_may false e weight =
          let ends = row_ends g c are way f p m label h.order h.ended in
          let counts = row_counts n reach g 0 c are f p m label in
          let both = sent_weight-append finish n 1 r.sends [] in
          record {
            order = ordered_behind (sign_in m) way h.order;
            ended = ends.ended;
            unfinished = λ off. (let was = h.unfinished (sym counts.finish_same ∙ off) in omega (arith, was, weight, none, both, counts.unfinished));
            finished = λ on. (let was = h.finished (sym counts.finish_same ∙ on) in ends.settled was.0 was.1);
          }

pub record Ends {F R : Type 0} (w : Network (Node F R) Msg Note) : Type 0 where
  pub switch : SwitchState
  pub switch_is : (d : Node F R) → get_or w.nodes 0 d ≡ Switch switch
  pub controller : ControllerState
  pub controller_is : (d : Node F R) → get_or w.nodes 1 d ≡ Controller controller
  pub is : IsEnding (flag switch.closed) controller (on_way sign_in w) (total finish w)

module _ {F R : Type 0} (f : Semantics R) (g : Given) (n : ℕ) (count_is : n ≡ count f g + 2) where
  ends_after : (w : Network (Node F R) Msg Note) (k p : ℕ) (m : Msg) (rest : List Msg) (j : Joined f g n w)
      (takes : Takes (node_step f) n w k p (node_of j.nodes k) m rest)
      → Label f g p k m → EachSent (Label f g) k (node_step f (node_of j.nodes k) p m).sends → Ends w → Ends (world_next (node_step f) w (at k p))
  ends_after w zero p m rest j takes labelled labels h =
      let s = j.nodes.switch in
      let left = taken_outcome (node_step f) n w 0 p (node_of j.nodes 0) m rest takes in
      let is : Switch h.switch ≡ Switch s = sym (h.switch_is (Switch h.switch)) ∙ j.nodes_are 0 takes.some (Switch h.switch) in
      let same : h.switch ≡ s = cc in
      let did = switch_closes s f g p m labelled in
      let was = ap (λ x. flag x.closed) same in
      let sent = none_sent f g None n 0 (switch_step s m).sends (λ never. cc) labels in
      let weight = total_after (node_step f) n w 0 p (node_of j.nodes 0) m rest takes finish in
      let way = at_switch sign_in (node_step f) n (omega (arith, count_is)) w p (node_of j.nodes 0) m rest takes did.hands (sign_at_switch f g p m labelled) in
      record {
        switch = (switch_step s m).node;
        switch_is = left.own;
        controller = h.controller;
        controller_is = λ d. left.others 1 d (omega arith) ∙ h.controller_is d;
        is = record {
          order = subst (λ xs. in_order xs ≡ true) way h.is.order;
          ended = λ e. subst (λ xs. no_command xs ≡ true) way (h.is.ended e);
          unfinished = λ off. (let none = h.is.unfinished off in omega (arith, did.closed, was, sent, weight, none));
          finished = h.is.finished;
        };
      }
  ends_after w (suc zero) p m rest j takes labelled labels h =
      let c = j.nodes.controller in
      let left = taken_outcome (node_step f) n w 1 p (node_of j.nodes 1) m rest takes in
      let same : h.controller ≡ c = own_controller j takes.receiver h.controller h.controller_is in
      let reach : reaches n 1 0 ≡ true = grind (arith, nat_tests, takes.some) in
      let way = at_controller sign_in (node_step f) n (omega (arith, count_is)) w p (node_of j.nodes 1) m rest takes (sign_at_controller f g p m labelled) in
      record {
        switch = h.switch;
        switch_is = λ d. left.others 0 d (omega arith) ∙ h.switch_is d;
        controller = (controller_step c p m).node;
        controller_is = left.own;
        is = controller_ending n reach f g c (known f g c j.world.ops j.world.shares j.world.next j.shown_is.controller) (flag h.switch.closed) p m labelled
            (on_way sign_in (world_next (node_step f) w (at 1 p))) (total finish w) (total finish (world_next (node_step f) w (at 1 p)))
            (subst (λ xs. IsEnding (flag h.switch.closed) c xs (total finish w)) way
            (subst (λ x. IsEnding (flag h.switch.closed) x (on_way sign_in w) (total finish w)) same h.is))
            (total_after (node_step f) n w 1 p (node_of j.nodes 1) m rest takes finish) (no_install_to f g None p 1 m (omega arith) labelled);
      }
  ends_after w (suc (suc i)) p m rest j takes labelled labels h =
      let k : ℕ = suc (suc i) in
      let left = taken_outcome (node_step f) n w k p (node_of j.nodes k) m rest takes in
      let other : k ≢ 1 = (λ never. absurd (omega (arith, never))) in
      let sent = none_sent f g None n k (node_step f (node_of j.nodes k) p m).sends other labels in
      let weight = total_after (node_step f) n w k p (node_of j.nodes k) m rest takes finish in
      let way = at_instance sign_in (node_step f) n (omega (arith, count_is)) w p (node_of j.nodes k) m rest i takes in
      record {
        switch = h.switch;
        switch_is = λ d. left.others 0 d (omega arith) ∙ h.switch_is d;
        controller = h.controller;
        controller_is = λ d. left.others 1 d (omega arith) ∙ h.controller_is d;
        is = record {
          order = subst (λ xs. in_order xs ≡ true) way h.is.order;
          ended = λ e. subst (λ xs. no_command xs ≡ true) way (h.is.ended e);
          unfinished = λ off. (let was = h.is.unfinished off in omega (arith, sent, no_install_to f g None p k m (omega arith) labelled, weight, was));
          finished = h.is.finished;
        };
      }

-- an input whose end is the last
none_signed : (items : List Msg) → Each (λ item. is_item item ≡ true) items → length (commands items) ≡ 0 → no_command (picked sign_in items) ≡ true
none_signed [] ok h = refl
none_signed (Msg.InCommand c ∷ items) ok h = absurd (omega (arith, h))
none_signed (Msg.InPacket p ∷ items) ok h = none_signed items ok.1 h
none_signed (Msg.InSettle ∷ items) ok h = none_signed items ok.1 h
none_signed (Msg.InEnd ∷ items) ok h = none_signed items ok.1 h
none_signed (m ∷ items) ok h = let never : false ≡ true = ok.0 in cc

signed : (items : List Msg) → Each (λ item. is_item item ≡ true) items → ends_last items ≡ true → in_order (picked sign_in items) ≡ true
signed [] ok h = refl
signed (Msg.InEnd ∷ items) ok h = none_signed items ok.1 ((Decides-eqb (length (commands items)) 0).0 h)
signed (Msg.InCommand c ∷ items) ok h = signed items ok.1 h
signed (Msg.InPacket p ∷ items) ok h = signed items ok.1 h
signed (Msg.InSettle ∷ items) ok h = signed items ok.1 h
signed (m ∷ items) ok h = let never : false ≡ true = ok.0 in cc

module _ {F R : Type 0} (setting : Setting F R) (last : ends_last setting.items ≡ true) where
  open setting use {function as f, alloc, config as c, items, is_input as is}

  abbrev first : Network (Node F R) Msg Note
  first = start setting

  ends_at_start : Ends first
  ends_at_start =
      let only = all_each (λ item. is_item item ≡ true) items is.only_items in
      let waits = opening_waiting Note (first_nodes {F = F} {R = R} alloc c) items (omega (arith, count_at_start setting)) in
      let way : picked sign_in items ≡ on_way sign_in first = ap (λ xs. picked sign_in xs) (sym (waits 0 0))
      ∙ ap (λ xs. picked sign_in xs ++ picked sign_in (queue_at first (at 0 0))) (sym (waits 0 1)) in
      record {
        switch = first_switch c;
        switch_is = λ d. refl;
        controller = opened_controller c.names c.site;
        controller_is = λ d. refl;
        is = record {
          order = subst (λ xs. in_order xs ≡ true) way (signed items only last);
          ended = λ e. (let never : false ≡ true = e in cc);
          unfinished = λ off. (let all = opening_weight Note (first_nodes {F = F} {R = R} alloc c) items finish in
              let none = items_none f (given setting) None items (all_labelled setting) in omega (arith, all, none));
          finished = λ on. (let never : false ≡ true = on in cc);
        };
      }

  pub run_ends : (cs : List Choice) → IsCourse setting cs → Ends (world_of setting cs)
  run_ends = run_keeps setting (λ _ w. Ends w) ends_at_start (λ ds ok d s. ends_after f (given setting) (length c.names + 2) refl
      (world_of setting ds) d.node d.port s.taking.message s.taking.rest s.runs.joined s.takes s.taken.label s.labels)

-- where nothing is left to be done, what is open is settled
pub all_settled : {F R : Type 0} (w : Network (Node F R) Msg Note) → 0 < length w.nodes → is_done node_ended w ≡ true → (h : Ends w) → (op : ℕ)
    → IsSettled (finite.get h.controller.operations op)
all_settled {F = F} {R = R} w some done h op = by_sent h.controller.finish_sent refl
  where
    by_sent : (b : Bool) → h.controller.finish_sent ≡ b → IsSettled (finite.get h.controller.operations op)
    by_sent true on = (h.is.finished on).1 op
    by_sent false off =
        let ended : node_ended {F = F} {R = R} (Switch h.switch) ≡ true = ap node_ended (sym (h.switch_is (Switch h.switch)))
        ∙ done_node node_ended w done 0 (Switch h.switch) some in
        let closed : flag h.switch.closed ≡ 1 = ap flag (and_parts h.switch.closed (h.switch.flying == 0) ended).0 in
        absurd (omega (arith, closed, done_weight node_ended w done finish, h.is.unfinished off))

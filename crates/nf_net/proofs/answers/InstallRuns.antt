-- Of every run, the switch's rules change once for each move that is done and for each share that began, and for no other command.
use Rattle.nf_net.proofs.Words.{◌≡◌, ◌≢◌, ℕ, zero, suc, ◌+◌, ◌≤◌, Bool, true, false, Option, Some, None, List, [], ◌∷◌, length, get_or, refl, sym, ap, ◌∙◌}
use Rattle.nf_net.proofs.Words.{subst, arith, if◌then◌else◌, nat_cmp, nat_tests, Semantics, Answer, Msg, Note, Choice, Network, is_done, reaches, world_next}
use Rattle.nf_net.proofs.Words.{done_weight, at, opening_weight, Takes, taken_outcome, EachSent, total, sent_weight, total_after, Phase, ShareState, Operation}
use Rattle.nf_net.proofs.Words.{Move, Copy, Share, ControllerState, controller_step, opened_controller, switch_step, Node, Controller, answers_of}
use Rattle.nf_net.proofs.Words.{times_installed, node_step, node_ended, first_nodes, answers_of-append, times_installed-append, Given, Label, Joined, node_of}
use Rattle.nf_net.proofs.Words.{known, instance_quiet, controller_uninstalled, given, all_labelled, Setting, start, IsCourse, world_of}
use Rattle.std.specs.FinMap as finite
use Rattle.move_op.specs.Phases as phase
use Rattle.net_world.specs.Commands.{is_share as shares_units}
use Rattle.nf_net.proofs.answers.BusyLemmas.{AreOther, none_answered, other_not_answered}
use Rattle.nf_net.proofs.answers.BusyOperations.{answers_to}
use Rattle.nf_net.proofs.answers.ShareTells.{is_set_up}
use Rattle.nf_net.proofs.answers.BusyNodes.{switch_hands, instance_says}
use Rattle.nf_net.proofs.answers.BusyRuns.{Busy, own_controller, plan_is, share_is, told_is}
use Rattle.nf_net.proofs.answers.InstallCounts.{install, done_in, passed}
use Rattle.nf_net.proofs.answers.InstallSteps.{is_moving, dones, dones-append, dones-none, open_in}
use Rattle.nf_net.proofs.answers.InstalledRules.{controller_counts}
use Rattle.nf_net.proofs.answers.InstallNotes.{no_install_to, none_sent, items_none, switch_notes, none_installed, quiet_installed}
use Rattle.proof_outlines.proofs.joined.Joined.{count}
use Rattle.nf_net.proofs.RunKeeps.{run_keeps}

-- the changes that wait and those that the switch noted are those that the controller has sent
pub record Installs {F R : Type 0} (g : Given) (w : Network (Node F R) Msg Note) : Type 0 where
  pub controller : ControllerState
  pub controller_is : (d : Node F R) → get_or w.nodes 1 d ≡ Controller controller
  pub balance : (op : ℕ) → total (install op) w + times_installed op w.log
      ≡ open_in (finite.get controller.operations op) + dones (is_moving (g.orders op)) (answers_of op w.log)

-- notes of other things have no answer
no_dones : (moving : Bool) (op : ℕ) (notes : List Note) → AreOther notes → dones moving (answers_of op notes) ≡ 0
no_dones moving op notes h = ap (dones moving) (none_answered op notes (other_not_answered op notes h))

module _ {F R : Type 0} (f : Semantics R) (g : Given) (n : ℕ) where
  -- what waits, and the log, after a (node_step f)
  balance_after : (w : Network (Node F R) Msg Note) (k p : ℕ) (node : Node F R) (m : Msg) (rest : List Msg) (takes : Takes (node_step f) n w k p node m rest)
      (op before after : ℕ)
      → total (install op) w + times_installed op w.log ≡ before + dones (is_moving (g.orders op)) (answers_of op w.log)
      → before + sent_weight (install op) n k (node_step f node p m).sends + times_installed op (node_step f node p m).notes
      ≡ after + dones (is_moving (g.orders op)) (answers_of op (node_step f node p m).notes) + install op m
      → total (install op) (world_next (node_step f) w (at k p)) + times_installed op (world_next (node_step f) w (at k p)).log
      ≡ after + dones (is_moving (g.orders op)) (answers_of op (world_next (node_step f) w (at k p)).log)
  balance_after w k p node m rest takes op before after balance changes =
      let left = taken_outcome (node_step f) n w k p node m rest takes in
      let notes = (node_step f node p m).notes in
      let installed : times_installed op (world_next (node_step f) w (at k p)).log ≡ times_installed op w.log + times_installed op notes =
      ap (times_installed op) left.log ∙ times_installed-append op w.log notes in
      let answered : dones (is_moving (g.orders op)) (answers_of op (world_next (node_step f) w (at k p)).log)
      ≡ dones (is_moving (g.orders op)) (answers_of op w.log) + dones (is_moving (g.orders op)) (answers_of op notes) =
      ap (λ l. dones (is_moving (g.orders op)) (answers_of op l)) left.log ∙ ap (dones (is_moving (g.orders op))) (answers_of-append op w.log notes)
      ∙ dones-append (is_moving (g.orders op)) (answers_of op w.log) (answers_of op notes) in
      omega (arith, balance, changes, total_after (node_step f) n w k p node m rest takes (install op), installed, answered)

  installs_after : (w : Network (Node F R) Msg Note) (k p : ℕ) (m : Msg) (rest : List Msg) (j : Joined f g n w)
      (takes : Takes (node_step f) n w k p (node_of j.nodes k) m rest)
      → Label f g p k m → EachSent (Label f g) k (node_step f (node_of j.nodes k) p m).sends → Installs g w → Installs g (world_next (node_step f) w (at k p))
  installs_after w zero p m rest j takes labelled labels h =
      let s = j.nodes.switch in
      let left = taken_outcome (node_step f) n w 0 p (node_of j.nodes 0) m rest takes in
      record {
        controller = h.controller;
        controller_is = λ d. left.others 1 d (omega arith) ∙ h.controller_is d;
        balance = λ op.
            let sent = none_sent f g (Some op) n 0 (switch_step s m).sends (λ never. cc) labels in
            let noted = switch_notes f g op s p m j.shown_is.switch.instances labelled in
            let none = no_dones (is_moving (g.orders op)) op (switch_step s m).notes (switch_hands f g s p m labelled).notes_are in
            let own = open_in (finite.get h.controller.operations op) in
            balance_after w 0 p (node_of j.nodes 0) m rest takes op own own (h.balance op) (omega (arith, sent, noted, none));
      }
  installs_after w (suc zero) p m rest j takes labelled labels h =
      let c = j.nodes.controller in
      let left = taken_outcome (node_step f) n w 1 p (node_of j.nodes 1) m rest takes in
      let same : h.controller ≡ c = own_controller j takes.receiver h.controller h.controller_is in
      let reach : reaches n 1 0 ≡ true = grind (arith, nat_tests, takes.some) in
      record {
        controller = (controller_step c p m).node;
        controller_is = left.own;
        balance = λ op.
            let did = controller_counts n reach g op c (known f g c j.world.ops j.world.shares j.world.next j.shown_is.controller) f p m labelled in
            let noted = none_installed op (controller_step c p m).notes (controller_uninstalled c p m) in
            balance_after w 1 p (node_of j.nodes 1) m rest takes op (open_in (finite.get c.operations op))
            (open_in (finite.get (controller_step c p m).node.operations op)) (subst (λ x. total (install op) w + times_installed op w.log
            ≡ open_in (finite.get x.operations op) + dones (is_moving (g.orders op)) (answers_of op w.log)) same (h.balance op))
            (omega (arith, did, no_install_to f g (Some op) p 1 m (omega arith) labelled, noted));
      }
  installs_after w (suc (suc i)) p m rest j takes labelled labels h =
      let k : ℕ = suc (suc i) in
      let instance = j.nodes.instance k in
      let left = taken_outcome (node_step f) n w k p (node_of j.nodes k) m rest takes in
      let notes = (node_step f (node_of j.nodes k) p m).notes in
      let other : k ≢ 1 = (λ never. absurd (omega (arith, never))) in
      record {
        controller = h.controller;
        controller_is = λ d. left.others 1 d (omega arith) ∙ h.controller_is d;
        balance = λ op.
            let sent = none_sent f g (Some op) n k (node_step f (node_of j.nodes k) p m).sends other labels in
            let taken_none = no_install_to f g (Some op) p k m (omega arith) labelled in
            let noted = quiet_installed op instance.index notes (instance_quiet f instance m) in
            let none = no_dones (is_moving (g.orders op)) op notes (instance_says f g k instance m).notes_are in
            let own = open_in (finite.get h.controller.operations op) in
            balance_after w k p (node_of j.nodes k) m rest takes op own own (h.balance op) (omega (arith, sent, taken_none, noted, none));
      }

-- as many as there are answers, or fewer
one_few : (a : Answer) → done_in a ≤ 1
one_few Answer.Done = omega arith
one_few a = omega arith

dones_few : (moving : Bool) (xs : List Answer) → dones moving xs ≤ length xs
dones_few moving [] = omega arith
dones_few true (x ∷ xs) = let own = one_few x in let rest = dones_few true xs in omega (arith, own, rest)
dones_few false (x ∷ xs) = let rest = dones_few false xs in omega (arith, rest)

-- a command that doesn't move units has sent none
pub dones_still : (xs : List Answer) → dones false xs ≡ 0
dones_still [] = refl
dones_still (x ∷ xs) = let rest = dones_still xs in omega (arith, rest)

passed_few : (ph : Phase) → passed ph ≤ 1
passed_few (phase.Over why) = one_few why
passed_few ph = omega arith

open_few : (o : Option Operation) → open_in o ≤ 1
open_few None = omega arith
open_few (Some (Move m)) = passed_few m.phase
open_few (Some (Copy y)) = omega arith
open_few (Some (Share s)) = omega arith

pub not_done : (a : Answer) → a ≢ Answer.Done → done_in a ≡ 0
not_done Answer.Done h = absurd (h refl)
not_done a h = refl

-- What the log of a world of a run then says of changes.
module _ {F R : Type 0} (f : Semantics R) (g : Given) (n : ℕ) (count_is : n ≡ count f g + 2) (w : Network (Node F R) Msg Note) (j : Joined f g n w)
    (b : Busy g w) (h : Installs g w) (op : ℕ) where
  abbrev moves_units : Bool
  moves_units = is_moving (g.orders op)

  abbrev there : Option Operation
  there = finite.get h.controller.operations op

  same : h.controller ≡ j.nodes.controller
  same = own_controller j (omega (arith, count_is)) h.controller h.controller_is

  at_controller : (o : Option Operation) → there ≡ o → finite.get j.nodes.controller.operations op ≡ o
  at_controller o e = sym (ap (λ x. finite.get x.operations op) same) ∙ e

  told : (x : Operation) → there ≡ Some x → answers_of op w.log ≡ answers_to x
  told x e = told_is f g n count_is w j b op x (at_controller (Some x) e)

  unshared : (s : ShareState) → there ≡ Some (Share s) → moves_units ≡ false
  unshared s e = ap is_moving (share_is f g n count_is w j b op s (at_controller (Some (Share s)) e)).order_is

  -- an open move or copy isn't answered
  few_open : (x : Operation) → there ≡ Some x → answers_to x ≡ [] → open_in (Some x) + dones moves_units (answers_of op w.log) ≤ 1
  few_open x e none =
      let no = ap (dones moves_units) (told x e ∙ none) in
      omega (arith, no, open_few (Some x))

  few : (o : Option Operation) → there ≡ o → open_in o + dones moves_units (answers_of op w.log) ≤ 1
  few None e = let once = (b.is.answered op).answered_once in let less = dones_few moves_units (answers_of op w.log) in omega (arith, once, less)
  few (Some (Move m)) e = few_open (Move m) e refl
  few (Some (Copy y)) e = few_open (Copy y) e refl
  few (Some (Share s)) e =
      let none : dones moves_units (answers_of op w.log) ≡ 0 = ap (λ v. dones v (answers_of op w.log)) (unshared s e) ∙ dones_still (answers_of op w.log) in
      omega (arith, none)

  pub installed_once : times_installed op w.log ≤ 1
  installed_once = let balance = h.balance op in let less = few there refl in omega (arith, balance, less)

  -- a command that is answered isn't open, if it isn't a share
  balance_is : (a : Answer) → answers_of op w.log ≡ a ∷ [] → ((s : ShareState) → there ≢ Some (Share s))
      → total (install op) w + times_installed op w.log ≡ dones moves_units (a ∷ [])
  balance_is a is other =
      let balance = h.balance op in let closed = by_got there refl in let answers = ap (dones moves_units) is in omega (arith, balance, closed, answers)
    where
      by_got : (o : Option Operation) → there ≡ o → open_in o ≡ 0
      by_got None e = refl
      by_got (Some (Move m)) e = let never = sym is ∙ told (Move m) e in cc
      by_got (Some (Copy y)) e = refl
      by_got (Some (Share s)) e = absurd (other s e)

  pub refused_none_installed : (a : Answer) → answers_of op w.log ≡ a ∷ [] → a ≢ Answer.Done → times_installed op w.log ≡ 0
  refused_none_installed a is other =
      omega (arith, balance_is a is unlike, dones-none moves_units a (not_done a other))
    where
      -- an open share was answered that it is done
      done_is : (b : Bool) → a ∷ [] ≡ (if b then Answer.Done ∷ [] else []) → ⊥
      done_is true e = other (ap (λ xs. get_or xs 0 a) e)
      done_is false e = cc

      unlike : (s : ShareState) → there ≢ Some (Share s)
      unlike s e = done_is (is_set_up s.phase) (sym is ∙ told (Share s) e)

  -- and where nothing waits, each change was noted
  pub done_installed : moves_units ≡ true → is_done node_ended w ≡ true → answers_of op w.log ≡ Answer.Done ∷ [] → times_installed op w.log ≡ 1
  done_installed moves done is =
      let balance = balance_is Answer.Done is (λ s e. let never : true ≡ false = sym moves ∙ unshared s e in cc) in
      let one : dones moves_units (Answer.Done ∷ []) ≡ 1 = rw moves refl in
      omega (arith, balance, done_weight node_ended w done (install op), one)

  -- a command that neither moves nor shares units changes no rules
  pub still_installed : moves_units ≡ false → shares_units (g.orders op) ≡ false → times_installed op w.log ≡ 0
  still_installed still unlike =
      let none : dones moves_units (answers_of op w.log) ≡ 0 = ap (λ v. dones v (answers_of op w.log)) still ∙ dones_still (answers_of op w.log) in
      omega (arith, h.balance op, none, by_got there refl)
    where
      by_got : (o : Option Operation) → there ≡ o → open_in o ≡ 0
      by_got None e = refl
      by_got (Some (Copy y)) e = refl
      by_got (Some (Share s)) e =
          let plan = share_is f g n count_is w j b op s (at_controller (Some (Share s)) e) in
          let never : true ≡ false = sym (ap shares_units plan.order_is) ∙ unlike in
          cc
      by_got (Some (Move m)) e =
          let plan = plan_is f g n count_is w j b op m (at_controller (Some (Move m)) e) in
          let never : true ≡ false = sym (ap is_moving plan.order_is) ∙ still in
          cc

module _ {F R : Type 0} (setting : Setting F R) where
  open setting use {function as f, alloc, config as c, items}

  installs_at_start : Installs (given setting) (start setting)
  installs_at_start = record {
    controller = opened_controller c.names c.site;
    controller_is = λ d. refl;
    balance = λ op.
        let none = opening_weight Note (first_nodes {F = F} {R = R} alloc c) items (install op) in
        let closed : open_in (finite.get (finite.empty {X = Operation} {R = nat_cmp}) op) ≡ 0 = ap open_in (finite.get-empty nat_cmp op) in
        omega (arith, none, items_none f (given setting) (Some op) items (all_labelled setting), closed);
  }

  pub run_installs : (cs : List Choice) → IsCourse setting cs → Installs (given setting) (world_of setting cs)
  run_installs = run_keeps setting (λ _ w. Installs (given setting) w) installs_at_start (λ ds ok d s.
      installs_after f (given setting) (length c.names + 2) (world_of setting ds) d.node d.port s.taking.message
      s.taking.rest s.runs.joined s.takes s.taken.label s.labels)

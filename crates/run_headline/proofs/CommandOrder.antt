-- In every run commands begin and are refused in the order of their numbers: what began before the first note of a command has a lower number.
use Rattle.run_headline.proofs.Words.{◌≡◌, ℕ, zero, suc, ◌+◌, ◌<◌, ◌≤◌, true, false, List, [], ◌++◌, length, refl, sym, ap, ◌∙◌, subst, append-nil, arith}
use Rattle.run_headline.proofs.Words.{if◌then◌else◌, ◌==◌, nat_lt, nat_tests, Decides-ltb, FunctionLaws, Semantics, Command, Msg, Note, Choice, Network}
use Rattle.run_headline.proofs.Words.{Stepped, world_next, at, Taking, run_induction, Takes, taken_outcome, controller_step, switch_step, Node, is_begun}
use Rattle.run_headline.proofs.Words.{before_command, has_answered, node_ready, node_step, Given, Joined, Label, node_of, Runs, runs_at_start, runs_next}
use Rattle.run_headline.proofs.Words.{start_world, count_at_start, given, is_noted, Busy, and_parts, Setting, start, IsCourse, world_of}
use Rattle.std.proofs.Common.{inl, inr}
use Rattle.std.specs.Prelude.{◌||◌, ◌⊎◌}
use Rattle.std.specs.FinMap as finite
use Rattle.nf_msgs.specs.declared.msg.Msg.TheVariants as msg
use Rattle.actor_net.proofs.LinkLemmas.{neither}
use Rattle.actor_net.proofs.StepOutcome.{Outcome}
use Rattle.run_report.specs.proof_machines.proofs.unit.Labels.{Each}
use Rattle.run_report.specs.proof_machines.proofs.net.Waits.{Rising}
use Rattle.net_world.proofs.LogLemmas.{has_begun-append, has_answered-append}
use Rattle.run_report.specs.proof_outlines.proofs.joined.Joined.{count}
use Rattle.run_report.specs.nf_net.proofs.answers.BusyController.{told_in}
use Rattle.run_report.specs.nf_net.proofs.answers.BusyLemmas.{AreOther, before_kept, before_new, or_off, other_not_answered, other_not_begun}
use Rattle.run_report.specs.nf_net.proofs.answers.BusyNodes.{instance_says, switch_hands}
use Rattle.run_report.specs.nf_net.proofs.answers.BusyRuns.{busy_next, keeps_is, share_is, waits_of}
use Rattle.run_report.specs.nf_net.proofs.answers.CommandPromises.{start_busy}
use Rattle.run_report.specs.nf_net.proofs.answers.LinePicks.{at_controller as way_at_controller}
use Rattle.run_headline.proofs.CommandNotes.{OfThese, step_asked, step_open}

-- what began before the first note of a command that is noted has a lower number
abbrev pub InTurn : List Note → Type 0
InTurn log = (op j : ℕ) → is_noted op log ≡ true → is_begun j (before_command op log) ≡ true → j < op

-- a command that was noted before, or a later one than all that were
abbrev IsKnown : List Note → ℕ → ℕ → Type 0
IsKnown log next op = (is_noted op log ≡ true) ⊎ (next ≤ op)

module _ (log notes : List Note) (next : ℕ) (unnoted : (op : ℕ) → next ≤ op → is_noted op log ≡ false) (h : InTurn log) where
  lower : (op : ℕ) → is_begun op log ≡ true → op < next
  lower op on = elim (nat_lt op next) as (λ b. nat_lt op next ≡ b → op < next) [
    | true ↦ λ small. (Decides-ltb op next).0 small
    | false ↦ λ large.
        let none = or_off (is_begun op log) (has_answered op log) (unnoted op (let up : next ≤ op = grind (arith, nat_tests) in up)) in
        let never : true ≡ false = sym on ∙ none.0 in
        cc
  ] refl

  now_noted : (op : ℕ) → is_noted op log ≡ false → is_noted op (log ++ notes) ≡ true → is_noted op notes ≡ true
  now_noted op new noted =
      let off = or_off (is_begun op log) (has_answered op log) new in
      let begun : is_begun op (log ++ notes) ≡ is_begun op notes = has_begun-append (λ k. k == op) log notes ∙ ap (λ b. b || is_begun op notes) off.0 in
      let answered : has_answered op (log ++ notes) ≡ has_answered op notes = has_answered-append op log notes ∙ ap (λ b. b || has_answered op notes) off.1 in
      sym (λ i. begun i || answered i) ∙ noted

  -- further notes
  more : OfThese (IsKnown log next) notes → InTurn (log ++ notes)
  more these op j noted begun = elim (is_noted op log) as (λ b. is_noted op log ≡ b → j < op) [
    | true ↦ λ old. h op j old (sym (ap (is_begun j) (before_kept op log notes old)) ∙ begun)
    | false ↦ λ new.
        let one = these op (now_noted op new noted) in
        let front : before_command op (log ++ notes) ≡ log = before_new op log notes new ∙ ap (λ ns. log ++ ns) one.1 ∙ append-nil log in
        let low = lower j (sym (ap (is_begun j) front) ∙ begun) in
        elim one.0 [
          | inl old ↦ (let never : true ≡ false = sym old ∙ new in cc)
          | inr up ↦ omega (arith, low, up)
        ]
  ] refl

  -- notes of other things
  other : AreOther notes → InTurn (log ++ notes)
  other are = more (λ k on.
      let none : is_noted k notes ≡ false = (λ i. other_not_begun k notes are i || other_not_answered k notes are i) in
      let never : false ≡ true = sym none ∙ on in
      cc)

-- a command comes to the controller from the switch
told_at_controller : {R : Type 0} (f : Semantics R) (g : Given) (p : ℕ) (m : Msg) → Label f g p 1 m → told_in m ≡ (if 0 == p then told_in m else [])
told_at_controller f g p (msg.Asked c) label = let from = label.0 in rw from refl
told_at_controller f g p (msg.InCommand c) label = let never = label.0.1 in cc
told_at_controller f g p m label = sym (neither (0 == p))

module _ {F R : Type 0} (f : Semantics R) (g : Given) (n : ℕ) (count_is : n ≡ count f g + 2) where
  abbrev step : Node F R → ℕ → Msg → Stepped (Node F R) Msg Note
  step = node_step f

  module _ (w : Network (Node F R) Msg Note) (j : Joined f g n w) (b : Busy g w) (h : InTurn w.log) (p : ℕ) (m : Msg) (rest : List Msg) where
    label : (k : ℕ) → Takes step n w k p (node_of j.nodes k) m rest → Label f g p k m
    label k takes = (subst (λ ms. Each (Label f g p k) ms) takes.waits
        (j.labels p k (let c = takes.count in rw c takes.sender) (let c = takes.count in rw c takes.receiver))).0

    left : (k : ℕ) → (takes : Takes step n w k p (node_of j.nodes k) m rest) → Outcome step n w k p (node_of j.nodes k) m rest (world_next step w (at k p))
    left k takes = taken_outcome step n w k p (node_of j.nodes k) m rest takes

    at_switch : Takes step n w 0 p (node_of j.nodes 0) m rest → InTurn (world_next step w (at 0 p)).log
    at_switch takes =
        subst InTurn (sym (left 0 takes).log)
        (other w.log (switch_step j.nodes.switch m).notes b.is.next b.is.unnoted h (switch_hands f g j.nodes.switch p m (label 0 takes)).notes_are)

    at_instance : (i : ℕ) → Takes step n w (suc (suc i)) p (node_of j.nodes (suc (suc i))) m rest → InTurn (world_next step w (at (suc (suc i)) p)).log
    at_instance i takes =
        let k = suc (suc i) in
        subst InTurn (sym (left k takes).log)
        (other w.log (node_step f (node_of j.nodes k) p m).notes b.is.next b.is.unnoted h (instance_says f g k (j.nodes.instance k) m).notes_are)

    -- an open operation was noted
    open_noted : (k : ℕ) → finite.contains_key j.nodes.controller.operations k ≡ true → is_noted k w.log ≡ true
    open_noted k there =
        let parts = and_parts (is_begun k w.log) _ (sym (keeps_is f g n count_is w j b k) ∙ there) in
        rw parts.0 refl

    -- a command that is asked for is later than all that were noted
    first_waits : (c : Command) → m ≡ msg.Asked c → Takes step n w 1 p (node_of j.nodes 1) m rest → b.is.next ≤ c.op
    first_waits c is takes =
        let one : 1 < n = omega (arith, count_is) in
        let after = world_next step w (at 1 p) in
        let same : waits_of w ≡ told_in m ++ waits_of after = way_at_controller told_in step n one w p (node_of j.nodes 1) m rest takes
        (told_at_controller f g p m (label 1 takes)) in
        let up : Rising b.is.next (told_in (msg.Asked c) ++ waits_of after) = subst (λ x. Rising b.is.next (told_in x ++ waits_of after)) is
        (subst (Rising b.is.next) same b.is.rising) in
        up.0

    at_controller : Takes step n w 1 p (node_of j.nodes 1) m rest → InTurn (world_next step w (at 1 p)).log
    at_controller takes =
        subst InTurn (sym (left 1 takes).log)
        (more w.log (controller_step j.nodes.controller p m).notes b.is.next b.is.unnoted h (by_message m refl))
      where
        by_message : (x : Msg) → m ≡ x → OfThese (IsKnown w.log b.is.next) (controller_step j.nodes.controller p x).notes
        by_message (msg.Asked c) is = λ k on.
            let one = step_asked j.nodes.controller c.op p c.what k on in
            let low = first_waits c is takes in
            (inr (subst (λ x. b.is.next ≤ x) (sym one.0) low), one.1)
        by_message x is = λ k on.
            let one = step_open j.nodes.controller (λ op s there. (share_is f g n count_is w j b op s there).op_is) p x (λ c same. cc) k on in
            (inl (open_noted k one.0), one.1)

    in_turn_after : (k : ℕ) → Takes step n w k p (node_of j.nodes k) m rest → InTurn (world_next step w (at k p)).log
    in_turn_after zero takes = at_switch takes
    in_turn_after (suc zero) takes = at_controller takes
    in_turn_after (suc (suc i)) takes = at_instance i takes

  -- a choice of a run
  in_turn_next : (w : Network (Node F R) Msg Note) (c : Choice) → Taking node_ready step n w c → Joined f g n w → Busy g w → InTurn w.log
      → InTurn (world_next step w c).log
  in_turn_next w c t j b h =
      let is : t.node ≡ node_of j.nodes c.node = sym (t.takes.node_is t.node) ∙ j.nodes_are c.node t.takes.receiver t.node in
      in_turn_after w j b h c.port t.message t.rest c.node (subst (λ y. Takes step n w c.node c.port y t.message t.rest) is t.takes)

module _ {F R : Type 0} (setting : Setting F R) where
  open setting use {function as f, config as c}

  abbrev first : Network (Node F R) Msg Note
  first = start setting

  abbrev AllOf : Network (Node F R) Msg Note → Type 0
  AllOf w = Runs setting w × (Busy (given setting) w × InTurn w.log)

  -- of every run
  pub run_in_turn : (cs : List Choice) → IsCourse setting cs → InTurn (world_of setting cs).log
  run_in_turn cs run_is = it.1.1
    where
      it : AllOf (world_of setting cs)
      it = run_induction node_ready (node_step f) (length c.names + 2) (λ _ w. AllOf w) first (λ _ w k next h. (
        runs_next setting w k next.taking h.0,
        (
          busy_next f (given setting) (length c.names + 2) refl w k next.taking h.0.joined h.1.0,
          in_turn_next f (given setting) (length c.names + 2) refl w k next.taking h.0.joined h.1.0 h.1.1,
        ),
      ))
          (start_world setting) (count_at_start setting) (runs_at_start setting, (start_busy setting, λ op j noted. cc)) cs run_is

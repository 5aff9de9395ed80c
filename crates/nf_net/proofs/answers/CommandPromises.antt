-- What the log says of commands, of every run: each begins and is answered once at most, and what it was refused for, or may begin
-- by, was true then.
use Rattle.nf_net.proofs.Words.{◌≡◌, ℕ, ◌+◌, true, false, Option, Some, None, List, [], ◌∷◌, ◌++◌, map, length, refl, sym, ap, ◌∙◌, subst, arith, is_some}
use Rattle.nf_net.proofs.Words.{nat_cmp, Filter, Msg, Note, Choice, Network, queue_at, at, opening_waiting, opening_on_links, Each, Rising, Operation}
use Rattle.nf_net.proofs.Words.{opened_controller, Node, answers_of, is_begun, has_answered, is_share, times_installed, is_item, commands, order_numbered}
use Rattle.nf_net.proofs.Words.{first_nodes, all_each, given, count_at_start, Given, Joined, Order, run_beside, split, Setting, start, IsCourse, world_of}
use Rattle.std.specs.FinMap as finite
use Rattle.net_world.specs.Commands.{Answers}
use Rattle.proof_outlines.proofs.joined.StartJoined.{rising_of}
use Rattle.nf_net.proofs.answers.BusyLemmas.{is_noted, none_answered, or_off}
use Rattle.nf_net.proofs.answers.BusyOperations.{IsBusy}
use Rattle.nf_net.proofs.answers.BusyNodes.{numbers}
use Rattle.nf_net.proofs.answers.BusyRuns.{Busy, waits_of, busy_next}
use Rattle.nf_net.proofs.answers.InstallRuns.{run_installs, installed_once, refused_none_installed, still_installed}
use Rattle.nf_net.proofs.answers.InstallSteps.{is_moving}
use Rattle.nf_net.proofs.answers.MoveSays.{Says}
use Rattle.nf_net.proofs.RunKeeps.{run_keeps}
use Rattle.nf_net.proofs.WeightlessMessages.{each_item}

-- the commands of an input
numbers_in : (items : List Msg) → Each (λ item. is_item item ≡ true) items → map (λ k. k.op) (commands items) ≡ numbers items
numbers_in [] ok = refl
numbers_in (Msg.InCommand c ∷ items) ok = ap (λ ns. c.op ∷ ns) (numbers_in items ok.1)
numbers_in (Msg.InPacket p ∷ items) ok = numbers_in items ok.1
numbers_in (Msg.InSettle ∷ items) ok = numbers_in items ok.1
numbers_in (Msg.InEnd ∷ items) ok = numbers_in items ok.1
numbers_in (m ∷ items) ok = let never : false ≡ true = ok.0 in cc

-- an input says nothing of moves
says_nothing : (g : Given) (items : List Msg) → Each (λ item. is_item item ≡ true) items → Each (Says g 0 0) items
says_nothing g = each_item (Says g 0 0) (λ p. tt) (λ c. tt) tt tt

-- nothing is open, and nothing is noted
busy_at_start : (g : Given) (waits : List ℕ) → Rising 0 waits → IsBusy g finite.empty [] waits
busy_at_start g waits rising = record {
  busy = λ op. ap is_some (none op);
  plan = λ op m there. (let never = sym there ∙ none op in cc);
  outcome = λ op m there. (let never = sym there ∙ none op in cc);
  told = λ op m there. (let never = sym there ∙ none op in cc);
  next = 0;
  rising = rising;
  unnoted = λ op late. refl;
  answered = λ op.
      record { begun_once = omega arith; answered_once = omega arith; causes = λ what a known is. cc; begins = λ what known is. cc; known = λ is. cc };
}
  where
    none : (op : ℕ) → finite.get (finite.empty {X = Operation} {R = nat_cmp}) op ≡ None
    none op = finite.get-empty nat_cmp op

module _ {F R : Type 0} (setting : Setting F R) where
  open setting use {function as f, alloc, config as c, items, is_input as is}

  abbrev g : Given
  g = given setting

  abbrev first : Network (Node F R) Msg Note
  first = start setting

  pub start_busy : Busy {F = F} {R = R} g first
  start_busy =
      let only = all_each (λ item. is_item item ≡ true) items is.only_items in
      let count = count_at_start setting in
      let waits = opening_waiting Note (first_nodes {F = F} {R = R} alloc c) items (omega (arith, count)) in
      let same : map (λ k. k.op) (commands items) ≡ waits_of first = numbers_in items only ∙ ap (λ xs. numbers xs) (sym (waits 0 0))
      ∙ ap (λ xs. numbers xs ++ numbers (queue_at first (at 0 0))) (sym (waits 0 1)) in
      record {
        controller = opened_controller c.names c.site;
        controller_is = λ d. refl;
        is = busy_at_start g (waits_of first) (subst (λ ns. Rising 0 ns) same (rising_of 0 (map (λ k. k.op) (commands items)) is.ops));
        says = opening_on_links Note (first_nodes {F = F} {R = R} alloc c) items (Says g) (omega (arith, count)) (says_nothing g items only);
      }

  -- every run leads to a world of a run in which the open operations are the commands under way
  pub run_busy : (cs : List Choice) → IsCourse setting cs → Joined f g (length c.names + 2) (world_of setting cs) × Busy g (world_of setting cs)
  run_busy cs run_is = (
    (run_beside setting cs run_is).joined,
    run_keeps setting (λ _ w. Busy g w) start_busy
        (λ ds ok d s h. busy_next f g (length c.names + 2) refl (world_of setting ds) d s.taking s.runs.joined h) cs run_is,
  )

  -- and its log says what is promised of commands
  pub run_answers : (cs : List Choice) → IsCourse setting cs → Answers c items (world_of setting cs).log
  run_answers cs run_is =
      let busy = run_busy cs run_is in
      let b = busy.1 in
      let h = run_installs setting cs run_is in
      let w = world_of setting cs in
      record {
        begun_once = λ op. (b.is.answered op).begun_once;
        answered_once = λ op. (b.is.answered op).answered_once;
        causes = λ op. (b.is.answered op).causes;
        begins = λ op. (b.is.answered op).begins;
        installed_once = λ op. installed_once f g (length c.names + 2) refl w busy.0 b h op;
        refused_is_not_installed =
            λ op what answer known is_answered other. refused_none_installed f g (length c.names + 2) refl w busy.0 b h op answer is_answered other;
      }

  -- and nothing of a number that no command has
  pub none_noted : (cs : List Choice) → IsCourse setting cs → (op : ℕ) → order_numbered items op ≡ None
      → (is_begun op (world_of setting cs).log ≡ false) × (answers_of op (world_of setting cs).log ≡ [])
  none_noted cs run_is op none =
      let w = world_of setting cs in
      let busy = run_busy cs run_is in
      let b = busy.1 in
      let known = (b.is.answered op).known in
      let off : is_noted op w.log ≡ false = split (is_noted op w.log) (λ x. x ≡ false)
      (λ is. (let never : false ≡ true = sym (ap is_some none) ∙ known is in cc)) (λ is. refl) in
      let both = or_off (is_begun op w.log) (has_answered op w.log) off in
      (both.0, none_answered op w.log both.1)

  -- and the switch changes no rules for a copy
  pub no_rules : (cs : List Choice) → IsCourse setting cs → (op : ℕ) (source destination : List ℕ) (filter : Option Filter)
      → order_numbered items op ≡ Some (Order.Copy source destination filter) → times_installed op (world_of setting cs).log ≡ 0
  no_rules cs run_is op source destination filter known =
      let busy = run_busy cs run_is in
      still_installed f g (length c.names + 2) refl (world_of setting cs) busy.0 busy.1 (run_installs setting cs run_is) op
      (ap is_moving known) (ap is_share known)

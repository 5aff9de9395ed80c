-- In every run each move that began is answered by its verdict, which is on what its destination held, and on what came, when it took the first
-- piece; a copy or a share that began is done, and each other command is refused.
use Rattle.nf_net.proofs.Words.{◌≡◌, ℕ, ◌+◌, ◌≤◌, Bool, true, false, Some, None, List, [], ◌∷◌, ◌++◌, length, refl, sym, ap, ◌∙◌, subst, arith, nat_cmp, Filter}
use Rattle.nf_net.proofs.Words.{Answer, Order, Piece, Msg, Note, Choice, Network, opening_on_links, opening_weight, total, weigh, Each, Operation}
use Rattle.nf_net.proofs.Words.{opened_controller, unknown_in, InstanceState, Config, Node, is_begun, answers_of, before_command, overlaps, IsCause, MayBegin}
use Rattle.nf_net.proofs.Words.{is_item, order_numbered, course_of, job_of, node_step, node_ready, first_instance, first_nodes, is_refusal, receiver_of}
use Rattle.nf_net.proofs.Words.{count_at_start, all_each, Instance, Verdicts, Setting, start, IsCourse, world_of}
use Rattle.std.specs.FinMap as finite
use Rattle.actor_net.proofs.RunLaws.{run_splits}
use Rattle.net_world.specs.Verdicts.{IsVerdict}
use Rattle.nf_net.proofs.RunWords.{run_answers, is_moving, Said, once, run_keeps, each_item, weighs_nothing}
use Rattle.nf_net.proofs.JudgedTables.{used, used_few}
use Rattle.nf_net.proofs.JudgedFacts.{HasVerdict, IsFound, Was_refused, Was_judged, Was_still}
use Rattle.nf_net.proofs.JudgedWorlds.{judging_next}
use Rattle.nf_net.proofs.JudgedSteps.{Part, Verdict, Goes, Judging, SaidBy, happened}
use Rattle.nf_net.proofs.LiveRuns.{run_lived, lives_number}
use Rattle.proof_outlines.proofs.joined.StartJoined.{instance_found}
use Rattle.nf_net.proofs.VerdictLemmas.{once_taken, times_taken}

-- An input says nothing of moves.
items_said : (P : ℕ → Piece → Type 0) (V : ℕ → Answer → Type 0) (G : ℕ → ℕ → Type 0) (items : List Msg) → Each (λ item. is_item item ≡ true) items
    → Each (Said P V G 0 0) items
items_said P V G = each_item (Said P V G 0 0) (λ p. tt) (λ c. tt) tt tt

items_weigh : (first : Bool) (op : ℕ) (items : List Msg) → Each (λ item. is_item item ≡ true) items → weigh (once first op) items ≡ 0
items_weigh first op items ok = weighs_nothing (λ m. once first op m ≡ 0) (once first op) (λ m e. e) items
    (each_item (λ m. once first op m ≡ 0) (λ p. refl) (λ c. refl) refl refl items ok)

-- what may begin isn't refused
not_both : (c : Config) (items : List Msg) (a : Answer) (what : Order) (log : List Note) → is_refusal a ≡ true
    → MayBegin c.names (order_numbered items) what log → IsCause a (unknown_in c.names what) (overlaps c.names (order_numbered items) what log) → ⊥
not_both c items (Answer.Unknown name) what log refusal may cause = let never = sym may.known ∙ cause in cc
not_both c items (Answer.Overlap op) what log refusal may cause = let never = sym (may.apart op) ∙ cause.1.picked in cc
not_both c items Answer.Done what log refusal may cause = cc
not_both c items (Answer.Import a b d) what log refusal may cause = cc
not_both c items (Answer.Old a b) what log refusal may cause = cc

module _ {F R : Type 0} (setting : Setting F R) where
  open setting use {function as f, alloc, config as c, items, is_input as is}

  same_instance : (a b : InstanceState F R) → ◌≡◌ {A = Node F R} (Instance a) (Instance b) → a ≡ b
  same_instance a b e = ap (instance_in a) e
    where
      instance_in : InstanceState F R → Node F R → InstanceState F R
      instance_in d (Instance i) = i
      instance_in d other = d

  -- nothing is known at the start
  start_judging : Judging setting [] (start setting) []
  start_judging = record {
    controller = opened_controller c.names c.site;
    controller_is = λ d. refl;
    knows = λ op m there. (let never = sym there ∙ finite.get-empty {X = Operation} nat_cmp op in cc);
    says = opening_on_links Note (first_nodes {F = F} {R = R} alloc c) items (SaidBy setting [] [])
        (let count = count_at_start setting in omega (arith, count)) (items_said (Part setting []) (Verdict setting []) (Goes setting) items only);
    found = λ op a e. cc;
    once = λ op first.
        let none = opening_weight Note (first_nodes {F = F} {R = R} alloc c) items (once first op) in
        by_first first op (omega (arith, none, items_weigh first op items only));
    fixed = λ i small s e.
        let own : first_instance alloc c i ≡ s = same_instance (first_instance alloc c i) s
        (sym (instance_found setting (length c.names) i (Instance s) small) ∙ e (Instance s)) in
        record { limit = ap (λ x. x.limit) (sym own); marked = ap (λ x. x.marked) (sym own) };
  }
    where
      only : Each (λ item. is_item item ≡ true) items
      only = all_each (λ item. is_item item ≡ true) items is.only_items

      by_first : (first : Bool) (op : ℕ) → total (once first op) (start setting) ≡ 0 → total (once first op) (start setting) + happened setting first [] [] op
          ≤ used (finite.get (opened_controller c.names c.site).operations op) false first
      by_first true op none = omega (arith, none)
      by_first false op none = omega (arith, none)

  -- every run keeps what is known
  pub run_judging : (cs : List Choice) → IsCourse setting cs → Judging setting cs (world_of setting cs) (world_of setting cs).log
  run_judging = run_keeps setting (λ ds w. Judging setting ds w w.log) start_judging (λ ds ok d s h. judging_next
      setting ds ok s.runs h d.port s.taking.rest d.node s.taking.message s.takes s.taken.label s.labels)

  -- and so its answers are as is promised
  module _ (cs : List Choice) (run_is : IsCourse setting cs) where
    abbrev w : Network (Node F R) Msg Note
    w = world_of setting cs

    h : Judging setting cs w w.log
    h = run_judging cs run_is

    -- what begins a run is one
    is_front : (before after : List Choice) → before ++ after ≡ cs → IsCourse setting before
    is_front before after whole =
        (run_splits node_ready (node_step f) before after (start setting) (subst (λ xs. IsCourse setting xs) (sym whole) run_is)).0

    verdict_of : (op : ℕ) (a : Answer) → HasVerdict f c items (start setting) cs op a → IsVerdict (job_of f c items) (course_of (start setting) cs) op a
    verdict_of op a v = record {
      front = v.front;
      is_taken = v.is_taken;
      once = λ other u. once_taken f op (start setting) cs v.front other few v.is_taken u;
      weighed = v.weighed;
      are_weighed = v.are_weighed;
      at_destination = v.at_destination;
      answer_is = v.answer_is;
      by_history = v.are_weighed.held ∙ sym (lives_number setting v.front
          (is_front v.front (v.is_taken.choice ∷ v.is_taken.back) v.is_taken.whole) v.are_weighed.destination);
    }
      where
        few : times_taken f op cs (start setting) ≤ 1
        few = let most = h.once op true in let one = used_few (finite.get h.controller.operations op) (is_begun op w.log) true in omega (arith, most, one)

    -- what began isn't refused
    not_refused : (op : ℕ) (what : Order) (a : Answer) → order_numbered items op ≡ Some what → is_begun op w.log ≡ true → answers_of op w.log ≡ a ∷ []
        → is_refusal a ≡ true → ⊥
    not_refused op what a known on e refusal =
        let said = run_answers setting cs run_is in
        not_both c items a what (before_command op w.log) refusal (said.begins op what known on) (said.causes op what a known e)

    by_found : (op : ℕ) (source destination : List ℕ) (filter : Filter) (keep : Bool) (a : Answer)
        → order_numbered items op ≡ Some (Order.Move source destination filter keep) → is_begun op w.log ≡ true → answers_of op w.log ≡ a ∷ []
        → IsFound f c items (start setting) cs w.log op a → IsVerdict (job_of f c items) (course_of (start setting) cs) op a
    by_found op source destination filter keep a known on e (Was_refused refusal) =
        absurd (not_refused op (Order.Move source destination filter keep) a known on e refusal)
    by_found op source destination filter keep a known on e (Was_judged begun v) = verdict_of op a v
    by_found op source destination filter keep a known on e (Was_still begun still done) = let never : true ≡ false = ap is_moving (sym known) ∙ still in cc

    -- a command that moves no units and began is done
    still_found : (op : ℕ) (what : Order) (a : Answer) → receiver_of c (Some what) ≡ None → order_numbered items op ≡ Some what → is_begun op w.log ≡ true
        → answers_of op w.log ≡ a ∷ [] → IsFound f c items (start setting) cs w.log op a → a ≡ Answer.Done
    still_found op what a none known on e (Was_refused refusal) = absurd (not_refused op what a known on e refusal)
    still_found op what a none known on e (Was_judged begun v) =
        let never : None ≡ Some v.are_weighed.destination = sym none ∙ ap (receiver_of c) (sym known) ∙ v.are_weighed.destination_is in cc
    still_found op what a none known on e (Was_still begun still done) = done

    refused_by : (op : ℕ) (a : Answer) → is_begun op w.log ≡ false → IsFound f c items (start setting) cs w.log op a → is_refusal a ≡ true
    refused_by op a off (Was_refused refusal) = refusal
    refused_by op a off (Was_judged begun v) = let never = sym begun ∙ off in cc
    refused_by op a off (Was_still begun still done) = let never = sym begun ∙ off in cc

    pub verdicts : Verdicts (job_of f c items) (course_of (start setting) cs)
    verdicts = record {
      judged = λ op source destination filter keep a known on e. by_found op source destination filter keep a known on e (h.found op a e);
      copied = λ op source destination filter a known on e. still_found op (Order.Copy source destination filter) a refl known on e (h.found op a e);
      set_up = λ op members filter a known on e. still_found op (Order.Share members filter) a refl known on e (h.found op a e);
      refused = λ op a off e. refused_by op a off (h.found op a e);
      lives_are = λ before after i unit whole. (run_lived setting before (is_front before after whole)).same i unit;
      lives_number = λ before after i whole. lives_number setting before (is_front before after whole) i;
    }

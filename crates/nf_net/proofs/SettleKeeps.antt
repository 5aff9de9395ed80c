-- Of every run: what is processed came before, and where a packet behind a settle arrives, all commands before the settle are answered.
use Rattle.nf_net.proofs.Words.{◌≡◌, ℕ, zero, suc, ◌+◌, ◌≤◌, Bool, true, Some, List, [], ◌∷◌, ◌++◌, map, length, length-append, append_assoc, refl, sym, ap}
use Rattle.nf_net.proofs.Words.{◌∙◌, subst, arith, if◌then◌else◌, ◌==◌, nat_lt, find, is_some, nat_tests, Decides-ltb, Decides-eqb, map-append, each_map}
use Rattle.nf_net.proofs.Words.{Packet, Output, same_unit_equiv, Command, Msg, Note, Choice, Network, IsRun, run, world_next, queue_at, at, opening_waiting}
use Rattle.nf_net.proofs.Words.{opening_weight, total, switch_step, controller_step, Node, has_answered, commands, arrivals_in, dones_in, done_where, node_step}
use Rattle.nf_net.proofs.Words.{node_ready, unit_numbered, is_of, processed_of, has_packet, first_nodes, first_switch, arrived-append, Joined, Label, node_of}
use Rattle.nf_net.proofs.Words.{Stands, In_first, In_second, stands, switch_unprocessed, controller_uninstalled, uninstalled_unprocessed, given, all_labelled}
use Rattle.nf_net.proofs.Words.{count_at_start, Unit, nowhere, split, either_way, Setting, start}
use Rattle.net_world.specs.Input.{packets}
use Rattle.net_world.specs.Fold.{times}
use Rattle.net_world.proofs.NumberCounts.{times-append}
use Rattle.nf_net.proofs.RunWords.{answering, answered_same, other_not_answered, switch_hands, Busy, busy_next, run_busy, count, run_keeps, RunStep}
use Rattle.nf_net.proofs.answers.ArrivalLemmas.{numbers, InRun, next_in_run, runs_joined}
use Rattle.nf_net.proofs.answers.ArrivalNotes.{controller_notes_none, instance_notes_none}
use Rattle.proof_outlines.proofs.joined.RunsJoined.{once}
use Rattle.nf_net.proofs.paths.PathPromises.{rising_once}
use Rattle.nf_net.proofs.AtMembers.{times_those}
use Rattle.nf_net.proofs.PlaceRuns.{processed_off}
use Rattle.nf_net.proofs.SettleCounts.{AllAnswered, answered_in, all_answered_more, packets-append, longer_end}
use Rattle.nf_net.proofs.SettleSteps.{Counted, items_none}
use Rattle.nf_net.proofs.CountedSteps.{counted_after}

-- a packet among items is one of their numbers
has_times : (p : ℕ) (qs : List Packet) → is_some (find (λ q. q.number == p) qs) ≡ true → 1 ≤ times p (map (λ q. q.number) qs)
has_times p [] h = cc
has_times p (q ∷ qs) h = split (q.number == p)
    (λ b. is_some (if b then Some q else find (λ x. x.number == p) qs) ≡ true → 1 ≤ (if p == q.number then 1 else 0) + times p (map (λ x. x.number) qs))
    (λ on _. (let self : (p == q.number) ≡ true = grind (arith, nat_tests, on) in rw self (omega arith)))
    (λ _ behind. (let rest = has_times p qs behind in omega (arith, rest))) h

-- what was processed went
some_went : (mine : ℕ → Bool) (p i : ℕ) (output : Output) (after : List Note) → mine p ≡ true → (before : List Note)
    → 1 ≤ times p (map (λ d. d.number) (done_where mine (dones_in (before ++ Note.Processed p i output ∷ after))))
some_went mine p i output after own [] = let self : (p == p) ≡ true = grind (arith, nat_tests) in rw (own, self) (omega arith)
some_went mine p i output after own (Note.Processed q k o ∷ before) = split (mine q)
    (λ b. 1 ≤ times p (map (λ d. d.number)
    (if b then record { number = q; instance = k; output = o } ∷ done_where mine
    (dones_in (before ++ Note.Processed p i output ∷ after)) else done_where mine (dones_in (before ++ Note.Processed p i output ∷ after)))))
    (λ _. (let rest = some_went mine p i output after own before in omega (arith, rest))) (λ _. some_went mine p i output after own before)
some_went mine p i output after own (n ∷ before) = some_went mine p i output after own before

-- a packet that arrived
pub record ArrivedIn (log : List Note) (p : ℕ) : Type 0 where
  pub first : List Note
  pub rest : List Note
  pub whole : log ≡ first ++ Note.Arrived p ∷ rest

behind_note : (n : Note) (log : List Note) (p : ℕ) → ArrivedIn log p → ArrivedIn (n ∷ log) p
behind_note n log p r = record { first = n ∷ r.first; rest = r.rest; whole = ap (λ v. n ∷ v) r.whole }

pub arrived_in : (log : List Note) (p : ℕ) → 1 ≤ times p (arrivals_in log) → ArrivedIn log p
arrived_in [] p some = absurd (omega (arith, some))
arrived_in (Note.Arrived k ∷ log) p some =
    split (p == k) (λ b. 1 ≤ (if b then 1 else 0) + times p (arrivals_in log) → ArrivedIn (Note.Arrived k ∷ log) p)
    (λ on _. record { first = []; rest = log; whole = ap (λ q. Note.Arrived q ∷ log) (sym ((Decides-eqb p k).0 on)) })
    (λ _ more. behind_note (Note.Arrived k) log p (arrived_in log p (omega (arith, more)))) some
arrived_in (n ∷ log) p some = behind_note n log p (arrived_in log p some)

arrived_there : (first rest : List Note) (p : ℕ) → 1 ≤ times p (arrivals_in (first ++ Note.Arrived p ∷ rest))
arrived_there first rest p =
    let self : (p == p) ≡ true = grind (arith, nat_tests) in
    let all = ap (times p) (arrived-append first (Note.Arrived p ∷ rest)) ∙ times-append p (arrivals_in first) (arrivals_in (Note.Arrived p ∷ rest)) in
    let one : times p (arrivals_in (Note.Arrived p ∷ rest)) ≡ 1 + times p (arrivals_in rest) = rw self refl in
    omega (arith, all, one)

module _ {F R : Type 0} (setting : Setting F R) where
  open setting use {function as f, alloc, config as c, items, is_input as is}

  abbrev at_start : Network (Node F R) Msg Note
  at_start = start setting

  -- what is processed came before
  abbrev pub CameFirst : List Note → Type 0
  CameFirst log = (before after : List Note) (p i : ℕ) (output : Output) → log ≡ before ++ Note.Processed p i output ∷ after → 1 ≤ times p (arrivals_in before)

  -- where a packet behind a settle arrives, what stands before the settle is answered
  abbrev pub AnsweredBefore : List Note → Type 0
  AnsweredBefore log = (front behind : List Msg) → items ≡ front ++ Msg.InSettle ∷ behind → (before after : List Note) (p : ℕ) → has_packet p behind ≡ true
      → log ≡ before ++ Note.Arrived p ∷ after → AllAnswered (commands front) before

  came_more : (log notes : List Note) → CameFirst log
      → ((before after : List Note) (p i : ℕ) (output : Output) → notes ≡ before ++ Note.Processed p i output ∷ after → 1 ≤ times p (arrivals_in log))
      → CameFirst (log ++ notes)
  came_more log notes old new before after p i output e = by_place (stands log notes before (Note.Processed p i output) after e)
    where
      by_place : Stands log notes (record { before = before; item = Note.Processed p i output; after = after }) → 1 ≤ times p (arrivals_in before)
      by_place (In_first cs here) = old before cs p i output here
      by_place (In_second cs from there) =
          let all = ap (λ l. times p (arrivals_in l)) from ∙ ap (times p) (arrived-append log cs) ∙ times-append p (arrivals_in log) (arrivals_in cs) in
          omega (arith, new cs after p i output there, all)

  answered_later : (log notes : List Note) → AnsweredBefore log → ((front behind : List Msg) → items ≡ front ++ Msg.InSettle ∷ behind
      → (before after : List Note) (p : ℕ) → has_packet p behind ≡ true → notes ≡ before ++ Note.Arrived p ∷ after → AllAnswered (commands front) log)
      → AnsweredBefore (log ++ notes)
  answered_later log notes old new front behind whole before after p has e = by_place (stands log notes before (Note.Arrived p) after e)
    where
      by_place : Stands log notes (record { before = before; item = Note.Arrived p; after = after }) → AllAnswered (commands front) before
      by_place (In_first cs here) = old front behind whole before cs p has here
      by_place (In_second cs from there) =
          subst (AllAnswered (commands front)) (sym from) (all_answered_more (commands front) log cs (new front behind whole cs after p has there))

  -- what a run keeps
  pub record Keeps (w : Network (Node F R) Msg Note) : Type 0 where
    pub counted : Counted items w
    pub came : CameFirst w.log
    pub answered : AnsweredBefore w.log

  -- a packet behind a settle that arrived came after it
  taken_then : (w : Network (Node F R) Msg Note) → arrivals_in w.log ++ numbers (queue_at w (at 0 0)) ≡ numbers items → Counted items w
      → (front behind : List Msg) (p : ℕ) → items ≡ front ++ Msg.InSettle ∷ behind → has_packet p behind ≡ true → 1 ≤ times p (arrivals_in w.log)
      → length (queue_at w (at 0 0)) ≤ length behind
  taken_then w in_turn counted front behind p whole has came = either_way (nat_lt (length behind) (length (queue_at w (at 0 0))))
      (λ on.
      let more = (Decides-ltb (length behind) (length (queue_at w (at 0 0)))).0 on in
      let ends = longer_end counted.took (queue_at w (at 0 0)) front (Msg.InSettle ∷ behind) (sym counted.whole ∙ whole) (omega (arith, more)) in
      let all : times p (numbers (queue_at w (at 0 0))) ≡ times p (numbers ends.0) + times p (numbers behind) = ap (λ ms. times p (numbers ms)) ends.1
      ∙ ap (λ ps. times p (map (λ q. q.number) ps)) (packets-append ends.0 (Msg.InSettle ∷ behind))
      ∙ ap (times p) (map-append (λ q. q.number) (packets ends.0) (packets behind)) ∙ times-append p (numbers ends.0) (numbers behind) in
      let turn = ap (times p) (sym in_turn) ∙ times-append p (arrivals_in w.log) (numbers (queue_at w (at 0 0))) in
      let some = has_times p (packets behind) has in
      absurd (omega (arith, all, turn, rising_once p 0 (numbers items) is.numbers, some, came))) (λ off. grind (arith, nat_tests, off))

  -- a choice of a run
  module _ (w : Network (Node F R) Msg Note) (d : Choice) (s : RunStep setting w d)
      (turn : arrivals_in w.log ++ numbers (queue_at w (at 0 0)) ≡ numbers items) (b : Busy (given setting) w) (h : Keeps w) where
    abbrev j : Joined f (given setting) (length c.names + 2) w
    j = s.runs.joined

    abbrev v : Network (Node F R) Msg Note
    v = world_next (node_step f) w d

    abbrev its_notes : List Note
    its_notes = (node_step f (node_of j.nodes d.node) d.port s.taking.message).notes

    next : InRun setting v
    next = next_in_run setting w d s turn

    counted_next : Counted items v
    counted_next = counted_after setting w j b h.counted d.node d.port s.taking.message s.taking.rest
        (record { takes = s.takes; ready = s.ready; label = s.taken.label; labels = s.labels; input = s.input })
        (busy_next f (given setting) (length c.names + 2) refl w d s.taking j b)

    -- what an instance processes had arrived
    came_before : (q i : ℕ) (output : Output) (before after : List Note) → its_notes ≡ before ++ Note.Processed q i output ∷ after
        → arrivals_in its_notes ≡ [] → 1 ≤ times q (arrivals_in w.log)
    came_before q i output before after e none =
        let u : Unit = unit_numbered c items f.kind q in
        let own : is_of f c items u q ≡ true = same_unit_equiv.refl u in
        let log : v.log ≡ (w.log ++ before) ++ Note.Processed q i output ∷ after = s.log ∙ ap (λ ns. w.log ++ ns) e
        ∙ sym (append_assoc w.log before (Note.Processed q i output ∷ after)) in
        let went_some : 1 ≤ times q (processed_of f c items u v.log) = subst (λ l. 1 ≤ times q (processed_of f c items u l)) (sym log)
        (some_went (is_of f c items u) q i output after own (w.log ++ before)) in
        let same : times q (arrivals_in v.log) ≡ times q (arrivals_in w.log) + 0 = ap (λ l. times q (arrivals_in l)) s.log
        ∙ ap (times q) (arrived-append w.log its_notes) ∙ times-append q (arrivals_in w.log) (arrivals_in its_notes)
        ∙ ap (λ ps. times q (arrivals_in w.log) + times q ps) none in
        omega (arith, went_some, once setting (length c.names + 2) v next.runs.joined u q, times_those (is_of f c items u) q (arrivals_in v.log), same)

    new_came : (k p : ℕ) (m : Msg) → d.node ≡ k → d.port ≡ p → s.taking.message ≡ m → (before after : List Note) (q i : ℕ) (output : Output)
        → (node_step f (node_of j.nodes k) p m).notes ≡ before ++ Note.Processed q i output ∷ after → 1 ≤ times q (arrivals_in w.log)
    new_came zero p m dk dp tm before after q i output e =
        absurd (processed_off before after q i output (switch_step j.nodes.switch m).notes (switch_unprocessed j.nodes.switch m) e)
    new_came (suc zero) p m dk dp tm before after q i output e = absurd (processed_off before after q i output
        (controller_step j.nodes.controller p m).notes (uninstalled_unprocessed _ (controller_uninstalled j.nodes.controller p m)) e)
    new_came (suc (suc y)) p m dk dp tm before after q i output e =
        let same : its_notes ≡ (node_step f (node_of j.nodes (suc (suc y))) p m).notes = ap
        (λ x. (node_step f (node_of j.nodes x) d.port s.taking.message).notes) dk
        ∙ ap (λ x. (node_step f (node_of j.nodes (suc (suc y))) x s.taking.message).notes) dp ∙ ap
        (λ x. (node_step f (node_of j.nodes (suc (suc y))) p x).notes) tm in
        came_before q i output before after (same ∙ e) (ap arrivals_in same ∙ instance_notes_none f (j.nodes.instance (suc (suc y))) m)

    -- a packet that arrives came behind what was taken of the input
    answered_now : (front behind : List Msg) → items ≡ front ++ Msg.InSettle ∷ behind → (before after : List Note) (p : ℕ) → has_packet p behind ≡ true
        → its_notes ≡ before ++ Note.Arrived p ∷ after → AllAnswered (commands front) v.log
    answered_now front behind whole before after p has e =
        let log : v.log ≡ (w.log ++ before) ++ Note.Arrived p ∷ after = s.log ∙ ap (λ ns. w.log ++ ns) e
        ∙ sym (append_assoc w.log before (Note.Arrived p ∷ after)) in
        let came : 1 ≤ times p (arrivals_in v.log) = subst (λ l. 1 ≤ times p (arrivals_in l)) (sym log) (arrived_there (w.log ++ before) after p) in
        counted_next.settled front behind whole (taken_then v next.in_turn counted_next front behind p whole has came)

    none_arrives : (before after : List Note) (p : ℕ) (ns : List Note) → ns ≡ before ++ Note.Arrived p ∷ after → arrivals_in ns ≡ [] → ⊥
    none_arrives before after p ns e none =
        let same = ap (λ l. times p (arrivals_in l)) (sym e) in let zero = ap (times p) none in omega (arith, arrived_there before after p, same, zero)

    new_answered : (k p : ℕ) (m : Msg) → d.node ≡ k → d.port ≡ p → s.taking.message ≡ m → Label f (given setting) p k m → (front behind : List Msg)
        → items ≡ front ++ Msg.InSettle ∷ behind → (before after : List Note) (q : ℕ) → has_packet q behind ≡ true
        → (node_step f (node_of j.nodes k) p m).notes ≡ before ++ Note.Arrived q ∷ after → AllAnswered (commands front) w.log
    new_answered zero p m dk dp tm label front behind whole before after q has e =
        let notes : List Note = (switch_step j.nodes.switch m).notes in
        let same : its_notes ≡ notes = ap (λ x. (node_step f (node_of j.nodes x) d.port s.taking.message).notes) dk
        ∙ ap (λ x. (node_step f (node_of j.nodes 0) x s.taking.message).notes) dp ∙ ap (λ x. (node_step f (node_of j.nodes 0) p x).notes) tm in
        let all : AllAnswered (commands front) (w.log ++ notes) = subst (AllAnswered (commands front)) (s.log ∙ ap (λ ns. w.log ++ ns) same)
        (answered_now front behind whole before after q has (same ∙ e)) in
        each_map {P = (λ x. has_answered x.op (w.log ++ notes) ≡ true)} {Q = (λ x. has_answered x.op w.log ≡ true)}
        (λ x on. sym (answered_same x.op w.log notes (other_not_answered x.op notes (switch_hands f (given setting) j.nodes.switch p m label).notes_are)) ∙ on)
        (commands front) all
    new_answered (suc zero) p m dk dp tm label front behind whole before after q has e =
        absurd (none_arrives before after q (controller_step j.nodes.controller p m).notes e (controller_notes_none j.nodes.controller p m))
    new_answered (suc (suc y)) p m dk dp tm label front behind whole before after q has e =
        absurd (none_arrives before after q (node_step f (node_of j.nodes (suc (suc y))) p m).notes e
        (instance_notes_none f (j.nodes.instance (suc (suc y))) m))

    next_keeps : Keeps v
    next_keeps = record {
      counted = counted_next;
      came = subst CameFirst (sym s.log) (came_more w.log its_notes h.came (new_came d.node d.port s.taking.message refl refl refl));
      answered = subst AnsweredBefore (sym s.log) (answered_later w.log its_notes h.answered
          (new_answered d.node d.port s.taking.message refl refl refl s.taken.label));
    }

  start_keeps : Keeps at_start
  start_keeps =
      let count = count_at_start setting in
      let waits : queue_at at_start (at 0 0) ≡ items = opening_waiting Note (first_nodes {F = F} {R = R} alloc c) items (omega (arith, count)) 0 0 in
      let weight : total answering at_start ≡ 0 = opening_weight Note (first_nodes {F = F} {R = R} alloc c) items answering
      ∙ items_none f (given setting) items (all_labelled setting) in
      record {
        counted = record {
          switch = first_switch c;
          switch_is = λ d. refl;
          took = [];
          whole = sym waits;
          balance = (let same = ap (λ ms. length (commands ms)) waits in let none = none_in (commands items) in omega (arith, same, none, weight));
          settled = λ front behind whole short. (let same = ap length waits in
              let long = ap length whole ∙ length-append front (Msg.InSettle ∷ behind) in absurd (omega (arith, same, long, short)));
        };
        came = λ before after p i output e. absurd (nowhere before after (Note.Processed p i output) e);
        answered = λ front behind whole before after p has e. absurd (nowhere before after (Note.Arrived p) e);
      }
    where
      none_in : (cs : List Command) → answered_in cs [] ≡ 0
      none_in [] = refl
      none_in (x ∷ cs) = let rest = none_in cs in omega (arith, rest)

  pub run_settles : (cs : List Choice) → IsRun node_ready (node_step f) cs at_start → Keeps (run (node_step f) cs at_start)
  run_settles = run_keeps setting (λ _ w. Keeps w) start_keeps (λ ds ok d s. next_keeps (run (node_step f) ds at_start) d s
      (runs_joined setting ds ok).in_turn (run_busy setting ds ok).1)

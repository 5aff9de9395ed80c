-- Each choice of a run keeps that the switch counts the commands that wait for their answer.
use Rattle.nf_net.proofs.Words.{◌≡◌, ◌≢◌, ℕ, zero, suc, ◌+◌, ◌<◌, ◌≤◌, Bool, true, false, List, [], ◌∷◌, ◌++◌, length, length-append, drop, append_assoc, refl}
use Rattle.nf_net.proofs.Words.{sym, ap, ◌∙◌, subst, arith, ◌&&◌, ◌==◌, nat_lt, nat_tests, Decides-eqb, Decides-ltb, Answer, Msg, Note, SwitchState}
use Rattle.nf_net.proofs.Words.{switch_step, takes_in, controller_step, Network, reaches, world_next, queue_at, at, Takes, taken_outcome, less_first, EachSent}
use Rattle.nf_net.proofs.Words.{total, sent_weight, total_after, Node, Switch, has_answered, answers_of, commands, node_step, node_ready, answers_of-append}
use Rattle.nf_net.proofs.Words.{known, Given, Label, Joined, node_of, given, split, Setting}
use Rattle.actor_net.specs.Network.{is_input}
use Rattle.nf_net.proofs.RunWords.{answering, other_not_answered, switch_hands, instance_says, Busy, SaysSo, SaysSo.Neither, SaysSo.Begins, SaysSo.Answers}
use Rattle.nf_net.proofs.RunWords.{controller_acts}
use Rattle.nf_net.proofs.SettleCounts.{answered_in, AllAnswered, all_answered_more, answered_in_same, answered_one, same_ends}
use Rattle.nf_net.proofs.answers.ToldCommands.{some_answers}
use Rattle.nf_net.proofs.SettleSteps.{switch_in, asking, Counted, InputGoes, InputGoes.Stays, InputGoes.Loses, no_answer_to, none_sent, asked_there}
use Rattle.nf_net.proofs.SettleSteps.{switch_counts, few, none_waits}

module _ {F R : Type 0} (setting : Setting F R) where
  open setting use {function as f, config as c, items, is_input as is}

  abbrev g : Given
  g = given setting

  abbrev n : ℕ
  n = length c.names + 2

  reach : reaches n 1 0 ≡ true
  reach = let some = (Decides-ltb 0 n).1 (omega arith) in rw some refl

  module _ (w : Network (Node F R) Msg Note) (j : Joined f g n w) (b : Busy g w) (h : Counted items w) where
    -- a message that a node takes in a run: what comes and what is sent is labelled, and what is left of the input
    pub record TakesInRun (k p : ℕ) (m : Msg) (rest : List Msg) : Type 0 where
      pub takes : Takes (node_step f) n w k p (node_of j.nodes k) m rest
      pub ready : is_input (at k p) ≡ true → node_ready (node_of j.nodes k) m ≡ true
      pub label : Label f g p k m
      pub labels : EachSent (Label f g) k (node_step f (node_of j.nodes k) p m).sends
      pub input : queue_at (world_next (node_step f) w (at k p)) (at 0 0) ≡ less_first ((0 == k) && (0 == p)) (queue_at w (at 0 0))

    module _ (k p : ℕ) (m : Msg) (rest : List Msg) (it : TakesInRun k p m rest) where
      abbrev takes : Takes (node_step f) n w k p (node_of j.nodes k) m rest
      takes = it.takes

      abbrev v : Network (Node F R) Msg Note
      v = world_next (node_step f) w (at k p)

      abbrev notes : List Note
      notes = (node_step f (node_of j.nodes k) p m).notes

      abbrev Is_ready : Type 0
      Is_ready = (k ≡ 0) × (takes_in j.nodes.switch m ≡ true)

      input_goes : InputGoes m (queue_at w (at 0 0)) (queue_at v (at 0 0)) Is_ready
      input_goes = split ((0 == k) && (0 == p))
          (λ t. queue_at v (at 0 0) ≡ less_first t (queue_at w (at 0 0)) → InputGoes m (queue_at w (at 0 0)) (queue_at v (at 0 0)) Is_ready)
          (λ on e.
          let k0 : 0 ≡ k = grind (arith, nat_tests, on) in
          let p0 : 0 ≡ p = grind (arith, nat_tests, on) in
          let waits : queue_at w (at 0 0) ≡ m ∷ rest = ap (λ x. queue_at w (at x 0)) k0 ∙ ap (λ x. queue_at w (at k x)) p0 ∙ takes.waits in
          let behind : queue_at v (at 0 0) ≡ rest = e ∙ ap (λ xs. drop 1 xs) waits in
          Loses (waits ∙ ap (λ xs. m ∷ xs) (sym behind))
          (sym k0, subst (λ x. node_ready (node_of j.nodes x) m ≡ true) (sym k0) (it.ready (rw (← k0, ← p0) refl))))
          (λ off e. Stays e (by_asking (asking m) refl off)) it.input
        where
          by_asking : (a : ℕ) → asking m ≡ a → (0 == k) && (0 == p) ≡ false → asking m ≡ 0
          by_asking zero e off = e
          by_asking (suc a) e off =
              let there = asked_there f g p k m it.label (omega (arith, e)) in
              let never : true ≡ false = rw (there.0, there.1) at off in
              cc

      -- the balance, by what the (node_step f) changes
      balance_after : (s : SwitchState) (more : ℕ) → s.waiting + answering m ≡ h.switch.waiting + asking m → answered_in (commands items) (w.log ++ notes)
          ≡ answered_in (commands items) w.log + more → sent_weight answering n k (node_step f (node_of j.nodes k) p m).sends ≡ more
          → s.waiting + answered_in (commands items) v.log + length (commands (queue_at v (at 0 0))) ≡ length (commands items) + total answering v
      balance_after s more counts answered sent =
          let log = ap (answered_in (commands items)) (taken_outcome (node_step f) n w k p (node_of j.nodes k) m rest takes).log in
          let was = h.balance in
          omega (arith, log, total_after (node_step f) n w k p (node_of j.nodes k) m rest takes answering, input_counts input_goes, was, counts, answered, sent)
        where
          counted : (x : Msg) (xs : List Msg) → length (commands (x ∷ xs)) ≡ asking x + length (commands xs)
          counted (Msg.InCommand d) xs = omega arith
          counted x xs = omega arith

          input_counts : InputGoes m (queue_at w (at 0 0)) (queue_at v (at 0 0)) Is_ready
              → length (commands (queue_at v (at 0 0))) + asking m ≡ length (commands (queue_at w (at 0 0)))
          input_counts (Stays e none) = let same = ap (λ xs. length (commands xs)) e in omega (arith, same, none)
          input_counts (Loses e r) = let same = ap (λ xs. length (commands xs)) e in let more = counted m (queue_at v (at 0 0)) in omega (arith, same, more)

      -- what was taken of the input
      took_after : InputGoes m (queue_at w (at 0 0)) (queue_at v (at 0 0)) Is_ready → (took : List Msg) × (items ≡ took ++ queue_at v (at 0 0))
      took_after (Stays e none) = (h.took, h.whole ∙ ap (λ xs. h.took ++ xs) (sym e))
      took_after (Loses e r) = (h.took ++ m ∷ [], h.whole ∙ ap (λ xs. h.took ++ xs) e ∙ sym (append_assoc h.took (m ∷ []) (queue_at v (at 0 0))))

      -- a settle that is taken
      settled_after : h.switch ≡ j.nodes.switch → InputGoes m (queue_at w (at 0 0)) (queue_at v (at 0 0)) Is_ready → (front behind : List Msg)
          → items ≡ front ++ Msg.InSettle ∷ behind → length (queue_at v (at 0 0)) ≤ length behind → AllAnswered (commands front) v.log
      settled_after same goes front behind whole short = subst (λ l. AllAnswered (commands front) l)
          (sym (taken_outcome (node_step f) n w k p (node_of j.nodes k) m rest takes).log) (all_answered_more (commands front) w.log notes (by_goes goes))
        where
          taken_now : m ∷ queue_at v (at 0 0) ≡ Msg.InSettle ∷ behind → takes_in j.nodes.switch m ≡ true → h.switch.waiting ≡ 0
          taken_now e on =
              let settle : m ≡ Msg.InSettle = cc in
              ap (λ s. s.waiting) same ∙ (Decides-eqb j.nodes.switch.waiting 0).0 (subst (λ x. takes_in j.nodes.switch x ≡ true) settle on)

          by_goes : InputGoes m (queue_at w (at 0 0)) (queue_at v (at 0 0)) Is_ready → AllAnswered (commands front) w.log
          by_goes (Stays e none) = h.settled front behind whole (let less = ap length e in omega (arith, less, short))
          by_goes (Loses e r) = split (nat_lt (length behind) (length (queue_at w (at 0 0)))) (λ _. AllAnswered (commands front) w.log)
              (λ on.
              let more = (Decides-ltb (length behind) (length (queue_at w (at 0 0)))).0 on in
              let ends = same_ends h.took (queue_at w (at 0 0)) front (Msg.InSettle ∷ behind) (sym h.whole ∙ whole) (omega (arith, more, ap length e, short)) in
              subst (λ xs. AllAnswered (commands xs) w.log) ends.0 (none_waits g w b items h (taken_now (sym e ∙ ends.1) r.1)))
              (λ off. (let few : length (queue_at w (at 0 0)) ≤ length behind = grind (arith, nat_tests, off) in h.settled front behind whole few))

    switch_same : 0 < n → h.switch ≡ j.nodes.switch
    switch_same some = ap (switch_in h.switch) (sym (h.switch_is (Switch h.switch)) ∙ j.nodes_are 0 some (Switch h.switch))

    pub counted_after : (k p : ℕ) (m : Msg) (rest : List Msg) (it : TakesInRun k p m rest) → Busy g (world_next (node_step f) w (at k p))
        → Counted items (world_next (node_step f) w (at k p))
    counted_after zero p m rest it after =
        let s = j.nodes.switch in
        let same = switch_same it.takes.some in
        let goes = input_goes 0 p m rest it in
        let took = took_after 0 p m rest it goes in
        let sent = none_sent f g n 0 (switch_step s m).sends (λ never. cc) it.labels in
        let weight = total_after (node_step f) n w 0 p (node_of j.nodes 0) m rest it.takes answering in
        let was = h.balance in
        let counts = switch_counts f g s m (asked_ready goes) (let e = ap (λ x. x.waiting) same in omega (arith, e, sent, weight, few g w b items h, was)) in
        record {
          switch = (switch_step s m).node;
          switch_is = (taken_outcome (node_step f) n w 0 p (node_of j.nodes 0) m rest it.takes).own;
          took = took.0;
          whole = took.1;
          balance = balance_after 0 p m rest it (switch_step s m).node 0 (counts ∙ ap (λ x. x.waiting + asking m) (sym same))
              (let stays = answered_in_same (commands items) w.log (switch_step s m).notes
              (λ op. other_not_answered op (switch_step s m).notes (switch_hands f g s p m it.label).notes_are) in
              omega (arith, stays)) sent;
          settled = settled_after 0 p m rest it same goes;
        }
      where
        asked_ready : InputGoes m (queue_at w (at 0 0)) (queue_at (world_next (node_step f) w (at 0 p)) (at 0 0)) (Is_ready 0 p m rest it) → 1 ≤ asking m
            → takes_in j.nodes.switch m ≡ true
        asked_ready (Stays e none) some = absurd (omega (arith, none, some))
        asked_ready (Loses e r) some = r.1
    counted_after (suc zero) p m rest it after =
        let t = j.nodes.controller in
        let goes = input_goes 1 p m rest it in
        let took = took_after 1 p m rest it goes in
        let left = taken_outcome (node_step f) n w 1 p (node_of j.nodes 1) m rest it.takes in
        let labelled_is = it.label in
        let acts = controller_acts g n reach t (known f g t j.world.ops j.world.shares j.world.next j.shown_is.controller) f p m labelled_is in
        record {
          switch = h.switch;
          switch_is = λ d. left.others 0 d (omega arith) ∙ h.switch_is d;
          took = took.0;
          whole = took.1;
          balance = by_says acts.says (omega (arith, no_answer_to f g p 1 m (omega arith) labelled_is, not_asked goes));
          settled = settled_after 1 p m rest it (switch_same it.takes.some) goes;
        }
      where
        not_asked : InputGoes m (queue_at w (at 0 0)) (queue_at (world_next (node_step f) w (at 1 p)) (at 0 0)) (Is_ready 1 p m rest it) → asking m ≡ 0
        not_asked (Stays e none) = none
        not_asked (Loses e r) = let never = r.0 in cc

        stays_by : (ns : List Note) → (controller_step j.nodes.controller p m).notes ≡ ns → ((op : ℕ) → has_answered op ns ≡ false)
            → answered_in (commands items) (w.log ++ (controller_step j.nodes.controller p m).notes) ≡ answered_in (commands items) w.log + 0
        stays_by ns e none = let same = ap (λ xs. answered_in (commands items) (w.log ++ xs)) e in
            let stays = answered_in_same (commands items) w.log ns none in omega (arith, same, stays)

        -- a command is answered once
        unanswered_before : (op : ℕ) (a : Answer) → (controller_step j.nodes.controller p m).notes ≡ Note.Answered op a ∷ [] → (q : Bool)
            → has_answered op w.log ≡ q → has_answered op w.log ≡ false
        unanswered_before op a e false is = is
        unanswered_before op a e true is =
            let self : (op == op) ≡ true = grind (arith, nat_tests) in
            let log : (world_next (node_step f) w (at 1 p)).log ≡ w.log ++ Note.Answered op a ∷ [] =
            (taken_outcome (node_step f) n w 1 p (node_of j.nodes 1) m rest it.takes).log
            ∙ ap (λ ns. w.log ++ ns) e in
            let one : length (answers_of op (Note.Answered op a ∷ [])) ≡ 1 = rw self refl in
            let both = ap (λ l. length (answers_of op l)) log ∙ ap length (answers_of-append op w.log (Note.Answered op a ∷ []))
            ∙ length-append (answers_of op w.log) (answers_of op (Note.Answered op a ∷ [])) in
            absurd (omega (arith, one, both, some_answers op w.log is, (after.is.answered op).answered_once))

        by_says : SaysSo g n reach j.nodes.controller (controller_step j.nodes.controller p m) → h.switch.waiting + answering m ≡ h.switch.waiting + asking m
            → h.switch.waiting + answered_in (commands items) (world_next (node_step f) w (at 1 p)).log
            + length (commands (queue_at (world_next (node_step f) w (at 1 p)) (at 0 0))) ≡ length (commands items) + total answering
            (world_next (node_step f) w (at 1 p))
        by_says (Neither e sent) counts = balance_after 1 p m rest it h.switch 0 counts (stays_by [] e (λ op. refl)) sent
        by_says (Begins op e sent closed) counts = balance_after 1 p m rest it h.switch 0 counts (stays_by (Note.Begun op ∷ []) e (λ k. refl)) sent
        by_says (Answers op a what e sent known early) counts = balance_after 1 p m rest it h.switch 1 counts
            (ap (λ ns. answered_in (commands items) (w.log ++ ns)) e
            ∙ answered_one op a what w.log (unanswered_before op a e (has_answered op w.log) refl) 0 (commands items) is.ops known) sent
    counted_after (suc (suc i)) p m rest it after =
        let k : ℕ = suc (suc i) in
        let goes = input_goes k p m rest it in
        let took = took_after k p m rest it goes in
        let left = taken_outcome (node_step f) n w k p (node_of j.nodes k) m rest it.takes in
        let other : k ≢ 1 = (λ never. absurd (omega (arith, never))) in
        let sent = none_sent f g n k (node_step f (node_of j.nodes k) p m).sends other it.labels in
        let asked = not_asked goes in
        let stays = answered_in_same (commands items) w.log (node_step f (node_of j.nodes k) p m).notes
        (λ op. other_not_answered op (node_step f (node_of j.nodes k) p m).notes (instance_says f g k (j.nodes.instance k) m).notes_are) in
        record {
          switch = h.switch;
          switch_is = λ d. left.others 0 d (λ never. cc) ∙ h.switch_is d;
          took = took.0;
          whole = took.1;
          balance = balance_after k p m rest it h.switch 0 (omega (arith, no_answer_to f g p k m (omega arith) it.label, asked)) (omega (arith, stays)) sent;
          settled = settled_after k p m rest it (switch_same it.takes.some) goes;
        }
      where
        not_asked : InputGoes m (queue_at w (at 0 0)) (queue_at (world_next (node_step f) w (at (suc (suc i)) p)) (at 0 0)) (Is_ready (suc (suc i)) p m rest it)
            → asking m ≡ 0
        not_asked (Stays e none) = none
        not_asked (Loses e r) = let never = r.0 in cc

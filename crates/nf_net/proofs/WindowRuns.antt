-- Every run keeps the window, and a complete one has all cells at home.
use Rattle.nf_net.proofs.Words.{◌≡◌, ℕ, zero, suc, ◌+◌, ◌≤◌, Bool, true, false, Some, List, [], ◌∷◌, length, length-append, get_or, refl, sym, ap, ◌∙◌, subst}
use Rattle.nf_net.proofs.Words.{arith, ◌==◌, ◌&&◌, flat_map, nat_tests, Decides-eqb, slice_get-get_or, Semantics, Msg, Note, SwitchState, switch_step, Choice}
use Rattle.nf_net.proofs.Words.{Network, is_done, reaches, world_next, at, Takes, taken_outcome, opening_weight, done_node, done_weight, EachSent, weigh, total}
use Rattle.nf_net.proofs.Words.{sent_weight, total_after, Each, Node, Switch, arrivals_in, dones_in, node_step, node_ended, first_nodes, first_switch, on_links}
use Rattle.nf_net.proofs.Words.{AllHome, arrived-append, done-append, given, all_labelled, Given, Label, Joined, node_of, run_beside, Setting, start, IsCourse}
use Rattle.nf_net.proofs.Words.{world_of}
use Rattle.net_world.specs.Window.{Window, homeward, switch_in, switch_of}
use Rattle.nf_net.proofs.answers.CreditCounts.{credit, no_credit_from, no_credit_to, none_sent, instance_is}
use Rattle.nf_net.proofs.answers.ArrivalNotes.{controller_notes_none, instance_notes_none}
use Rattle.nf_net.proofs.WindowSteps.{switch_counts}
use Rattle.nf_net.proofs.PacketCounts.{few_done}
use Rattle.nf_net.proofs.AnsweredNotes.{controller_none}
use Rattle.nf_net.proofs.RunWords.{run_keeps, after_world, weighs_nothing}

-- what holds of the switch and the log of each world of a run
pub record InWindow (window : ℕ) {F R : Type 0} (w : Network (Node F R) Msg Note) : Type 0 where
  pub switch : SwitchState
  pub there : (d : Node F R) → get_or w.nodes 0 d ≡ Switch switch
  pub cells : switch.pool.cells ≡ window
  pub home : switch.flying + switch.pool.home ≡ window
  pub balance : length (dones_in w.log) + switch.flying ≡ length (arrivals_in w.log) + total credit w

module _ {F R : Type 0} (f : Semantics R) (g : Given) (n : ℕ) (window : ℕ) where
  -- the log and the credits after a (node_step f)
  balance_after : (w : Network (Node F R) Msg Note) (k p : ℕ) (node : Node F R) (m : Msg) (rest : List Msg) (takes : Takes (node_step f) n w k p node m rest)
      (before after : ℕ)
      → length (dones_in w.log) + before ≡ length (arrivals_in w.log) + total credit w → after + credit m + length (dones_in (node_step f node p m).notes)
      ≡ before + length (arrivals_in (node_step f node p m).notes) + sent_weight credit n k (node_step f node p m).sends
      → length (dones_in (world_next (node_step f) w (at k p)).log) + after
      ≡ length (arrivals_in (world_next (node_step f) w (at k p)).log) + total credit (world_next (node_step f) w (at k p))
  balance_after w k p node m rest takes before after balance changes =
      let left = taken_outcome (node_step f) n w k p node m rest takes in
      let notes = (node_step f node p m).notes in
      let went : length (dones_in (world_next (node_step f) w (at k p)).log) ≡ length (dones_in w.log) + length (dones_in notes) =
      ap (λ v. length (dones_in v)) left.log ∙ ap length (done-append w.log notes) ∙ length-append (dones_in w.log) (dones_in notes) in
      let came : length (arrivals_in (world_next (node_step f) w (at k p)).log) ≡ length (arrivals_in w.log) + length (arrivals_in notes) =
      ap (λ v. length (arrivals_in v)) left.log ∙ ap length (arrived-append w.log notes) ∙ length-append (arrivals_in w.log) (arrivals_in notes) in
      omega (arith, balance, changes, total_after (node_step f) n w k p node m rest takes credit, went, came)

  window_after : (w : Network (Node F R) Msg Note) (k p : ℕ) (m : Msg) (rest : List Msg) (j : Joined f g n w)
      (takes : Takes (node_step f) n w k p (node_of j.nodes k) m rest)
      → Label f g p k m → EachSent (Label f g) k (node_step f (node_of j.nodes k) p m).sends → length (dones_in w.log) ≤ length (arrivals_in w.log)
      → InWindow window w → InWindow window (world_next (node_step f) w (at k p))
  window_after w zero p m rest j takes labelled labels few h =
      let s = j.nodes.switch in
      let left = taken_outcome (node_step f) n w 0 p (Switch s) m rest takes in
      let sent : sent_weight credit n 0 (switch_step s m).sends ≡ 0 = none_sent f g n 0 (switch_step s m).sends (omega arith) labels in
      let is : Switch h.switch ≡ Switch s = sym (h.there (Switch h.switch)) ∙ j.nodes_are 0 takes.some (Switch h.switch) in
      let same : h.switch ≡ s = cc in
      let balance : length (dones_in w.log) + s.flying ≡ length (arrivals_in w.log) + total credit w =
      ap (λ x. length (dones_in w.log) + x.flying) (sym same) ∙ h.balance in
      let did = switch_counts window s (ap (λ x. x.pool.cells) (sym same) ∙ h.cells) (ap (λ x. x.flying + x.pool.home) (sym same) ∙ h.home) m (λ cell e.
      let comes : Label f g p 0 (Msg.Credit cell) = subst (λ a. Label f g p 0 a) e labelled in
      let one : credit m ≡ 1 = ap credit e in
      (comes.2 ∙ sym j.shown_is.switch.pool, omega (arith, few, balance, total_after (node_step f) n w 0 p (Switch s) m rest takes credit, sent, one))) in
      let went = ap length did.went in
      record {
        switch = (switch_step s m).node;
        there = left.own;
        cells = did.cells;
        home = did.home;
        balance = balance_after w 0 p (Switch s) m rest takes s.flying (switch_step s m).node.flying balance (omega (arith, did.flying, went, sent));
      }
  window_after w (suc zero) p m rest j takes labelled labels few h =
      let left = taken_outcome (node_step f) n w 1 p (node_of j.nodes 1) m rest takes in
      let none = no_credit_to f g p 1 m (omega arith) labelled in
      let sent = none_sent f g n 1 (node_step f (node_of j.nodes 1) p m).sends (omega arith) labels in
      let came = ap length (controller_notes_none j.nodes.controller p m) in
      let went = ap length (controller_none j.nodes.controller p m) in
      record {
        switch = h.switch;
        there = λ d. left.others 0 d (omega arith) ∙ h.there d;
        cells = h.cells;
        home = h.home;
        balance = balance_after w 1 p (node_of j.nodes 1) m rest takes h.switch.flying h.switch.flying h.balance (omega (arith, none, sent, came, went));
      }
  window_after w (suc (suc i)) p m rest j takes labelled labels few h =
      let k : ℕ = suc (suc i) in
      let instance = j.nodes.instance k in
      let left = taken_outcome (node_step f) n w k p (node_of j.nodes k) m rest takes in
      let none = no_credit_to f g p k m (omega arith) labelled in
      let reach : reaches n k 0 ≡ true = grind (arith, nat_tests, takes.some) in
      let came = ap length (instance_notes_none f instance m) in
      let even = instance_is f n k reach instance m in
      record {
        switch = h.switch;
        there = λ d. left.others 0 d (omega arith) ∙ h.there d;
        cells = h.cells;
        home = h.home;
        balance = balance_after w k p (node_of j.nodes k) m rest takes h.switch.flying h.switch.flying h.balance (omega (arith, none, came, even));
      }

-- what messages weigh as cells that go home is how many these are
weigh_link : (ms : List Msg) → weigh credit ms ≡ length (flat_map homeward ms)
weigh_link [] = refl
weigh_link (Msg.Credit cell ∷ ms) = let rest = weigh_link ms in omega (arith, rest)
weigh_link (m ∷ ms) = let rest = weigh_link ms in omega (arith, rest)

weigh_links : (links : List (List Msg)) → weigh (weigh credit) links ≡ length (flat_map (flat_map homeward) links)
weigh_links [] = refl
weigh_links (ms ∷ links) = omega (arith, weigh_link ms, weigh_links links, length-append (flat_map homeward ms) (flat_map (flat_map homeward) links))

-- an input has no credits
pub items_none : {R : Type 0} (f : Semantics R) (g : Given) (items : List Msg) → Each (Label f g 0 0) items → weigh credit items ≡ 0
items_none f g = weighs_nothing (Label f g 0 0) credit (λ m. no_credit_from f g 0 0 m (omega arith))

module _ {F R : Type 0} (setting : Setting F R) where
  open setting use {function as f, alloc, config as c, items}

  abbrev first : Network (Node F R) Msg Note
  first = start setting

  window_at_start : InWindow c.window first
  window_at_start = record {
    switch = first_switch c;
    there = λ d. refl;
    cells = refl;
    home = omega arith;
    balance = let none = opening_weight Note (first_nodes {F = F} {R = R} alloc c) items credit in
        let given_none = items_none f (given setting) items (all_labelled setting) in omega (arith, none, given_none);
  }

  pub in_window : (cs : List Choice) → IsCourse setting cs → InWindow c.window (world_of setting cs)
  in_window = run_keeps setting (λ _ w. InWindow c.window w) window_at_start (λ ds ok d s. window_after f (given setting) (length c.names + 2) c.window
      (world_of setting ds) d.node d.port s.taking.message s.taking.rest s.runs.joined s.takes s.taken.label s.labels
      (few_done setting (length c.names + 2) (world_of setting ds) s.runs.joined))

  -- cells go home on links alone
  credits_are : (cs : List Choice) (run_is : IsCourse setting cs) → total credit (world_of setting cs) ≡ length (on_links (world_of setting cs) homeward)
  credits_are cs run_is =
      let w = world_of setting cs in
      let j = (run_beside setting cs run_is).joined in
      let count = (after_world setting cs run_is).1 in
      let none = items_none f (given setting) w.input (j.labels 0 0 (omega (arith, count)) (omega (arith, count))) in
      omega (arith, none, weigh_links w.links)

  switch_there : (cs : List Choice) (run_is : IsCourse setting cs) → switch_of (world_of setting cs) ≡ Some (in_window cs run_is).switch
  switch_there cs run_is =
      let h = in_window cs run_is in
      ap switch_in (slice_get-get_or (world_of setting cs).nodes 0 (Switch h.switch) (omega (arith, (after_world setting cs run_is).1)))
      ∙ ap (λ d. switch_in (Some d)) (h.there (Switch h.switch))

  -- every run keeps the window
  pub window_kept : (cs : List Choice) → IsCourse setting cs → Window c (world_of setting cs)
  window_kept cs run_is =
      let h = in_window cs run_is in
      record {
        under_way = let balance = h.balance in let home = h.home in omega (arith, balance, home);
        switch = h.switch;
        switch_is = switch_there cs run_is;
        cells = h.home;
        balance = h.balance ∙ ap (λ k. length (arrivals_in (world_of setting cs).log) + k) (credits_are cs run_is);
      }

  -- and a complete one has all cells at home
  pub all_home : (cs : List Choice) → IsCourse setting cs → is_done node_ended (world_of setting cs) ≡ true → AllHome c (world_of setting cs)
  all_home cs run_is complete =
      let w = world_of setting cs in
      let h = in_window cs run_is in
      let ended : node_ended {F = F} {R = R} (Switch h.switch) ≡ true = ap node_ended (sym (h.there (Switch h.switch)))
      ∙ done_node node_ended w complete 0 (Switch h.switch) (omega (arith, (after_world setting cs run_is).1)) in
      let landed : h.switch.flying ≡ 0 = grounded h.switch.closed h.switch.flying ended in
      record {
        none_under_way = let balance = h.balance in omega (arith, balance, landed, done_weight node_ended w complete credit);
        switch = h.switch;
        switch_is = switch_there cs run_is;
        cells = let home = h.home in omega (arith, home, landed);
      }
    where
      grounded : (closed : Bool) (flying : ℕ) → closed && (flying == 0) ≡ true → flying ≡ 0
      grounded true flying e = (Decides-eqb flying 0).0 e
      grounded false flying e = cc

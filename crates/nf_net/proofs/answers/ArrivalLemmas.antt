-- The switch takes the packets of the input in their order: those that arrived and those that wait are those that were given. This
-- holds of each world of a run, beside what holds of it as one (`runs_joined`).
use Rattle.nf_net.proofs.Words.{◌≡◌, ℕ, zero, suc, ◌+◌, true, false, List, [], ◌∷◌, ◌++◌, map, length, drop, append_assoc, refl, sym, ap, ◌∙◌, arith}
use Rattle.nf_net.proofs.Words.{if◌then◌else◌, ◌&&◌, ◌==◌, unwrap_or, nat_tests, Packet, Semantics, Target, Msg, Note, SwitchState, has_room, is_there}
use Rattle.nf_net.proofs.Words.{target_of, Choice, Network, world_next, queue_at, at, opening_waiting, less_first, Node, arrivals_in, node_step, IsFront}
use Rattle.nf_net.proofs.Words.{first_nodes, Given, node_of, Scene, AreShown, IsTaken, given, arrived-append, flow_of, Runs, run_beside, runs_next, split}
use Rattle.nf_net.proofs.Words.{Setting, IsCourse, world_of}
use Rattle.switch_rules.specs.Rules.{first_match}
use Rattle.switch_node.specs.Switch.{still, goes_to, on_packet}
use Rattle.net_world.specs.Input.{packets}
use Rattle.nf_net.proofs.answers.ArrivalNotes.{is_packet, switch_notes_none, controller_notes_none, instance_notes_none}
use Rattle.proof_outlines.proofs.whole.SwitchAll.{GoesToTarget}
use Rattle.net_world.proofs.StartingLemmas.{few_nodes}
use Rattle.nf_net.proofs.RunKeeps.{RunStep, run_keeps}

-- the numbers of an input's packets
abbrev pub numbers : List Msg → List ℕ
numbers ms = map (λ p. p.number) (packets ms)

not_packet : (m : Msg) (items : List Msg) → is_packet m ≡ false → numbers items ≡ numbers (m ∷ items)
not_packet (Msg.InPacket q) items e = cc
not_packet m items e = refl

-- a packet arrives wherever it goes on to
goes_on : (s : SwitchState) (q : Packet) (t : Target) → is_there s t ≡ true → arrivals_in (goes_to s q t).notes ≡ q.number ∷ []
goes_on s q Target.Controller there = refl
goes_on s q (Target.Instance i) there = rw there refl

module _ {F R : Type 0} (f : Semantics R) (g : Given) (n : ℕ) (x : Scene F f g) where
  -- what a step notes of arrivals, and the packets that are left: those before it
  abbrev Turns : ℕ → ℕ → Msg → Type 0
  Turns k p m = arrivals_in (node_step f (node_of x.nodes k) p m).notes ++ numbers (less_first ((0 == k) && (0 == p)) x.input) ≡ numbers x.input

  packet_turn : (q : Packet) (p : ℕ) → p ≡ 0 → AreShown f g n x → IsTaken f g n x (record { node = 0; port = p; message = Msg.InPacket q })
      → Turns 0 p (Msg.InPacket q)
  packet_turn q p p0 are is =
      let s : SwitchState = x.nodes.switch in
      let genuine = is.label.1 in
      let o : GoesToTarget f.kind s x.world.target (flow_of g.site q).0 = are.switch.routes (flow_of g.site q).0 genuine.fits in
      let room : has_room s ≡ true = is.ready p0 refl in
      let found : target_of s q ≡ o.target = ap (λ z. unwrap_or (first_match s.rules (flow_of z q).0) (Target.Instance 0)) are.switch.site
      ∙ ap (λ z. unwrap_or z (Target.Instance 0)) o.first in
      let noted : arrivals_in (on_packet s q).notes ≡ q.number ∷ [] = ap (λ b. arrivals_in (if b then goes_to s q (target_of s q) else still s).notes) room
      ∙ ap (λ t. arrivals_in (goes_to s q t).notes) found ∙ goes_on s q o.target o.there in
      let waits = is.item p0 refl in
      ap (λ ns. ns ++ numbers (less_first ((0 == 0) && (0 == p)) x.input)) noted ∙ ap (λ k. q.number ∷ numbers (less_first (0 == k) x.input)) p0
      ∙ ap (λ xs. q.number ∷ numbers (drop 1 xs)) waits ∙ sym (ap numbers waits)

  other_turn : (m : Msg) (p : ℕ) → is_packet m ≡ false → IsTaken f g n x (record { node = 0; port = p; message = m }) → Turns 0 p m
  other_turn m p off is =
      ap (λ v. v ++ numbers (less_first (0 == p) x.input)) (switch_notes_none x.nodes.switch m off)
      ∙ split (0 == p) (λ b. numbers (less_first b x.input) ≡ numbers x.input)
      (λ e. let waits : x.input ≡ m ∷ is.items = is.item (grind (arith, nat_tests, e)) refl in
      ap (λ xs. numbers (drop 1 xs)) waits ∙ not_packet m is.items off ∙ sym (ap numbers waits)) (λ _. refl)

  switch_turn : (m : Msg) (p : ℕ) → AreShown f g n x → IsTaken f g n x (record { node = 0; port = p; message = m }) → Turns 0 p m
  switch_turn (Msg.InPacket q) p are is = packet_turn q p is.label.0.0 are is
  switch_turn m p are is = other_turn m p refl is

  turns : (k p : ℕ) (m : Msg) → AreShown f g n x → IsTaken f g n x (record { node = k; port = p; message = m }) → Turns k p m
  turns zero p m are is = switch_turn m p are is
  turns (suc zero) p m are is = ap (λ v. v ++ numbers x.input) (controller_notes_none x.nodes.controller p m)
  turns (suc (suc i)) p m are is =
      let off : (0 == suc (suc i)) ≡ false = grind (arith, nat_tests) in
      rw off (ap (λ v. v ++ numbers x.input) (instance_notes_none f (x.nodes.instance (suc (suc i))) m))

module _ {F R : Type 0} (setting : Setting F R) where
  open setting use {function as f, alloc, config as c, items, is_input as is}

  -- those that arrived and those that wait are those that were given
  abbrev InTurn : Network (Node F R) Msg Note → Type 0
  InTurn w = arrivals_in w.log ++ numbers (queue_at w (at 0 0)) ≡ numbers items

  -- what holds of each world of a run
  pub record InRun (w : Network (Node F R) Msg Note) : Type 0 where
    pub runs : Runs setting w
    pub in_turn : arrivals_in w.log ++ numbers (queue_at w (at 0 0)) ≡ numbers items

  module _ (w : Network (Node F R) Msg Note) (d : Choice) (s : RunStep setting w d) (h : InTurn w) where
    abbrev notes : List Note
    notes = (node_step f (node_of s.runs.joined.nodes d.node) d.port s.taking.message).notes

    turn_after : InTurn (world_next (node_step f) w d)
    turn_after =
        ap (λ l. arrivals_in l ++ numbers (queue_at (world_next (node_step f) w d) (at 0 0))) s.log
        ∙ ap (λ xs. arrivals_in (w.log ++ notes) ++ numbers xs) s.input
        ∙ ap (λ v. v ++ numbers (less_first ((0 == d.node) && (0 == d.port)) (queue_at w (at 0 0)))) (arrived-append w.log notes)
        ∙ append_assoc (arrivals_in w.log) (arrivals_in notes) (numbers (less_first ((0 == d.node) && (0 == d.port)) (queue_at w (at 0 0))))
        ∙ ap (λ v. arrivals_in w.log ++ v) (turns f (given setting) (length c.names + 2) _ d.node d.port s.taking.message s.runs.joined.shown_is s.taken) ∙ h

    pub next_in_run : InRun (world_next (node_step f) w d)
    next_in_run = record { runs = runs_next setting w d s.taking s.runs; in_turn = turn_after }

  pub runs_joined : (cs : List Choice) → IsCourse setting cs → InRun (world_of setting cs)
  runs_joined cs ok = record {
    runs = run_beside setting cs ok;
    in_turn = run_keeps setting (λ _ w. InTurn w) (ap numbers (opening_waiting Note (first_nodes {F = F} {R = R} alloc c) items
        (few_nodes {F = F} {R = R} alloc c (first_nodes alloc c) is.is_config refl).0 0 0)) (λ ds so d s. turn_after (world_of setting ds) d s)
        cs ok;
  }

  -- the switch takes the packets of the input in their order
  pub arrivals_run : (cs : List Choice) → IsCourse setting cs → IsFront (arrivals_in (world_of setting cs).log) (numbers items)
  arrivals_run cs ok = record { rest = numbers (queue_at (world_of setting cs) (at 0 0)); whole = (runs_joined cs ok).in_turn }

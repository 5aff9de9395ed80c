-- The moves of a run send few pieces: each command streams at most once, and then at most the chunks of as many units as there are packets.
use Rattle.nf_net.proofs.Words.{◌≡◌, ℕ, zero, suc, ◌+◌, ◌*◌, ◌<◌, ◌≤◌, true, false, List, [], ◌∷◌, ◌++◌, length, refl, arith, ◌/◌, Global, mul-suc, Filter}
use Rattle.nf_net.proofs.Words.{Semantics, Msg, Note, Choice, Network, Stepped, IsRun, run, world_next, at, Takes, weigh, total, total_after, nodes_after}
use Rattle.nf_net.proofs.Words.{pieces, selected_chunks, Config, Node, Controller, is_item, commands, node_step, node_ready, started_with, all_each, Each}
use Rattle.nf_net.proofs.Words.{Given, Joined, node_of, given, pieces_among, pieces_sent, most_pieces, Setting, start}
use Rattle.std.proofs.Math.Nat.{mul_comm}
use Rattle.actor_net.proofs.WeightLaws.{log_after}
use Rattle.instance_worker.proofs.PieceLemmas.{few_selected}
use Rattle.net_world.specs.Input.{packets}
use Rattle.nf_net.proofs.length.MapWeights.{empty_weighs}
use Rattle.nf_net.proofs.length.SentWeights.{few_sent, start_weight}
use Rattle.nf_net.proofs.length.Chances.{chance, spent_parts, arrival, uses, of_operation, of_controller, arrivals_weigh}
use Rattle.nf_net.proofs.length.PieceSwitch.{switch_uses}
use Rattle.nf_net.proofs.length.PieceController.{controller_uses}
use Rattle.nf_net.proofs.length.PieceInstances.{few_pieces, instance_uses, streamed_few}
use Rattle.nf_net.proofs.length.LiveUnits.{live_few}
use Rattle.nf_net.proofs.length.RunLength.{pieces_next}
use Rattle.nf_net.proofs.RunKeeps.{RunStep, run_keeps, count}

module _ {F R : Type 0} (a k : ℕ) where
  -- a node, and a world with its log
  abbrev node_chances : Node F R → ℕ
  node_chances (Controller c) = of_controller a k c
  node_chances node = 0

  abbrev world_chances : Network (Node F R) Msg Note → ℕ
  world_chances w = total (chance a k) w + weigh node_chances w.nodes + weigh (arrival a k) w.log

  -- what a step uses and leaves is what there was, and perhaps more
  abbrev Uses : Node F R → Msg → Stepped (Node F R) Msg Note → ℕ → Type 0
  Uses node m did more = uses a k did + node_chances did.node ≤ node_chances node + chance a k m + more

module _ {F R : Type 0} (f : Semantics R) (a k : ℕ) (g : Given) (n : ℕ) (w : Network (Node F R) Msg Note) (j : Joined f g n w) where
  -- where each instance makes few pieces
  streams : ((i : ℕ) → 2 ≤ i → i < n → (filter : Filter) → length (pieces (selected_chunks f (j.nodes.instance i) filter)) ≤ k) → (i p : ℕ) (m : Msg)
      → i < n → Uses {F = F} {R = R} a k (node_of j.nodes i) m (node_step f (node_of j.nodes i) p m) 0
  streams few zero p m there = let falls = switch_uses a k j.nodes.switch m in omega (arith, falls)
  streams few (suc zero) p m there = let falls = controller_uses a k j.nodes.controller p m in omega (arith, falls)
  streams few (suc (suc i)) p m there =
      let its = instance_uses a k f (j.nodes.instance (suc (suc i))) m in
      let less = streamed_few a k f (j.nodes.instance (suc (suc i))) (few (suc (suc i)) (omega arith) there) m in
      omega (arith, its.0, less)

  -- and where it makes any
  sends : (i p : ℕ) (m : Msg)
      → Uses {F = F} {R = R} a k (node_of j.nodes i) m (node_step f (node_of j.nodes i) p m) (pieces_among (node_step f (node_of j.nodes i) p m).sends)
  sends zero p m = let falls = switch_uses a k j.nodes.switch m in omega (arith, falls)
  sends (suc zero) p m = let falls = controller_uses a k j.nodes.controller p m in omega (arith, falls)
  sends (suc (suc i)) p m =
      let its = instance_uses a k f (j.nodes.instance (suc (suc i))) m in
      omega (arith, its.0, its.1)

  -- the world after a choice
  chances_after : (i p : ℕ) (m : Msg) (rest : List Msg) (more : ℕ) → Takes (node_step f) n w i p (node_of j.nodes i) m rest
      → Uses {F = F} {R = R} a k (node_of j.nodes i) m (node_step f (node_of j.nodes i) p m) more → pieces_among (node_step f (node_of j.nodes i) p m).sends
      + world_chances {F = F} {R = R} a k (world_next (node_step f) w (at i p)) ≤ world_chances {F = F} {R = R} a k w + more
  chances_after i p m rest more takes falls =
      let did = node_step f (node_of j.nodes i) p m in
      let all = nodes_after (node_step f) n w i p (node_of j.nodes i) m rest takes (node_chances {F = F} {R = R} a k) in
      let log = log_after (node_step f) n w i p (node_of j.nodes i) m rest takes (arrival a k) in
      let few = few_sent (chance a k) n i did.sends in
      omega (arith, total_after (node_step f) n w i p (node_of j.nodes i) m rest takes (chance a k), all, log, few, spent_parts a k did.sends, falls)

-- what an input weighs
input_chances : (a k : ℕ) (items : List Msg) → Each (λ item. is_item item ≡ true) items
    → weigh (chance a k) items ≡ a * length (packets items) + k * length (commands items)
input_chances a k [] h = omega arith
input_chances a k (Msg.InPacket packet ∷ items) h =
    let rest = input_chances a k items h.1 in let one = mul-suc a (length (packets items)) in omega (arith, rest, one)
input_chances a k (Msg.InCommand command ∷ items) h =
    let rest = input_chances a k items h.1 in let one = mul-suc k (length (commands items)) in omega (arith, rest, one)
input_chances a k (Msg.InSettle ∷ items) h = let rest = input_chances a k items h.1 in omega (arith, rest)
input_chances a k (Msg.InEnd ∷ items) h = let rest = input_chances a k items h.1 in omega (arith, rest)
input_chances a k (m ∷ items) h = let never : false ≡ true = h.0 in cc

module _ (F R : Type 0) (a k : ℕ) (alloc : Global) (c : Config) where
  -- at the start only the input weighs anything
  start_chances : (items : List Msg) → Each (λ item. is_item item ≡ true) items
      → world_chances {F = F} {R = R} a k (started_with alloc c items) ≡ a * length (packets items) + k * length (commands items)
  start_chances items h =
      let first = start_weight (chance a k) (node_chances {F = F} {R = R} a k) alloc c (λ i. refl) items in
      omega (arith, first, empty_weighs (of_operation a k), input_chances a k items h)

module _ {F R : Type 0} (setting : Setting F R) where
  open setting use {function as f, alloc, config as c, items, is_input as is}

  abbrev begin : Network (Node F R) Msg Note
  begin = start setting

  abbrev n : ℕ
  n = count setting

  -- the most pieces of one move
  abbrev most : ℕ
  most = length (packets items) / 64 + 1

  -- so far: what arrived, and what was sent
  record AreFew (cs : List Choice) (w : Network (Node F R) Msg Note) : Type 0 where
    came : world_chances {F = F} {R = R} 1 0 w ≤ length (packets items)
    sent : pieces_sent f begin cs + world_chances {F = F} {R = R} 0 most w ≤ most * length (commands items)

  few_begin : AreFew [] begin
  few_begin =
      let each = all_each (λ item. is_item item ≡ true) items is.only_items in
      record { came = omega (arith, start_chances F R 1 0 alloc c items each); sent = omega (arith, start_chances F R 0 most alloc c items each) }

  -- each instance has few records
  few_made : (cs : List Choice) (w : Network (Node F R) Msg Note) (j : Joined f (given setting) n w) (h : AreFew cs w) (i : ℕ) → 2 ≤ i → i < n
      → (filter : Filter) → length (pieces (selected_chunks f (j.nodes.instance i) filter)) ≤ most
  few_made cs w j h i two there filter =
      let chunks = few_selected f filter (j.nodes.instance i).table.live in
      let log = arrivals_weigh 0 w.log in
      let came = h.came in
      few_pieces (selected_chunks f (j.nodes.instance i) filter) (length (packets items)) (omega (arith, chunks, live_few setting n w j i two there, log, came))

  few_next : (cs : List Choice) (x : Choice) (s : RunStep setting (run (node_step f) cs begin) x) → AreFew cs (run (node_step f) cs begin)
      → AreFew (cs ++ x ∷ []) (world_next (node_step f) (run (node_step f) cs begin) x)
  few_next cs x s h =
      let w = run (node_step f) cs begin in
      let j = s.runs.joined in
      let m = s.taking.message in
      let g = given setting in
      let arrives = chances_after f 1 0 g n w j x.node x.port m s.taking.rest _ s.takes (sends f 1 0 g n w j x.node x.port m) in
      let falls = chances_after f 0 most g n w j x.node x.port m s.taking.rest 0 s.takes
      (streams f 0 most g n w j (few_made cs w j h) x.node x.port m s.takes.receiver) in
      let came = h.came in
      let sent = h.sent in
      record { came = omega (arith, arrives, came); sent = omega (arith, falls, pieces_next setting cs x s, sent) }

  run_few : (cs : List Choice) → IsRun node_ready (node_step f) cs begin → AreFew cs (run (node_step f) cs begin)
  run_few = run_keeps setting AreFew few_begin (λ ds _ d s. few_next ds d s)

  -- a run's moves send at most so many pieces
  pub pieces_few : (cs : List Choice) → IsRun node_ready (node_step f) cs begin → pieces_sent f begin cs ≤ most_pieces items
  pieces_few cs run_is = omega (arith, (run_few cs run_is).sent, mul_comm most (length (commands items)))

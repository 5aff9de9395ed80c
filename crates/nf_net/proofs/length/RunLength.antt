-- No run has more choices than its instances, its packets, the lines of its script and the pieces of its moves allow.
use Rattle.nf_net.proofs.Words.{◌≡◌, ℕ, zero, suc, ◌+◌, ◌*◌, ◌≤◌, true, false, Some, List, [], ◌∷◌, ◌++◌, length, length-append, refl, ap, ◌∙◌, arith, ◌-◌}
use Rattle.nf_net.proofs.Words.{slice_get, Global, mul-suc, Decides-eqb, slice_get-get_or, Semantics, Msg, Note, Choice, Network, queue_at, run, world_next}
use Rattle.nf_net.proofs.Words.{weigh, Config, Node, is_item, node_step, started_with, all_each, Each, node_of, given, lines, pieces_among, pieces_sent}
use Rattle.nf_net.proofs.Words.{most_choices, Setting, start, IsCourse, world_of}
use Rattle.net_world.specs.Input.{packets}
use Rattle.net_world.specs.Length.{ends, has_end, pieces_of}
use Rattle.nf_net.proofs.length.MapWeights.{empty_weighs}
use Rattle.nf_net.proofs.length.SentWeights.{start_weight}
use Rattle.nf_net.proofs.length.Weights.{kept, weight, of_operation}
use Rattle.nf_net.proofs.length.NodeCosts.{of_node, of_world, world_falls}
use Rattle.nf_net.proofs.RunKeeps.{RunStep, run_keeps}

-- what an input weighs
input_weighs : (o : ℕ) (items : List Msg) → Each (λ item. is_item item ≡ true) items
    → weigh (weight o) items ≤ (7 + 2 * o) * length (packets items) + (16 + 2 * o) * lines items + 2 * ends items
input_weighs o [] h = omega arith
input_weighs o (Msg.InPacket packet ∷ items) h =
    let rest = input_weighs o items h.1 in let one = mul-suc (7 + 2 * o) (length (packets items)) in omega (arith, rest, one)
input_weighs o (Msg.InCommand command ∷ items) h =
    let rest = input_weighs o items h.1 in let one = mul-suc (16 + 2 * o) (lines items) in omega (arith, rest, one)
input_weighs o (Msg.InSettle ∷ items) h = let rest = input_weighs o items h.1 in let one = mul-suc (16 + 2 * o) (lines items) in omega (arith, rest, one)
input_weighs o (Msg.InEnd ∷ items) h = let rest = input_weighs o items h.1 in omega (arith, rest)
input_weighs o (m ∷ items) h = let never : false ≡ true = h.0 in cc

-- at the start no instance holds anything
start_weighs : (F R : Type 0) (o : ℕ) (alloc : Global) (c : Config) (items : List Msg)
    → of_world {F = F} {R = R} o (started_with alloc c items) ≡ weigh (weight o) items + (3 + 2 * o)
start_weighs F R o alloc c items =
    let first = start_weight (weight o) (of_node {F = F} {R = R} o) alloc c (λ i. refl) items in
    omega (arith, first, empty_weighs (of_operation o), empty_weighs (kept o))

-- the pieces of one choice more
module _ {F R : Type 0} (f : Semantics R) where
  pieces_more : (cs : List Choice) (c : Choice) (w : Network (Node F R) Msg Note) → pieces_sent f w (cs ++ c ∷ [])
      ≡ pieces_sent f w cs + pieces_of f c (slice_get (run (node_step f) cs w).nodes c.node) (queue_at (run (node_step f) cs w) c)
  pieces_more [] c w = omega arith
  pieces_more (d ∷ ds) c w = let rest = pieces_more ds c (world_next (node_step f) w d) in omega (arith, rest)

module _ {F R : Type 0} (setting : Setting F R) where
  open setting use {function as f, alloc, config as c, items, is_input as is}

  abbrev first : Network (Node F R) Msg Note
  first = start setting

  -- the members of a share besides one are at most so many
  abbrev besides : ℕ
  besides = length c.names - 1

  besides_is : length c.names ≡ 1 + besides
  besides_is = let some = is.is_config.some in omega (arith, some)

  -- so far the choices, and what is still to come
  abbrev IsLighter : List Choice → Network (Node F R) Msg Note → Type 0
  IsLighter cs w = length cs + of_world {F = F} {R = R} besides w ≤ of_world {F = F} {R = R} besides first + 4 * pieces_sent f first cs

  -- the pieces that a step sends
  pub pieces_next : (cs : List Choice) (k : Choice) (s : RunStep setting (world_of setting cs) k) → pieces_sent f first (cs ++ k ∷ [])
      ≡ pieces_sent f first cs + pieces_among (node_step f (node_of s.runs.joined.nodes k.node) k.port s.taking.message).sends
  pieces_next cs k s =
      let w = world_of setting cs in
      let node = node_of s.runs.joined.nodes k.node in
      let sent : pieces_of f k (slice_get w.nodes k.node) (queue_at w k) ≡ pieces_among (node_step f node k.port s.taking.message).sends =
      ap (λ x. pieces_of f k x (queue_at w k)) (slice_get-get_or w.nodes k.node node (rw s.takes.count s.takes.receiver) ∙ ap Some (s.takes.node_is node))
      ∙ ap (pieces_of f k (Some node)) s.takes.waits in
      omega (arith, pieces_more f cs k first, sent)

  next_lighter : (cs : List Choice) (k : Choice) (s : RunStep setting (world_of setting cs) k)
      → IsLighter cs (world_of setting cs) → IsLighter (cs ++ k ∷ []) (world_next (node_step f) (world_of setting cs) k)
  next_lighter cs k s so_far =
      let falls = world_falls f (given setting) (length c.names + 2) besides (let few = besides_is in omega (arith, few)) refl
      (world_of setting cs) s.runs.joined k.node k.port s.taking.message s.taking.rest s.takes in
      omega (arith, falls, pieces_next cs k s, length-append cs (k ∷ []), so_far)

  run_lighter : (cs : List Choice) → IsCourse setting cs → IsLighter cs (world_of setting cs)
  run_lighter = run_keeps setting IsLighter (omega arith) (λ ds _ d s. next_lighter ds d s)

  -- a run has at most so many choices
  pub run_length : has_end items ≡ true → (cs : List Choice) → IsCourse setting cs → length cs ≤ most_choices (length c.names) items (pieces_sent f first cs)
  run_length ended cs run_is =
      let o = besides in
      let few = besides_is in
      let input = input_weighs o items (all_each (λ item. is_item item ≡ true) items is.only_items) in
      let once : ends items ≡ 1 = (Decides-eqb (ends items) 1).0 ended in
      let more_packets = times_le (7 + 2 * o) (2 * length c.names + 6) (length (packets items)) (omega (arith, few)) in
      let more_lines = times_le (16 + 2 * o) (4 * length c.names + 24) (lines items) (omega (arith, few)) in
      omega (arith, run_lighter cs run_is, start_weighs F R o alloc c items, input, once, more_packets, more_lines, few)
    where
      times_le : (a b k : ℕ) → a ≤ b → a * k ≤ b * k
      times_le a b zero low = omega arith
      times_le a b (suc k) low = let rest = times_le a b k low in let one = mul-suc a k in let two = mul-suc b k in omega (arith, rest, one, two, low)

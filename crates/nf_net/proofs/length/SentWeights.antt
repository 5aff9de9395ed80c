-- What is sent weighs together, and what the nodes and the input of a network weigh at its start.
use Rattle.nf_net.proofs.Words.{◌≡◌, ℕ, zero, suc, ◌+◌, ◌≤◌, Bool, true, false, List, [], ◌∷◌, length, arith, if◌then◌else◌, Global, Msg, Note, reaches, ◌*◌}
use Rattle.nf_net.proofs.Words.{instance_node, stop_messages, opening_weight, weigh, weigh-append, total, sent_weight, Config, Node, Switch, Controller}
use Rattle.nf_net.proofs.Words.{first_switch, first_instance, first_instances, first_nodes, started_with, Instance}
use Rattle.std.proofs.Common.{suc-mul}
use Rattle.ctrl_node.specs.Controller as controller

module _ (f : Msg → ℕ) where
  -- messages, each with its receiver
  abbrev pub sent_cost : List (ℕ × Msg) → ℕ
  sent_cost sends = weigh (λ x. f x.1) sends

  arrives : (b : Bool) (m : ℕ) → (if b then m else 0) ≤ m
  arrives true m = omega arith
  arrives false m = omega arith

  -- no more of that comes to a link
  pub few_sent : (n i : ℕ) (sends : List (ℕ × Msg)) → sent_weight f n i sends ≤ sent_cost sends
  few_sent n i [] = omega arith
  few_sent n i (x ∷ xs) = omega (arith, arrives (reaches n i x.0) (f x.1), few_sent n i xs)

  -- a stop for each instance
  pub stops_weigh : (n : ℕ) → sent_cost (stop_messages n) ≡ n * f Msg.Stop
  stops_weigh zero = omega arith
  stops_weigh (suc n) =
      let both = weigh-append (λ x. f x.1) (stop_messages n) ((instance_node n, Msg.Stop) ∷ []) in
      omega (arith, stops_weigh n, both, suc-mul n (f Msg.Stop))

-- a node's weight, which is nothing at an instance that has done nothing
module _ {F R : Type 0} (f : Msg → ℕ) (h : Node F R → ℕ) (alloc : Global) (c : Config) (fresh : (i : ℕ) → h (Instance (first_instance alloc c i)) ≡ 0) where
  instances_weigh : (i : ℕ) → weigh h (first_instances alloc c i) ≡ 0
  instances_weigh zero = omega arith
  instances_weigh (suc i) = omega (arith, instances_weigh i, fresh i, weigh-append h (first_instances alloc c i) (Instance (first_instance alloc c i) ∷ []))

  -- the world at the start
  pub start_weight : (items : List Msg) → total f (started_with {F = F} {R = R} alloc c items) + weigh h (started_with {F = F} {R = R} alloc c items).nodes
      ≡ weigh f items + h (Switch (first_switch c)) + h (Controller (controller.controller_at_start c.names c.site))
  start_weight items =
      let messages = opening_weight Note (first_nodes {F = F} {R = R} alloc c) items f in
      omega (arith, messages, instances_weigh (length c.names))

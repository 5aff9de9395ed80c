-- Actors that pass messages over links: what a step does, what a world is, and which lists of choices are its runs.
-- Links are lossless and first in first out. This is the project's own model, and restates no standard.
use Rattle.std.specs.Prelude.{◌≡◌, ◌==◌, ◌&&◌, ◌<◌, ℕ, ◌+◌, ◌*◌, Bool, true, false, not, if◌then◌else◌, Option, None}
use Rattle.std.specs.Prelude.{Some, List, [], ◌∷◌, ◌++◌, length, drop, nat_lt, slice_get, slice_index_or, slice_set}
use Rattle.std.specs.List.{list_all}
use Rattle.actor_net.specs.declared.choice.Choice.{Choice}

-- what a step does: the node afterwards, what it sends, each with its receiver, and what it notes
pub record Stepped (A M N : Type 0) : Type 0 where
  pub node : A
  pub sends : List (ℕ × M)
  pub notes : List N

-- a world: its nodes, a list for each link, the input and the log; of n nodes the link from s to r stands at place s * n + r
pub record Network (A M N : Type 0) : Type 0 where
  pub nodes : List A
  pub links : List (List M)
  pub input : List M
  pub log : List N

-- the choice that takes from the input: port 0 of node 0
abbrev pub is_input : Choice → Bool
is_input c = (c.node == 0) && (c.port == 0)

-- what stands on the link from one node to another; nothing where there is no such link
abbrev pub on_link : {A M N : Type 0} → Network A M N → ℕ → ℕ → List M
on_link w from to =
    if nat_lt from (length w.nodes) && nat_lt to (length w.nodes)
    then slice_index_or w.links (from * length w.nodes + to) []
    else []

-- what waits at a choice: the input, or the link from the node that the port names
abbrev pub queue_at : {A M N : Type 0} → Network A M N → Choice → List M
queue_at w c = if is_input c then w.input else on_link w c.port c.node

-- a node takes any message that waits for it; from the input node 0 takes only what it is ready for
abbrev pub takes_first : {A M : Type 0} → (A → M → Bool) → Choice → Option A → List M → Bool
takes_first ready c (Some node) (message ∷ _) = if is_input c then ready node message else true
takes_first ready c (Some node) [] = false
takes_first ready c None waits = false

-- whether a choice can be taken
abbrev pub is_enabled : {A M N : Type 0} → (A → M → Bool) → Network A M N → Choice → Bool
is_enabled ready w c = takes_first ready c (slice_get w.nodes c.node) (queue_at w c)

-- the world without the first message that waits at a choice
abbrev pub without_first : {A M N : Type 0} → Network A M N → Choice → Network A M N
without_first w c =
    if is_input c
    then record { nodes = w.nodes; links = w.links; input = drop 1 w.input; log = w.log }
    else record {
      nodes = w.nodes;
      links = slice_set w.links (c.port * length w.nodes + c.node) (drop 1 (queue_at w c));
      input = w.input;
      log = w.log;
    }

-- whether what one node sends to another arrives, of n nodes: the receiver is there, and node 0 sends itself nothing
abbrev pub reaches : ℕ → ℕ → ℕ → Bool
reaches n from to = nat_lt to n && not ((from == 0) && (to == 0))

-- one message at the end of its link, or dropped
abbrev pub put_on : {M : Type 0} → ℕ → ℕ → ℕ × M → List (List M) → List (List M)
put_on n from sent links =
    if reaches n from sent.0
    then slice_set links (from * n + sent.0) (slice_index_or links (from * n + sent.0) [] ++ sent.1 ∷ [])
    else links

-- the links after what a node sends, in order
abbrev pub links_after : {M : Type 0} → ℕ → ℕ → List (ℕ × M) → List (List M) → List (List M)
links_after n from [] links = links
links_after n from (sent ∷ rest) links = links_after n from rest (put_on n from sent links)

-- the world after what a step did at a node
abbrev pub after : {A M N : Type 0} → Network A M N → ℕ → Stepped A M N → Network A M N
after w node did = record {
  nodes = slice_set w.nodes node did.node;
  links = links_after (length w.nodes) node did.sends w.links;
  input = w.input;
  log = w.log ++ did.notes;
}

-- the step of a node that is there, with the first of what waits
abbrev pub world_after_step : {A M N : Type 0} → (A → ℕ → M → Stepped A M N) → Network A M N → Choice → Option A → List M → Network A M N
world_after_step step w c (Some node) (message ∷ _) = after (without_first w c) c.node (step node c.port message)
world_after_step step w c (Some node) [] = w
world_after_step step w c None waits = w

-- the world after a choice: its node has taken the first message that waits, and what it sends and notes stands at the ends
abbrev pub world_next : {A M N : Type 0} → (A → ℕ → M → Stepped A M N) → Network A M N → Choice → Network A M N
world_next step w c = world_after_step step w c (slice_get w.nodes c.node) (queue_at w c)

-- the world after these choices
abbrev pub run : {A M N : Type 0} → (A → ℕ → M → Stepped A M N) → List Choice → Network A M N → Network A M N
run step [] w = w
run step (c ∷ cs) w = run step cs (world_next step w c)

-- each of these choices is enabled in its turn
abbrev pub IsRun : {A M N : Type 0} → (A → M → Bool) → (A → ℕ → M → Stepped A M N) → List Choice → Network A M N → Type 0
IsRun ready step [] w = Unit {0}
IsRun ready step (c ∷ cs) w = (is_enabled ready w c ≡ true) × IsRun ready step cs (world_next step w c)

-- the place of the first choice that isn't enabled in its turn, where the first of these stands at place `at`
abbrev pub fault_from : {A M N : Type 0} → (A → M → Bool) → (A → ℕ → M → Stepped A M N) → ℕ → List Choice → Network A M N → Option ℕ
fault_from ready step at [] w = None
fault_from ready step at (c ∷ cs) w =
    if is_enabled ready w c then fault_from ready step (at + 1) cs (world_next step w c) else Some at

-- whether nothing is left to do: no input, no message on a link, and each node has ended
abbrev pub is_done : {A M N : Type 0} → (A → Bool) → Network A M N → Bool
is_done ended w = (length w.input == 0) && list_all (λ l. length l == 0) w.links && list_all ended w.nodes

-- so many numbers a node can have: those of a byte
abbrev pub node_numbers : ℕ
node_numbers = 256

-- what holds of every world: some nodes, fewer than the numbers that they can have, a link for each ordered pair of them,
-- and nothing on the link of node 0 to itself
pub record IsWorld {A M N : Type 0} (w : Network A M N) : Type 0 where
  pub some_node : 0 < length w.nodes
  pub few_nodes : length w.nodes < node_numbers
  pub square : length w.links ≡ length w.nodes * length w.nodes
  pub no_loop : slice_index_or w.links 0 [] ≡ []

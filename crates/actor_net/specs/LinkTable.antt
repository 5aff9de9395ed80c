-- Steps between code and definition, which nobody has to believe: the links between all pairs of so many nodes, and how many of them hold
-- something. This project's own.
use Rattle.std.specs.Prelude.{◌≡◌, ◌<◌, ◌+◌, ◌*◌, ℕ, zero, suc, List, [], ◌∷◌, length, slice_index_or, slice_set}
use Rattle.actor_net.specs.declared.choice.Choice.{Choice}
use Rattle.actor_net.specs.Network.{node_numbers}

-- the links of so many nodes: that from s to r stands at place s * nodes + r
pub record LinkLists (M : Type 0) : Type 0 where
  pub nodes : ℕ
  pub lists : List (List M)

-- the choice takes from a link between two of so many nodes
pub record IsWithin (nodes : ℕ) (link : Choice) : Type 0 where
  pub receiver : link.node < nodes
  pub sender : link.port < nodes

-- what stands on the link that a choice takes from
abbrev pub link_of : {M : Type 0} → LinkLists M → Choice → List M
link_of links c = slice_index_or links.lists (c.port * links.nodes + c.node) []

-- the same links with another list on one of them
abbrev pub with_link : {M : Type 0} → LinkLists M → Choice → List M → LinkLists M
with_link links c list = record {
  nodes = links.nodes;
  lists = slice_set links.lists (c.port * links.nodes + c.node) list;
}

-- one where a list holds something
abbrev pub one_if_held : {M : Type 0} → List M → ℕ
one_if_held [] = 0
one_if_held (_ ∷ _) = 1

-- how many of the links to a node hold something, of those from the nodes below this one
abbrev pub held_below : {M : Type 0} → LinkLists M → ℕ → ℕ → ℕ
held_below links to zero = 0
held_below links to (suc from) =
    held_below links to from + one_if_held (slice_index_or links.lists (from * links.nodes + to) [])

-- how many links hold something, of those to the nodes below this one
abbrev pub all_held : {M : Type 0} → LinkLists M → ℕ → ℕ
all_held links zero = 0
all_held links (suc to) = all_held links to + held_below links to links.nodes

-- what is kept beside the links: for each node how many of the links to it hold something, and how many links do
pub record AreCounts {M : Type 0} (links : LinkLists M) (counts : List ℕ) (all : ℕ) : Type 0 where
  pub few : links.nodes < node_numbers
  pub square : length links.lists ≡ links.nodes * links.nodes
  pub each : (k : ℕ) → k < links.nodes → slice_index_or counts k 0 ≡ held_below links k links.nodes
  pub whole : all ≡ all_held links links.nodes

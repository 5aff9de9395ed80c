-- How many choices a run of the network may have. This project's own.
use Rattle.std.specs.Prelude.{◌≡◌, ◌≤◌, ℕ, ◌+◌, ◌*◌, ◌/◌, ◌==◌, Bool, true, false, List, [], ◌∷◌, filter, length, Option, None, Some, slice_get}
use Rattle.nf_function.specs.Semantics.{Semantics}
use Rattle.nf_msgs.specs.declared.msg.Msg.{Msg}
use Rattle.nf_msgs.specs.declared.msg.Msg.TheVariants.{InCommand, InSettle, InEnd, Piece}
use Rattle.nf_msgs.specs.declared.note.Note.{Note}
use Rattle.actor_net.specs.declared.choice.Choice.{Choice}
use Rattle.actor_net.specs.Network.{Network, queue_at, world_next}
use Rattle.net_world.specs.declared.node.Node.{Node}
use Rattle.net_world.specs.Input.{packets, commands}
use Rattle.net_world.specs.Nodes.{node_step}
use Rattle.flow_filter.specs.Limits.{most_packets, most_lines}
use Rattle.instance_worker.specs.declared.pieces.TheConstants.{MOST_CHUNKS}

-- how many lines of a script an input has: its commands and settles
abbrev pub is_line : Msg → Bool
is_line (InCommand command) = true
is_line InSettle = true
is_line item = false

abbrev pub lines : List Msg → ℕ
lines items = length (filter is_line items)

-- how many ends it has
abbrev pub is_end : Msg → Bool
is_end InEnd = true
is_end item = false

abbrev pub ends : List Msg → ℕ
ends items = length (filter is_end items)

-- whether it ends, and once
abbrev pub has_end : List Msg → Bool
has_end items = ends items == 1

-- a piece of chunks counts, and nothing else
abbrev pub one_piece : Msg → ℕ
one_piece (Piece op piece) = 1
one_piece message = 0

-- how many pieces of chunks are among what a step sends
abbrev pub pieces_among : List (ℕ × Msg) → ℕ
pieces_among [] = 0
pieces_among (sent ∷ sends) = one_piece sent.1 + pieces_among sends

module _ {F R : Type 0} (f : Semantics R) where
  -- how many pieces of chunks a node sends as it takes the first of what waits
  abbrev pub pieces_of : Choice → Option (Node F R) → List Msg → ℕ
  pieces_of c (Some node) (message ∷ _) = pieces_among (node_step f node c.port message).sends
  pieces_of c (Some node) [] = 0
  pieces_of c None waits = 0

  -- how many pieces of chunks the moves of a run send
  abbrev pub pieces_sent : Network (Node F R) Msg Note → List Choice → ℕ
  pieces_sent start [] = 0
  pieces_sent start (c ∷ cs) = pieces_of c (slice_get start.nodes c.node) (queue_at start c) + pieces_sent (world_next (node_step f) start c) cs

-- the most choices of a run of so many instances, with this input, whose moves send so many pieces
abbrev pub most_choices : ℕ → List Msg → ℕ → ℕ
most_choices n items pieces =
    (2 * n + 6) * length (packets items) + (4 * n + 24) * lines items + 4 * pieces + 3 * n + 8

-- the most pieces that the moves of a run with this input send: each move the chunks of as many units as there are packets, up to MOST_CHUNKS in a piece
abbrev pub most_pieces : List Msg → ℕ
most_pieces items = length (commands items) * (length (packets items) / MOST_CHUNKS + 1)

-- an input of a capture and a script, with its end
pub record IsShort (items : List Msg) : Type 0 where
  pub few_packets : length (packets items) ≤ most_packets
  pub few_lines : lines items ≤ most_lines
  pub ended : has_end items ≡ true

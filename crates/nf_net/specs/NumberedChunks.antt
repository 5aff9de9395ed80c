-- Which move each chunk on its way goes with: the one whose number its message bears, or for which the controller keeps it. This project's own.
use Rattle.std.specs.Prelude.{◌≡◌, ℕ, List, [], ◌++◌, map, Option, Some}
use Rattle.std.specs.List.{flat_map}
use Rattle.std.specs.FinMap as finite
use Rattle.nf_function.specs.declared.chunk.Chunk.{Chunk}
use Rattle.nf_msgs.specs.declared.msg.Msg.{Msg}
use Rattle.nf_msgs.specs.declared.note.Note.{Note}
use Rattle.nf_msgs.specs.MessageParts.{op_of}
use Rattle.actor_net.specs.Network.{Network}
use Rattle.net_world.specs.declared.node.Node.{Node}
use Rattle.net_world.specs.declared.node.Node.TheVariants.{Controller}
use Rattle.net_world.specs.Path.{on_links}
use Rattle.net_world.specs.Records.{chunks_in, kept_for, IsOfMove}

-- these chunks, each with a number
abbrev pub numbered : Option ℕ → List Chunk → List (Option ℕ × Chunk)
numbered number chunks = map (λ chunk. (number, chunk)) chunks

-- the chunks of a message, with the number that it bears
abbrev pub numbered_in : Msg → List (Option ℕ × Chunk)
numbered_in message = numbered (op_of message) (chunks_in message)

-- the chunks that the controller keeps, move by move, with the move's number
abbrev pub numbered_by : {F R : Type 0} → Node F R → List (Option ℕ × Chunk)
numbered_by (Controller c) = flat_map (λ e. numbered (Some e.0) (kept_for e.1)) (finite.entries c.operations)
numbered_by node = []

-- all chunks on their way, as `chunks_on_way` has them, with these numbers
abbrev pub numbered_on_way : {F R : Type 0} → Network (Node F R) Msg Note → List (Option ℕ × Chunk)
numbered_on_way w = on_links w numbered_in ++ flat_map numbered_by w.nodes

-- a chunk is one of a unit that the move with its number takes, and that move is under way
pub record IsOfItsMove (items : List Msg) (log : List Note) (chunk : Option ℕ × Chunk) : Type 0 where
  pub of : IsOfMove items log chunk.1
  pub number : chunk.0 ≡ Some of.moving.op

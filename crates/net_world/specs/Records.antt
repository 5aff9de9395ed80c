-- Where the records of units are in a world of a run: live at an instance, or in a chunk on its way with a move. A chunk is on its way in
-- the messages that take a move's state from its source to its destination or back, and while the controller keeps it. What a copy or a
-- share sends isn't on its way in this sense: it leaves the live record where it is. This project's own.
use Rattle.std.specs.Prelude.{◌≡◌, ℕ, Bool, true, false, ◌||◌, List, [], ◌∷◌, ◌++◌, map, filter, Option, None, Some, slice_get}
use Rattle.std.specs.List.{flat_map}
use Rattle.std.specs.Option.{option_map_or}
use Rattle.std.specs.FinMap as finite
use Rattle.nf_function.specs.declared.chunk.Chunk.{Chunk}
use Rattle.nf_function.specs.declared.unit.Unit as units
use Rattle.nf_function.specs.Semantics.{Semantics}
use Rattle.record_table.specs.Table.{same_unit, is_among}
use Rattle.record_table.specs.Chunks.{spelled}
use Rattle.nf_msgs.specs.declared.msg.Msg.{Msg}
use Rattle.nf_msgs.specs.declared.msg.Msg.TheVariants.{Piece, Put, PutNo, Restore, Delete, Shared, Sync}
use Rattle.nf_msgs.specs.declared.note.Note.{Note}
use Rattle.nf_msgs.specs.Exports.{units_in}
use Rattle.nf_msgs.specs.Nodes.{controller_node, instance_node}
use Rattle.move_op.specs.Phases.{Phase}
use Rattle.move_op.specs.Phases.{Streaming}
use Rattle.move_op.specs.Move.{chunks_of}
use Rattle.ctrl_node.specs.declared.operation.Operation.{Operation}
use Rattle.ctrl_node.specs.declared.operation.Operation.TheVariants.{Move}
use Rattle.actor_net.specs.Network.{Network, on_link}
use Rattle.net_world.specs.declared.node.Node.{Node}
use Rattle.net_world.specs.declared.node.Node.TheVariants.{Controller, Instance}
use Rattle.net_world.specs.Path.{on_links}
use Rattle.net_world.specs.Places.{IsMoving}

-- the record of a unit that is live at an instance of a world
abbrev pub live_in : {F R : Type 0} → units.Unit → Option (Node F R) → Option R
live_in unit (Some (Instance i)) = finite.get i.table.live unit
live_in unit other = None

abbrev pub live_at : {F R : Type 0} → Network (Node F R) Msg Note → ℕ → units.Unit → Option R
live_at w i unit = live_in unit (slice_get w.nodes (instance_node i))

-- the chunks of a message: those that a source gives, that are put at a destination, that it refuses, and that go back to the source
abbrev pub chunks_in : Msg → List Chunk
chunks_in (Piece op piece) = piece.chunks
chunks_in (Put op piece first) = piece.chunks
chunks_in (PutNo op refused) = refused.chunks
chunks_in (Restore op chunks) = chunks
chunks_in message = []

-- the chunks that the controller keeps for a move in a phase
abbrev pub kept_in : Phase → List Chunk
kept_in (Streaming to_remove removed came door) = chunks_of to_remove ++ chunks_of removed
kept_in phase = []

abbrev pub kept_for : Operation → List Chunk
kept_for (Move m) = kept_in m.phase
kept_for operation = []

abbrev pub kept_by : {F R : Type 0} → Node F R → List Chunk
kept_by (Controller c) = flat_map (λ e. kept_for e.1) (finite.entries c.operations)
kept_by node = []

-- the units whose records a source gives, and those whose records it is told to remove
abbrev pub given_in : Msg → List units.Unit
given_in (Piece op piece) = units_in piece.chunks
given_in message = []

abbrev pub removed_by : Msg → List units.Unit
removed_by (Delete op gone) = gone
removed_by message = []

-- the units whose records a member of a share gives, when it has processed a packet, and those whose records a member is told to take
abbrev pub shared_in : Msg → List units.Unit
shared_in (Shared op chunk) = units_in (chunk ∷ [])
shared_in message = []

abbrev pub synced_in : Msg → List units.Unit
synced_in (Sync home op chunks) = units_in chunks
synced_in message = []

-- whether a chunk is one of the unit
abbrev pub is_chunk_of : units.Unit → Chunk → Bool
is_chunk_of unit chunk = option_map_or (same_unit unit) chunk.unit false

-- what those of the unit among some chunks spell
abbrev pub spelled_of : {R : Type 0} → Semantics R → units.Unit → List Chunk → List (Option (units.Unit × R))
spelled_of f unit chunks = map (spelled f) (filter (is_chunk_of unit) chunks)

module _ {F R : Type 0} (w : Network (Node F R) Msg Note) where
  -- all chunks on their way: in messages, link by link, and at the controller, move by move
  abbrev pub chunks_on_way : List Chunk
  chunks_on_way = on_links w chunks_in ++ flat_map kept_by w.nodes

  -- whether an instance is still to remove the record of the unit that it has given: the record stands in a piece on the link from the
  -- instance, or its unit in a Delete on the link to it
  abbrev pub is_to_remove : units.Unit → ℕ → Bool
  is_to_remove unit i =
      is_among (flat_map given_in (on_link w (instance_node i) controller_node)) unit
      || is_among (flat_map removed_by (on_link w controller_node (instance_node i))) unit

  -- whether the home of a share is still to take the record of the unit from a member that has processed a packet: the record stands on the link
  -- from the member, or on the link to the home
  abbrev pub is_to_take : units.Unit → (home member : ℕ) → Bool
  is_to_take unit home member =
      is_among (flat_map shared_in (on_link w (instance_node member) controller_node)) unit
      || is_among (flat_map synced_in (on_link w controller_node (instance_node home))) unit

  abbrev pub IsNowhereLive : units.Unit → Type 0
  IsNowhereLive unit = (i : ℕ) → live_at w i unit ≡ None

  -- the record is live at this instance, and the unit has none at another
  pub record IsLiveAt (unit : units.Unit) (i : ℕ) (r : R) : Type 0 where
    pub there : live_at w i unit ≡ Some r
    pub alone : (k : ℕ) (s : R) → live_at w k unit ≡ Some s → k ≡ i

module _ {F R : Type 0} (f : Semantics R) (w : Network (Node F R) Msg Note) where
  -- what the unit's chunks on their way spell
  abbrev pub on_way : units.Unit → List (Option (units.Unit × R))
  on_way unit = spelled_of f unit (chunks_on_way w)

  -- a unit has no record, or one: live at an instance, in one chunk on its way, or both, with equal contents, at an instance that is still to
  -- remove it
  pub data HasOneRecord (unit : units.Unit) (kept : Option R) : Type 0 where
    Has_none : kept ≡ None → IsNowhereLive w unit → on_way unit ≡ [] → HasOneRecord unit kept
    Is_live : (i : ℕ) (r : R) → kept ≡ Some r → IsLiveAt w unit i r → on_way unit ≡ [] → HasOneRecord unit kept
    Is_on_way : (r : R) → kept ≡ Some r → IsNowhereLive w unit → on_way unit ≡ Some (unit, r) ∷ [] → HasOneRecord unit kept
    Is_given : (i : ℕ) (r : R) → kept ≡ Some r → IsLiveAt w unit i r → on_way unit ≡ Some (unit, r) ∷ [] → is_to_remove w unit i ≡ true → HasOneRecord unit kept

-- a chunk is one of a unit that a move under way takes
pub record IsOfMove (items : List Msg) (log : List Note) (chunk : Chunk) : Type 0 where
  pub unit : units.Unit
  pub unit_is : chunk.unit ≡ Some unit
  pub moving : IsMoving items unit log

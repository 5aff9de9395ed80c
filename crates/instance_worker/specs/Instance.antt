-- An instance: what it does with each message. This project's own.
use Rattle.std.specs.Prelude.{ℕ, ◌+◌, ◌&&◌, ◌||◌, nat_lt, Bool, true, false, if◌then◌else◌, List, [], ◌∷◌}
use Rattle.std.specs.Prelude.{◌++◌, map, length, replicate, Option, None, Some, option_map, Result, Ok, Err}
use Rattle.std.specs.FinMap as finite
use Rattle.std.specs.declared.alloc.Global.{Global}
use Rattle.flow_filter.specs.declared.packet.Packet.{Packet}
use Rattle.flow_filter.specs.declared.filter.Filter.{Filter}
use Rattle.flow_filter.specs.declared.site.Site.{Site}
use Rattle.flow_filter.specs.Flow.{flow_of}
use Rattle.flow_filter.specs.Limits.{most_instances}
use Rattle.nf_function.specs.declared.chunk.Chunk.{Chunk}
use Rattle.nf_function.specs.declared.unit.Unit as units
use Rattle.nf_function.specs.Semantics.{Semantics, output_for, unit_at}
use Rattle.nf_function.specs.Tally.{with_packet_counted, merged}
use Rattle.state_chunk.specs.declared.fault.ChunkFault.{ChunkFault}
use Rattle.state_chunk.specs.Format.{record_chunk, tally_chunk}
use Rattle.state_chunk.specs.Reading.{tally_read}
use Rattle.record_table.specs.Table.{TableView, empty, part, with_part, after_packet, taken_by, without, newest_of, replaced_by}
use Rattle.record_table.specs.Chunks.{chunks_of, records_of, are_good}
use Rattle.event_filter.specs.declared.action.Action.{Action}
use Rattle.event_filter.specs.declared.mark.Mark.{Mark}
use Rattle.event_filter.specs.declared.mark.Mark.TheVariants as mark
use Rattle.event_filter.specs.declared.decide.Decide.{Decide}
use Rattle.event_filter.specs.declared.decide.Decide.TheVariants as decide
use Rattle.event_filter.specs.Rules.{held_at, with_rule, with_held}
use Rattle.event_filter.specs.Rules as rules
use Rattle.packet_pool.specs.Pool.{FullCell}
use Rattle.nf_msgs.specs.declared.answer.Answer.{Answer}
use Rattle.nf_msgs.specs.declared.answer.Answer.TheVariants.{Import, Old}
use Rattle.nf_msgs.specs.declared.msg.Piece.{Piece as APiece}
use Rattle.nf_msgs.specs.declared.msg.Msg.{Msg}
use Rattle.nf_msgs.specs.declared.msg.Msg.TheVariants.{Carry, Fence, Stop, Enable, Get, Stream, GetAll, Delete, Put, Restore}
use Rattle.nf_msgs.specs.declared.msg.Msg.TheVariants.{Standby, PutAll, Sync, Enabled, Chunks, Piece, AllChunk, Deleted, PutOk}
use Rattle.nf_msgs.specs.declared.msg.Msg.TheVariants.{PutNo, Restored, Kept, Event, Seen, Fenced, Shared, Synced, Final, Credit}
use Rattle.nf_msgs.specs.declared.note.Note.{Note}
use Rattle.nf_msgs.specs.declared.note.Note.TheVariants.{Processed, Exported, Imported}
use Rattle.nf_msgs.specs.declared.note.Note.TheVariants as note
use Rattle.nf_msgs.specs.Nodes.{switch_node, controller_node}
use Rattle.nf_msgs.specs.Exports.{units_in}
use Rattle.actor_net.specs.Network.{Stepped}
use Rattle.instance_worker.specs.declared.instance.Instance.{Instance}
use Rattle.instance_worker.specs.Pieces.{pieces}
use Rattle.nf_function.specs.Stored.{plain_version}

-- a step of an instance of the function F, whose records are R
abbrev pub Step : Type 0 → Type 0 → Type 0
Step F R = Stepped (Instance F R) Msg Note

-- whether a packet with this mark steps a live record: all but those of a share away from its home
abbrev pub is_live : Mark → Bool
is_live mark.Plain = true
is_live (mark.Pass op) = true
is_live (mark.Shared op home) = home

-- what is sent to the controller
abbrev pub to_controller : List Msg → List (ℕ × Msg)
to_controller messages = map (λ message. (controller_node, message)) messages

-- the message of a share with the chunk of a unit, where the unit has a record
abbrev pub chunk_told : ℕ → Option Chunk → List Msg
chunk_told op None = []
chunk_told op (Some chunk) = Shared op chunk ∷ []

module _ {F R : Type 0} where
  -- an instance without records and rules: its number, how many live records it may have, and whether it reads chunks of version 1 alone
  abbrev pub instance_at_start : Global → ℕ → ℕ → Bool → Site → Instance F R
  instance_at_start alloc index limit marked site = record {
    table = empty;
    rules = [];
    tally = record { slots = replicate most_instances 0 };
    site = site;
    alloc = alloc;
    limit = limit;
    index = index;
    marked = marked;
    ended = false;
  }

  -- the instance stays as it is, and sends nothing
  abbrev pub still : Instance F R → Step F R
  still i = record { node = i; sends = []; notes = [] }

  -- the instance is this from now on, and tells the controller something
  abbrev pub tell_step : Instance F R → Msg → Step F R
  tell_step i message = record { node = i; sends = to_controller (message ∷ []); notes = [] }

  -- the same with a note
  abbrev pub tells_and_notes : Instance F R → Msg → Note → Step F R
  tells_and_notes i message note = record { node = i; sends = to_controller (message ∷ []); notes = note ∷ [] }

  -- one step and then another
  abbrev pub and_then : Step F R → (Instance F R → Step F R) → Step F R
  and_then step next = record {
    node = (next step.node).node;
    sends = step.sends ++ (next step.node).sends;
    notes = step.notes ++ (next step.node).notes;
  }

  -- one packet more in the instance's own slot of the tally
  abbrev pub with_count : Instance F R → Instance F R
  with_count i = record i { tally = record i.tally { slots = with_packet_counted i.tally.slots i.index } }

  -- the table after a packet with this mark
  abbrev pub table_after : Semantics R → Instance F R → Mark → Packet → TableView R
  table_after f i mark p = with_part i.table (is_live mark) (after_packet f i.site (part i.table (is_live mark)) p)

  -- the note of a packet with this mark, with the function's answer
  abbrev pub processed_note : Semantics R → Instance F R → Mark → Packet → Note
  processed_note f i mark p =
      Processed p.number i.index (output_for f i.site (finite.get (part i.table (is_live mark)) (unit_at f.kind i.site p)) p)

  -- what a share is told of a unit after a packet with this mark
  abbrev pub share_message : Semantics R → Instance F R → Mark → units.Unit → List Msg
  share_message f i (mark.Shared op home) unit = chunk_told op (option_map (record_chunk f unit) (finite.get (part i.table home) unit))
  share_message f i mark unit = []

  -- a packet is processed, and its cell goes back to the switch
  unfoldable pub process_step : Semantics R → Instance F R → Mark → FullCell → Step F R
  process_step f i mark cell =
      let after = with_count (record i { table = table_after f i mark cell.packet }) in
      record {
        node = after;
        sends = to_controller (share_message f after mark (unit_at f.kind i.site cell.packet)) ++ (switch_node, Credit cell) ∷ [];
        notes = processed_note f i mark cell.packet ∷ [];
      }

  -- packets are processed in order, each with the mark Plain
  unfoldable pub all_processed : Semantics R → Instance F R → List FullCell → Step F R
  all_processed f i [] = still i
  all_processed f i (cell ∷ cells) = and_then (process_step f i mark.Plain cell) (λ j. all_processed f j cells)

  -- what is decided of a packet is done
  abbrev pub carry_step : Semantics R → Instance F R → Mark → FullCell → Decide → Step F R
  carry_step f i mark cell decide.Process = process_step f i mark cell
  carry_step f i mark cell (decide.ProcessAndEvent op) = and_then (process_step f i mark cell) (λ j. tell_step j (Seen op cell.packet))
  carry_step f i mark cell (decide.Event op) = tell_step i (Event op cell)
  carry_step f i mark cell (decide.Buffer op) = still (record i { rules = with_held i.rules op cell })

  -- a packet comes: the event rules decide
  unfoldable pub on_carry : Semantics R → Instance F R → Mark → FullCell → Step F R
  on_carry f i mark cell = carry_step f i mark cell (rules.decide i.rules (flow_of i.site cell.packet).0 mark)

  -- the old path is empty: what is held for the operation is processed
  unfoldable pub on_fence : Semantics R → Instance F R → ℕ → Step F R
  on_fence f i op =
      and_then (all_processed f (record i { rules = rules.without_rule i.rules op }) (held_at i.rules op)) (λ j. tell_step j (Fenced op))

  abbrev pub on_stop : Instance F R → Step F R
  on_stop i = tell_step (record i { ended = true }) Final

  abbrev pub on_enable : Instance F R → ℕ → Filter → Action → Step F R
  on_enable i op filter action = tell_step (record i { rules = with_rule i.rules op filter action }) (Enabled op)

  -- the chunks of the live records of the units that a filter takes, in the order of the units
  abbrev pub selected_chunks : Semantics R → Instance F R → Filter → List Chunk
  selected_chunks f i filter = chunks_of f (taken_by filter i.table.live)

  -- the note that these chunks were given
  abbrev pub export_note : Instance F R → ℕ → List Chunk → Note
  export_note i op chunks = Exported i.index op (units_in chunks)

  unfoldable pub on_get : Semantics R → Instance F R → ℕ → Filter → Step F R
  on_get f i op filter =
      let chunks = selected_chunks f i filter in tells_and_notes i (Chunks op chunks) (export_note i op chunks)

  -- the same in pieces, with one note
  unfoldable pub on_stream : Semantics R → Instance F R → ℕ → Filter → Step F R
  on_stream f i op filter =
      let chunks = selected_chunks f i filter in
      record { node = i; sends = to_controller (map (Piece op) (pieces chunks)); notes = export_note i op chunks ∷ [] }

  abbrev pub on_get_all : Semantics R → Instance F R → ℕ → Step F R
  on_get_all f i op = tell_step i (AllChunk op (tally_chunk f.kind i.tally.slots))

  abbrev pub on_delete : Instance F R → ℕ → List units.Unit → Step F R
  on_delete i op gone = tell_step (record i { table = record i.table { live = without gone i.table.live } }) (Deleted op)

  -- the instance with the chunks' records live: the newer of each unit's two
  abbrev pub with_live : Semantics R → Instance F R → List Chunk → Instance F R
  with_live f i chunks = record i { table = record i.table { live = newest_of f i.table.live (records_of f chunks) } }

  -- the same with those that stand by
  abbrev pub with_standby : Semantics R → Instance F R → List Chunk → Instance F R
  with_standby f i chunks = record i { table = record i.table { standby = newest_of f i.table.standby (records_of f chunks) } }

  -- the instance with the chunks' records in place of its own, in that part
  abbrev pub with_records : Semantics R → Instance F R → Bool → List Chunk → Instance F R
  with_records f i live chunks =
      record i { table = with_part i.table live (replaced_by (part i.table live) (records_of f chunks)) }

  -- the note that these chunks' records became live
  abbrev pub imported : Instance F R → ℕ → List Chunk → Note
  imported i op chunks = Imported i.index op (units_in chunks)

  -- the note that these chunks' records are kept
  abbrev pub keep_note : Instance F R → ℕ → List Chunk → Note
  keep_note i op chunks = note.Kept i.index op (units_in chunks)

  -- the step where no chunk is bad; else the instance stays as it is
  abbrev pub where_good : Semantics R → Instance F R → List Chunk → Step F R → Step F R
  where_good f i chunks step = if are_good f chunks then step else still i

  -- why a piece that is put first is refused, if it is
  abbrev pub piece_refusal : Instance F R → APiece → Option Answer
  piece_refusal i piece =
      if nat_lt i.limit (finite.len i.table.live + piece.total) then Some (Import (finite.len i.table.live) piece.total i.limit)
      else if i.marked && nat_lt plain_version piece.newest then Some (Old piece.newest plain_version)
      else None

  -- a piece is put: it is refused, or its records become live
  abbrev pub piece_put : Semantics R → Instance F R → ℕ → APiece → Bool → Option Answer → Step F R
  piece_put f i op piece answered (Some why) = tell_step i (PutNo op (record { why = why; chunks = piece.chunks }))
  piece_put f i op piece answered None = where_good f i piece.chunks (record {
    node = with_live f i piece.chunks;
    sends = to_controller (if answered then PutOk op ∷ [] else []);
    notes = imported i op piece.chunks ∷ [];
  })

  -- a piece may be refused where it is put first, and is answered where it is first or last
  unfoldable pub on_put : Semantics R → Instance F R → ℕ → APiece → Bool → Step F R
  on_put f i op piece first =
      if nat_lt piece.total (length piece.chunks) then still i
      else piece_put f i op piece (first || piece.last) (if first then piece_refusal i piece else None)

  unfoldable pub on_restore : Semantics R → Instance F R → ℕ → List Chunk → Step F R
  on_restore f i op chunks =
      where_good f i chunks (tells_and_notes (with_live f i chunks) (Restored op) (imported i op chunks))

  unfoldable pub on_standby : Semantics R → Instance F R → ℕ → List Chunk → Step F R
  on_standby f i op chunks =
      where_good f i chunks (tells_and_notes (with_standby f i chunks) (Kept op) (keep_note i op chunks))

  unfoldable pub on_sync : Semantics R → Instance F R → Bool → ℕ → List Chunk → Step F R
  on_sync f i home op chunks =
      where_good f i chunks (tells_and_notes (with_records f i home chunks) (Synced op) (keep_note i op chunks))

  -- a tally that was read is merged into the instance's own
  abbrev pub tally_put : Instance F R → ℕ → Result (List ℕ) ChunkFault → Step F R
  tally_put i op (Ok slots) = tell_step (record i { tally = record i.tally { slots = merged i.tally.slots slots } }) (Kept op)
  tally_put i op (Err fault) = still i

  unfoldable pub on_put_all : Semantics R → Instance F R → ℕ → Chunk → Step F R
  on_put_all f i op chunk = tally_put i op (tally_read f.kind chunk.bytes)

  -- the table of the instance. What it doesn't name comes in no run
  abbrev pub instance_step : Semantics R → Instance F R → Msg → Step F R
  instance_step f i (Carry mark parcel) = on_carry f i mark parcel
  instance_step f i (Fence op) = on_fence f i op
  instance_step f i Stop = on_stop i
  instance_step f i (Enable op filter action) = on_enable i op filter action
  instance_step f i (Get op filter) = on_get f i op filter
  instance_step f i (Stream op filter) = on_stream f i op filter
  instance_step f i (GetAll op) = on_get_all f i op
  instance_step f i (Delete op gone) = on_delete i op gone
  instance_step f i (Put op piece first) = on_put f i op piece first
  instance_step f i (Restore op chunks) = on_restore f i op chunks
  instance_step f i (Standby op chunks) = on_standby f i op chunks
  instance_step f i (PutAll op chunk) = on_put_all f i op chunk
  instance_step f i (Sync home op chunks) = on_sync f i home op chunks
  instance_step f i message = still i

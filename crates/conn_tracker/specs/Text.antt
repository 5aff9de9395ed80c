-- What the connection tracker answers and prints. This project's own words.
use Rattle.std.specs.Prelude.{ℕ, ◌==◌, ◌++◌, if◌then◌else◌, List, [], Option, codes, decimal}
use Rattle.std.specs.List.{slice_index_or}
use Rattle.flow_filter.specs.declared.flow.Direction.TheVariants.{Out, In}
use Rattle.flow_filter.specs.declared.packet.Packet.{Packet}
use Rattle.flow_filter.specs.declared.site.Site.{Site}
use Rattle.nf_function.specs.Semantics.{Step}
use Rattle.conn_tracker.specs.declared.record.TrackRecord.{TrackRecord}
use Rattle.nf_function.specs.declared.output.Output.{Output}
use Rattle.conn_tracker.specs.Table.{state_number, state_names, step_of}

-- the table: the step of a packet, where this is kept of its flow. Its output is the number of the state that it left.
abbrev pub answered : Site → Option TrackRecord → Packet → Step TrackRecord
answered site kept p = let r = step_of site kept p in record { kept = r; output = record { code = state_number r.state; a = 0; b = 0 } }

-- the text of an output: its state's name
abbrev pub output_text : Output → List ℕ
output_text output = slice_index_or state_names output.code []

-- `STATE out|in packets P bytes B`, and ` seen N` after it where a time is known
unfoldable pub record_text : TrackRecord → List ℕ
record_text r =
    slice_index_or state_names (state_number r.state) [] ++ codes " " ++ elim r.opener [ Out ↦ codes "out" | In ↦ codes "in" ] ++ codes " packets "
    ++ decimal r.packets ++ codes " bytes " ++ decimal r.bytes ++ (if r.seen == 0 then [] else codes " seen " ++ decimal r.seen)

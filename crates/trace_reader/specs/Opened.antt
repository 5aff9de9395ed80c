-- Steps between code and definition, which nobody has to believe: the form of a capture by its front, a record's parts and what it gives, traces that
-- grow, and the payload of a record.
use Rattle.std.specs.Prelude.{ℕ, ◌+◌, ◌-◌, ◌%◌, ◌^◌, ◌==◌, ◌&&◌, nat_le, nat_lt, min, Bool, if◌then◌else◌, List, ◌∷◌, slice_index, take, drop}
use Rattle.std.specs.Prelude.{Option, Some, None, option_and_then, Result, Ok, Err}
use Rattle.std.specs.Option.{option_map_or}
use Rattle.std.specs.Result.{result_map_both}
use Rattle.flow_filter.specs.declared.packet.Packet.{Packet}
use Rattle.flow_filter.specs.Limits.{most_packets}
use Rattle.flow_filter.specs.Packet.{most_held}
use Rattle.trace_reader.specs.declared.form.Form.{Form}
use Rattle.trace_reader.specs.declared.form.Magic.{Magic}
use Rattle.trace_reader.specs.declared.fault.TraceFault.{TraceFault}
use Rattle.trace_reader.specs.declared.fault.TraceFault.TheVariants as fault
use Rattle.trace_reader.specs.declared.record.Next.{Next}
use Rattle.trace_reader.specs.declared.record.Next.TheVariants as next
use Rattle.trace_reader.specs.declared.steer.Parts.{Parts}
use Rattle.trace_reader.specs.declared.trace.Trace.{Trace}
use Rattle.trace_reader.specs.Header.{form_of}
use Rattle.trace_reader.specs.Layout.{major_place, major_version, minor_version}
use Rattle.trace_reader.specs.Limits.{header_size, head_size, most_bytes}
use Rattle.trace_reader.specs.Numbers.{number_in, u16_at}
use Rattle.trace_reader.specs.Records.{records_of}
use Rattle.trace_reader.specs.Steered.{packet_of, total_length, transport_length}

-- the form that a capture states in its first 24 bytes, or the first fault there
abbrev pub opened : List ℕ → Result Form TraceFault
opened bytes = form_of (take header_size bytes)

-- whether the version is 2.4
abbrev pub is_version : Magic → List ℕ → Bool
is_version magic header =
    (number_in magic.endian 2 (drop major_place header) == major_version) && (number_in magic.endian 2 (drop (major_place + 2) header) == minor_version)

-- the byte at a place
abbrev pub byte_at : List ℕ → ℕ → ℕ
byte_at bytes at = slice_index bytes at

-- whether the datagram at s is whole or a first fragment: its fragment offset is 0
abbrev pub is_first : List ℕ → ℕ → Bool
is_first f s = u16_at f (s + 6) % 2 ^ 13 == 0

-- the lengths of a steered record, given where its datagram starts and how long that one's header is
abbrev pub parts_at : ℕ → List ℕ → ℕ → ℕ → Option Parts
parts_at len f s h =
    option_and_then
    (λ d. if is_first f s && nat_le (h + d) (total_length len f s)
    then Some (record { start = s; header = h; transport = d; total = total_length len f s })
    else None)
    (transport_length len f (byte_at f (s + 9)) (s + h))

-- how many bytes of the packet a record has, by its head of 16 bytes: the third of four numbers there
abbrev pub captured_of : Form → List ℕ → ℕ
captured_of form head = number_in form.magic.endian 4 (drop 8 head)

-- a steered packet, at this place, after this many others
abbrev pub steered_answer : ℕ → ℕ → Option Packet → Result Next TraceFault
steered_answer place count steered =
    option_map_or (λ packet. if nat_lt count most_packets then Ok (next.Packet packet) else Err (fault.TooLong place)) steered (Ok next.Skipped)

-- what a whole record gives, by its head and its bytes
unfoldable pub record_answer : Form → ℕ → ℕ → List ℕ → ℕ → List ℕ → Result Next TraceFault
record_answer form place count head len f =
    if nat_lt most_bytes (place + head_size + len) then Err (fault.TooLong place)
    else steered_answer place count (packet_of form (count + 1) head len f)

-- what the records of a capture of this form give
abbrev pub trace_of : List ℕ → Result Form TraceFault → Result Trace TraceFault
trace_of bytes form = elim form [ Ok form ↦ records_of form header_size 0 0 (drop header_size bytes) | Err e ↦ Err e ]

-- one more packet at the front
abbrev pub with_packet : Packet → Result Trace TraceFault → Result Trace TraceFault
with_packet packet read = result_map_both (λ (trace : Trace). record trace { packets = packet ∷ trace.packets }) (λ e. e) read

-- one more skipped record
abbrev pub with_skipped : Result Trace TraceFault → Result Trace TraceFault
with_skipped read = result_map_both (λ (trace : Trace). record trace { skipped = trace.skipped + 1 }) (λ e. e) read

-- how many of the payload's bytes are captured and kept
abbrev pub held_of : ℕ → Parts → ℕ
held_of len parts = min most_held (min len (parts.start + parts.total) - (parts.start + parts.header + parts.transport))

-- these bytes
abbrev pub payload_of : ℕ → List ℕ → Parts → List ℕ
payload_of len f parts = take (held_of len parts) (drop (parts.start + parts.header + parts.transport) f)

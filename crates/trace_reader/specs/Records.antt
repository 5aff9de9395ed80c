-- What a capture gives: its records one after the other, and all of them. The records' layout is that of the pcap format
-- (draft-ietf-opsawg-pcap); the limits, and the order of the checks, are this project's own.
use Rattle.std.specs.Prelude.{◌≡◌, ℕ, ◌+◌, ◌-◌, nat_lt, true, false, List, [], ◌∷◌, length, take}
use Rattle.std.specs.Prelude.{◌^◌, drop, zero, suc, Result, Ok, Err, if◌then◌else◌}
use Rattle.std.specs.Option.{option_map_or}
use Rattle.std.specs.Result.{result_map_both}
use Rattle.flow_filter.specs.declared.packet.Packet.{Packet}
use Rattle.trace_reader.specs.declared.form.Form.{Form}
use Rattle.trace_reader.specs.declared.fault.TraceFault.{TraceFault}
use Rattle.trace_reader.specs.declared.fault.TraceFault.TheVariants as fault
use Rattle.trace_reader.specs.declared.record.Next.{Next}
use Rattle.trace_reader.specs.declared.record.Next.TheVariants as next
use Rattle.trace_reader.specs.declared.trace.Trace.{Trace}
use Rattle.trace_reader.specs.Limits.{header_size, head_size}
use Rattle.trace_reader.specs.Numbers.{number_in}
use Rattle.trace_reader.specs.Header.{form_of}
use Rattle.trace_reader.specs.Steered.{packet_of}
use Rattle.flow_filter.specs.Limits.{most_packets}

-- how many bytes the record takes that these bytes begin with: its head, and as many as the third of four numbers there says
abbrev pub record_size : Form → List ℕ → ℕ
record_size form bytes = head_size + number_in form.magic.endian 4 (drop 8 (take head_size bytes))

-- what comes next where these bytes are left, at this place, after this many packets. A record has at most 262144 bytes of a packet, and a capture at
-- most 2 ^ 32 bytes.
unfoldable pub next_of : Form → ℕ → ℕ → List ℕ → Result Next TraceFault
next_of form place count bytes =
    let head = take head_size bytes in let n = number_in form.magic.endian 4 (drop 8 head) in
    if nat_lt 0 (length bytes) then
    (if nat_lt (length bytes) head_size then Ok next.Cut
    else if nat_lt 262144 n then Err (fault.RecordLength place n)
    else if nat_lt (length bytes) (head_size + n) then Ok next.Cut
    else if nat_lt (2 ^ 32) (place + head_size + n) then Err (fault.TooLong place)
    else option_map_or (λ packet. if nat_lt count most_packets then Ok (next.Packet packet) else Err (fault.TooLong place))
    (packet_of form (count + 1) head n (take n (drop head_size bytes))) (Ok next.Skipped))
    else Ok next.End

-- what the records give from the next one on, given what comes after it
abbrev pub from_next : (ℕ → Result Trace TraceFault) → ℕ → Result Next TraceFault → Result Trace TraceFault
from_next rest count (Ok (next.Packet packet)) =
    result_map_both (λ (trace : Trace). record trace { packets = packet ∷ trace.packets }) (λ e. e) (rest (count + 1))
from_next rest count (Ok next.Skipped) = result_map_both (λ (trace : Trace). record trace { skipped = trace.skipped + 1 }) (λ e. e) (rest count)
from_next rest count (Ok next.End) = Ok (record { packets = []; skipped = 0; cut = false })
from_next rest count (Ok next.Cut) = Ok (record { packets = []; skipped = 0; cut = true })
from_next rest count (Err e) = Err e

-- what these bytes give, at this place, after this many packets. So many of the first ones are left of a record that was read.
unfoldable pub records_of : Form → ℕ → ℕ → ℕ → List ℕ → Result Trace TraceFault
records_of form place count left [] = Ok (record { packets = []; skipped = 0; cut = false })
records_of form place count (suc left) (byte ∷ bytes) = records_of form (place + 1) count left bytes
records_of form place count zero (byte ∷ bytes) =
    from_next (λ count'. records_of form (place + 1) count' (record_size form (byte ∷ bytes) - 1) bytes) count (next_of form place count (byte ∷ bytes))

-- the steered packets of a capture in file order, how many records are skipped, and whether it is cut, or the first fault
unfoldable pub capture_of : List ℕ → Result Trace TraceFault
capture_of bytes = elim (form_of (take header_size bytes)) [ Ok form ↦ records_of form header_size 0 0 (drop header_size bytes) | Err e ↦ Err e ]

-- the packets are numbered in order, from this number on
abbrev pub AreNumbered : ℕ → List Packet → Type 0
AreNumbered n [] = Unit {0}
AreNumbered n (p ∷ ps) = (p.number ≡ n) × AreNumbered (n + 1) ps

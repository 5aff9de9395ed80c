-- How the calls of a reader answer, given what the bytes that are left stand for. This project's own.
use Rattle.std.specs.Prelude.{◌≡◌, ◌≤◌, ◌<◌, ℕ, ◌+◌, ◌++◌, true, List, [], length, drop, Option, Some, None, Result, Ok, Err}
use Rattle.std.specs.List.{All}
use Rattle.std.specs.Option.{ForSome}
use Rattle.flow_filter.specs.declared.packet.Packet.{Packet}
use Rattle.nf_io.specs.Meaning.{Rose}
use Rattle.trace_reader.specs.declared.form.Form.{Form}
use Rattle.trace_reader.specs.declared.fault.TraceFault.{TraceFault}
use Rattle.trace_reader.specs.declared.fault.TraceFault.TheVariants as fault
use Rattle.trace_reader.specs.declared.record.Next.{Next}
use Rattle.trace_reader.specs.declared.record.Next.TheVariants as next
use Rattle.trace_reader.specs.declared.reader.TraceReader.{TraceReader}
use Rattle.trace_reader.specs.declared.reader.Stop.{Stop}
use Rattle.trace_reader.specs.declared.reader.Stop.TheVariants as stop
use Rattle.trace_reader.specs.declared.record.Step.{Step}
use Rattle.trace_reader.specs.declared.trace.Trace.{Trace}
use Rattle.trace_reader.specs.declared.trace.TraceEnd.{TraceEnd}
use Rattle.trace_reader.specs.Limits.{head_size, most_bytes}
use Rattle.trace_reader.specs.Steered.{is_steered_proto}
use Rattle.trace_reader.specs.Records.{record_size, next_of, AreNumbered}
use Rattle.flow_filter.specs.Limits.{most_packets}

-- a count never falls, and the answer is a fault of reading only where it rose
pub record HasReadCause {A : Type 0} (before now : ℕ) (result : Result A TraceFault) : Type 0 where
  pub later : before ≤ now
  pub read : result ≡ Err fault.Read → Rose before now

-- a reader has the form that is due, and exactly the header is gone; or a fault is the one that is due
abbrev pub AnswersOpen : Result Form TraceFault → List ℕ → Option (List ℕ) → Result TraceReader TraceFault → Type 0
AnswersOpen due rest left (Ok reader) = (due ≡ Ok reader.form) × (left ≡ Some rest)
AnswersOpen due rest left (Err fault.Read) = Unit {0}
AnswersOpen due rest left (Err e) = due ≡ Err e

-- how far a reader is: the form of its capture, the place of the next record, how many packets it has given, and the bytes that are left, where they are told
pub record Reading : Type 0 where
  pub form : Form
  pub place : ℕ
  pub count : ℕ
  pub left : Option (List ℕ)

abbrev pub reading : Form → ℕ → ℕ → Option (List ℕ) → Reading
reading form place count left = record { form = form; place = place; count = count; left = left }

-- how far this reader is, over a source that has these bytes left
abbrev pub reading_of : TraceReader → Option (List ℕ) → Reading
reading_of reader left = reading reader.form reader.place reader.count left

-- the place that a reader is at once it has answered: that after the record, or the same at an end
abbrev pub place_after : Reading → List ℕ → Next → ℕ
place_after before bytes next.End = before.place
place_after before bytes next.Cut = before.place
place_after before bytes answer = before.place + record_size before.form bytes

-- the bytes that are left then: those after the record, or none at an end
abbrev pub left_after : Reading → List ℕ → Next → List ℕ
left_after before bytes next.End = []
left_after before bytes next.Cut = []
left_after before bytes answer = drop (record_size before.form bytes) bytes

-- where these bytes are left the answer is the one that is due, and takes exactly its own bytes. A fault of reading is free
abbrev pub AnswersAt : Reading → List ℕ → Reading → Result Next TraceFault → Type 0
AnswersAt before bytes after (Ok answer) =
    (next_of before.form before.place before.count bytes ≡ Ok answer) × (after.place ≡ place_after before bytes answer)
    × (after.left ≡ Some (left_after before bytes answer))
AnswersAt before bytes after (Err fault.Read) = Unit {0}
AnswersAt before bytes after (Err e) = next_of before.form before.place before.count bytes ≡ Err e

-- the same, where the bytes are told
abbrev pub AnswersNext : Reading → Reading → Result Next TraceFault → Type 0
AnswersNext before after answer = ForSome before.left (λ bytes. AnswersAt before bytes after answer)

-- how the place and the number of packets grow, and which packet comes next, also where no bytes are told
abbrev pub Advances : Reading → Reading → Result Next TraceFault → Type 0
Advances before after (Ok (next.Packet packet)) =
    (before.place + head_size ≤ after.place) × (after.place ≤ most_bytes) × (before.count < most_packets) × (after.count ≡ before.count + 1)
    × (packet.number ≡ before.count + 1) × (is_steered_proto packet.proto ≡ true)
Advances before after (Ok next.Skipped) = (before.place + head_size ≤ after.place) × (after.place ≤ most_bytes) × (after.count ≡ before.count)
Advances before after answer = (after.place ≡ before.place) × (after.count ≡ before.count)

-- the end that an answer is, if it is one
abbrev pub stop_of : Result Next TraceFault → Option Stop
stop_of (Ok (next.Packet packet)) = None
stop_of (Ok next.Skipped) = None
stop_of (Ok next.End) = Some stop.End
stop_of (Ok next.Cut) = Some stop.Cut
stop_of (Err e) = Some (stop.Fault e)

-- the answer that is given again once there is an end
abbrev pub answer_of : Stop → Result Next TraceFault
answer_of stop.End = Ok next.End
answer_of stop.Cut = Ok next.Cut
answer_of (stop.Fault e) = Err e

-- a step's answer
abbrev pub next_in : Result Step TraceFault → Result Next TraceFault
next_in (Ok step) = Ok step.next
next_in (Err e) = Err e

-- how many bytes a step took for a record
abbrev pub size_in : Result Step TraceFault → ℕ
size_in (Ok step) = step.size
size_in (Err e) = 0

-- the packets read so far, if the answer is a packet
abbrev pub count_after : ℕ → Result Next TraceFault → ℕ
count_after count (Ok (next.Packet packet)) = count + 1
count_after count answer = count

-- how far a reader is after a step
abbrev pub reading_after : Reading → Result Step TraceFault → Option (List ℕ) → Reading
reading_after before result left =
    reading before.form (before.place + size_in result) (count_after before.count (next_in result)) left

-- a trace is the one that is due, and nothing is left; or a fault is the one that is due. Out of memory is free, and a fault of reading has a cause of its own
abbrev pub AnswersTrace : Result Trace TraceFault → Option (List ℕ) → Result Trace TraceFault → Type 0
AnswersTrace due left (Ok trace) = (due ≡ Ok trace) × (left ≡ Some [])
AnswersTrace due left (Err fault.Read) = Unit {0}
AnswersTrace due left (Err fault.NoMemory) = Unit {0}
AnswersTrace due left (Err e) = due ≡ Err e

-- packets went to a keeper, one after another, after those before
abbrev pub HandsOn : {K S : Type 0} → (K → S → List Packet → Type 0) → (old new : K) → List Packet → Type 0
HandsOn {S = S} HasKept old new packets = (setup : S) (before : List Packet) → HasKept old setup before → HasKept new setup (before ++ packets)

-- the packets of a capture were handed on, and nothing is left; or a fault is the one that is due. The two free faults are as above
abbrev pub HandsPackets : (List Packet → Type 0) → Result Trace TraceFault → Option (List ℕ) → Result TraceEnd TraceFault → Type 0
HandsPackets Handed due left (Ok end) =
    (packets : List Packet) × (due ≡ Ok (record { packets = packets; skipped = end.skipped; cut = end.cut }))
    × (length packets ≡ end.packets) × (left ≡ Some []) × Handed packets
HandsPackets Handed due left (Err fault.Read) = Unit {0}
HandsPackets Handed due left (Err fault.NoMemory) = Unit {0}
HandsPackets Handed due left (Err e) = due ≡ Err e

-- so many packets went to a keeper, one after another, also where no bytes are told: they are numbered from 1, and each is of TCP or UDP
pub record HandsSteered {K S : Type 0} (HasKept : K → S → List Packet → Type 0) (old new : K) (count : ℕ) : Type 0 where
  pub packets : List Packet
  pub counted : length packets ≡ count
  pub numbers : AreNumbered 1 packets
  pub steered : All (λ packet. is_steered_proto packet.proto ≡ true) packets
  pub kept : HandsOn HasKept old new packets

-- A generated capture is read whole, with all its packets steered.
use Rattle.std.proofs.Common.{◌≡◌, ◌≤◌, ◌<◌, ℕ, zero, suc, ◌+◌, ◌*◌, ◌^◌, List, ◌++◌, length, take, drop}
use Rattle.std.proofs.Common.{Some, Result, Ok, Err, refl, ap, sym, ◌∙◌, subst, append_assoc, arith}
use Rattle.std.specs.Prelude.{if◌then◌else◌}
use Rattle.std.specs.Option.{option_map}
use Rattle.std.proofs.Math.Seq.{take-append_seam, drop-append_seam}
use Rattle.std.proofs.lemmas.List.{length-append, drop-drop}
use Rattle.std.proofs.lemmas.Bool.{le-ltb, lt-ltb}
use Rattle.rand_core.specs.Steps.{first_words}
use Rattle.rand_xoshiro.specs.SplitMix64.{mix_u64}
use Rattle.flow_filter.specs.declared.packet.Packet.{Packet}
use Rattle.trace_reader.specs.declared.form.Form.{Form}
use Rattle.trace_reader.specs.declared.form.Endian.TheVariants.{Little}
use Rattle.trace_reader.specs.declared.form.Fraction.TheVariants.{Micros}
use Rattle.trace_reader.specs.declared.form.LinkType.TheVariants.{Raw}
use Rattle.trace_reader.specs.declared.fault.TraceFault.{TraceFault}
use Rattle.trace_reader.specs.declared.fault.TraceFault.TheVariants as fault
use Rattle.trace_reader.specs.declared.record.Next.TheVariants as next
use Rattle.trace_reader.specs.declared.trace.Trace.{Trace}
use Rattle.trace_reader.specs.declared.drawn.Drawn.{Drawn}
use Rattle.trace_reader.specs.declared.drawn.Transport.{Transport}
use Rattle.trace_reader.specs.declared.drawn.Transport.TheVariants.{Udp, Tcp}
use Rattle.trace_reader.specs.declared.steer.Parts.{Parts}
use Rattle.trace_reader.specs.Header.{form_of}
use Rattle.trace_reader.specs.Steered.{nanos_of, packet_with, packet_of, parts_of}
use Rattle.trace_reader.specs.Records.{record_size, next_of, records_of, capture_of}
use Rattle.trace_reader.specs.Opened.{captured_of, with_packet, opened, steered_answer, record_answer, trace_of}
use Rattle.trace_reader.specs.Generated.{drawn_by, record_head, datagram, record_bytes, records}
use Rattle.trace_reader.specs.Generated.{transport_size, captured_size, total_size, file_header, capture}
use Rattle.trace_reader.specs.Making.{IsReadWhole}
use Rattle.trace_reader.proofs.GeneratedSizes.{record_head-size}
use Rattle.trace_reader.proofs.MadeHeaders.{headers_of, parts_there}
use Rattle.trace_reader.proofs.NextRecord.{next_of-whole}
use Rattle.trace_reader.proofs.CaptureSoFar.{record_step}

-- the form that the header states
abbrev the_form : Form
the_form = record { magic = record { endian = Little; fraction = Micros }; link_type = Raw }

states_form : (rest : List ℕ) → opened (file_header ++ rest) ≡ Ok the_form
unfolding file_header form_of
states_form rest = refl

-- a head of 16 bytes says how many are captured
says_captured : (j : ℕ) (d : Drawn) (rest : List ℕ) → captured_of the_form (take 16 (record_head j d ++ rest)) ≡ captured_size d
unfolding record_head
says_captured j d rest = by d.transport
  where
    by : (t : Transport) → captured_of the_form (take 16 (record_head j (record d { transport = t }) ++ rest)) ≡ 20 + transport_size t
    by Udp = refl
    by (Tcp flags) = refl

few : (t : Transport) → transport_size t ≤ 20
few Udp = omega arith
few (Tcp flags) = omega arith

behind_head : (head rest : List ℕ) → length head ≡ 16 → drop 16 (head ++ rest) ≡ rest
behind_head head rest is = subst (λ n. drop n (head ++ rest) ≡ rest) is (drop-append_seam head rest)

front_is : (f rest : List ℕ) (n : ℕ) → length f ≡ n → take n (f ++ rest) ≡ f
front_is f rest n is = subst (λ k. take k (f ++ rest) ≡ f) is (take-append_seam f rest)

-- a record whose datagram is steered gives a packet
answers_packet : (place count n : ℕ) (head f : List ℕ) (parts : Parts) → parts_of Raw n f ≡ Some parts → place + 16 + n ≤ 2 ^ 32 → count < 1000000
    → (p : Packet) × (record_answer the_form place count head n f ≡ Ok (next.Packet p))
unfolding record_answer packet_of
answers_packet place count n head f parts there fits below =
    let p = packet_with (count + 1) (nanos_of the_form head) n f parts in (
      p,
      ap (λ b. if b then Err (fault.TooLong place) else steered_answer place count (packet_of the_form (count + 1) head n f))
          (le-ltb (2 ^ 32) (place + 16 + n) fits)
          ∙ ap (λ o. steered_answer place count (option_map (packet_with (count + 1) (nanos_of the_form head) n f) o)) there
          ∙ ap (λ b. if b then Ok (next.Packet p) else Err (fault.TooLong place)) (lt-ltb count 1000000 below),
    )

-- a generated record, with anything behind it, gives a packet and takes its own bytes
record ReadsPacket (place count : ℕ) (bytes rest : List ℕ) : Type 0 where
  packet : Packet
  gives : next_of the_form place count bytes ≡ Ok (next.Packet packet)
  size : record_size the_form bytes ≤ 56
  gone : drop (record_size the_form bytes) bytes ≡ rest

reads_parts : (place count j : ℕ) (d : Drawn) (rest : List ℕ) → d.payload < 512 → count < 1000000 → place + 56 ≤ 2 ^ 32
    → ReadsPacket place count (record_head j d ++ (datagram d d.transport ++ rest)) rest
reads_parts place count j d rest small below fits =
    let n = captured_size d in
    let head = record_head j d in
    let f = datagram d d.transport in
    let has = headers_of d small in
    let short = few d.transport in
    let long : length (head ++ (f ++ rest)) ≡ 16 + (n + length rest) =
    omega (arith, length-append head (f ++ rest), length-append f rest, record_head-size j d, has.size) in
    let captured : n ≡ captured_of the_form (take 16 (head ++ (f ++ rest))) = sym (says_captured j d (f ++ rest)) in
    let parts = parts_there n (transport_size d.transport) (total_size d) f has refl (omega arith) in
    let answer = answers_packet place count n (take 16 (head ++ (f ++ rest))) f parts.0 parts.1 (omega arith) below in
    let body : take n (drop 16 (head ++ (f ++ rest))) ≡ f = ap (take n) (behind_head head (f ++ rest) (record_head-size j d)) ∙ front_is f rest n has.size in
    let after : drop n (f ++ rest) ≡ rest = subst (λ k. drop k (f ++ rest) ≡ rest) has.size (drop-append_seam f rest) in
    record {
      packet = answer.0;
      gives = next_of-whole the_form place count n (head ++ (f ++ rest)) captured (omega (arith, long)) (omega (arith, short)) (omega (arith, long))
          ∙ ap (record_answer the_form place count (take 16 (head ++ (f ++ rest))) n) body ∙ answer.1;
      size = omega (arith, captured, short);
      gone = ap (λ k. drop (16 + k) (head ++ (f ++ rest))) (sym captured) ∙ sym (drop-drop n 16 (head ++ (f ++ rest)))
          ∙ ap (drop n) (behind_head head (f ++ rest) (record_head-size j d)) ∙ after;
    }

reads_record : (place count j : ℕ) (d : Drawn) (rest : List ℕ) → d.payload < 512 → count < 1000000 → place + 56 ≤ 2 ^ 32
    → ReadsPacket place count (record_bytes j d ++ rest) rest
reads_record place count j d rest small below fits =
    subst (λ bytes. ReadsPacket place count bytes rest) (sym (append_assoc (record_head j d) (datagram d d.transport) rest))
    (reads_parts place count j d rest small below fits)

drawn-small : (hosts w : ℕ) → (drawn_by hosts w).payload < 512
unfolding drawn_by
drawn-small hosts w = omega arith

-- one more packet
with_packet-whole : (n : ℕ) (p : Packet) (r : Result Trace TraceFault) → IsReadWhole n r → IsReadWhole (suc n) (with_packet p r)
with_packet-whole n p (Ok trace) whole = (ap suc whole.0, whole.1, whole.2)
with_packet-whole n p (Err e) whole = absurd whole

records_whole : (n hosts j s place count : ℕ) → count + n ≤ 1000000 → place + 56 * n ≤ 2 ^ 32
    → IsReadWhole n (records_of the_form place count 0 (records hosts j (first_words mix_u64 n s)))
unfolding first_words records_of
records_whole zero hosts j s place count few fits = (refl, refl, refl)
records_whole (suc n) hosts j s place count few fits =
    let d = drawn_by hosts (mix_u64 s).0 in
    let rest = records hosts (j + 1) (first_words mix_u64 n (mix_u64 s).1) in
    let reads = reads_record place count j d rest (drawn-small hosts (mix_u64 s).0) (omega arith) (omega arith) in
    let bytes = record_bytes j d ++ rest in
    let size = record_size the_form bytes in
    let step = record_step the_form place count bytes (Ok (next.Packet reads.packet)) reads.gives in
    let again = records_whole n hosts (j + 1) (mix_u64 s).1 (place + size) (count + 1) (omega arith) (omega (arith, reads.size)) in
    subst (IsReadWhole (suc n)) (sym (step ∙ ap (λ l. with_packet reads.packet (records_of the_form (place + size) (count + 1) 0 l)) reads.gone))
    (with_packet-whole n reads.packet _ again)

behind_header : (rest : List ℕ) → drop 24 (file_header ++ rest) ≡ rest
unfolding file_header
behind_header rest = refl

pub read_whole : (number packets hosts : ℕ) → packets ≤ 1000000 → IsReadWhole packets (capture_of (capture number packets hosts))
unfolding capture capture_of
read_whole number packets hosts few =
    let recs = records hosts 1 (first_words mix_u64 packets number) in
    let bytes = file_header ++ recs in
    let whole = records_whole packets hosts 1 number 24 0 (omega arith) (omega arith) in
    subst (λ form. IsReadWhole packets (trace_of bytes form)) (sym (states_form recs))
    (subst (λ l. IsReadWhole packets (records_of the_form 24 0 0 l)) (sym (behind_header recs)) whole)

-- Reading a capture to its end: what was read so far, before what the rest gives, is what the whole gives.
use Rattle.std.proofs.Common.{◌≡◌, ℕ, zero, suc, ◌+◌, ◌-◌, Bool, true, false, List, [], ◌∷◌, ◌++◌, Some, Result}
use Rattle.std.proofs.Common.{Ok, Err, drop, refl, ap, sym, ◌∙◌, arith, append-nil, append_assoc, add-zero, zero-add}
use Rattle.flow_filter.specs.declared.packet.Packet.{Packet}
use Rattle.trace_reader.specs.declared.form.Form.{Form}
use Rattle.trace_reader.specs.declared.fault.TraceFault.{TraceFault}
use Rattle.trace_reader.specs.declared.record.Next.{Next}
use Rattle.trace_reader.specs.declared.record.Next.TheVariants as next
use Rattle.trace_reader.specs.declared.trace.Trace.{Trace}
use Rattle.trace_reader.specs.Records.{record_size, next_of, records_of, from_next, capture_of}
use Rattle.trace_reader.specs.Opened.{with_packet, with_skipped, opened, trace_of}
use Rattle.trace_reader.specs.Answers.{Reading, AnswersNext, left_after}
use Rattle.trace_reader.proofs.NextRecord.{next_of-end}

-- these packets and skipped records stand in front
pub with_front : List Packet → ℕ → Result Trace TraceFault → Result Trace TraceFault
with_front packets skipped (Ok trace) = Ok (record { packets = packets ++ trace.packets; skipped = skipped + trace.skipped; cut = trace.cut })
with_front packets skipped (Err e) = Err e

with_front-nothing : (r : Result Trace TraceFault) → with_front [] 0 r ≡ r
unfolding with_front
with_front-nothing (Ok trace) = ap (λ n. Ok (record { packets = trace.packets; skipped = n; cut = trace.cut })) (zero-add trace.skipped)
with_front-nothing (Err e) = refl

with_front-packet : (packets : List Packet) (skipped : ℕ) (packet : Packet) (r : Result Trace TraceFault)
    → with_front packets skipped (with_packet packet r) ≡ with_front (packets ++ packet ∷ []) skipped r
unfolding with_front
with_front-packet packets skipped packet (Ok trace) =
    ap (λ l. Ok (record { packets = l; skipped = skipped + trace.skipped; cut = trace.cut })) (sym (append_assoc packets (packet ∷ []) trace.packets))
with_front-packet packets skipped packet (Err e) = refl

with_front-skipped : (packets : List Packet) (skipped : ℕ) (r : Result Trace TraceFault)
    → with_front packets skipped (with_skipped r) ≡ with_front packets (skipped + 1) r
unfolding with_front
with_front-skipped packets skipped (Ok trace) =
    let e : skipped + (trace.skipped + 1) ≡ skipped + 1 + trace.skipped = omega arith in
    ap (λ n. Ok (record { packets = packets ++ trace.packets; skipped = n; cut = trace.cut })) e
with_front-skipped packets skipped (Err e) = refl

-- what is left of a record is passed over
passed : (form : Form) (place count left : ℕ) (bytes : List ℕ)
    → records_of form place count left bytes ≡ records_of form (place + left) count 0 (drop left bytes)
unfolding records_of
passed form place count zero bytes = ap (λ n. records_of form n count 0 bytes) (sym (add-zero place))
passed form place count (suc left) [] = refl
passed form place count (suc left) (byte ∷ bytes) =
    let at : place + 1 + left ≡ place + suc left = omega arith in
    passed form (place + 1) count left bytes ∙ ap (λ n. records_of form n count 0 (drop left bytes)) at

-- the records after one
after_record : (form : Form) (place count : ℕ) (byte : ℕ) (bytes : List ℕ)
    → records_of form (place + 1) count (record_size form (byte ∷ bytes) - 1) bytes
    ≡ records_of form (place + record_size form (byte ∷ bytes)) count 0 (drop (record_size form (byte ∷ bytes)) (byte ∷ bytes))
after_record form place count byte bytes =
    let size = record_size form (byte ∷ bytes) in
    let at : place + 1 + (size - 1) ≡ place + size = omega arith in
    let whole : suc (size - 1) ≡ size = omega arith in
    passed form (place + 1) count (size - 1) bytes
    ∙ ap (λ n. records_of form n count 0 (drop (size - 1) bytes)) at
    ∙ ap (λ n. records_of form (place + size) count 0 (drop n (byte ∷ bytes))) whole

-- how a capture ends: whole, or within a record
abbrev pub ends : Bool → Next
ends false = next.End
ends true = next.Cut

ends_gives : (F : ℕ → Result Trace TraceFault) (count : ℕ) (cut : Bool)
    → from_next F count (Ok (ends cut)) ≡ Ok (record { packets = []; skipped = 0; cut = cut })
ends_gives F count false = refl
ends_gives F count true = refl

ends_leave : (before : Reading) (bytes : List ℕ) (cut : Bool) → left_after before bytes (ends cut) ≡ []
ends_leave before bytes false = refl
ends_leave before bytes true = refl

-- the records after the first of these
abbrev pub records_after : Form → ℕ → List ℕ → ℕ → Result Trace TraceFault
records_after form place rest count = records_of form (place + record_size form rest) count 0 (drop (record_size form rest) rest)

next_same : (F G : ℕ → Result Trace TraceFault) (count : ℕ) (answer : Result Next TraceFault) → ((n : ℕ) → F n ≡ G n)
    → from_next F count answer ≡ from_next G count answer
next_same F G count (Ok (next.Packet packet)) same = ap (with_packet packet) (same (count + 1))
next_same F G count (Ok next.Skipped) same = ap with_skipped (same count)
next_same F G count answer same = refl

-- what records give is what the first of them gives, and those after it
pub record_step : (form : Form) (place count : ℕ) (rest : List ℕ) (answer : Result Next TraceFault) → next_of form place count rest ≡ answer
    → records_of form place count 0 rest ≡ from_next (records_after form place rest) count answer
unfolding records_of
record_step form place count [] answer due = ap (from_next (records_after form place []) count) (sym (next_of-end form place count [] refl) ∙ due)
record_step form place count (byte ∷ bytes) answer due =
    next_same (λ n. records_of form (place + 1) n (record_size form (byte ∷ bytes) - 1) bytes) (records_after form place (byte ∷ bytes)) count
    (next_of form place count (byte ∷ bytes)) (λ n. after_record form place n byte bytes)
    ∙ ap (from_next (records_after form place (byte ∷ bytes)) count) due

-- what was read so far, before what the rest gives, is what the whole gives
pub record Progress (whole : Result Trace TraceFault) (now : Reading) (packets : List Packet) (skipped : ℕ) : Type 0 where
  pub rest : List ℕ
  pub is : now.left ≡ Some rest
  pub same : with_front packets skipped (records_of now.form now.place now.count 0 rest) ≡ whole

-- behind the header nothing was read
pub progress_start : (bytes : List ℕ) (now : Reading) → opened bytes ≡ Ok now.form → now.left ≡ Some (drop 24 bytes) → now.place ≡ 24 → now.count ≡ 0
    → Progress (capture_of bytes) now [] 0
unfolding capture_of
progress_start bytes now due is at none = record {
  rest = drop 24 bytes;
  is = is;
  same = rw (at, none) (with_front-nothing (records_of now.form 24 0 0 (drop 24 bytes)) ∙ ap (trace_of bytes) (sym due));
}

module _ (whole : Result Trace TraceFault) (before : Reading) (packets : List Packet) (skipped : ℕ) (p : Progress whole before packets skipped) where
  -- what was read so far, before what comes next
  progress_next : (answer : Result Next TraceFault) → next_of before.form before.place before.count p.rest ≡ answer
      → with_front packets skipped (from_next (records_after before.form before.place p.rest) before.count answer) ≡ whole
  progress_next answer due =
      ap (with_front packets skipped) (sym (record_step before.form before.place before.count p.rest answer due)) ∙ p.same

  pub progress_packet : (after : Reading) (packet : Packet) → AnswersNext before after (Ok (next.Packet packet))
      → after.form ≡ before.form → after.count ≡ before.count + 1 → Progress whole after (packets ++ packet ∷ []) skipped
  progress_packet after packet answers same_form one_more =
      let due = answers p.rest p.is in
      record {
        rest = drop (record_size before.form p.rest) p.rest;
        is = due.2;
        same = rw (same_form, due.1, one_more)
            (sym (with_front-packet packets skipped packet (records_after before.form before.place p.rest (before.count + 1)))
            ∙ progress_next (Ok (next.Packet packet)) due.0);
      }

  pub progress_skipped : (after : Reading) → AnswersNext before after (Ok next.Skipped) → after.form ≡ before.form → after.count ≡ before.count
      → Progress whole after packets (skipped + 1)
  progress_skipped after answers same_form as_many =
      let due = answers p.rest p.is in
      record {
        rest = drop (record_size before.form p.rest) p.rest;
        is = due.2;
        same = rw (same_form, due.1, as_many)
            (sym (with_front-skipped packets skipped (records_after before.form before.place p.rest before.count)) ∙ progress_next (Ok next.Skipped) due.0);
      }

  pub progress_end : (after : Reading) (cut : Bool) → AnswersNext before after (Ok (ends cut))
      → (whole ≡ Ok (record { packets = packets; skipped = skipped; cut = cut })) × (after.left ≡ Some [])
  unfolding with_front
  progress_end after cut answers =
      let due = answers p.rest p.is in (
        sym (progress_next (Ok (ends cut)) due.0)
            ∙ ap (with_front packets skipped) (ends_gives (records_after before.form before.place p.rest) before.count cut)
            ∙ ap (λ l. Ok (record { packets = l; skipped = skipped + 0; cut = cut })) (append-nil packets)
            ∙ ap (λ n. Ok (record { packets = packets; skipped = n; cut = cut })) (add-zero skipped),
        due.2 ∙ ap Some (ends_leave before p.rest cut),
      )

  pub progress_fault : (e : TraceFault) → next_of before.form before.place before.count p.rest ≡ Err e → whole ≡ Err e
  unfolding with_front
  progress_fault e due = sym (progress_next (Err e) due)

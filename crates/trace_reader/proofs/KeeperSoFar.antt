-- What was read so far, where a keeper has the packets.
use Rattle.std.proofs.Common.{◌≡◌, ℕ, ◌+◌, arith, Bool, true, List, [], ◌∷◌, ◌++◌, length, drop, Option}
use Rattle.std.proofs.Common.{Some, Ok, Err, ap, sym, ◌∙◌, subst, append-nil, append_assoc}
use Rattle.std.specs.Option.{ForSome}
use Rattle.std.proofs.lemmas.List.{length-append}
use Rattle.std.proofs.lemmas.List.Elements.{All-nil, All-push}
use Rattle.flow_filter.specs.declared.packet.Packet.{Packet}
use Rattle.trace_reader.specs.declared.fault.TraceFault.{TraceFault}
use Rattle.trace_reader.specs.declared.fault.TraceFault.TheVariants as fault
use Rattle.trace_reader.specs.declared.record.Next.TheVariants as next
use Rattle.trace_reader.specs.declared.reader.TraceReader.{TraceReader}
use Rattle.trace_reader.specs.Steered.{is_steered_proto}
use Rattle.trace_reader.specs.Records.{capture_of, AreNumbered}
use Rattle.trace_reader.specs.Opened.{opened, trace_of}
use Rattle.trace_reader.specs.Answers.{Reading, reading_of, Advances, AnswersNext, AnswersOpen, HandsOn, HandsPackets, HandsSteered}
use Rattle.trace_reader.proofs.CaptureSoFar.{Progress, progress_start, progress_packet, progress_skipped, ends, progress_end, progress_fault}

-- one more packet after these has the next number
numbered_push : (n : ℕ) (ps : List Packet) (p : Packet) → AreNumbered n ps → p.number ≡ n + length ps → AreNumbered n (ps ++ p ∷ [])
numbered_push n [] p first last = (omega (arith, last), tt)
numbered_push n (q ∷ ps) p first last = (first.0, numbered_push (n + 1) ps p first.1 (omega (arith, last)))

-- a fault of the header is that of the whole
pub start_fault : (Handed : List Packet → Type 0) (bytes rest : List ℕ) (left left' : Option (List ℕ)) (e : TraceFault)
    → AnswersOpen (opened bytes) rest left (Err e) → HandsPackets Handed (capture_of bytes) left' (Err e)
unfolding capture_of
start_fault Handed bytes rest left left' fault.Read due = tt
start_fault Handed bytes rest left left' fault.NoMemory due = tt
start_fault Handed bytes rest left left' e due = ap (trace_of bytes) due

module _ {K S : Type 0} (HasKept : K → S → List Packet → Type 0) (start : Option (List ℕ)) where
  -- a keeper has the packets that were read so far, and where the bytes are told these are the first that the whole gives
  pub record ReadSoFar (old new : K) (now : Reading) (skipped : ℕ) : Type 0 where
    pub hands : HandsSteered HasKept old new now.count
    pub told : (bytes : List ℕ) → start ≡ Some bytes → Progress (capture_of bytes) now hands.packets skipped

  -- after the header it has none
  pub read_start : (reader : TraceReader) (left : Option (List ℕ)) (keeper : K)
      → ForSome start (λ bytes. AnswersOpen (opened bytes) (drop 24 bytes) left (Ok reader))
      → reader.place ≡ 24 → reader.count ≡ 0 → ReadSoFar keeper keeper (reading_of reader left) 0
  read_start reader left keeper opens at none = record {
    hands = record {
      packets = [];
      counted = sym none;
      numbers = tt;
      steered = All-nil _;
      kept = λ setup before has. subst (λ (ps : List Packet). HasKept keeper setup ps) (sym (append-nil before)) has;
    };
    told = λ bytes is. (let due = opens bytes is in progress_start bytes (reading_of reader left) due.0 due.1 at none);
  }

  -- a reader that read nothing is as far as before
  pub read_unread : (old new : K) (skipped : ℕ) (reader reader' : TraceReader) (left left' : Option (List ℕ)) → reader' ≡ reader → left' ≡ left
      → ReadSoFar old new (reading_of reader left) skipped → ReadSoFar old new (reading_of reader' left') skipped
  read_unread old new skipped reader reader' left left' unread untouched h =
      subst (λ (r : TraceReader). ReadSoFar old new (reading_of r left') skipped) (sym unread)
      (subst (λ (l : Option (List ℕ)). ReadSoFar old new (reading_of reader l) skipped) (sym untouched) h)

  module _ (old mid : K) (before after : Reading) (skipped : ℕ) (h : ReadSoFar old mid before skipped) where
    -- it takes one more, which has the next number
    pub read_packet : (new : K) (packet : Packet) → AnswersNext before after (Ok (next.Packet packet)) → Advances before after (Ok (next.Packet packet))
        → after.form ≡ before.form → ((setup : S) (first : List Packet) → HasKept mid setup first → HasKept new setup (first ++ packet ∷ []))
        → ReadSoFar old new after skipped
    read_packet new packet answers moves same_form keeps =
        let ps = h.hands.packets in
        record {
          hands = record {
            packets = ps ++ packet ∷ [];
            counted = length-append ps (packet ∷ []) ∙ ap (λ n. n + 1) h.hands.counted ∙ sym moves.3;
            numbers = numbered_push 1 ps packet h.hands.numbers (omega (arith, moves.4, h.hands.counted));
            steered = All-push (λ p. is_steered_proto p.proto ≡ true) ps packet h.hands.steered moves.5;
            kept = λ setup first has. subst (λ (ps : List Packet). HasKept new setup ps) (append_assoc first ps (packet ∷ []))
                (keeps setup (first ++ ps) (h.hands.kept setup first has));
          };
          told = λ bytes is. progress_packet (capture_of bytes) before ps skipped (h.told bytes is) after packet answers same_form moves.3;
        }

    -- a record of another kind is counted
    pub read_skipped : AnswersNext before after (Ok next.Skipped) → Advances before after (Ok next.Skipped) → after.form ≡ before.form
        → ReadSoFar old mid after (skipped + 1)
    read_skipped answers moves same_form = record {
      hands = record {
        packets = h.hands.packets;
        counted = h.hands.counted ∙ sym moves.2;
        numbers = h.hands.numbers;
        steered = h.hands.steered;
        kept = h.hands.kept;
      };
      told = λ bytes is. progress_skipped (capture_of bytes) before h.hands.packets skipped (h.told bytes is) after answers same_form moves.2;
    }

    -- at its end they are all packets
    pub read_end : (bytes : List ℕ) → start ≡ Some bytes → (cut : Bool) → AnswersNext before after (Ok (ends cut))
        → HandsPackets (HandsOn HasKept old mid) (capture_of bytes) after.left (Ok (record { packets = before.count; skipped = skipped; cut = cut }))
    read_end bytes is cut answers =
        let ends = progress_end (capture_of bytes) before h.hands.packets skipped (h.told bytes is) after cut answers in
        (h.hands.packets, ends.0, h.hands.counted, ends.1, h.hands.kept)

    -- a fault that is due is answered
    pub read_fault : (bytes : List ℕ) → start ≡ Some bytes → (left : Option (List ℕ)) (e : TraceFault) → AnswersNext before after (Err e)
        → HandsPackets (HandsOn HasKept old mid) (capture_of bytes) left (Err e)
    read_fault bytes is left fault.Read answers = tt
    read_fault bytes is left fault.NoMemory answers = tt
    read_fault bytes is left e answers =
        let p = h.told bytes is in progress_fault (capture_of bytes) before h.hands.packets skipped p e (answers p.rest p.is)

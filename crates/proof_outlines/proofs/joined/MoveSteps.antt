-- Each row of a move's table leaves a move that is open in a run such a one, and what it sends and stores is such as comes in a run.
use Rattle.proof_outlines.proofs.Words.{◌≡◌, ℕ, ◌+◌, ◌≤◌, Bool, true, false, List, [], ◌∷◌, ◌++◌, map, refl, ap, ◌∙◌, arith, ◌&&◌, ◌||◌, ◌==◌, nat_lt}
use Rattle.proof_outlines.proofs.Words.{unwrap_or, Chunk, Semantics, spelled, FullCell, Answer, Piece, Msg, Door, Phase, MovePlan, MoveState, MoveNext, MoveRow}
use Rattle.proof_outlines.proofs.Words.{keeps, next_phase, chunks_of, have_units, put_back, source, destination, put_to, forward_to, from_source}
use Rattle.proof_outlines.proofs.Words.{from_destination, row, words, is_nil, push_on, release_row, return_of, all_put, on_event, on_source_enabled, on_piece}
use Rattle.proof_outlines.proofs.Words.{on_deleted, on_restored, on_source_fenced, on_put_ok, on_put_no, on_destination_enabled, on_destination_fenced}
use Rattle.proof_outlines.proofs.Words.{EachSent, Each, each-append, sent-append, by_if, Unit, Target}
use Rattle.move_op.specs.Phases as phase
use Rattle.proof_outlines.proofs.joined.Words.{is_whole, entries, filter_map-put, IsRefusing, is_done, Given, IsPlan, Genuine, IsMove, IsGoodChunk}
use Rattle.proof_outlines.proofs.joined.Words.{AreGoodChunks, IsGoodPiece, AreFree, HasPieces, Label, count}
use Rattle.proof_outlines.proofs.joined.UnitCounts.{times, times-append, distinct_from_times}

-- the chunks that a message brings back
abbrev pub brought : Msg → List Chunk
brought (Msg.PutNo op refused) = refused.chunks
brought m = []

-- the chunks that a move keeps
abbrev pub kept_in : Phase → List Chunk
kept_in (phase.Streaming frozen free came d) = chunks_of frozen ++ chunks_of free
kept_in p = []

module _ {R : Type 0} (f : Semantics R) (g : Given) where
  abbrev IsGood : Piece → Type 0
  IsGood p = AreGoodChunks f g p.chunks

  abbrev Once : List Chunk → Type 0
  Once cs = (u : Unit) → times u (entries f cs) ≤ 1

  weaker : (ps : List Piece) → Each (IsGoodPiece f g) ps → Each IsGood ps
  weaker [] h = tt
  weaker (p ∷ ps) h = (h.0.good, weaker ps h.1)

  free_more : (d : Door) (ps : List Piece) (p : Piece) → AreFree f g d ps → IsGoodPiece f g p → AreFree f g d (ps ++ p ∷ [])
  free_more (Door.Refused why) ps p h one = each-append IsGood ps (p ∷ []) h (one.good, tt)
  free_more d ps p h one = each-append (IsGoodPiece f g) ps (p ∷ []) h (one, tt)

  each_chunk : (ps : List Piece) → Each IsGood ps → Each (IsGoodChunk f g) (chunks_of ps)
  each_chunk [] h = tt
  each_chunk (p ∷ ps) h = each-append (IsGoodChunk f g) p.chunks (chunks_of ps) h.0.each (each_chunk ps h.1)

  good_chunks : (ps : List Piece) → Each IsGood ps → Once (chunks_of ps) → AreGoodChunks f g (chunks_of ps)
  good_chunks ps h once = record { each = each_chunk ps h; distinct = distinct_from_times (entries f (chunks_of ps)) once }

  -- how often a unit stands in two lists of chunks
  times_both : (u : Unit) (xs ys : List Chunk) → times u (entries f (xs ++ ys)) ≡ times u (entries f xs) + times u (entries f ys)
  times_both u xs ys = ap (times u) (filter_map-put (spelled f) xs ys) ∙ times-append u (entries f xs) (entries f ys)

  -- the same of a piece at the end
  times_end : (u : Unit) (ps : List Piece) (p : Piece)
      → times u (entries f (chunks_of (ps ++ p ∷ []))) ≡ times u (entries f (chunks_of ps)) + times u (entries f p.chunks)
  times_end u [] p = let both = times_both u p.chunks [] in omega (arith, both)
  times_end u (q ∷ ps) p = omega (arith, times_end u ps p, times_both u q.chunks (chunks_of (ps ++ p ∷ [])), times_both u q.chunks (chunks_of ps))

  -- whether a refusal is one, the door alone tells
  same_door : (a b c d : List Piece) (came since : Bool) (at : Door) → IsRefusing (phase.Streaming a c came at) → IsRefusing (phase.Streaming b d since at)
  same_door a b c d came since (Door.Refused why) h = h
  same_door a b c d came since at h = tt

  -- what is next
  record NextIs (next : MoveNext) : Type 0 where
    refusing : IsRefusing next.phase
    pieces : HasPieces f g next.phase
    labels : EachSent (Label f g) 1 next.sends

  stays : (ph : Phase) → IsRefusing ph → HasPieces f g ph → NextIs (next_phase ph [])
  stays ph refusing pieces = record { refusing = refusing; pieces = pieces; labels = tt }

  module _ (plan : MovePlan) (from : nat_lt plan.from (count f g) ≡ true) (to : nat_lt plan.to (count f g) ≡ true)
      (whole : is_whole f.kind plan.filter ≡ true) (its : IsPlan g plan.op plan) where
    puts : (ps : List Piece) → Each (IsGoodPiece f g) ps → EachSent (Label f g) 1 (map (put_to plan false) ps)
    puts [] h = tt
    puts (p ∷ ps) h = (((refl, omega arith), h.0), puts ps h.1)

    forwards : (i : ℕ) → nat_lt i (count f g) ≡ true → (cells : List FullCell) → Each (Genuine f g) cells
        → EachSent (Label f g) 1 (map (forward_to plan i) cells)
    forwards i there [] h = tt
    forwards i there (c ∷ cells) h = (((refl, refl), there, refl, h.0), forwards i there cells h.1)

    push_is : (frozen free : List Piece) (came : Bool) (d : Door) → IsRefusing (phase.Streaming frozen free came d) → Each (IsGoodPiece f g) frozen
        → AreFree f g d free → Once (chunks_of free) → NextIs (push_on (words plan) frozen free came d)
    push_is frozen [] came Door.Shut refusing a b once = record { refusing = tt; pieces = (a, tt); labels = tt }
    push_is frozen (p ∷ free) came Door.Shut refusing a b once = record { refusing = tt; pieces = (a, b.1); labels = (((refl, omega arith), b.0), tt) }
    push_is frozen free came (Door.Asked last) refusing a b once = record { refusing = tt; pieces = (a, b); labels = tt }
    push_is frozen free came Door.Open refusing a b once = record { refusing = tt; pieces = (a, tt); labels = puts free b }
    push_is frozen free came (Door.Refused why) refusing a b once =
        by_if NextIs (came && is_nil frozen) (record { refusing = refusing; pieces = tt; labels = (((refl, omega arith), good_chunks free b once), tt) })
        (record { refusing = refusing; pieces = (a, b); labels = tt })

    -- a row's phase and sends, and what it stores
    record RowIs (events : List FullCell) (r : MoveRow) : Type 0 where
      next : NextIs r.next
      genuine : Each (Genuine f g) (unwrap_or r.stored events)

    module _ (events : List FullCell) (genuine : Each (Genuine f g) events) where
      kept : (next : MoveNext) → NextIs next → RowIs events (keeps next)
      kept next h = record { next = h; genuine = genuine }

      rests : (ph : Phase) → IsRefusing ph → HasPieces f g ph → RowIs events (keeps (next_phase ph []))
      rests ph refusing pieces = kept (next_phase ph []) (stays ph refusing pieces)

      released_is : RowIs events (release_row (words plan) events)
      released_is = record {
        next = record {
          refusing = tt;
          pieces = tt;
          labels = sent-append (Label f g) 1 (map (forward_to plan plan.to) events)
              ((0, Msg.Install plan.op plan.filter plan.from (Target.Instance plan.to)) ∷ []) (forwards plan.to to events genuine)
              (((refl, refl), from, to, whole, record { plan = plan; plan_is = its; filter_is = refl; from_is = refl; to_is = refl }), tt);
        };
        genuine = tt;
      }

      returned_is : (why : Answer) → is_done why ≡ false → RowIs events (return_of (words plan) why events)
      returned_is why refused = record {
        next = record {
          refusing = refused;
          pieces = tt;
          labels = sent-append (Label f g) 1 (map (forward_to plan plan.from) events) ((0, Msg.FenceTo plan.op plan.from) ∷ [])
              (forwards plan.from from events genuine) (((refl, refl), from), tt);
        };
        genuine = tt;
      }

      all_put_is : (keep : Bool) → RowIs events (all_put (words plan) events keep)
      all_put_is true = record { next = record { refusing = tt; pieces = tt; labels = (((refl, omega arith), whole, refl), tt) }; genuine = genuine }
      all_put_is false = released_is

      event_is : (ph : Phase) (cell : FullCell) → IsRefusing ph → HasPieces f g ph → Genuine f g cell → RowIs events (on_event (words plan) ph events cell)
      event_is phase.Passing cell refusing pieces one =
          record { next = record { refusing = tt; pieces = tt; labels = (((refl, refl), to, refl, one), tt) }; genuine = genuine }
      event_is ph cell refusing pieces one =
          record { next = stays ph refusing pieces; genuine = each-append (Genuine f g) events (cell ∷ []) genuine (one, tt) }

      source_enabled_is : (ph : Phase) → IsRefusing ph → HasPieces f g ph → RowIs events (on_source_enabled (words plan) ph events)
      source_enabled_is phase.Freezing refusing pieces = kept (on_source_enabled (words plan) phase.Freezing events).next
          (record { refusing = tt; pieces = (tt, tt); labels = (((refl, omega arith), whole), tt) })
      source_enabled_is (phase.Returning why) refusing pieces = returned_is why refusing
      source_enabled_is ph refusing pieces = rests ph refusing pieces

      piece_is : (ph : Phase) (p : Piece) → IsRefusing ph → HasPieces f g ph → IsGoodPiece f g p → NextIs (on_piece (words plan) ph p)
      piece_is (phase.Streaming frozen free came d) p refusing pieces one =
          by_if NextIs (have_units p.chunks)
          (record {
            refusing = same_door frozen (frozen ++ p ∷ []) free free came (came || p.last) d refusing;
            pieces = (each-append (IsGoodPiece f g) frozen (p ∷ []) pieces.0 (one, tt), pieces.1);
            labels = ((refl, omega arith), tt);
          })
          (stays (phase.Streaming frozen free came d) refusing pieces)
      piece_is ph p refusing pieces one = stays ph refusing pieces

      deleted_is : (ph : Phase) → IsRefusing ph → HasPieces f g ph → Once (kept_in ph) → NextIs (on_deleted (words plan) ph)
      deleted_is (phase.Streaming (p ∷ frozen) free came d) refusing pieces once =
          push_is frozen (free ++ p ∷ []) came d (same_door (p ∷ frozen) frozen free (free ++ p ∷ []) came came d refusing) pieces.0.1
          (free_more d free p pieces.1 pieces.0.0)
          (λ u.
          omega (arith, once u, times_both u (chunks_of (p ∷ frozen)) (chunks_of free), times_both u p.chunks (chunks_of frozen), times_end u free p))
      deleted_is (phase.Streaming [] free came d) refusing pieces once = stays (phase.Streaming [] free came d) refusing pieces
      deleted_is ph refusing pieces once = stays ph refusing pieces

      restored_is : (ph : Phase) → IsRefusing ph → HasPieces f g ph → NextIs (on_restored (words plan) ph)
      restored_is (phase.Restoring why) refusing pieces = record { refusing = refusing; pieces = tt; labels = (((refl, omega arith), whole, refl), tt) }
      restored_is ph refusing pieces = stays ph refusing pieces

      source_fenced_is : (ph : Phase) → IsRefusing ph → HasPieces f g ph → NextIs (on_source_fenced (words plan) ph)
      source_fenced_is phase.Passing refusing pieces = record { refusing = tt; pieces = tt; labels = (((refl, refl), to), tt) }
      source_fenced_is (phase.Undoing why) refusing pieces = record { refusing = tt; pieces = tt; labels = tt }
      source_fenced_is ph refusing pieces = stays ph refusing pieces

      destination_enabled_is : (ph : Phase) → IsRefusing ph → HasPieces f g ph → RowIs events (on_destination_enabled (words plan) ph events)
      destination_enabled_is phase.Holding refusing pieces = released_is
      destination_enabled_is ph refusing pieces = rests ph refusing pieces

      destination_fenced_is : (ph : Phase) → IsRefusing ph → HasPieces f g ph → NextIs (on_destination_fenced (words plan) ph)
      destination_fenced_is phase.Ending refusing pieces = record { refusing = tt; pieces = tt; labels = tt }
      destination_fenced_is ph refusing pieces = stays ph refusing pieces

      put_ok_is : (ph : Phase) → IsRefusing ph → HasPieces f g ph → Once (kept_in ph) → RowIs events (on_put_ok (words plan) ph events)
      put_ok_is (phase.Streaming frozen free came (Door.Asked last)) refusing pieces once =
          by_if (RowIs events) last (all_put_is plan.keep)
          (kept (push_on (words plan) frozen free came Door.Open) (push_is frozen free came Door.Open tt pieces.0 pieces.1 (λ u.
          omega (arith, once u, times_both u (chunks_of frozen) (chunks_of free)))))
      put_ok_is (phase.Streaming frozen free came Door.Open) refusing pieces once = all_put_is plan.keep
      put_ok_is ph refusing pieces once = rests ph refusing pieces

      put_no_is : (ph : Phase) (why : Answer) (chunks : List Chunk) → IsRefusing ph → HasPieces f g ph → AreGoodChunks f g chunks → is_done why ≡ false
          → ((u : Unit) → times u (entries f chunks) + times u (entries f (kept_in ph)) ≤ 1) → NextIs (on_put_no (words plan) ph why (put_back chunks))
      put_no_is (phase.Streaming frozen free came (Door.Asked last)) why chunks refusing pieces good refused once =
          push_is frozen (put_back chunks last ∷ free) came (Door.Refused why) refused pieces.0 (good, weaker free pieces.1) (λ u.
          omega (arith, once u, times_both u (chunks_of frozen) (chunks_of free), times_both u chunks (chunks_of free)))
      put_no_is ph why chunks refusing pieces good refused once = stays ph refusing pieces

      -- by the message
      source_is : (ph : Phase) (port : ℕ) (message : Msg) → IsRefusing ph → HasPieces f g ph → Label f g port 1 message → Once (kept_in ph)
          → RowIs events (from_source plan ph events message)
      source_is ph port (Msg.Event op cell) refusing pieces label once = event_is ph cell refusing pieces label.1
      source_is ph port (Msg.Enabled op) refusing pieces label once = source_enabled_is ph refusing pieces
      source_is ph port (Msg.Piece op p) refusing pieces label once = kept (on_piece (words plan) ph p) (piece_is ph p refusing pieces label.1)
      source_is ph port (Msg.Deleted op) refusing pieces label once = kept (on_deleted (words plan) ph) (deleted_is ph refusing pieces once)
      source_is ph port (Msg.Restored op) refusing pieces label once = kept (on_restored (words plan) ph) (restored_is ph refusing pieces)
      source_is ph port (Msg.Fenced op) refusing pieces label once = kept (on_source_fenced (words plan) ph) (source_fenced_is ph refusing pieces)
      source_is ph port message refusing pieces label once = rests ph refusing pieces

      destination_is : (ph : Phase) (port : ℕ) (message : Msg) → IsRefusing ph → HasPieces f g ph → Label f g port 1 message
          → ((u : Unit) → times u (entries f (brought message)) + times u (entries f (kept_in ph)) ≤ 1)
          → RowIs events (from_destination plan ph events message)
      destination_is ph port (Msg.PutOk op) refusing pieces label once = put_ok_is ph refusing pieces (λ u. let all = once u in omega (arith, all))
      destination_is ph port (Msg.PutNo op refused) refusing pieces label once =
          kept (on_put_no (words plan) ph refused.why (put_back refused.chunks)) (put_no_is ph refused.why refused.chunks refusing pieces label.1 label.2 once)
      destination_is ph port (Msg.Enabled op) refusing pieces label once = destination_enabled_is ph refusing pieces
      destination_is ph port (Msg.Fenced op) refusing pieces label once =
          kept (on_destination_fenced (words plan) ph) (destination_fenced_is ph refusing pieces)
      destination_is ph port message refusing pieces label once = rests ph refusing pieces

      row_is : (ph : Phase) (port : ℕ) (message : Msg) → IsRefusing ph → HasPieces f g ph → Label f g port 1 message
          → ((u : Unit) → times u (entries f (brought message)) + times u (entries f (kept_in ph)) ≤ 1)
          → RowIs events (row (record { plan = plan; phase = ph }) events port message)
      row_is ph port message refusing pieces label once =
          by_if (RowIs events) (port == source plan) (source_is ph port message refusing pieces label (λ u. let all = once u in omega (arith, all)))
          (by_if (RowIs events) (port == destination plan) (destination_is ph port message refusing pieces label once) (rests ph refusing pieces))

  -- what a row leaves
  pub record RowKeeps (op : ℕ) (m : MoveState) (events : List FullCell) (r : MoveRow) : Type 0 where
    pub move : IsMove f g op (record m { phase = r.next.phase })
    pub labels : EachSent (Label f g) 1 r.next.sends
    pub genuine : Each (Genuine f g) (unwrap_or r.stored events)

  pub row_keeps : (op : ℕ) (m : MoveState) (events : List FullCell) (port : ℕ) (message : Msg) → IsMove f g op m → Each (Genuine f g) events
      → Label f g port 1 message → ((u : Unit) → times u (entries f (brought message)) + times u (entries f (kept_in m.phase)) ≤ 1)
      → RowKeeps op m events (row m events port message)
  row_keeps op m events port message is genuine label once =
      let it = row_is m.plan is.from is.to is.whole is.plan events genuine m.phase port message is.refusing is.pieces label once in
      record {
        move = record {
          op_is = is.op_is;
          from = is.from;
          to = is.to;
          other = is.other;
          whole = is.whole;
          plan = is.plan;
          refusing = it.next.refusing;
          pieces = it.next.pieces;
        };
        labels = it.next.labels;
        genuine = it.genuine;
      }

-- The outline of each row of a move's table is the row of the abstract network.
use Rattle.proof_outlines.proofs.Words.{map-append, ◌≡◌, ℕ, Bool, true, false, Option, Some, None, List, [], ◌∷◌, ◌++◌, map, refl, sym, ap, ◌∙◌, subst}
use Rattle.proof_outlines.proofs.Words.{if◌then◌else◌, ◌==◌, unwrap_or, Chunk, Semantics, spelled, FullCell, Answer, Refused, Msg, instance_node, Phase}
use Rattle.proof_outlines.proofs.Words.{MovePlan, MoveNext, MoveRow, keeps, next_phase, have_units, chunks_of, put_back, source, destination, put_to}
use Rattle.proof_outlines.proofs.Words.{forward_to, words, from_source, from_destination, row, on_event, on_piece, on_source_fenced, MovePhase, Op}
use Rattle.proof_outlines.proofs.Words.{OperationTurn, operation_words, Each, wrap, row_of, Unit, Target, Door, APiece, split, MoveMsg}
use Rattle.nf_msgs.specs.Exports.{units_in}
use Rattle.move_op.specs.Phases as phase
use Rattle.proof_machines.proofs.unit.Real as real
use Rattle.proof_machines.proofs.unit.TableViews.{map_phase, Follow, event_follows, source_enabled_follows, piece_follows, deleted_follows, restored_follows}
use Rattle.proof_machines.proofs.unit.TableViews.{source_fenced_follows, put_ok_follows, put_no_follows, destination_enabled_follows}
use Rattle.proof_machines.proofs.unit.TableViews.{destination_fenced_follows}
use Rattle.proof_machines.proofs.net.Net as net
use Rattle.proof_outlines.proofs.outline.Outline.{number, entries, outline_piece, outline_sent, outline_sends}
use Rattle.proof_outlines.proofs.outline.InstanceOutline.{filter_map-put}

-- why a move is over: nothing, where it is done
abbrev pub refused_by : Answer → Option Answer
refused_by Answer.Done = None
refused_by why = Some why

abbrev pub outline_plan : MovePlan → Op
outline_plan p = record { num = p.op; src = source p; dst = destination p; keep = p.keep }

-- an answer that is no refusal
abbrev pub is_done : Answer → Bool
is_done Answer.Done = true
is_done why = false

-- what a refused move keeps is a refusal
abbrev pub IsRefusing : Phase → Type 0
IsRefusing (phase.Streaming frozen free came (Door.Refused why)) = is_done why ≡ false
IsRefusing (phase.Restoring why) = is_done why ≡ false
IsRefusing (phase.Returning why) = is_done why ≡ false
IsRefusing (phase.Undoing why) = is_done why ≡ false
IsRefusing p = Prim.Unit {0}

module _ {R : Type 0} (f : Semantics R) (place : List ℕ → Option ℕ) where
  abbrev pub outline_phase : Phase → MovePhase R
  outline_phase = map_phase (outline_piece f) refused_by

  -- a chunk whose bytes spell a record of its unit
  pub record IsChunk (c : Chunk) : Type 0 where
    pub entry : Unit × R
    pub spells : spelled f c ≡ Some entry
    pub unit : c.unit ≡ Some entry.0

  pub record RowFollows (plan : MovePlan) (events : List FullCell) (real_row : MoveRow) (did : OperationTurn R) : Type 0 where
    pub phase : outline_phase real_row.next.phase ≡ did.phase
    pub store : map number (unwrap_or real_row.stored events) ≡ did.store
    pub sends : outline_sends f place real_row.next.sends ≡ wrap plan.filter did.sends

  -- the units of chunks
  pub units_same : (cs : List Chunk) → Each IsChunk cs → units_in cs ≡ map real.chunk_unit (entries f cs)
  units_same [] h = refl
  units_same (c ∷ cs) h = let a = h.0.unit in let b = h.0.spells in rw (a, b) (ap (λ us. h.0.entry.0 ∷ us) (units_same cs h.1))

  all_units : (cs : List Chunk) → Each IsChunk cs → have_units cs ≡ true
  all_units [] h = refl
  all_units (c ∷ cs) h = let a = h.0.unit in rw a (all_units cs h.1)

  chunks_same : (ps : List APiece) → entries f (chunks_of ps) ≡ real.chunks_of (map (outline_piece f) ps)
  chunks_same [] = refl
  chunks_same (p ∷ ps) = filter_map-put (spelled f) p.chunks (chunks_of ps) ∙ ap (λ xs. entries f p.chunks ++ xs) (chunks_same ps)

  -- what is sent
  sends-put : (xs ys : List (ℕ × Msg)) → outline_sends f place (xs ++ ys) ≡ outline_sends f place xs ++ outline_sends f place ys
  sends-put xs ys = filter_map-put (outline_sent f place) xs ys

  puts_same : (plan : MovePlan) (ps : List APiece)
      → outline_sends f place (map (put_to plan false) ps) ≡ wrap plan.filter (map (real.put_to (outline_plan plan)) (map (outline_piece f) ps))
  puts_same plan [] = refl
  puts_same plan (p ∷ ps) = ap (λ xs. (destination plan, net.Of_move net.everything (MoveMsg.Put plan.op (outline_piece f p) false)) ∷ xs) (puts_same plan ps)

  forwards_same : (plan : MovePlan) (to : ℕ) (cells : List FullCell)
      → outline_sends f place (map (forward_to plan to) cells) ≡ wrap plan.filter (map (real.forward_to (instance_node to)) (map number cells))
  forwards_same plan to [] = refl
  forwards_same plan to (c ∷ cs) = ap (λ xs. (0, net.Of_move net.everything (MoveMsg.Forward (number c) (instance_node to))) ∷ xs) (forwards_same plan to cs)

  -- the stored parcels are sent on, and a message to the switch after them
  sent_on : (plan : MovePlan) (to : ℕ) (events : List FullCell) (m : Msg) (seen : MoveMsg R)
      → outline_sends f place ((0, m) ∷ []) ≡ wrap plan.filter ((0, seen) ∷ [])
      → outline_sends f place (map (forward_to plan to) events ++ (0, m) ∷ [])
      ≡ wrap plan.filter (map (real.forward_to (instance_node to)) (map number events) ++ (0, seen) ∷ [])
  sent_on plan to events m seen same =
      sends-put (map (forward_to plan to) events) ((0, m) ∷ []) ∙ ap (λ xs. xs ++ outline_sends f place ((0, m) ∷ [])) (forwards_same plan to events)
      ∙ ap (λ xs. wrap plan.filter (map (real.forward_to (instance_node to)) (map number events)) ++ xs) same
      ∙ sym (map-append _ (map (real.forward_to (instance_node to)) (map number events)) ((0, seen) ∷ []))

  -- a row that leaves the stored parcels, and what the network does
  abbrev NextFollows : MovePlan → List FullCell → MoveNext → OperationTurn R → Type 0
  NextFollows plan events next did = RowFollows plan events (keeps next) did

  -- each word of the table is outlined as the network's
  follows : (plan : MovePlan) (events : List FullCell)
      → Follow (words plan) (operation_words (outline_plan plan) (map number events)) events (map number events)
      (outline_piece f) refused_by (NextFollows plan events) (RowFollows plan events)
  follows plan events = record {
    last = λ p. refl;
    done = refl;
    nothing = λ ph. record { phase = refl; store = refl; sends = refl };
    stream = record { phase = refl; store = refl; sends = refl };
    restore = λ why ps. record {
      phase = refl;
      store = refl;
      sends = ap (λ cs. (source plan, net.Of_move net.everything (MoveMsg.Restore plan.op cs)) ∷ []) (chunks_same ps);
    };
    hold_at_source = λ why. record { phase = refl; store = refl; sends = refl };
    ask = λ a b came p. record { phase = refl; store = refl; sends = refl };
    put = λ a b came. record { phase = refl; store = refl; sends = puts_same plan b };
    hold_at_destination = record { phase = refl; store = refl; sends = refl };
    release = record {
      phase = refl;
      store = refl;
      sends = sent_on plan plan.to events (Msg.Install plan.op plan.filter plan.from (Target.Instance plan.to))
          (MoveMsg.Install plan.op (source plan) (destination plan)) refl;
    };
    give_back = λ why. record {
      phase = refl;
      store = refl;
      sends = sent_on plan plan.from events (Msg.FenceTo plan.op plan.from) (MoveMsg.Fence_to plan.op (source plan)) refl;
    };
    fence = record { phase = refl; store = refl; sends = refl };
    keeps = λ same. same;
    empties = λ same. record { phase = same.phase; store = refl; sends = same.sends };
  }

  numbers-put : (events : List FullCell) (cell : FullCell) → map number (events ++ cell ∷ []) ≡ map number events ++ number cell ∷ []
  numbers-put [] cell = refl
  numbers-put (e ∷ events) cell = ap (λ xs. number e ∷ xs) (numbers-put events cell)

  event_same : (plan : MovePlan) (ph : Phase) (events : List FullCell) (cell : FullCell) → RowFollows plan events (on_event (words plan) ph events cell)
      (on_event (operation_words (outline_plan plan) (map number events)) (outline_phase ph) (map number events) (number cell))
  event_same plan ph events cell = event_follows (follows plan events) cell (number cell) (record { phase = refl; store = refl; sends = refl })
      (λ n m same. record { phase = same.phase; store = numbers-put events cell; sends = same.sends }) ph

  stays : (plan : MovePlan) (ph : Phase) (events : List FullCell)
      → RowFollows plan events (keeps (next_phase ph [])) (real.operation_turn (outline_phase ph) (map number events) [])
  stays plan ph events = record { phase = refl; store = refl; sends = refl }

  piece_same : (plan : MovePlan) (ph : Phase) (events : List FullCell) (p : APiece) → Each IsChunk p.chunks → NextFollows plan events
      (on_piece (words plan) ph p) (on_piece (operation_words (outline_plan plan) (map number events)) (outline_phase ph) (outline_piece f p))
  piece_same plan ph events p h = piece_follows (follows plan events) p (all_units p.chunks h) refl (λ q. record {
    phase = refl;
    store = refl;
    sends = ap (λ us. (source plan, net.Of_move net.everything (MoveMsg.Delete plan.op us)) ∷ []) (units_same p.chunks h);
  }) ph

  refused_is : (why : Answer) → is_done why ≡ false → refused_by why ≡ Some why
  refused_is Answer.Done e = cc
  refused_is why e = refl

  source_fenced_same : (plan : MovePlan) (ph : Phase) (events : List FullCell) → IsRefusing ph → NextFollows plan events
      (on_source_fenced (words plan) ph) (on_source_fenced (operation_words (outline_plan plan) (map number events)) (outline_phase ph))
  source_fenced_same plan ph events h = source_fenced_follows (follows plan events) ph (λ why is. sym (refused_is why (subst IsRefusing is h)))

  -- A row, by the node that the message comes from.
  module _ (plan : MovePlan) (ph : Phase) (events : List FullCell) (sender : ℕ) where
    abbrev pub Rows : Msg → MoveMsg R → Type 0
    Rows m seen = RowFollows plan events (row (record { plan = plan; phase = ph }) events sender m)
        (row_of (outline_plan plan) (outline_phase ph) (map number events) sender seen)

    by_sender : (m : Msg) (seen : MoveMsg R)
        → RowFollows plan events (from_source plan ph events m) (real.operation_from_source (outline_plan plan) (outline_phase ph) (map number events) seen)
        → RowFollows plan events (from_destination plan ph events m)
        (real.operation_from_destination (outline_plan plan) (outline_phase ph) (map number events) seen)
        → Rows m seen
    by_sender m seen at_source at_destination =
        split (sender == source plan)
        (λ a. RowFollows plan events
        (if a then from_source plan ph events m else if sender == destination plan then from_destination plan ph events m else keeps
        (next_phase ph [])) (if a then real.operation_from_source (outline_plan plan) (outline_phase ph)
        (map number events) seen else if sender == destination plan then real.operation_from_destination (outline_plan plan) (outline_phase ph)
        (map number events) seen else real.operation_turn (outline_phase ph) (map number events) []))
        (λ _. at_source)
        (λ _. split (sender == destination plan)
        (λ b. RowFollows plan events (if b then from_destination plan ph events m else keeps (next_phase ph []))
        (if b then real.operation_from_destination (outline_plan plan) (outline_phase ph) (map number events) seen else real.operation_turn (outline_phase ph)
        (map number events) []))
        (λ _. at_destination) (λ _. stays plan ph events))

    pub event_row : (op : ℕ) (cell : FullCell) → Rows (Msg.Event op cell) (MoveMsg.Event op (number cell))
    event_row op cell = by_sender (Msg.Event op cell) (MoveMsg.Event op (number cell)) (event_same plan ph events cell) (stays plan ph events)

    pub enabled_row : (op : ℕ) → Rows (Msg.Enabled op) (MoveMsg.Enabled op)
    enabled_row op = by_sender (Msg.Enabled op) (MoveMsg.Enabled op) (source_enabled_follows (follows plan events) ph)
        (destination_enabled_follows (follows plan events) ph)

    pub piece_row : (op : ℕ) (p : APiece) → Each IsChunk p.chunks → Rows (Msg.Piece op p) (MoveMsg.Piece op (outline_piece f p))
    piece_row op p h = by_sender (Msg.Piece op p) (MoveMsg.Piece op (outline_piece f p)) (piece_same plan ph events p h) (stays plan ph events)

    pub deleted_row : (op : ℕ) → Rows (Msg.Deleted op) (MoveMsg.Deleted op)
    deleted_row op = by_sender (Msg.Deleted op) (MoveMsg.Deleted op) (deleted_follows (follows plan events) ph) (stays plan ph events)

    pub put_ok_row : (op : ℕ) → Rows (Msg.PutOk op) (MoveMsg.Put_ok op)
    put_ok_row op = by_sender (Msg.PutOk op) (MoveMsg.Put_ok op) (stays plan ph events) (put_ok_follows (follows plan events) refl ph)

    pub put_no_row : (op : ℕ) (refused : Refused) → Rows (Msg.PutNo op refused) (MoveMsg.Put_no op refused.why (entries f refused.chunks))
    put_no_row op refused = by_sender (Msg.PutNo op refused) (MoveMsg.Put_no op refused.why (entries f refused.chunks)) (stays plan ph events)
        (put_no_follows (follows plan events) refused.why (put_back refused.chunks) (real.put_back (entries f refused.chunks)) (λ last. refl) ph)

    pub restored_row : (op : ℕ) → Rows (Msg.Restored op) (MoveMsg.Restored op)
    restored_row op = by_sender (Msg.Restored op) (MoveMsg.Restored op) (restored_follows (follows plan events) ph) (stays plan ph events)

    pub fenced_row : (op : ℕ) → IsRefusing ph → Rows (Msg.Fenced op) (MoveMsg.Fenced op)
    fenced_row op refusing = by_sender (Msg.Fenced op) (MoveMsg.Fenced op) (source_fenced_same plan ph events refusing)
        (destination_fenced_follows (follows plan events) ph)

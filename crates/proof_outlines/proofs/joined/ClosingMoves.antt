-- A move is over by its last fence alone, and then nothing is stored for it.
use Rattle.proof_outlines.proofs.Words.{◌≡◌, ℕ, Bool, true, false, Some, None, List, [], ◌∷◌, ◌++◌, refl, sym, ap, ◌∙◌, if◌then◌else◌, ◌&&◌, ◌==◌, unwrap_or}
use Rattle.proof_outlines.proofs.Words.{Chunk, Semantics, FullCell, Answer, Msg, Piece, Door, Phase, MovePlan, MoveState, MoveRow, row, answer_of, keeps}
use Rattle.proof_outlines.proofs.Words.{next_phase, have_units, source, destination, MoveNext, from_source, from_destination, put_back, words, is_nil, push_on}
use Rattle.proof_outlines.proofs.Words.{all_put, on_event, on_source_enabled, on_piece, on_deleted, on_restored, on_source_fenced, on_put_ok, on_put_no}
use Rattle.proof_outlines.proofs.Words.{on_destination_enabled, on_destination_fenced, Open, find_op, WholeWorld, ends, Came, EveryAll, by_if, Unit, split}
use Rattle.move_op.specs.Phases as phase
use Rattle.proof_machines.proofs.net.Stores.{nothing}
use Rattle.proof_outlines.proofs.joined.Words.{number, is_sys, outline_phase, SeesMove, Given, place, S, A}
use Rattle.proof_outlines.proofs.joined.MoveReadings.{none_left_all}
use Rattle.proof_machines.proofs.unit.Lists.{map_nil}

-- the last fence is awaited
abbrev closing : Phase → Bool
closing phase.Ending = true
closing (phase.Undoing why) = true
closing ph = false

record Closes (ph : Phase) (r : MoveRow) : Type 0 where
  at : closing ph ≡ true
  stays : r.stored ≡ None

module _ (plan : MovePlan) (events : List FullCell) where
  push_goes : (frozen free : List Piece) (came : Bool) (d : Door) → answer_of (push_on (words plan) frozen free came d).phase ≡ None
  push_goes frozen [] came Door.Shut = refl
  push_goes frozen (p ∷ free) came Door.Shut = refl
  push_goes frozen free came (Door.Refused why) = by_if (λ (r : MoveNext). answer_of r.phase ≡ None) (came && is_nil frozen) refl refl
  push_goes frozen free came d = refl

  put_goes : (keep : Bool) → answer_of (all_put (words plan) events keep).next.phase ≡ None
  put_goes true = refl
  put_goes false = refl

  event_goes : (ph : Phase) (cell : FullCell) → answer_of ph ≡ None → answer_of (on_event (words plan) ph events cell).next.phase ≡ None
  event_goes phase.Passing cell h = refl
  event_goes ph cell h = h

  enabled_goes : (ph : Phase) → answer_of ph ≡ None → answer_of (on_source_enabled (words plan) ph events).next.phase ≡ None
  enabled_goes phase.Freezing h = refl
  enabled_goes (phase.Returning why) h = refl
  enabled_goes ph h = h

  piece_goes : (ph : Phase) (p : Piece) → answer_of ph ≡ None → answer_of (on_piece (words plan) ph p).phase ≡ None
  piece_goes (phase.Streaming frozen free came d) p h = by_if (λ (r : MoveNext). answer_of r.phase ≡ None) (have_units p.chunks) refl refl
  piece_goes ph p h = h

  deleted_goes : (ph : Phase) → answer_of ph ≡ None → answer_of (on_deleted (words plan) ph).phase ≡ None
  deleted_goes (phase.Streaming (p ∷ frozen) free came d) h = push_goes frozen (free ++ p ∷ []) came d
  deleted_goes (phase.Streaming [] free came d) h = refl
  deleted_goes ph h = h

  restored_goes : (ph : Phase) → answer_of ph ≡ None → answer_of (on_restored (words plan) ph).phase ≡ None
  restored_goes (phase.Restoring why) h = refl
  restored_goes ph h = h

  put_ok_goes : (ph : Phase) → answer_of ph ≡ None → answer_of (on_put_ok (words plan) ph events).next.phase ≡ None
  put_ok_goes (phase.Streaming frozen free came (Door.Asked last)) h =
      by_if (λ (r : MoveRow). answer_of r.next.phase ≡ None) last (put_goes plan.keep) refl
  put_ok_goes (phase.Streaming frozen free came Door.Open) h = put_goes plan.keep
  put_ok_goes (phase.Streaming frozen free came Door.Shut) h = refl
  put_ok_goes ph h = h

  put_no_goes : (ph : Phase) (why : Answer) (chunks : List Chunk) → answer_of ph ≡ None
      → answer_of (on_put_no (words plan) ph why (put_back chunks)).phase ≡ None
  put_no_goes (phase.Streaming frozen free came (Door.Asked last)) why chunks h = push_goes frozen (put_back chunks last ∷ free) came (Door.Refused why)
  put_no_goes (phase.Streaming frozen free came Door.Shut) why chunks h = refl
  put_no_goes ph why chunks h = h

  destination_enabled_goes : (ph : Phase) → answer_of ph ≡ None → answer_of (on_destination_enabled (words plan) ph events).next.phase ≡ None
  destination_enabled_goes phase.Holding h = refl
  destination_enabled_goes ph h = h

  -- so a move that isn't over goes on but for a fence
  goes_on : (ph : Phase) (r : MoveRow) (why : Answer) → answer_of r.next.phase ≡ None → answer_of r.next.phase ≡ Some why → Closes ph r
  goes_on ph r why none over = let never : None ≡ Some why = sym none ∙ over in cc

  source_fenced : (ph : Phase) (why : Answer) → answer_of ph ≡ None → answer_of (on_source_fenced (words plan) ph).phase ≡ Some why
      → Closes ph (keeps (on_source_fenced (words plan) ph))
  source_fenced (phase.Undoing cause) why h over = record { at = refl; stays = refl }
  source_fenced ph why h over = cc

  destination_fenced : (ph : Phase) (why : Answer) → answer_of ph ≡ None → answer_of (on_destination_fenced (words plan) ph).phase ≡ Some why
      → Closes ph (keeps (on_destination_fenced (words plan) ph))
  destination_fenced phase.Ending why h over = record { at = refl; stays = refl }
  destination_fenced ph why h over = cc

  source_closes : (ph : Phase) (m : Msg) (why : Answer) → answer_of ph ≡ None → answer_of (from_source plan ph events m).next.phase ≡ Some why
      → Closes ph (from_source plan ph events m)
  source_closes ph (Msg.Event op cell) why h over = goes_on ph _ why (event_goes ph cell h) over
  source_closes ph (Msg.Enabled op) why h over = goes_on ph _ why (enabled_goes ph h) over
  source_closes ph (Msg.Piece op p) why h over = goes_on ph _ why (piece_goes ph p h) over
  source_closes ph (Msg.Deleted op) why h over = goes_on ph _ why (deleted_goes ph h) over
  source_closes ph (Msg.Restored op) why h over = goes_on ph _ why (restored_goes ph h) over
  source_closes ph (Msg.Fenced op) why h over = source_fenced ph why h over
  source_closes ph m why h over = goes_on ph _ why h over

  destination_closes : (ph : Phase) (m : Msg) (why : Answer) → answer_of ph ≡ None → answer_of (from_destination plan ph events m).next.phase ≡ Some why
      → Closes ph (from_destination plan ph events m)
  destination_closes ph (Msg.PutOk op) why h over = goes_on ph _ why (put_ok_goes ph h) over
  destination_closes ph (Msg.PutNo op refused) why h over = goes_on ph _ why (put_no_goes ph refused.why refused.chunks h) over
  destination_closes ph (Msg.Enabled op) why h over = goes_on ph _ why (destination_enabled_goes ph h) over
  destination_closes ph (Msg.Fenced op) why h over = destination_fenced ph why h over
  destination_closes ph m why h over = goes_on ph _ why h over

  closes : (ph : Phase) (port : ℕ) (m : Msg) (why : Answer) → answer_of ph ≡ None
      → answer_of (row (record { plan = plan; phase = ph }) events port m).next.phase ≡ Some why
      → Closes ph (row (record { plan = plan; phase = ph }) events port m)
  closes ph port m why h =
      split (port == source plan)
      (λ b. answer_of (if b then from_source plan ph events m else if port == destination plan then from_destination plan ph events m else keeps
      (next_phase ph [])).next.phase ≡ Some why → Closes ph
      (if b then from_source plan ph events m else if port == destination plan then from_destination plan ph events m else keeps
      (next_phase ph [])))
      (λ _. source_closes ph m why h)
      (λ _. split (port == destination plan)
      (λ b. answer_of (if b then from_destination plan ph events m else keeps (next_phase ph [])).next.phase ≡ Some why → Closes ph
      (if b then from_destination plan ph events m else keeps (next_phase ph [])))
      (λ _. destination_closes ph m why h) (λ _. λ over. goes_on ph _ why h over))

module _ {R : Type 0} (f : Semantics R) (g : Given) where
  ends_at : (ph : Phase) → closing ph ≡ true → ends (outline_phase f (place g) ph) ≡ true
  ends_at phase.Ending e = refl
  ends_at (phase.Undoing why) e = refl
  ends_at ph e = cc

  pub closed_empty : (w : WholeWorld (S f g) (A f g)) (came : Unit → Came) → EveryAll (S f g) (A f g) (is_sys f g.site g.packet) w came
      → (n : ℕ) (e : Open R) (mv : MoveState) (events : List FullCell) → find_op w.ops n ≡ Some e → SeesMove f (place g) e mv events
      → answer_of mv.phase ≡ None → (port : ℕ) (m : Msg) (why : Answer) → answer_of (row mv events port m).next.phase ≡ Some why
      → unwrap_or (row mv events port m).stored events ≡ []
  closed_empty w came every n e mv events there sees going port m why over =
      let c = closes mv.plan events mv.phase port m why going over in
      let none : e.store ≡ [] = nothing (S f g) (is_sys f g.site g.packet) e.store
      (λ u. none_left_all (S f g) (A f g) (is_sys f g.site g.packet) w came every n e there u (ap ends sees.phase ∙ ends_at mv.phase c.at)) in
      ap (λ o. unwrap_or o events) c.stays ∙ map_nil number events (sym sees.store ∙ none)

-- The rows of a move, over any parcels and any pieces: what is said next, and how far the move has then come, for each message of the source
-- and of the destination. What the words mean is left open. This project's own, after the moves of OpenNF that lose no packet and keep the
-- order of packets.
use Rattle.std.specs.Prelude.{◌&&◌, ◌||◌, Bool, true, false, List, [], ◌∷◌, ◌++◌, if◌then◌else◌}
use Rattle.nf_msgs.specs.declared.answer.Answer.{Answer}
use Rattle.move_op.specs.declared.door.Door.{Door}
use Rattle.move_op.specs.declared.door.Door.TheVariants.{Shut, Asked, Open, Refused}
use Rattle.move_op.specs.Phases.{PhaseOf, Freezing, Streaming, Holding, Passing, Ending, Restoring, Returning, Undoing, Over}

-- What a row says: nothing; to the source, to send its state, to remove a piece's records, to take pieces back, and to hold what comes; to the
-- destination, to take the piece that asks, to take pieces, and to hold what comes; to the switch, to send a parcel on, to send the stored
-- parcels to the destination and to change the rules, to send them to the source and its fence after them, and to send the destination's fence.
pub data Said (P C : Type 0) : Type 0 where
  Nothing : Said P C
  Stream : Said P C
  Remove : (piece : C) → Said P C
  Restore : (pieces : List C) → Said P C
  Hold_at_source : Said P C
  Ask : (piece : C) → Said P C
  Put : (pieces : List C) → Said P C
  Hold_at_destination : Said P C
  Forward : (parcel : P) → Said P C
  Release : (stored : List P) → Said P C
  Give_back : (stored : List P) → Said P C
  Fence : Said P C

-- What the rows are of: whether packets keep their order; which piece is the last, and which can be removed; how a move ends that is done or
-- refused; and what comes of a phase and what is said (N), where the stored parcels stay, or where these are stored afterwards (T).
pub record Words (P C O N T : Type 0) : Type 0 where
  pub keep : Bool
  pub is_last : C → Bool
  pub has_units : C → Bool
  pub done : O
  pub refused : Answer → O
  pub next : PhaseOf C O → Said P C → N
  pub keeps : N → T
  pub stores : List P → N → T

-- there is nothing in a list
abbrev pub is_nil : {X : Type 0} → List X → Bool
is_nil [] = true
is_nil (x ∷ xs) = false

-- the first piece that is removed asks whether all of them are taken
abbrev pub asking : {P C O N T : Type 0} → Words P C O N T → List C → List C → Bool → N
asking w to_remove [] came = w.next (Streaming to_remove [] came Shut) Nothing
asking w to_remove (piece ∷ removed) came = w.next (Streaming to_remove removed came (Asked (w.is_last piece))) (Ask piece)

-- the pieces that are removed go on as the door says: one of them, all of them, or back to the source once there are no others
abbrev pub push_on : {P C O N T : Type 0} → Words P C O N T → List C → List C → Bool → Door → N
push_on w to_remove removed came Shut = asking w to_remove removed came
push_on w to_remove removed came (Asked last) = w.next (Streaming to_remove removed came (Asked last)) Nothing
push_on w to_remove removed came Open = w.next (Streaming to_remove [] came Open) (Put removed)
push_on w to_remove removed came (Refused why) =
    if came && is_nil to_remove then w.next (Restoring why) (Restore removed)
    else w.next (Streaming to_remove removed came (Refused why)) Nothing

-- the stored parcels go to the destination, and then all that comes goes there
abbrev pub release_row : {P C O N T : Type 0} → Words P C O N T → List P → T
release_row w stored = w.stores [] (w.next Passing (Release stored))

-- the stored parcels go back to the source
abbrev pub return_of : {P C O N T : Type 0} → Words P C O N T → Answer → List P → T
return_of w why stored = w.stores [] (w.next (Undoing why) (Give_back stored))

-- all pieces are put
abbrev pub all_put : {P C O N T : Type 0} → Words P C O N T → List P → Bool → T
all_put w stored true = w.keeps (w.next Holding Hold_at_destination)
all_put w stored false = release_row w stored

-- an event of the source
abbrev pub on_event : {P C O N T : Type 0} → Words P C O N T → PhaseOf C O → List P → P → T
on_event w Passing stored parcel = w.keeps (w.next Passing (Forward parcel))
on_event w phase stored parcel = w.stores (stored ++ parcel ∷ []) (w.next phase Nothing)

-- the source has set its event rule
abbrev pub on_source_enabled : {P C O N T : Type 0} → Words P C O N T → PhaseOf C O → List P → T
on_source_enabled w Freezing stored = w.keeps (w.next (Streaming [] [] false Shut) Stream)
on_source_enabled w (Returning why) stored = return_of w why stored
on_source_enabled w phase stored = w.keeps (w.next phase Nothing)

-- the next piece of the source
abbrev pub on_piece : {P C O N T : Type 0} → Words P C O N T → PhaseOf C O → C → N
on_piece w (Streaming to_remove removed came door) piece =
    if w.has_units piece then w.next (Streaming (to_remove ++ piece ∷ []) removed (came || w.is_last piece) door) (Remove piece)
    else w.next (Streaming to_remove removed came door) Nothing
on_piece w phase piece = w.next phase Nothing

-- the source has removed the records of the first piece that is to remove
abbrev pub on_deleted : {P C O N T : Type 0} → Words P C O N T → PhaseOf C O → N
on_deleted w (Streaming (piece ∷ to_remove) removed came door) = push_on w to_remove (removed ++ piece ∷ []) came door
on_deleted w phase = w.next phase Nothing

-- the source has its records again
abbrev pub on_restored : {P C O N T : Type 0} → Words P C O N T → PhaseOf C O → N
on_restored w (Restoring why) = w.next (Returning why) Hold_at_source
on_restored w phase = w.next phase Nothing

-- the fence came to the source
abbrev pub on_source_fenced : {P C O N T : Type 0} → Words P C O N T → PhaseOf C O → N
on_source_fenced w Passing = w.next Ending Fence
on_source_fenced w (Undoing why) = w.next (Over (w.refused why)) Nothing
on_source_fenced w phase = w.next phase Nothing

-- the destination took the piece that asked, or the last one
abbrev pub on_put_ok : {P C O N T : Type 0} → Words P C O N T → PhaseOf C O → List P → T
on_put_ok w (Streaming to_remove removed came (Asked last)) stored =
    if last then all_put w stored w.keep else w.keeps (push_on w to_remove removed came Open)
on_put_ok w (Streaming to_remove removed came Open) stored = all_put w stored w.keep
on_put_ok w phase stored = w.keeps (w.next phase Nothing)

-- the destination refused the piece that asked, which comes back as the last one or not
abbrev pub on_put_no : {P C O N T : Type 0} → Words P C O N T → PhaseOf C O → Answer → (Bool → C) → N
on_put_no w (Streaming to_remove removed came (Asked last)) why back = push_on w to_remove (back last ∷ removed) came (Refused why)
on_put_no w phase why back = w.next phase Nothing

-- the destination has set its event rule
abbrev pub on_destination_enabled : {P C O N T : Type 0} → Words P C O N T → PhaseOf C O → List P → T
on_destination_enabled w Holding stored = release_row w stored
on_destination_enabled w phase stored = w.keeps (w.next phase Nothing)

-- the fence came to the destination
abbrev pub on_destination_fenced : {P C O N T : Type 0} → Words P C O N T → PhaseOf C O → N
on_destination_fenced w Ending = w.next (Over w.done) Nothing
on_destination_fenced w phase = w.next phase Nothing

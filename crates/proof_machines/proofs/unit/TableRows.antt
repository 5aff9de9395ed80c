-- What holds of all that the words of a move's table come to holds of each row, where it holds of the parcels, the pieces and the reasons that the
-- move has and that the message brings.
use Rattle.proof_machines.proofs.unit.Words.{Bool, true, false, List, [], ◌∷◌, ◌++◌, if◌then◌else◌, ◌&&◌, ◌||◌, Each, Answer, Door, Shut, Asked, Open, Refused}
use Rattle.proof_machines.proofs.unit.Words.{PhaseOf, Freezing, Streaming, Holding, Restoring, Returning, Words, Said, Nothing, Remove, Hold_at_source, Ask}
use Rattle.proof_machines.proofs.unit.Words.{Hold_at_destination, Release, Give_back, asking, push_on, release_row, all_put, is_nil, on_event}
use Rattle.proof_machines.proofs.unit.Words.{on_source_enabled, on_piece, on_deleted, on_restored, on_source_fenced, on_put_ok, on_put_no}
use Rattle.proof_machines.proofs.unit.Words.{on_destination_enabled, on_destination_fenced}
use Rattle.proof_machines.proofs.EachLaws.{each-append, each_any}
use Rattle.move_op.specs.Phases.{Passing, Ending, Undoing, Over}
use Rattle.move_op.specs.Table.{Stream, Restore, Put, Forward, Fence}

-- what a phase has
abbrev pub DoorHas : (Answer → Type 0) → Door → Type 0
DoorHas Why (Refused why) = Why why
DoorHas Why door = Unit {0}

abbrev pub PhaseHas : {C O : Type 0} → (C → Type 0) → (Answer → Type 0) → (O → Type 0) → PhaseOf C O → Type 0
PhaseHas Fits Why End (Streaming a b came door) = Each Fits a × (Each Fits b × DoorHas Why door)
PhaseHas Fits Why End (Restoring why) = Why why
PhaseHas Fits Why End (Returning why) = Why why
PhaseHas Fits Why End (Undoing why) = Why why
PhaseHas Fits Why End (Over outcome) = End outcome
PhaseHas Fits Why End phase = Unit {0}

-- and what is said
abbrev pub SaidHas : {P C : Type 0} → (P → Type 0) → (C → Type 0) → Said P C → Type 0
SaidHas Is Fits (Remove c) = Fits c
SaidHas Is Fits (Restore cs) = Each Fits cs
SaidHas Is Fits (Ask c) = Fits c
SaidHas Is Fits (Put cs) = Each Fits cs
SaidHas Is Fits (Forward p) = Is p
SaidHas Is Fits (Release ps) = Each Is ps
SaidHas Is Fits (Give_back ps) = Each Is ps
SaidHas Is Fits said = Unit {0}

pub record Hold {P C O N T : Type 0} (w : Words P C O N T) (Is : P → Type 0) (Fits : C → Type 0) (Why : Answer → Type 0) (End : O → Type 0)
    (Leads : N → Type 0) (Gives : T → Type 0) : Type 0 where
  pub done : End w.done
  pub refused : (why : Answer) → Why why → End (w.refused why)
  pub next : (ph : PhaseOf C O) (said : Said P C) → PhaseHas Fits Why End ph → SaidHas Is Fits said → Leads (w.next ph said)
  pub keeps : {n : N} → Leads n → Gives (w.keeps n)
  pub stores : (ps : List P) {n : N} → Each Is ps → Leads n → Gives (w.stores ps n)

module _ {P C O N T : Type 0} {w : Words P C O N T} {Is : P → Type 0} {Fits : C → Type 0} {Why : Answer → Type 0} {End : O → Type 0}
    {Leads : N → Type 0} {Gives : T → Type 0} (h : Hold w Is Fits Why End Leads Gives) where
  abbrev Has : PhaseOf C O → Type 0
  Has ph = PhaseHas Fits Why End ph

  either : (t : Bool) (n m : N) → Leads n → Leads m → Leads (if t then n else m)
  either true n m a b = a
  either false n m a b = b

  asking_holds : (a b : List C) (came : Bool) → Each Fits a → Each Fits b → Leads (asking w a b came)
  asking_holds a [] came x y = h.next (Streaming a [] came Shut) Nothing (x, (tt, tt)) tt
  asking_holds a (c ∷ b) came x y = h.next (Streaming a b came (Asked (w.is_last c))) (Ask c) (x, (y.1, tt)) y.0

  push_holds : (a b : List C) (came : Bool) (d : Door) → Each Fits a → Each Fits b → DoorHas Why d → Leads (push_on w a b came d)
  push_holds a b came Shut x y z = asking_holds a b came x y
  push_holds a b came (Asked last) x y z = h.next (Streaming a b came (Asked last)) Nothing (x, (y, tt)) tt
  push_holds a b came Open x y z = h.next (Streaming a [] came Open) (Put b) (x, (tt, tt)) y
  push_holds a b came (Refused why) x y z = either (came && is_nil a) (w.next (Restoring why) (Restore b)) (w.next (Streaming a b came (Refused why)) Nothing)
      (h.next (Restoring why) (Restore b) z y) (h.next (Streaming a b came (Refused why)) Nothing (x, (y, z)) tt)

  pub stays : (ph : PhaseOf C O) → Has ph → Leads (w.next ph Nothing)
  stays ph x = h.next ph Nothing x tt

  module _ (stored : List P) (all : Each Is stored) where
    released_holds : Gives (release_row w stored)
    released_holds = h.stores [] tt (h.next Passing (Release stored) tt all)

    all_put_holds : (keep : Bool) → Gives (all_put w stored keep)
    all_put_holds true = h.keeps (h.next Holding Hold_at_destination tt tt)
    all_put_holds false = released_holds

    pub event_holds : (p : P) → Is p → (ph : PhaseOf C O) → Has ph → Gives (on_event w ph stored p)
    event_holds p is Passing x = h.keeps (h.next Passing (Forward p) tt is)
    event_holds p is ph x = h.stores (stored ++ p ∷ []) (each-append Is stored (p ∷ []) all (is, tt)) (stays ph x)

    pub source_enabled_holds : (ph : PhaseOf C O) → Has ph → Gives (on_source_enabled w ph stored)
    source_enabled_holds Freezing x = h.keeps (h.next (Streaming [] [] false Shut) Stream (tt, (tt, tt)) tt)
    source_enabled_holds (Returning why) x = h.stores [] tt (h.next (Undoing why) (Give_back stored) x all)
    source_enabled_holds ph x = h.keeps (stays ph x)

    pub put_ok_holds : (ph : PhaseOf C O) → Has ph → Gives (on_put_ok w ph stored)
    put_ok_holds (Streaming a b came (Asked true)) x = all_put_holds w.keep
    put_ok_holds (Streaming a b came (Asked false)) x = h.keeps (push_holds a b came Open x.0 x.1.0 tt)
    put_ok_holds (Streaming a b came Open) x = all_put_holds w.keep
    put_ok_holds (Streaming a b came Shut) x = h.keeps (stays (Streaming a b came Shut) x)
    put_ok_holds (Streaming a b came (Refused why)) x = h.keeps (stays (Streaming a b came (Refused why)) x)
    put_ok_holds ph x = h.keeps (stays ph x)

    pub destination_enabled_holds : (ph : PhaseOf C O) → Has ph → Gives (on_destination_enabled w ph stored)
    destination_enabled_holds Holding x = released_holds
    destination_enabled_holds ph x = h.keeps (stays ph x)

  pub piece_holds : (c : C) → Fits c → (ph : PhaseOf C O) → Has ph → Leads (on_piece w ph c)
  piece_holds c fits (Streaming a b came d) x = either (w.has_units c) (w.next (Streaming (a ++ c ∷ []) b (came || w.is_last c) d) (Remove c))
      (w.next (Streaming a b came d) Nothing)
      (h.next (Streaming (a ++ c ∷ []) b (came || w.is_last c) d) (Remove c) (each-append Fits a (c ∷ []) x.0 (fits, tt), x.1) fits)
      (stays (Streaming a b came d) x)
  piece_holds c fits ph x = stays ph x

  pub deleted_holds : (ph : PhaseOf C O) → Has ph → Leads (on_deleted w ph)
  deleted_holds (Streaming (c ∷ a) b came d) x = push_holds a (b ++ c ∷ []) came d x.0.1 (each-append Fits b (c ∷ []) x.1.0 (x.0.0, tt)) x.1.1
  deleted_holds (Streaming [] b came d) x = stays (Streaming [] b came d) x
  deleted_holds ph x = stays ph x

  pub restored_holds : (ph : PhaseOf C O) → Has ph → Leads (on_restored w ph)
  restored_holds (Restoring why) x = h.next (Returning why) Hold_at_source x tt
  restored_holds ph x = stays ph x

  pub source_fenced_holds : (ph : PhaseOf C O) → Has ph → Leads (on_source_fenced w ph)
  source_fenced_holds Passing x = h.next Ending Fence tt tt
  source_fenced_holds (Undoing why) x = stays (Over (w.refused why)) (h.refused why x)
  source_fenced_holds ph x = stays ph x

  pub put_no_holds : (why : Answer) (back : Bool → C) → Why why → ((last : Bool) → Fits (back last)) → (ph : PhaseOf C O) → Has ph
      → Leads (on_put_no w ph why back)
  put_no_holds why back is fits (Streaming a b came (Asked last)) x = push_holds a (back last ∷ b) came (Refused why) x.0 (fits last, x.1.0) is
  put_no_holds why back is fits ph x = stays ph x

  pub destination_fenced_holds : (ph : PhaseOf C O) → Has ph → Leads (on_destination_fenced w ph)
  destination_fenced_holds Ending x = stays (Over w.done) h.done
  destination_fenced_holds ph x = stays ph x

-- where nothing is asked of what a move has
abbrev pub Any : (X : Type 0) → X → Type 0
Any X x = Unit {0}

pub any_door : (d : Door) → DoorHas (Any Answer) d
any_door (Refused why) = tt
any_door d = tt

pub any_phase : {C O : Type 0} (ph : PhaseOf C O) → PhaseHas (Any C) (Any Answer) (Any O) ph
any_phase (Streaming a b came d) = (each_any a, (each_any b, any_door d))
any_phase ph = tt

-- The machine of a two-phase update: what a unit that its filter takes sees of the switch, the controller, the source A and the
-- destination B. It sees every packet that the filter matches, and its own records.
use Rattle.std.proofs.Common.{ℕ, Bool, true, false, Option, Some, None, List, [], ◌∷◌, ◌++◌}
use Rattle.std.specs.Prelude.{if◌then◌else◌, ◌==◌, fold}

pub data Rule : Type 0 where
  Free : Rule
  Drops : Rule
  Buffers : Rule

-- where the switch sends the packets that the filter matches: to A, to A with a copy for the controller, to B
pub data Target : Type 0 where
  To_a : Target
  To_both : Target
  To_b : Target

pub data Phase : Type 0 where
  Idle : Phase
  Freezing : Phase
  Getting : Phase
  Deleting : Phase
  Putting : Phase
  Holding : Phase
  Laying : Phase
  Waiting : Phase
  Turning : Phase
  Settling : Phase
  Ending : Phase
  Over : Phase

-- how far the log is: what was laid, and whether a packet that the filter matches came since Low
pub data Scan : Type 0 where
  No_low : Scan
  Low_only : Scan
  Low_came : Scan
  High_laid : Scan
  Is_done : Scan
  Is_none : Scan
  Wrong : Scan

-- one note: a matched packet came, Low, High, Done, NoPacket
pub data Mark : Type 0 where
  Came : Mark
  Low : Mark
  High : Mark
  Done : Mark
  No_packet : Mark

abbrev pub scanned : Scan → Mark → Scan
scanned No_low Came = No_low
scanned No_low Low = Low_only
scanned Low_only Came = Low_came
scanned Low_only No_packet = Is_none
scanned Low_came Came = Low_came
scanned Low_came High = High_laid
scanned High_laid Came = High_laid
scanned High_laid Done = Is_done
scanned Is_done Came = Is_done
scanned s m = Wrong

-- what is said of the update, but for packets on their way. The record in chunks is that of the unit, if they have it
pub data Item (R : Type 0) : Type 0 where
  Enable : Rule → Item R
  Get : Item R
  Delete : Option R → Item R
  Restore : Option R → Item R
  Fence : Item R
  Enabled : Item R
  Chunks : Option R → Item R
  Deleted : Item R
  Restored : Item R
  Fenced : Item R
  Lay : Bool → Item R
  Laid : Bool → Item R
  Copied : ℕ → Item R

-- what a unit is: which packets are its own, and a step of its record
pub record Frame (R : Type 0) : Type 0 where
  pub mine : ℕ → Bool
  pub step : Option R → ℕ → R

abbrev pub stepped : {R : Type 0} → Frame R → Option R → ℕ → Option R
stepped f r p = if f.mine p then Some (f.step r p) else r

-- the record after these packets
abbrev pub folded : {R : Type 0} → Frame R → Option R → List ℕ → Option R
folded f r ps = fold (stepped f) r ps

abbrev pub after : {R : Type 0} → Frame R → List ℕ → Option R
after f d = folded f None d

-- an instance: the rule of the update, what it holds, and the unit's live record
pub record Inst (R : Type 0) : Type 0 where
  pub rule : Rule
  pub held : List ℕ
  pub live : Option R

-- the controller
pub record Ctrl (R : Type 0) : Type 0 where
  pub phase : Phase
  pub store : List ℕ
  pub kept : Option R
  pub last : Option ℕ
  pub seen : Option ℕ
  pub ended : Bool

-- the machine: links by what stands on them, `sa` plain packets to A, `passes` and `plains` to B, `sc` to the controller
pub record State (R : Type 0) : Type 0 where
  pub starts : List ℕ
  pub sa : List ℕ
  pub passes : List ℕ
  pub plains : List ℕ
  pub forwards : List ℕ
  pub events : List ℕ
  pub seens : List ℕ
  pub sc : List (Item R)
  pub cs : List (Item R)
  pub ca : List (Item R)
  pub cb : List (Item R)
  pub ac : List (Item R)
  pub bc : List (Item R)
  pub target : Target
  pub a : Inst R
  pub b : Inst R
  pub c : Ctrl R
  pub done : List ℕ
  pub scan : Scan

pub data Move : Type 0 where
  Begin : Move
  End_comes : Move
  Arrive : ℕ → Move
  Take_sa : Move
  Take_pass : Move
  Take_plain : Move
  Take_sc : Move
  Take_forward : Move
  Take_cs : Move
  Take_ca : Move
  Take_cb : Move
  Take_event : Move
  Take_ac : Move
  Take_seen : Move
  Take_bc : Move
  Idles : Move

-- the number of the last packet that was seen is that of the last one that was copied
abbrev pub same : Option ℕ → Option ℕ → Bool
same (Some x) (Some y) = x == y
same (Some x) None = false
same None o = false

-- the target after a rule is laid, and its note
abbrev pub laid : Bool → Target → Target
laid false To_a = To_both
laid true To_both = To_b
laid high t = t

abbrev pub mark_of : Bool → Mark
mark_of false = Low
mark_of true = High

module _ {R : Type 0} (f : Frame R) where
  abbrev pub runs_at_a : State R → ℕ → State R
  runs_at_a x p = record x { a = record x.a { live = stepped f x.a.live p }; done = x.done ++ p ∷ [] }

  abbrev pub runs_at_b : State R → ℕ → State R
  runs_at_b x p = record x { b = record x.b { live = stepped f x.b.live p }; done = x.done ++ p ∷ [] }

  -- a plain packet at A, and at B
  abbrev pub carried_a : Rule → State R → ℕ → State R
  carried_a Free x p = runs_at_a x p
  carried_a Drops x p = record x { events = x.events ++ p ∷ [] }
  carried_a Buffers x p = record x { a = record x.a { held = x.a.held ++ p ∷ [] } }

  abbrev pub carried_b : Rule → State R → ℕ → State R
  carried_b Free x p = runs_at_b x p
  carried_b Drops x p = record x { events = x.events ++ p ∷ [] }
  carried_b Buffers x p = record x { b = record x.b { held = x.b.held ++ p ∷ [] } }

  abbrev pub arrives : Target → State R → ℕ → State R
  arrives To_a x p = record x { sa = x.sa ++ p ∷ []; scan = scanned x.scan Came }
  arrives To_both x p = record x { sa = x.sa ++ p ∷ []; sc = x.sc ++ Copied p ∷ []; scan = scanned x.scan Came }
  arrives To_b x p = record x { plains = x.plains ++ p ∷ []; scan = scanned x.scan Came }

  -- an order to A, and to B
  abbrev pub told_a : State R → Item R → State R
  told_a x (Enable r) = record x { a = record x.a { rule = r }; ac = x.ac ++ Enabled ∷ [] }
  told_a x Get = record x { ac = x.ac ++ Chunks x.a.live ∷ [] }
  told_a x (Delete None) = record x { ac = x.ac ++ Deleted ∷ [] }
  told_a x (Delete (Some r)) = record x { a = record x.a { live = None }; ac = x.ac ++ Deleted ∷ [] }
  told_a x item = x

  abbrev pub restored : Option R → Option R → Option R
  restored None o = o
  restored (Some r) o = Some r

  abbrev pub told_b : State R → Item R → State R
  told_b x (Enable r) = record x { b = record x.b { rule = r }; bc = x.bc ++ Enabled ∷ [] }
  told_b x (Restore o) = record x { b = record x.b { live = restored o x.b.live }; bc = x.bc ++ Restored ∷ [] }
  told_b x Fence = record x {
    b = record { rule = Free; held = []; live = folded f x.b.live x.b.held };
    done = x.done ++ x.b.held;
    bc = x.bc ++ Fenced ∷ [];
  }
  told_b x item = x

  -- an order to the switch
  abbrev pub told_s : State R → Item R → State R
  told_s x (Lay high) = record x { target = laid high x.target; sc = x.sc ++ Laid high ∷ []; scan = scanned x.scan (mark_of high) }
  told_s x item = x

  abbrev pub to_phase : State R → Phase → State R
  to_phase x phase = record x { c = record x.c { phase = phase } }

  -- what follows as soon as it may
  abbrev pub soon_at : Phase → State R → State R
  soon_at Settling x = if same x.c.seen x.c.last then record (to_phase x Ending) { cb = x.cb ++ Fence ∷ [] } else x
  soon_at Waiting x = if x.c.ended then record (to_phase x Over) { scan = scanned x.scan No_packet } else x
  soon_at phase x = x

  abbrev pub soon : State R → State R
  soon x = soon_at x.c.phase x

  -- an event comes to the controller
  abbrev pub event_at : Phase → State R → ℕ → State R
  event_at Idle x p = record x { c = record x.c { store = x.c.store ++ p ∷ [] } }
  event_at Freezing x p = record x { c = record x.c { store = x.c.store ++ p ∷ [] } }
  event_at Getting x p = record x { c = record x.c { store = x.c.store ++ p ∷ [] } }
  event_at Deleting x p = record x { c = record x.c { store = x.c.store ++ p ∷ [] } }
  event_at Putting x p = record x { c = record x.c { store = x.c.store ++ p ∷ [] } }
  event_at Holding x p = record x { c = record x.c { store = x.c.store ++ p ∷ [] } }
  event_at phase x p = record x { forwards = x.forwards ++ p ∷ [] }

  -- an answer from A or B; in most phases it comes in no run
  abbrev pub enabled_at : Phase → State R → State R
  enabled_at Freezing x = record (to_phase x Getting) { ca = x.ca ++ Get ∷ [] }
  enabled_at Holding x = record x { c = record x.c { phase = Laying; store = [] }; forwards = x.forwards ++ x.c.store; cs = x.cs ++ Lay false ∷ [] }
  enabled_at phase x = x

  abbrev pub chunks_at : Phase → State R → Option R → State R
  chunks_at Getting x o = record x { c = record x.c { phase = Deleting; kept = o }; ca = x.ca ++ Delete o ∷ [] }
  chunks_at phase x o = x

  abbrev pub deleted_at : Phase → State R → State R
  deleted_at Deleting x = record x { c = record x.c { phase = Putting; kept = None }; cb = x.cb ++ Restore x.c.kept ∷ [] }
  deleted_at phase x = x

  abbrev pub restored_at : Phase → State R → State R
  restored_at Putting x = record (to_phase x Holding) { cb = x.cb ++ Enable Buffers ∷ [] }
  restored_at phase x = x

  abbrev pub fenced_at : Phase → State R → State R
  fenced_at Ending x = record (to_phase x Over) { scan = scanned x.scan Done }
  fenced_at phase x = x

  abbrev pub answered : State R → Item R → State R
  answered x Enabled = enabled_at x.c.phase x
  answered x (Chunks o) = chunks_at x.c.phase x o
  answered x Deleted = deleted_at x.c.phase x
  answered x Restored = restored_at x.c.phase x
  answered x Fenced = fenced_at x.c.phase x
  answered x item = x

  -- what the switch tells the controller
  abbrev pub laid_at : Phase → Bool → State R → State R
  laid_at Laying false x = to_phase x Waiting
  laid_at Turning true x = to_phase x Settling
  laid_at phase high x = x

  abbrev pub copied_at : Phase → State R → ℕ → State R
  copied_at Waiting x p = record x { c = record x.c { phase = Turning; last = Some p }; cs = x.cs ++ Lay true ∷ [] }
  copied_at Turning x p = record x { c = record x.c { last = Some p } }
  copied_at phase x p = x

  abbrev pub heard : State R → Item R → State R
  heard x (Laid high) = laid_at x.c.phase high x
  heard x (Copied p) = copied_at x.c.phase x p
  heard x item = x

  abbrev pub begun_at : Phase → State R → State R
  begun_at Idle x = record (to_phase x Freezing) { ca = x.ca ++ Enable Drops ∷ [] }
  begun_at phase x = x

  -- what stands first on a link is taken
  abbrev pub moved : State R → Move → State R
  moved x Begin = elim x.starts [ [] ↦ x | p ∷ l ↦ soon (begun_at x.c.phase (record x { starts = l })) ]
  moved x End_comes = soon (record x { c = record x.c { ended = true } })
  moved x (Arrive p) = arrives x.target x p
  moved x Take_sa = elim x.sa [ [] ↦ x | p ∷ l ↦ carried_a x.a.rule (record x { sa = l }) p ]
  moved x Take_pass = elim x.passes [ [] ↦ x | p ∷ l ↦ (let y = runs_at_b (record x { passes = l }) p in record y { seens = x.seens ++ p ∷ [] }) ]
  moved x Take_plain = elim x.plains [ [] ↦ x | p ∷ l ↦ carried_b x.b.rule (record x { plains = l }) p ]
  moved x Take_sc = elim x.sc [ [] ↦ x | i ∷ l ↦ soon (heard (record x { sc = l }) i) ]
  moved x Take_forward = elim x.forwards [ [] ↦ x | p ∷ l ↦ record x { forwards = l; passes = x.passes ++ p ∷ [] } ]
  moved x Take_cs = elim x.cs [ [] ↦ x | i ∷ l ↦ told_s (record x { cs = l }) i ]
  moved x Take_ca = elim x.ca [ [] ↦ x | i ∷ l ↦ told_a (record x { ca = l }) i ]
  moved x Take_cb = elim x.cb [ [] ↦ x | i ∷ l ↦ told_b (record x { cb = l }) i ]
  moved x Take_event = elim x.events [ [] ↦ x | p ∷ l ↦ soon (event_at x.c.phase (record x { events = l }) p) ]
  moved x Take_ac = elim x.ac [ [] ↦ x | i ∷ l ↦ soon (answered (record x { ac = l }) i) ]
  moved x Take_seen = elim x.seens [ [] ↦ x | p ∷ l ↦ soon (record x { seens = l; c = record x.c { seen = Some p } }) ]
  moved x Take_bc = elim x.bc [ [] ↦ x | i ∷ l ↦ soon (answered (record x { bc = l }) i) ]
  moved x Idles = soon x

-- A world of the network, link by link, and what an observer sees of it: nobody, who sees packets and the update's messages alone, or
-- a unit, which sees its own records besides.
use Rattle.std.proofs.Common.{◌≡◌, ℕ, Bool, true, false, Option, None, List, [], ◌∷◌, ◌++◌}
use Rattle.std.specs.Prelude.{if◌then◌else◌, filter, flat_map, fold}
use Rattle.actor_net.specs.Network.{Network}
use Rattle.two_machine.proofs.Machine.{Item, Came, Scan, No_low, scanned, Frame, State}
use Rattle.two_machine.proofs.Machine as m
use Rattle.two_machine.proofs.Tables.{System, Msg, Note, Switch, Ctrl, Inst, Node, Is_switch, Is_ctrl, Is_inst, In_start, Start, Copied, Laid, Forward, Lay}
use Rattle.two_machine.proofs.Tables.{Carry, Pass, Enable, Get, Delete, Restore, Fence, Enabled, Chunks, Deleted, Restored, Event, Seen, Fenced, Arrived}
use Rattle.two_machine.proofs.Tables.{Processed, Low, High, Done, No_packet}

-- a world: nodes, links by sender and receiver (`aw` and `bw` from A and B to the switch), the input and the log
pub record World (T C O : Type 0) : Type 0 where
  pub sw : Switch
  pub ct : Ctrl C
  pub a : Inst T
  pub b : Inst T
  pub sa : List (Msg C)
  pub sb : List (Msg C)
  pub sc : List (Msg C)
  pub cs : List (Msg C)
  pub ca : List (Msg C)
  pub cb : List (Msg C)
  pub ac : List (Msg C)
  pub bc : List (Msg C)
  pub aw : List (Msg C)
  pub bw : List (Msg C)
  pub input : List (Msg C)
  pub log : List (Note O)

-- the world as the network of the core
abbrev pub net : {T C O : Type 0} → World T C O → Network (Node T C) (Msg C) (Note O)
net v = record {
  nodes = Is_switch v.sw ∷ Is_ctrl v.ct ∷ Is_inst 0 v.a ∷ Is_inst 1 v.b ∷ [];
  links = [] ∷ v.sc ∷ v.sa ∷ v.sb ∷ v.cs ∷ [] ∷ v.ca ∷ v.cb ∷ v.aw ∷ v.ac ∷ [] ∷ [] ∷ v.bw ∷ v.bc ∷ [] ∷ [] ∷ [];
  input = v.input;
  log = v.log;
}

-- what is read of each item of a list, in order
abbrev pub read : {X Y : Type 0} → (X → List Y) → List X → List Y
read g xs = flat_map g xs

-- those numbers for which the test is true
abbrev pub those : (ℕ → Bool) → List ℕ → List ℕ
those k ps = filter k ps

-- packets in messages
abbrev pub carries : {C : Type 0} → Msg C → List ℕ
carries (Carry p) = p ∷ []
carries m = []

abbrev pub passes : {C : Type 0} → Msg C → List ℕ
passes (Pass p) = p ∷ []
passes m = []

abbrev pub forwarded : {C : Type 0} → Msg C → List ℕ
forwarded (Forward p) = p ∷ []
forwarded m = []

abbrev pub events : {C : Type 0} → Msg C → List ℕ
events (Event p) = p ∷ []
events m = []

abbrev pub seen : {C : Type 0} → Msg C → List ℕ
seen (Seen p) = p ∷ []
seen m = []

abbrev pub starts : {C : Type 0} → Msg C → List ℕ
starts In_start = 0 ∷ []
starts Start = 0 ∷ []
starts m = []

-- packets in notes
abbrev pub arrived : {O : Type 0} → Note O → List ℕ
arrived (Arrived p) = p ∷ []
arrived n = []

abbrev pub ran : {O : Type 0} → Note O → List ℕ
ran (Processed p i o) = p ∷ []
ran n = []

-- who looks
pub data Observer (U : Type 0) : Type 0 where
  Nobody : Observer U
  Of_unit : U → Observer U

module _ {U T C R O : Type 0} (S : System U T C R O) where
  abbrev pub is_of : Observer U → ℕ → Bool
  is_of Nobody p = false
  is_of (Of_unit u) p = S.equal (S.unit_of p) u

  abbrev pub frame : Observer U → Frame R
  frame o = record { mine = is_of o; step = S.step }

  abbrev pub own : Observer U → T → Option R
  own Nobody t = None
  own (Of_unit u) t = S.at t u

  abbrev pub inside : Observer U → C → Option R
  inside Nobody c = None
  inside (Of_unit u) c = S.has c u

  -- the observer's packets are such as the filter matches
  abbrev pub IsTaken : Observer U → Type 0
  IsTaken Nobody = Unit {0}
  IsTaken (Of_unit u) = S.takes u ≡ true

  abbrev pub item : Observer U → Msg C → List (Item R)
  item o (Copied p) = m.Copied p ∷ []
  item o (Laid high) = m.Laid high ∷ []
  item o (Lay high) = m.Lay high ∷ []
  item o (Enable r) = m.Enable r ∷ []
  item o Get = m.Get ∷ []
  item o (Delete c) = m.Delete (inside o c) ∷ []
  item o (Restore c) = m.Restore (inside o c) ∷ []
  item o Fence = m.Fence ∷ []
  item o Enabled = m.Enabled ∷ []
  item o (Chunks c) = m.Chunks (inside o c) ∷ []
  item o Deleted = m.Deleted ∷ []
  item o Restored = m.Restored ∷ []
  item o Fenced = m.Fenced ∷ []
  item o m = []

  abbrev pub scan_note : Scan → Note O → Scan
  scan_note s (Arrived p) = if S.covers p then scanned s Came else s
  scan_note s (Processed p i out) = s
  scan_note s Low = scanned s m.Low
  scan_note s High = scanned s m.High
  scan_note s Done = scanned s m.Done
  scan_note s No_packet = scanned s m.No_packet

  abbrev pub scans : Scan → List (Note O) → Scan
  scans s ns = fold scan_note s ns

  -- an instance and the controller as they are seen
  abbrev pub seen_inst : Observer U → Inst T → m.Inst R
  seen_inst o i = record { rule = i.rule; held = i.held; live = own o i.table }

  abbrev pub seen_ctrl : Observer U → Ctrl C → m.Ctrl R
  seen_ctrl o c = record { phase = c.phase; store = c.store; kept = inside o c.kept; last = c.last; seen = c.seen; ended = c.ended }

  abbrev pub view : Observer U → World T C O → State R
  view o v = record {
    starts = read starts v.input ++ read starts v.sc;
    sa = those S.covers (read carries v.sa);
    passes = read passes v.sb;
    plains = read carries v.sb;
    forwards = read forwarded v.cs;
    events = read events v.ac;
    seens = read seen v.bc;
    sc = read (item o) v.sc;
    cs = read (item o) v.cs;
    ca = read (item o) v.ca;
    cb = read (item o) v.cb;
    ac = read (item o) v.ac;
    bc = read (item o) v.bc;
    target = v.sw.target;
    a = seen_inst o v.a;
    b = seen_inst o v.b;
    c = seen_ctrl o v.ct;
    done = those S.covers (read ran v.log);
    scan = scans No_low v.log;
  }

-- The network of a two-phase update, with its instances as their laws see them: a table gives each unit's record, and packets go by
-- their numbers. The switch is node 0, the controller node 1, the source A node 2, the destination B node 3.
use Rattle.std.proofs.Common.{◌≡◌, ℕ, ◌+◌, ◌-◌, Bool, true, false, Option, Some, None, List, [], ◌∷◌, ◌++◌}
use Rattle.std.specs.Prelude.{if◌then◌else◌, ◌==◌, ◌&&◌, not, nat_lt, is_some}
use Rattle.actor_net.specs.Network.{Stepped}
use Rattle.two_machine.proofs.Machine.{Rule, Free, Drops, Buffers, Target, To_a, To_both, To_b, Phase, Idle, Freezing, Getting, Deleting, Putting, Holding}
use Rattle.two_machine.proofs.Machine.{Laying, Waiting, Turning, Settling, Ending, Over, same, laid}

-- what an instance is made of: units U, tables T, chunks C, records R, outputs O
pub record System (U T C R O : Type 0) : Type 0 where
  pub covers : ℕ → Bool  -- whether the filter matches the packet
  pub takes : U → Bool
  pub unit_of : ℕ → U
  pub equal : U → U → Bool
  pub step : Option R → ℕ → R
  pub output : Option R → ℕ → O
  pub empty : T
  pub at : T → U → Option R
  pub process : T → ℕ → T
  pub select : T → C
  pub has : C → U → Option R
  pub delete : C → T → T
  pub restore : C → T → T

pub record Laws {U T C R O : Type 0} (S : System U T C R O) : Type 0 where
  pub whole : (p : ℕ) → S.takes (S.unit_of p) ≡ S.covers p
  pub is_same : (u v : U) → S.equal u v ≡ true → u ≡ v
  pub itself : (u : U) → S.equal u u ≡ true
  pub nothing : (u : U) → S.at S.empty u ≡ None
  pub processed : (t : T) (p : ℕ) (u : U) → S.at (S.process t p) u ≡ (if S.equal (S.unit_of p) u then Some (S.step (S.at t u) p) else S.at t u)
  pub selected : (t : T) (u : U) → S.has (S.select t) u ≡ (if S.takes u then S.at t u else None)
  pub deleted : (t s : T) (u : U) → S.at (S.delete (S.select s) t) u ≡ (if is_some (S.has (S.select s) u) then None else S.at t u)
  pub restored : (t s : T) (u : U) → S.at t u ≡ None → S.at (S.restore (S.select s) t) u ≡ S.has (S.select s) u
  pub untouched : (t s : T) (u : U) → S.has (S.select s) u ≡ None → S.at (S.restore (S.select s) t) u ≡ S.at t u

pub data Msg (C : Type 0) : Type 0 where
  In_packet : ℕ → Msg C
  In_start : Msg C
  In_end : Msg C
  Start : Msg C
  End : Msg C
  Copied : ℕ → Msg C
  Laid : Bool → Msg C
  Forward : ℕ → Msg C
  Lay : Bool → Msg C
  Finish : ℕ → Msg C
  Carry : ℕ → Msg C
  Pass : ℕ → Msg C
  Stop : Msg C
  Enable : Rule → Msg C
  Get : Msg C
  Delete : C → Msg C
  Restore : C → Msg C
  Fence : Msg C
  Enabled : Msg C
  Chunks : C → Msg C
  Deleted : Msg C
  Restored : Msg C
  Event : ℕ → Msg C
  Seen : ℕ → Msg C
  Fenced : Msg C
  Final : Msg C
  Credit : ℕ → Msg C

pub data Note (O : Type 0) : Type 0 where
  Arrived : ℕ → Note O
  Processed : ℕ → ℕ → O → Note O
  Low : Note O
  High : Note O
  Done : Note O
  No_packet : Note O

pub record Switch : Type 0 where
  pub target : Target
  pub window : ℕ
  pub flying : ℕ
  pub closed : Bool

pub record Ctrl (C : Type 0) : Type 0 where
  pub phase : Phase
  pub store : List ℕ
  pub kept : C
  pub last : Option ℕ
  pub seen : Option ℕ
  pub ended : Bool
  pub finished : Bool
  pub stopped : Bool

pub record Inst (T : Type 0) : Type 0 where
  pub rule : Rule
  pub held : List ℕ
  pub table : T
  pub stopped : Bool

pub data Node (T C : Type 0) : Type 0 where
  Is_switch : Switch → Node T C
  Is_ctrl : Ctrl C → Node T C
  Is_inst : ℕ → Inst T → Node T C

module _ {U T C R O : Type 0} (S : System U T C R O) where
  -- one step of a part of the network
  abbrev pub Step : Type 0 → Type 0
  Step X = Stepped X (Msg C) (Note O)

  abbrev pub still : {X : Type 0} → X → Step X
  still x = record { node = x; sends = []; notes = [] }

  abbrev pub says : {X : Type 0} → X → ℕ → Msg C → Step X
  says x to m = record { node = x; sends = (to, m) ∷ []; notes = [] }

  -- the switch
  abbrev pub has_room : Switch → Bool
  has_room s = nat_lt s.flying s.window

  abbrev pub with_one : Switch → Switch
  with_one s = record s { flying = s.flying + 1 }

  abbrev pub goes : Target → Switch → ℕ → Step Switch
  goes To_a s p = record { node = with_one s; sends = (2, Carry p) ∷ []; notes = Arrived p ∷ [] }
  goes To_both s p = record { node = with_one s; sends = (2, Carry p) ∷ (1, Copied p) ∷ []; notes = Arrived p ∷ [] }
  goes To_b s p = record { node = with_one s; sends = (3, Carry p) ∷ []; notes = Arrived p ∷ [] }

  abbrev pub on_packet : Switch → ℕ → Step Switch
  on_packet s p = if has_room s then goes (if S.covers p then s.target else To_a) s p else still s

  abbrev pub note_of : Bool → Note O
  note_of false = Low
  note_of true = High

  abbrev pub on_finish : Switch → ℕ → Step Switch
  on_finish s to = record { node = record s { closed = if to == 1 then true else s.closed }; sends = (if to == 0 then 2 else 3, Stop) ∷ []; notes = [] }

  abbrev pub switch_step : Switch → Msg C → Step Switch
  switch_step s (In_packet p) = on_packet s p
  switch_step s In_start = says s 1 Start
  switch_step s In_end = says s 1 End
  switch_step s (Forward p) = says s 3 (Pass p)
  switch_step s (Lay high) = record { node = record s { target = laid high s.target }; sends = (1, Laid high) ∷ []; notes = note_of high ∷ [] }
  switch_step s (Finish to) = on_finish s to
  switch_step s (Credit p) = still (record s { flying = s.flying - 1 })
  switch_step s m = still s

  -- an instance
  abbrev pub processed : ℕ → Inst T → ℕ → Step (Inst T)
  processed n i p = record {
    node = record i { table = S.process i.table p };
    sends = (0, Credit p) ∷ [];
    notes = Processed p n (S.output (S.at i.table (S.unit_of p)) p) ∷ [];
  }

  abbrev pub all_processed : ℕ → Inst T → List ℕ → Step (Inst T)
  all_processed n i [] = still i
  all_processed n i (p ∷ ps) =
      let one = processed n i p in
      let rest = all_processed n one.node ps in
      record { node = rest.node; sends = one.sends ++ rest.sends; notes = one.notes ++ rest.notes }

  abbrev pub ruled : Rule → ℕ → Inst T → ℕ → Step (Inst T)
  ruled Free n i p = processed n i p
  ruled Drops n i p = says i 1 (Event p)
  ruled Buffers n i p = still (record i { held = i.held ++ p ∷ [] })

  abbrev pub on_carry : ℕ → Inst T → ℕ → Step (Inst T)
  on_carry n i p = if S.covers p then ruled i.rule n i p else processed n i p

  abbrev pub on_pass : ℕ → Inst T → ℕ → Step (Inst T)
  on_pass n i p = let one = processed n i p in record { node = one.node; sends = one.sends ++ (1, Seen p) ∷ []; notes = one.notes }

  abbrev pub on_fence : ℕ → Inst T → Step (Inst T)
  on_fence n i =
      let all = all_processed n (record i { rule = Free; held = [] }) i.held in
      record { node = all.node; sends = all.sends ++ (1, Fenced) ∷ []; notes = all.notes }

  abbrev pub inst_step : ℕ → Inst T → Msg C → Step (Inst T)
  inst_step n i (Carry p) = on_carry n i p
  inst_step n i (Pass p) = on_pass n i p
  inst_step n i Fence = on_fence n i
  inst_step n i Stop = says (record i { stopped = true }) 1 Final
  inst_step n i (Enable r) = says (record i { rule = r }) 1 Enabled
  inst_step n i Get = says i 1 (Chunks (S.select i.table))
  inst_step n i (Delete c) = says (record i { table = S.delete c i.table }) 1 Deleted
  inst_step n i (Restore c) = says (record i { table = S.restore c i.table }) 1 Restored
  inst_step n i m = still i

  -- the controller
  abbrev pub to_phase : Ctrl C → Phase → Ctrl C
  to_phase c phase = record c { phase = phase }

  abbrev pub forwards : List ℕ → List (ℕ × Msg C)
  forwards [] = []
  forwards (p ∷ ps) = (0, Forward p) ∷ forwards ps

  abbrev pub on_start : Phase → Ctrl C → Step (Ctrl C)
  on_start Idle c = says (to_phase c Freezing) 2 (Enable Drops)
  on_start phase c = still c

  abbrev pub on_enabled : Phase → Ctrl C → Step (Ctrl C)
  on_enabled Freezing c = says (to_phase c Getting) 2 Get
  on_enabled Holding c = record { node = record c { phase = Laying; store = [] }; sends = forwards c.store ++ (0, Lay false) ∷ []; notes = [] }
  on_enabled phase c = still c

  abbrev pub on_chunks : Phase → Ctrl C → C → Step (Ctrl C)
  on_chunks Getting c cs = says (record c { phase = Deleting; kept = cs }) 2 (Delete cs)
  on_chunks phase c cs = still c

  -- no chunks
  abbrev pub none : C
  none = S.select S.empty

  abbrev pub on_deleted : Phase → Ctrl C → Step (Ctrl C)
  on_deleted Deleting c = says (record c { phase = Putting; kept = none }) 3 (Restore c.kept)
  on_deleted phase c = still c

  abbrev pub on_restored : Phase → Ctrl C → Step (Ctrl C)
  on_restored Putting c = says (to_phase c Holding) 3 (Enable Buffers)
  on_restored phase c = still c

  abbrev pub stored : Ctrl C → ℕ → Step (Ctrl C)
  stored c p = still (record c { store = c.store ++ p ∷ [] })

  abbrev pub on_event : Phase → Ctrl C → ℕ → Step (Ctrl C)
  on_event Idle c p = stored c p
  on_event Freezing c p = stored c p
  on_event Getting c p = stored c p
  on_event Deleting c p = stored c p
  on_event Putting c p = stored c p
  on_event Holding c p = stored c p
  on_event phase c p = says c 0 (Forward p)

  abbrev pub on_laid : Phase → Bool → Ctrl C → Step (Ctrl C)
  on_laid Laying false c = still (to_phase c Waiting)
  on_laid Turning true c = still (to_phase c Settling)
  on_laid phase high c = still c

  abbrev pub on_copied : Phase → Ctrl C → ℕ → Step (Ctrl C)
  on_copied Waiting c p = says (record c { phase = Turning; last = Some p }) 0 (Lay true)
  on_copied Turning c p = still (record c { last = Some p })
  on_copied phase c p = still c

  abbrev pub on_fenced : Phase → Ctrl C → Step (Ctrl C)
  on_fenced Ending c = record { node = to_phase c Over; sends = []; notes = Done ∷ [] }
  on_fenced phase c = still c

  -- the port tells A's Final from B's
  abbrev pub on_final : ℕ → Ctrl C → Step (Ctrl C)
  on_final port c = if port == 2 then says c 0 (Finish 1) else still (record c { stopped = true })

  -- its row of the table
  abbrev pub ctrl_row : Ctrl C → ℕ → Msg C → Step (Ctrl C)
  ctrl_row c port Start = on_start c.phase c
  ctrl_row c port End = still (record c { ended = true })
  ctrl_row c port (Copied p) = on_copied c.phase c p
  ctrl_row c port (Laid high) = on_laid c.phase high c
  ctrl_row c port Enabled = on_enabled c.phase c
  ctrl_row c port (Chunks cs) = on_chunks c.phase c cs
  ctrl_row c port Deleted = on_deleted c.phase c
  ctrl_row c port Restored = on_restored c.phase c
  ctrl_row c port (Event p) = on_event c.phase c p
  ctrl_row c port (Seen p) = still (record c { seen = Some p })
  ctrl_row c port Fenced = on_fenced c.phase c
  ctrl_row c port Final = on_final port c
  ctrl_row c port m = still c

  -- one step and then another
  abbrev pub and_then : {X : Type 0} → Step X → (X → Step X) → Step X
  and_then one next = record { node = (next one.node).node; sends = one.sends ++ (next one.node).sends; notes = one.notes ++ (next one.node).notes }

  -- what is done as soon as it may be
  abbrev pub soon_at : Phase → Ctrl C → Step (Ctrl C)
  soon_at Settling c = if same c.seen c.last then says (to_phase c Ending) 3 Fence else still c
  soon_at Waiting c = if c.ended then record { node = to_phase c Over; sends = []; notes = No_packet ∷ [] } else still c
  soon_at phase c = still c

  abbrev pub is_over : Phase → Bool
  is_over Over = true
  is_over phase = false

  abbrev pub finishes : Ctrl C → Step (Ctrl C)
  finishes c = if is_over c.phase && (c.ended && not c.finished) then says (record c { finished = true }) 0 (Finish 0) else still c

  abbrev pub soon : Ctrl C → Step (Ctrl C)
  soon c = and_then (soon_at c.phase c) finishes

  abbrev pub ctrl_step : Ctrl C → ℕ → Msg C → Step (Ctrl C)
  ctrl_step c port m = and_then (ctrl_row c port m) soon

  -- a node
  abbrev pub as_node : {X : Type 0} → (X → Node T C) → Step X → Step (Node T C)
  as_node make did = record { node = make did.node; sends = did.sends; notes = did.notes }

  abbrev pub node_step : Node T C → ℕ → Msg C → Step (Node T C)
  node_step (Is_switch s) port m = as_node Is_switch (switch_step s m)
  node_step (Is_ctrl c) port m = as_node Is_ctrl (ctrl_step c port m)
  node_step (Is_inst n i) port m = as_node (Is_inst n) (inst_step n i m)

  abbrev pub takes_in : Switch → Msg C → Bool
  takes_in s (In_packet p) = has_room s
  takes_in s m = true

  abbrev pub node_ready : Node T C → Msg C → Bool
  node_ready (Is_switch s) m = takes_in s m
  node_ready (Is_ctrl c) m = true
  node_ready (Is_inst n i) m = true

  abbrev pub node_ended : Node T C → Bool
  node_ended (Is_switch s) = s.closed && (s.flying == 0)
  node_ended (Is_ctrl c) = c.stopped
  node_ended (Is_inst n i) = i.stopped

  -- the input: packets, and where the update starts
  abbrev pub in_packets : List ℕ → List (Msg C)
  in_packets [] = []
  in_packets (p ∷ ps) = In_packet p ∷ in_packets ps

  abbrev pub fresh : Inst T
  fresh = record { rule = Free; held = []; table = S.empty; stopped = false }

  abbrev pub first_nodes : ℕ → List (Node T C)
  first_nodes window =
      Is_switch (record { target = To_a; window = window; flying = 0; closed = false })
      ∷ Is_ctrl (record { phase = Idle; store = []; kept = none; last = None; seen = None; ended = false; finished = false; stopped = false })
      ∷ Is_inst 0 fresh ∷ Is_inst 1 fresh ∷ []

  -- the packets before the start, and those after it
  abbrev pub items : List ℕ → List ℕ → List (Msg C)
  items early late = in_packets early ++ In_start ∷ (in_packets late ++ In_end ∷ [])

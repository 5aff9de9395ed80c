-- What the network whose instances are known by their laws shows of the real one: messages, notes, instances, the switch and the controller.
use Rattle.two_phase.proofs.Words.{◌≡◌, ℕ, Bool, true, Some, List, [], ◌∷◌, if◌then◌else◌, nat_lt, Flow, Packet, matches, IsFlow, Output, Action, Plain, Pass}
use Rattle.two_phase.proofs.Words.{EventRule, Target, ToInstance, ToController, first_match, FullCell, WindowState, units_in, InstanceState, TwoMsg, TwoNote}
use Rattle.two_phase.proofs.Words.{SwitchState, ControllerState, the_update, Rule, Free, Drops, Buffers, To_a, To_both, To_b}
use Rattle.std.specs.List.{AllZip}
use Rattle.event_filter.specs.declared.action.Action.TheVariants as action
use Rattle.switch_rules.specs.Rules.{AreFilters}
use Rattle.packet_window.specs.Window.{IsBalanced}
use Rattle.nf_msgs.specs.declared.msg.Msg.TheVariants as msg
use Rattle.nf_msgs.specs.declared.note.Note.TheVariants as inner
use Rattle.two_phase.specs.declared.msg.TwoMsg.TheVariants as two
use Rattle.two_phase.specs.declared.note.TwoNote.TheVariants as note
use Rattle.two_phase.specs.declared.phase.Phase.{Phase}
use Rattle.two_phase.specs.declared.phase.Phase.TheVariants as phase
use Rattle.two_machine.proofs.Machine as m
use Rattle.two_machine.proofs.Tables as core
use Rattle.two_phase.proofs.RecordLaws.{Sound, Setting, chunks}

-- the phase that shows the reduced one
abbrev pub phase_shown : m.Phase → Phase
phase_shown m.Idle = phase.Idle
phase_shown m.Freezing = phase.Freezing
phase_shown m.Getting = phase.Getting
phase_shown m.Deleting = phase.Deleting
phase_shown m.Putting = phase.Putting
phase_shown m.Holding = phase.Holding
phase_shown m.Laying = phase.Laying
phase_shown m.Waiting = phase.Waiting
phase_shown m.Turning = phase.Turning
phase_shown m.Settling = phase.Settling
phase_shown m.Ending = phase.Ending
phase_shown m.Over = phase.Over

-- the notes that the reduced network knows
abbrev pub outline_note : TwoNote → List (core.Note Output)
outline_note (note.Inner (inner.Arrived n)) = core.Arrived n ∷ []
outline_note (note.Inner (inner.Processed n i o)) = core.Processed n i o ∷ []
outline_note (note.Inner n) = []
outline_note note.Low = core.Low ∷ []
outline_note note.High = core.High ∷ []
outline_note note.Done = core.Done ∷ []
outline_note note.NoPacket = core.No_packet ∷ []

abbrev pub target_shown : m.Target → Target
target_shown To_a = ToInstance 0
target_shown To_both = ToController
target_shown To_b = ToInstance 1

-- a window: its pool is of this many cells, so many packets are under way, and it is closed or not
pub record WindowShows (w : WindowState) (all away : ℕ) (over : Bool) : Type 0 where
  pub name : w.pool.name ≡ 0
  pub cells : w.pool.cells ≡ all
  pub balanced : IsBalanced w
  pub flying : w.flying ≡ away
  pub closed : w.closed ≡ over

module _ {R : Type 0} (setting : Setting R) where
  open setting use {f, site, filter, packet}

  -- a cell with the packet of that number
  pub record IsGenuine (cell : FullCell) (n : ℕ) : Type 0 where
    pub packet_is : cell.packet ≡ packet n
    pub number : cell.packet.number ≡ n
    pub pool : cell.pool ≡ 0

  -- a message, and what is seen of it
  pub data Shown : TwoMsg → core.Msg (Sound f) → Type 0 where
    In_packet : (n : ℕ) → (packet n).number ≡ n → Shown (two.InPacket (packet n)) (core.In_packet n)
    In_start : Shown two.InStart core.In_start
    In_end : Shown two.InEnd core.In_end
    Start : Shown two.Start core.Start
    End : Shown two.End core.End
    Copied : (copy : Packet) (n : ℕ) → copy.number ≡ n → Shown (two.Copied copy) (core.Copied n)
    Laid : (high : Bool) → Shown (two.Laid high) (core.Laid high)
    Forward : (cell : FullCell) (n : ℕ) → IsGenuine cell n → Shown (two.Forward cell) (core.Forward n)
    Lay : (high : Bool) → Shown (two.Lay high) (core.Lay high)
    Finish : (to : ℕ) → nat_lt to 2 ≡ true → Shown (two.Finish to) (core.Finish to)
    Carry : (cell : FullCell) (n : ℕ) → IsGenuine cell n → Shown (two.Inner (msg.Carry Plain cell)) (core.Carry n)
    Passes : (cell : FullCell) (n : ℕ) → IsGenuine cell n → Shown (two.Inner (msg.Carry (Pass the_update) cell)) (core.Pass n)
    Stop : Shown (two.Inner msg.Stop) core.Stop
    Enable_drop : Shown (two.Inner (msg.Enable the_update filter action.Drop)) (core.Enable Drops)
    Enable_buffer : Shown (two.Inner (msg.Enable the_update filter action.Buffer)) (core.Enable Buffers)
    Get : Shown (two.Inner (msg.Get the_update filter)) core.Get
    Delete : (c : Sound f) → Shown (two.Inner (msg.Delete the_update (units_in (chunks setting c)))) (core.Delete c)
    Restore : (c : Sound f) → Shown (two.Inner (msg.Restore the_update (chunks setting c))) (core.Restore c)
    Fence : Shown (two.Inner (msg.Fence the_update)) core.Fence
    Enabled : Shown (two.Inner (msg.Enabled the_update)) core.Enabled
    Chunks : (c : Sound f) → Shown (two.Inner (msg.Chunks the_update (chunks setting c))) (core.Chunks c)
    Deleted : Shown (two.Inner (msg.Deleted the_update)) core.Deleted
    Restored : Shown (two.Inner (msg.Restored the_update)) core.Restored
    Event : (cell : FullCell) (n : ℕ) → IsGenuine cell n → Shown (two.Inner (msg.Event the_update cell)) (core.Event n)
    Seen : (copy : Packet) (n : ℕ) → copy.number ≡ n → Shown (two.Inner (msg.Seen the_update copy)) (core.Seen n)
    Fenced : Shown (two.Inner (msg.Fenced the_update)) core.Fenced
    Final : Shown (two.Inner msg.Final) core.Final
    Credit : (cell : FullCell) (n : ℕ) → IsGenuine cell n → Shown (two.Inner (msg.Credit cell)) (core.Credit n)

  -- messages that are sent, to the same nodes
  abbrev pub ShownTo : ℕ × TwoMsg → ℕ × core.Msg (Sound f) → Type 0
  ShownTo x y = (x.0 ≡ y.0) × Shown x.1 y.1

  abbrev pub Sends : List (ℕ × TwoMsg) → List (ℕ × core.Msg (Sound f)) → Type 0
  Sends xs ys = AllZip ShownTo xs ys

  -- the event rule of the update with what it holds
  abbrev pub one_rule : Action → List FullCell → List (EventRule FullCell)
  one_rule act cells = (record { op = the_update; filter = filter; action = act; held = cells }) ∷ []

  pub record HasRule (rules : List (EventRule FullCell)) (act : Action) (held : List ℕ) : Type 0 where
    pub cells : List FullCell
    pub is : rules ≡ one_rule act cells
    pub genuine : AllZip IsGenuine cells held

  abbrev pub RulesShow : List (EventRule FullCell) → Rule → List ℕ → Type 0
  RulesShow rules Free held = (rules ≡ []) × (held ≡ [])
  RulesShow rules Drops held = HasRule rules action.Drop held
  RulesShow rules Buffers held = HasRule rules action.Buffer held

  module _ {F : Type 0} where
    pub record InstanceShows (index : ℕ) (i : InstanceState F R) (j : core.Inst (Sound f)) : Type 0 where
      pub live : i.table.live ≡ j.table.live
      pub site_is : i.site ≡ site
      pub index_is : i.index ≡ index
      pub ended : i.ended ≡ j.stopped
      pub rules : RulesShow i.rules j.rule j.held

  -- the real controller with these cells in its store
  abbrev pub real_ctrl : List FullCell → core.Ctrl (Sound f) → ControllerState
  real_ctrl cells d = record {
    phase = phase_shown d.phase;
    filter = filter;
    store = cells;
    kept = chunks setting d.kept;
    last = d.last;
    seen = d.seen;
    ended = d.ended;
    finished = d.finished;
    stopped = d.stopped;
  }

  pub record ControllerShows (c : ControllerState) (d : core.Ctrl (Sound f)) : Type 0 where
    pub cells : List FullCell
    pub store : AllZip IsGenuine cells d.store
    pub is : c ≡ real_ctrl cells d

  pub record SwitchShows (s : SwitchState) (t : core.Switch) : Type 0 where
    pub site_is : s.site ≡ site
    pub filter_is : s.filter ≡ filter
    pub filters : AreFilters s.rules
    pub routed : (flow : Flow) → IsFlow flow → first_match s.rules flow ≡ Some (if matches filter flow then target_shown t.target else ToInstance 0)
    pub window : WindowShows s.window t.window t.flying t.closed

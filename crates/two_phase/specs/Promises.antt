-- What every run of a two-phase update keeps, complete or not: each unit's packets are processed in order and once, as by one instance that
-- nothing moves; the low rule is laid before the high one; the run is short, and goes on to its end. Packets go by their numbers. That the
-- start and each step are as the tables say stands on `start`, `TwoNode` and `run_two`. This project's own.
use Rattle.std.specs.Prelude.{◌≡◌, ◌≤◌, ◌⊎◌, ℕ, ◌+◌, ◌*◌, Bool, true, false, if◌then◌else◌, Option, None, Some}
use Rattle.std.specs.Prelude.{List, [], ◌∷◌, ◌++◌, map, filter, filter_map, length, option_to_list, slice_get}
use Rattle.std.specs.List.{list_any, after_first}
use Rattle.std.specs.FinMap as finite
use Rattle.flow_filter.specs.Filter.{matches}
use Rattle.flow_filter.specs.Flow.{flow_of}
use Rattle.nf_function.specs.declared.unit.Unit as units
use Rattle.nf_function.specs.Semantics.{Semantics}
use Rattle.nf_msgs.specs.declared.note.Note.{Note}
use Rattle.nf_msgs.specs.Nodes.{switch_node}
use Rattle.actor_net.specs.declared.choice.Choice.{Choice}
use Rattle.actor_net.specs.Network.{Network, is_enabled, is_done}
use Rattle.net_world.specs.Fold.{times, IsFront, is_of, fold, outputs, processed_of, outputs_noted}
use Rattle.net_world.specs.Input.{packet_numbered}
use Rattle.net_world.specs.Log.{arrivals_in, dones_in}
use Rattle.two_phase.specs.declared.msg.TwoMsg.{TwoMsg}
use Rattle.two_phase.specs.declared.note.TwoNote.{TwoNote}
use Rattle.two_phase.specs.declared.note.TwoNote.TheVariants.{Inner, Low, High, Done, NoPacket}
use Rattle.two_phase.specs.declared.node.TwoNode.{TwoNode}
use Rattle.two_phase.specs.declared.node.TwoNode.TheVariants.{Switch, Instance}
use Rattle.two_phase.specs.Parts.{SwitchState}
use Rattle.two_phase.specs.Tables.{node_ready, node_ended}
use Rattle.two_phase.specs.Start.{UpdateJob, config_of, items_of}

-- the notes of the network
abbrev pub inner_note : TwoNote → Option Note
inner_note (Inner note) = Some note
inner_note note = None

abbrev pub inner_notes : List TwoNote → List Note
inner_notes log = filter_map inner_note log

-- what was noted after the low rule was laid
abbrev pub is_low : TwoNote → Bool
is_low Low = true
is_low note = false

abbrev pub after_low : List TwoNote → List TwoNote
after_low log = after_first is_low log

-- what was noted of the update's end
abbrev pub is_verdict : TwoNote → Bool
is_verdict Done = true
is_verdict NoPacket = true
is_verdict note = false

abbrev pub verdicts : List TwoNote → List TwoNote
verdicts log = filter is_verdict log

-- the record of a unit that is live at a node
abbrev pub live_in : {F R : Type 0} → units.Unit → TwoNode F R → Option R
live_in unit (Instance i) = finite.get i.table.live unit
live_in unit node = None

-- the switch of a world
abbrev pub switch_in : {F R : Type 0} → Option (TwoNode F R) → Option SwitchState
switch_in (Some (Switch s)) = Some s
switch_in other = None

module _ (job : UpdateJob) where
  -- the packets of the trace, and whether the filter matches the flow of one
  abbrev pub trace : List ℕ
  trace = map (λ p. p.number) job.packets

  abbrev pub is_matched : ℕ → Bool
  is_matched p = matches job.filter (flow_of job.site (packet_numbered (items_of job) p)).0

  -- whether such a packet arrived
  abbrev pub has_come : List TwoNote → Bool
  has_come log = list_any is_matched (arrivals_in (inner_notes log))

  -- the switch counts the packets under way, and the other cells are at home
  pub record Cells {F R : Type 0} (w : Network (TwoNode F R) TwoMsg TwoNote) : Type 0 where
    pub switch : SwitchState
    pub switch_is : switch_in (slice_get w.nodes switch_node) ≡ Some switch
    pub window : switch.window.flying + switch.window.pool.home ≡ job.window
    -- at the end all are
    pub home : is_done node_ended w ≡ true → switch.window.pool.home ≡ job.window

module _ {R : Type 0} (f : Semantics R) (job : UpdateJob) where
  -- the packets of a unit in the trace
  abbrev pub mine : units.Unit → List ℕ
  mine unit = filter (is_of f (config_of job) (items_of job) unit) (trace job)

  -- what a complete run keeps besides
  pub record UpdateCompleted {F : Type 0} (w : Network (TwoNode F R) TwoMsg TwoNote) : Type 0 where
    -- each packet of a unit is processed, and its record is live at one instance alone
    pub all_went : (unit : units.Unit) → processed_of f (config_of job) (items_of job) unit (inner_notes w.log) ≡ mine unit
    pub live_is : (unit : units.Unit)
        → filter_map (live_in unit) w.nodes ≡ option_to_list (fold f (config_of job) (items_of job) None (mine unit))
    -- the update is done where a packet that the filter matches came after the low rule, and else no packet came
    pub verdict : verdicts w.log ≡ (if has_come job (after_low w.log) then Done ∷ [] else NoPacket ∷ [])

  -- what every run keeps, by these choices
  pub record Published {F : Type 0} (choices : List Choice) (w : Network (TwoNode F R) TwoMsg TwoNote) : Type 0 where
    -- the switch takes the packets of the trace in their order
    pub in_turn : IsFront (arrivals_in (inner_notes w.log)) (trace job)
    -- what is processed of a unit is a front of its packets, each packet once at most
    pub in_order : (unit : units.Unit) → IsFront (processed_of f (config_of job) (items_of job) unit (inner_notes w.log)) (mine unit)
    pub once : (p : ℕ) → times p (map (λ d. d.number) (dones_in (inner_notes w.log))) ≤ 1
    -- outputs are those of one instance that nothing moves, and so is the record at the end
    pub outputs_are : (unit : units.Unit)
        → outputs_noted f (config_of job) (items_of job) unit (inner_notes w.log)
        ≡ outputs f (config_of job) (items_of job) None (processed_of f (config_of job) (items_of job) unit (inner_notes w.log))
    pub completed : is_done node_ended w ≡ true → UpdateCompleted w
    -- the low rule is laid before the high one, and between them a packet that the filter matches arrived
    pub laid : (before after : List TwoNote) → w.log ≡ before ++ High ∷ after → has_come job (after_low before) ≡ true
    -- a run is short, and goes on unless nothing is left to do
    pub short : length choices ≤ 8 * length job.packets + 32
    pub goes_on : (is_done node_ended w ≡ true) ⊎ ((c : Choice) × (is_enabled node_ready w c ≡ true))
    -- the window
    pub cells : Cells job w

-- What the lines of a report of strong sharing say of each packet and each unit, and the text of these lines. This project's own.
use Rattle.std.specs.Prelude.{◌≡◌, ℕ, ◌-◌, ◌%◌, ◌==◌, ◌++◌, ◌&&◌, Bool, if◌then◌else◌, Option, List, []}
use Rattle.std.specs.Prelude.{codes, drop, filter, flat_map, length, map, option_to_list, take}
use Rattle.std.specs.List.{list_any}
use Rattle.flow_filter.specs.declared.filter.Filter.{Filter}
use Rattle.flow_filter.specs.declared.packet.Packet.{Packet}
use Rattle.flow_filter.specs.Filter.{matches}
use Rattle.flow_filter.specs.Flow.{flow_of}
use Rattle.nf_function.specs.declared.output.Output.{Output}
use Rattle.nf_function.specs.declared.unit.Unit as units
use Rattle.nf_function.specs.Semantics.{Semantics}
use Rattle.nf_function.specs.Units.{takes}
use Rattle.record_table.specs.Table.{same_unit}
use Rattle.report_lines.specs.Lines.{NamedInstance, NamedRecord, named_line, out_line, record_line, tail_lines}
use Rattle.strong_share.specs.declared.report.StrongHead.{StrongHead}
use Rattle.strong_share.specs.Report.{head_lines}
use Rattle.run_headline.specs.Headline.{is_of, outputs_to, packets_of, record_after}
use Rattle.run_headline.specs.Subject.{Subject}

-- the lines of a report: `out N OUTPUT`, `event N INST`, `done N INST`, `state UNIT INST RECORD` and `standby UNIT INST RECORD`
pub record StrongLines (R : Type 0) : Type 0 where
  pub outs : List (ℕ × Output)
  pub events : List (ℕ × ℕ)
  pub dones : List (ℕ × ℕ)
  pub states : List (NamedRecord R)
  pub standbys : List (NamedRecord R)

module _ {R : Type 0} where
  -- a unit's record under each of these names, and the lines of a unit
  abbrev pub under_each : units.Unit → Option R → List (List ℕ) → List (NamedRecord R)
  under_each unit kept names = flat_map (λ name. map (λ r. record { unit = unit; name = name; kept = r }) (option_to_list kept)) names

  abbrev pub lines_of : units.Unit → List (NamedRecord R) → List (NamedRecord R)
  lines_of unit lines = filter (λ s. same_unit s.unit unit) lines

-- the outputs in the `out` lines of some packets, one packet after another
abbrev pub outs_for : List (ℕ × Output) → List Packet → List Output
outs_for outs ps = map (λ o. o.1) (flat_map (λ p. filter (λ o. o.0 == p.number) outs) ps)

module _ {R : Type 0} (subject : Subject R) (shared : Filter) where
  -- a packet that is shared, and whose turn it is: the member with this number
  abbrev pub is_turn : ℕ → Packet → Bool
  is_turn member p = matches shared (flow_of subject.config.site p).0 && ((p.number - 1) % length subject.config.names == member)

  -- the packets of a unit in the order in which one instance gets them: that of the `event` lines where the unit is shared, and else that of the capture
  abbrev pub in_turn : List (ℕ × ℕ) → units.Unit → List Packet
  in_turn events unit =
      if takes shared unit then filter (is_of subject unit) (flat_map (λ e. filter (λ p. p.number == e.0) subject.packets) events)
      else packets_of subject unit

  -- what the lines of a completed run say
  pub record StrongHeadline (lines : StrongLines R) : Type 0 where
    -- each captured packet has one `out` line, in the order of the capture, and one `done` line
    pub outs : map (λ o. o.0) lines.outs ≡ map (λ p. p.number) subject.packets
    pub dones : (n : ℕ) → length (filter (λ d. d.0 == n) lines.dones) ≡ length (filter (λ p. p.number == n) subject.packets)
    -- each shared packet has one `event` line, at the member whose turn it is, and no other packet has one; those of a member stand in the order of the capture
    pub events : (member : ℕ) → map (λ e. e.0) (filter (λ e. e.1 == member) lines.events) ≡ map (λ p. p.number) (filter (is_turn member) subject.packets)
    -- each unit with a packet has one `state` line, and no other unit has one
    pub one_state : (unit : units.Unit) → length (lines_of unit lines.states) ≡ (if list_any (is_of subject unit) subject.packets then 1 else 0)
    -- its outputs and its record are those of one instance that gets its packets in turn; the record is live at the first member
    pub outputs : (unit : units.Unit) → outs_for lines.outs (in_turn lines.events unit) ≡ outputs_to subject (in_turn lines.events unit)
    pub state_is : (unit : units.Unit)
        → lines_of unit lines.states ≡ under_each unit (record_after subject (in_turn lines.events unit)) (take 1 subject.config.names)
    -- where the unit is shared that record stands by at each other member, in their order; no other record stands by
    pub standby_is : (unit : units.Unit) → lines_of unit lines.standbys
        ≡ (if takes shared unit then under_each unit (record_after subject (in_turn lines.events unit)) (drop 1 subject.config.names) else [])

-- the text of the lines
abbrev pub lines_text : {R : Type 0} → Semantics R → List (List ℕ) → StrongLines R → List ℕ
lines_text f names lines =
    flat_map (out_line f) lines.outs ++ flat_map (named_line (codes "event ") names) lines.events ++ flat_map (named_line (codes "done ") names) lines.dones
    ++ flat_map (record_line f (codes "state ")) lines.states ++ flat_map (record_line f (codes "standby ")) lines.standbys

-- a text says what such lines say, between the head of a report and what it says of tallies
pub record HasStrongHeadline {R : Type 0} (subject : Subject R) (shared : Filter) (head : StrongHead) (text : List ℕ) : Type 0 where
  pub lines : StrongLines R
  pub headline : StrongHeadline subject shared lines
  pub told : List (NamedInstance R)
  pub named : map (λ i. i.name) told ≡ subject.config.names
  pub text_is : text ≡ head_lines head ++ lines_text subject.function subject.config.names lines ++ tail_lines (length subject.config.names) told

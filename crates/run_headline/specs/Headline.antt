-- The theorem of this project in words that name no part of the network: what a report's lines say of packets, units and commands. This project's own.
use Rattle.std.specs.Prelude.{◌≡◌, ℕ, ◌==◌, Bool, false, not, ◌&&◌, if◌then◌else◌, Option, None, List, map, filter, length, fold, scan, option_to_list, zip}
use Rattle.std.specs.List.{list_any}
use Rattle.flow_filter.specs.declared.packet.Packet.{Packet}
use Rattle.nf_function.specs.declared.output.Output.{Output}
use Rattle.nf_function.specs.declared.unit.Unit as units
use Rattle.nf_function.specs.Semantics.{Semantics, unit_at, kept_after, output_for}
use Rattle.nf_function.specs.Units.{takes}
use Rattle.record_table.specs.Table.{same_unit}
use Rattle.nf_msgs.specs.declared.answer.Answer.{Answer}
use Rattle.nf_msgs.specs.declared.command.Order.{Order}
use Rattle.nf_msgs.specs.declared.command.Order.TheVariants.{Move}
use Rattle.report_lines.specs.Lines.{NamedRecord}
use Rattle.run_headline.specs.Causes.{AreTrue, is_answered, is_done}
use Rattle.run_headline.specs.Subject.{Subject}

-- the lines of a report: `out N OUTPUT`, `done N INST`, `answer C ANSWER` and `state UNIT INST RECORD`
pub record ReportLines (R : Type 0) : Type 0 where
  pub outs : List (ℕ × Output)
  pub dones : List (ℕ × ℕ)
  pub answers : List (ℕ × Answer)
  pub states : List (NamedRecord R)

-- an order for a move of the unit, of which `which` tells by whether it keeps the order of packets: a plain move doesn't
abbrev pub moves : (Bool → Bool) → units.Unit → Order → Bool
moves which unit (Move source destination taken keep) = which keep && takes taken unit
moves which unit order = false

module _ {R : Type 0} (subject : Subject R) where
  -- one instance that nothing moves, which gets these packets in turn: the record that it keeps of their unit, and its outputs
  abbrev pub record_after : List Packet → Option R
  record_after ps = fold (kept_after subject.function subject.config.site) None ps

  abbrev pub outputs_to : List Packet → List Output
  outputs_to ps = scan (kept_after subject.function subject.config.site) (output_for subject.function subject.config.site) None ps

  -- the unit was covered by a plain move that is done
  abbrev pub is_covered : List (ℕ × Answer) → units.Unit → Bool
  is_covered answers unit = list_any (λ c. moves not unit c.what && is_answered is_done answers c.op) subject.commands

  -- whether a packet is of the unit, and those that are, in the order of the capture
  abbrev pub is_of : units.Unit → Packet → Bool
  is_of unit p = same_unit (unit_at subject.function.kind subject.config.site p) unit

  abbrev pub packets_of : units.Unit → List Packet
  packets_of unit = filter (is_of unit) subject.packets

  -- the lines of a unit: the outputs that stand beside its packets, and its records
  abbrev pub outs_of : units.Unit → List (ℕ × Output) → List Output
  outs_of unit outs = map (λ x. x.1.1) (filter (λ x. is_of unit x.0) (zip subject.packets outs))

  abbrev pub records_of : units.Unit → List (NamedRecord R) → List R
  records_of unit states = map (λ s. s.kept) (filter (λ s. same_unit s.unit unit) states)

  -- what the lines of a completed run say
  pub record Headline (lines : ReportLines R) : Type 0 where
    -- each captured packet has one `out` line, in the order of the capture, and one `done` line
    pub outs : map (λ o. o.0) lines.outs ≡ map (λ p. p.number) subject.packets
    pub dones : (n : ℕ) → length (filter (λ d. d.0 == n) lines.dones) ≡ length (filter (λ p. p.number == n) subject.packets)
    -- each command has one `answer` line, in the order of the script, with its true cause
    pub answers : AreTrue subject lines.answers
    -- each unit with a packet has one `state` line, and no other unit has one
    pub one_state : (unit : units.Unit) → length (records_of unit lines.states) ≡ (if list_any (is_of unit) subject.packets then 1 else 0)
    -- where no completed plain move covered the unit, its outputs and its record are those of one instance that nothing moved
    pub outputs : (unit : units.Unit) → is_covered lines.answers unit ≡ false → outs_of unit lines.outs ≡ outputs_to (packets_of unit)
    pub record_is : (unit : units.Unit) → is_covered lines.answers unit ≡ false
        → records_of unit lines.states ≡ option_to_list (record_after (packets_of unit))

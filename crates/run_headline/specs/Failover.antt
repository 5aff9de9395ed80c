-- What the lines of a report of a failover say of each packet and each affected unit, and the text of these lines. This project's own.
use Rattle.std.specs.Prelude.{◌≡◌, ℕ, ◌++◌, Bool, false, not, Option, Some, List, [], codes, drop, filter, flat_map, map, slice_index_or, take}
use Rattle.std.specs.Prelude.{IsPermutation}
use Rattle.std.specs.List.{AllByRecursion, IsDistinct, list_any}
use Rattle.flow_filter.specs.declared.packet.Packet.{Packet}
use Rattle.nf_function.specs.declared.unit.Unit as units
use Rattle.nf_function.specs.Semantics.{Semantics, unit_at}
use Rattle.record_table.specs.Table.{is_among, same_unit}
use Rattle.report_lines.specs.declared.heads.Head.{Head}
use Rattle.standby_failover.specs.declared.promoted.Failing.{Failing}
use Rattle.standby_failover.specs.Failover.{is_in}
use Rattle.standby_failover.specs.Lines.{caught_line, fail_line, head_lines, lost_line, open_line, promoted_line}
use Rattle.run_headline.specs.Headline.{is_of, moves, record_after}
use Rattle.run_headline.specs.Subject.{Subject}

-- the two lines of an affected unit: `promote UNIT to INST RECORD`, or `gone UNIT` where no record stood by, and `caught UNIT INST RECORD`
pub record LinesOfUnit (R : Type 0) : Type 0 where
  pub unit : units.Unit
  pub promoted : Option R
  pub caught : R

-- the lines of a report: those of the affected units, `lost N` and `open N`
pub record FailLines (R : Type 0) : Type 0 where
  pub affected : List (LinesOfUnit R)
  pub lost : List ℕ
  pub pending : List ℕ

-- the units that have lines
abbrev pub listed : {R : Type 0} → FailLines R → List units.Unit
listed lines = map (λ x. x.unit) lines.affected

-- the packets with these numbers
abbrev pub numbered_in : List ℕ → List Packet → List Packet
numbered_in numbers ps = filter (λ p. is_in p.number numbers) ps

module _ {R : Type 0} (subject : Subject R) where
  -- a plain move of the unit stands among the commands
  abbrev pub may_move : units.Unit → Bool
  may_move unit = list_any (λ c. moves not unit c.what) subject.commands

  -- the packet is of a unit that has lines
  abbrev pub is_listed : FailLines R → Packet → Bool
  is_listed lines p = is_among (listed lines) (unit_at subject.function.kind subject.config.site p)

  -- the packets that had come
  module _ (came : List Packet) (lines : FailLines R) where
    -- the unit's packets that had come, in an order in which one instance may have got them: that of the capture, where no command is a plain move of it
    pub record HasOrder (x : LinesOfUnit R) : Type 0 where
      pub order : List Packet
      pub is_all : IsPermutation order (filter (is_of subject x.unit) came)
      pub in_order : may_move x.unit ≡ false → order ≡ filter (is_of subject x.unit) came
      -- the promoted record is that after the first so many of them; those after these are the unit's lost packets, and then its open ones
      pub seen : ℕ
      pub promoted_is : x.promoted ≡ record_after subject (take seen order)
      pub others_are : numbered_in lines.lost order ++ numbered_in lines.pending order ≡ drop seen order
      -- the one that has caught up is that after all of them
      pub caught_is : record_after subject order ≡ Some x.caught

    -- what the lines say
    pub record FailHeadline : Type 0 where
      -- no unit has two `promote` or `gone` lines, or two `caught` lines; the records of each are as above
      pub one_each : IsDistinct same_unit (listed lines)
      pub records : AllByRecursion HasOrder lines.affected
      -- each `lost` and each `open` line names a packet of such a unit that had come, in the order of the capture, each once
      pub lost_are : lines.lost ≡ map (λ p. p.number) (numbered_in lines.lost (filter (is_listed lines) came))
      pub pending_are : lines.pending ≡ map (λ p. p.number) (numbered_in lines.pending (filter (is_listed lines) came))

-- the text of the lines, where the instance with this name takes over
abbrev pub lines_text : {R : Type 0} → Semantics R → List ℕ → FailLines R → List ℕ
lines_text f name lines =
    flat_map (λ x. promoted_line f name x.unit x.promoted) lines.affected ++ flat_map lost_line lines.lost ++ flat_map open_line lines.pending
    ++ flat_map (λ x. caught_line f name x.unit (Some x.caught)) lines.affected

-- a text says what such lines say, where the first so many packets of the capture had come, between the head of a report and its last line
pub record HasFailHeadline {R : Type 0} (subject : Subject R) (head : Head) (failing : Failing) (text : List ℕ) : Type 0 where
  pub lines : FailLines R
  pub came : ℕ
  pub headline : FailHeadline subject (take came subject.packets) lines
  pub text_is : text ≡ head_lines head ++ fail_line subject.config.names failing
      ++ lines_text subject.function (slice_index_or subject.config.names failing.to []) lines ++ codes "end\n"

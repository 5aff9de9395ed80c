-- The report of a failover: its lines and their order. This project's own format.
use Rattle.std.specs.Prelude.{ℕ, ◌++◌, List, [], Option, None, Some, codes, decimal, length, slice_index_or}
use Rattle.std.specs.List.{flat_map}
use Rattle.std.specs.FinMap as finite
use Rattle.nf_function.specs.declared.unit.Unit as units
use Rattle.nf_function.specs.Semantics.{Semantics}
use Rattle.record_table.specs.Table.{TableView}
use Rattle.report_lines.specs.Lines.{function_line, record_line, trace_line, unit_text}
use Rattle.report_lines.specs.declared.heads.Head.{Head}
use Rattle.standby_failover.specs.declared.promoted.Promoted.{Promoted}
use Rattle.standby_failover.specs.declared.promoted.Failing.{Failing}

-- the three lines at the top
unfoldable pub head_lines : Head → List ℕ
head_lines head =
    codes "opennf failover 1\n" ++ function_line head.kind (length head.names) head.window ++ trace_line head.packets head.skipped head.cut

-- `fail INST after J`
unfoldable pub fail_line : List (List ℕ) → Failing → List ℕ
fail_line names failing = codes "fail " ++ slice_index_or names failing.failed [] ++ codes " after " ++ decimal failing.after ++ codes "\n"

-- `gone UNIT`
unfoldable pub gone_line : units.Unit → List ℕ
gone_line unit = codes "gone " ++ unit_text unit ++ codes "\n"

-- `promote UNIT to INST `
unfoldable pub promote_text : units.Unit → List ℕ → List ℕ
promote_text unit name = codes "promote " ++ unit_text unit ++ codes " to " ++ name ++ codes " "

-- WORD and a number
unfoldable pub number_line : List ℕ → ℕ → List ℕ
number_line word number = word ++ decimal number ++ codes "\n"

-- `lost N`, and `open N`
abbrev pub lost_line : ℕ → List ℕ
lost_line = number_line (codes "lost ")

abbrev pub open_line : ℕ → List ℕ
open_line = number_line (codes "open ")

module _ {R : Type 0} (f : Semantics R) (name : List ℕ) where
  -- `promote UNIT to INST RECORD`
  unfoldable pub promote_line : units.Unit → R → List ℕ
  promote_line unit kept = promote_text unit name ++ f.record_text kept ++ codes "\n"

  -- the line of an affected unit, by its record that is promoted, if one stood by
  abbrev pub promoted_line : units.Unit → Option R → List ℕ
  promoted_line unit None = gone_line unit
  promoted_line unit (Some kept) = promote_line unit kept

  -- `caught UNIT INST RECORD`: its line by the record that has caught up
  abbrev pub caught_line : units.Unit → Option R → List ℕ
  caught_line unit None = []
  caught_line unit (Some kept) = record_line f (codes "caught ") (record { unit = unit; name = name; kept = kept })

  -- a line for each affected unit, in order, and one for each packet that is lost, and for each that is open
  unfoldable pub promoted_lines : {F : Type 0} → Promoted F R → List ℕ
  promoted_lines p =
      flat_map (λ unit. promoted_line unit (finite.get p.table.live unit)) p.units ++ flat_map lost_line p.lost ++ flat_map open_line p.pending

  -- a line for each affected unit, in order, once they have caught up
  abbrev pub caught_lines : List units.Unit → TableView R → List ℕ
  caught_lines us table = flat_map (λ unit. caught_line unit (finite.get table.live unit)) us

-- the report of what is promoted, and of the records once they have caught up
unfoldable pub failover_text : {F R : Type 0} → Semantics R → Head → Failing → Promoted F R → TableView R → List ℕ
failover_text f head failing promoted caught =
    head_lines head ++ fail_line head.names failing ++ promoted_lines f (slice_index_or head.names failing.to []) promoted
    ++ caught_lines f (slice_index_or head.names failing.to []) promoted.units caught ++ codes "end\n"

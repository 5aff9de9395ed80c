-- The lines of the records so far, and those still to come.
use Rattle.std.proofs.Common.{◌≡◌, ◌++◌, map, drop}
use Rattle.std.specs.List.{flat_map}
use Rattle.report_lines.specs.Lines.{by_unit, record_line}
use Rattle.report_lines.specs.Seen.{record_seen}
use Rattle.report_lines.proofs.states.push_record_lines.Given as goal

abbrev pub invariant-loop-record : goal.invariant-loop-record
invariant-loop-record g l = record {
  all : map record_seen l.record-items ≡ by_unit l.live l.instances;
  lines : l.text ++ flat_map (record_line g.F.Function.semantics l.word) (map record_seen (drop l.record-index l.record-items))
      ≡ l.fn.text ++ flat_map (record_line g.F.Function.semantics l.word) (map record_seen l.record-items);
}

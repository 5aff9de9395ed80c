-- The lines of the answers so far, and those still to come.
use Rattle.std.proofs.Common.{◌≡◌, ◌++◌, map, drop}
use Rattle.std.specs.List.{flat_map}
use Rattle.report_lines.specs.Lines.{by_number}
use Rattle.run_report.specs.Lines.{answer_line}
use Rattle.run_report.specs.Seen.{answer_seen}
use Rattle.run_report.proofs.answers.push_answers.Given as goal
use Rattle.net_world.specs.Log.{answer_in}

abbrev pub invariant-loop-op : goal.invariant-loop-op
invariant-loop-op l = record {
  all : map answer_seen l.op-items ≡ by_number answer_in l.log;
  lines : l.text ++ flat_map answer_line (map answer_seen (drop l.op-index l.op-items))
      ≡ l.fn.text ++ flat_map answer_line (map answer_seen l.op-items);
}

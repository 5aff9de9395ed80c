-- The lines of the outputs so far, of which some are still on the page, and those still to come.
use Rattle.std.proofs.Common.{◌≡◌, ◌++◌, drop}
use Rattle.std.specs.List.{flat_map}
use Rattle.counted_lines.specs.Pages.{pending}
use Rattle.report_lines.specs.Lines.{by_number, out_line, output_in}
use Rattle.report_lines.proofs.outs.OutLines.push_sorted.Given as goal

abbrev pub invariant-loop-number : goal.invariant-loop-number
invariant-loop-number g l = record {
  all : l.number-items ≡ by_number output_in l.log;
  lines : (l.text ++ pending l.self.lines) ++ flat_map (out_line g.F.Function.semantics) (drop l.number-index l.number-items)
      ≡ (l.fn.text ++ pending l.fn.self.lines) ++ flat_map (out_line g.F.Function.semantics) l.number-items;
}

-- The lines of the outputs so far, of which some are still on the page, and those still to come. The numbers rise so far, so that the
-- whole list does if the rest rises from the last of them. What stood there before is still in front.
use Rattle.std.proofs.Common.{◌≡◌, ◌++◌, drop, take, length, filter_map}
use Rattle.std.specs.List.{flat_map}
use Rattle.counted_lines.specs.Pages.{pending}
use Rattle.report_lines.specs.Lines.{out_line, output_in}
use Rattle.report_lines.proofs.SortedAlready.{rises}
use Rattle.report_lines.proofs.outs.OutLines.push_noted.Given as goal

abbrev pub invariant-loop-note : goal.invariant-loop-note
invariant-loop-note g l = record {
  lines : (l.text ++ pending l.self.lines) ++ flat_map (out_line g.F.Function.semantics) (filter_map output_in (drop l.note-index l.log))
      ≡ (l.fn.text ++ pending l.fn.self.lines) ++ flat_map (out_line g.F.Function.semantics) (filter_map output_in l.log);
  rises : rises l.last (filter_map output_in (drop l.note-index l.log)) ≡ rises 0 (filter_map output_in l.log);
  front : take (length (l.fn.text ++ pending l.fn.self.lines)) (l.text ++ pending l.self.lines) ≡ l.fn.text ++ pending l.fn.self.lines;
}

-- The lines of the notes so far, of which some are still on the page, and those still to come.
use Rattle.std.proofs.Common.{◌≡◌, ◌++◌, map, drop, codes}
use Rattle.counted_lines.specs.Pages.{pending, word_of}
use Rattle.report_lines.specs.Lines.{done_lines}
use Rattle.report_lines.specs.Seen.{name_seen, texts_seen}
use Rattle.report_lines.proofs.dones.push_dones.Given as goal

abbrev pub invariant-loop-note : goal.invariant-loop-note
invariant-loop-note l = record {
  names : map name_seen l.ends.items ≡ texts_seen l.names;
  word : word_of l.lines ≡ codes "done ";
  lines : (l.text ++ pending l.lines) ++ done_lines (texts_seen l.names) (drop l.note-index l.log) ≡ l.fn.text ++ done_lines (texts_seen l.names) l.log;
}

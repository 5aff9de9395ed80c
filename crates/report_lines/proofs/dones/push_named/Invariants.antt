-- The lines of the packets so far, of which some are still on the page, and those still to come.
use Rattle.std.proofs.Common.{◌≡◌, ◌++◌, map, drop}
use Rattle.std.specs.List.{flat_map}
use Rattle.counted_lines.specs.Pages.{pending, word_of}
use Rattle.report_lines.specs.Lines.{named_line}
use Rattle.report_lines.specs.Seen.{name_seen, texts_seen}
use Rattle.report_lines.proofs.dones.push_named.Given as goal

abbrev pub invariant-loop-number : goal.invariant-loop-number
invariant-loop-number l = record {
  names : map name_seen l.ends.items ≡ texts_seen l.names;
  word : word_of l.lines ≡ l.word;
  lines : (l.text ++ pending l.lines) ++ flat_map (named_line l.word (texts_seen l.names)) (drop l.number-index l.packets)
      ≡ l.fn.text ++ flat_map (named_line l.word (texts_seen l.names)) l.packets;
}

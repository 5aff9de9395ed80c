-- Where no note is left, the numbers rise, so that the order of the log is that of the numbers.
use Rattle.std.proofs.Common.{◌++◌, filter_map, ap, sym, ◌∙◌, arith}
use Rattle.std.specs.List.{flat_map}
use Rattle.std.proofs.lemmas.List.{append-nil, at_drop_all}
use Rattle.counted_lines.specs.Pages.{pending}
use Rattle.report_lines.specs.Lines.{out_line, output_in}
use Rattle.report_lines.proofs.SortedAlready.{rises, numbers_stay}
use Rattle.report_lines.proofs.outs.OutLines.push_noted.Goals as goal

pub returns-clause-in_order : goal.returns-clause-in_order
returns-clause-in_order g c = λ _.
    let log = c.args.log.now in
    let so_far = c.loop-note.text ++ pending c.loop-note.self.lines in
    let stays = numbers_stay 0 (filter_map output_in log)
    (sym c.loop-note.invariant.rises ∙ at_drop_all (λ l. rises c.loop-note.last (filter_map output_in l)) log
    c.loop-note.note-index (omega (arith, c.loop-note-test.false))) in
    sym (append-nil so_far)
    ∙ sym (at_drop_all (λ l. so_far ++ flat_map (out_line g.F.Function.semantics) (filter_map output_in l)) log
    c.loop-note.note-index (omega (arith, c.loop-note-test.false)))
    ∙ c.loop-note.invariant.lines
    ∙ ap (λ xs. (c.args.text.now ++ pending c.args.self.now.lines) ++ flat_map (out_line g.F.Function.semantics) xs) (sym stays)

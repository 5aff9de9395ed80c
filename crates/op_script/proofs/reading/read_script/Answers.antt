-- What the lines say breaks no rule, and splits no unit.
use Rattle.op_script.proofs.Words.{sym, subst, ◌==◌, slice_split, IsScript, SplitsNone}
use Rattle.op_script.proofs.ParsedScripts.{lines_right, lines_whole}
use Rattle.op_script.proofs.reading.read_script.Goals as goal

pub returns-clause-right : goal.returns-clause-right
returns-clause-right c =
    let read = c.in_ok-reader in
    subst (λ s. IsScript c.args.names.now (s.routes, s.lines)) (sym c.reader.view_is)
    (lines_right c.args.kind c.args.names.now read.reader (slice_split (λ b. b == 10) c.args.bytes.now) read.ensures)

pub returns-clause-whole : goal.returns-clause-whole
returns-clause-whole c =
    let read = c.in_ok-reader in
    subst (λ s. SplitsNone c.args.kind (s.routes, s.lines)) (sym c.reader.view_is)
    (lines_whole c.args.kind c.args.names.now read.reader (slice_split (λ b. b == 10) c.args.bytes.now) read.ensures)

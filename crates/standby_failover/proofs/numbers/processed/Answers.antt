-- A note of a packet that was processed marks its number, and any other none.
use Rattle.standby_failover.proofs.Words.{sym, ap, ◌∙◌, is_in}
use Rattle.standby_failover.proofs.Marks.{marked_next}
use Rattle.standby_failover.proofs.MetNumbers.{done_same, done_next}
use Rattle.standby_failover.proofs.numbers.processed.Goals as goal

pub loop-note-preserved-in_default : goal.loop-note-preserved-in_default
loop-note-preserved-in_default c = λ q.
    c.loop-note.invariant q ∙ ap (is_in q) (sym
    (done_same c.args.log.now c.loop-note.note-index c.note-item.result c.loop-note-test.true c.note-item.is c.in_default.not-Processed))

pub loop-note-preserved : goal.loop-note-preserved
loop-note-preserved c = λ q.
    marked_next _ c.in-Processed.number q _ _ (c.in_ok-mark.ensures q) (c.loop-note.invariant q) ∙ ap (is_in q) (sym
    (done_next c.args.log.now c.loop-note.note-index c.note-item.result c.loop-note-test.true c.note-item.is c.in-Processed.number c.in-Processed.instance
    c.in-Processed.output c.in-Processed.is))

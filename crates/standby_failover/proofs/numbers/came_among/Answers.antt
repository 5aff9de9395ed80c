-- A note of a packet that came adds its number where it is among the numbers, and any other none.
use Rattle.standby_failover.proofs.Words.{◌≡◌, true, [], ◌∷◌, ◌++◌, sym, ap, ◌∙◌, is_in, is_marked}
use Rattle.standby_failover.proofs.MetNumbers.{left_out, picked_next, picked_same}
use Rattle.standby_failover.proofs.numbers.came_among.Goals as goal
use Rattle.standby_failover.proofs.numbers.came_among.Goals.{then-is_marked+in_ok-push, else-is_marked}

pub loop-note-preserved-in_default : goal.loop-note-preserved-in_default
loop-note-preserved-in_default c =
    c.loop-note.invariant ∙ sym
    (picked_same c.args.log.now c.loop-note.note-index c.note-item.result c.loop-note-test.true c.note-item.is (λ p. is_in p c.args.numbers.now)
    c.in_default.not-Arrived)

pub loop-note-preserved : goal.loop-note-preserved
loop-note-preserved c =
    let number = c.in-Arrived.number in
    let tested : c.is_marked.result ≡ is_in number c.args.numbers.now =
    c.is_marked.ensures ∙ ap (λ ms. is_marked ms number) c.as_slice.ensures.value ∙ c.in_ok-marks.ensures number in
    elim c.if-is_marked.branch [
      | then-is_marked+in_ok-push w ↦
          w.found-is ∙ w.in_ok-push.ensures.ok ∙ ap (λ xs. xs ++ number ∷ []) c.loop-note.invariant
          ∙ sym (picked_next c.args.log.now c.loop-note.note-index c.note-item.result c.loop-note-test.true c.note-item.is (λ p. is_in p c.args.numbers.now)
          number c.in-Arrived.is true (sym tested ∙ w.if-is_marked.true))
      | else-is_marked w ↦
          w.found-is ∙ c.loop-note.invariant
          ∙ sym (left_out c.args.log.now c.loop-note.note-index c.note-item.result c.loop-note-test.true c.note-item.is (λ p. is_in p c.args.numbers.now) number
          c.in-Arrived.is (sym tested ∙ w.if-is_marked.false))
    ]

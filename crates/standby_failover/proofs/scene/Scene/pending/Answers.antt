-- A note of a packet that came adds its number where it is open.
use Rattle.standby_failover.proofs.Words.{◌≡◌, true, false, [], ◌∷◌, ◌++◌, sym, ap, ◌∙◌, ◌&&◌, not, is_open, numbers_done, is_in, affects, failover_in}
use Rattle.standby_failover.proofs.Words.{is_marked}
use Rattle.standby_failover.proofs.MetNumbers.{left_out, met_came, picked_next, picked_same}
use Rattle.standby_failover.proofs.SceneSteps.{open_is}
use Rattle.standby_failover.proofs.scene.Scene.pending.Goals as goal
use Rattle.standby_failover.proofs.scene.Scene.pending.Goals.{then-is_open+in_ok-push, else-is_open}

pub loop-note-preserved-in_default : goal.loop-note-preserved-in_default
loop-note-preserved-in_default g c = λ v is.
    c.loop-note.invariant v is ∙ sym
    (picked_same c.args.self.now.log.now c.loop-note.note-index c.note-item.result c.loop-note-test.true c.note-item.is
    (is_open (failover_in g.F.Function.semantics v)) c.in_default.not-Arrived)

pub loop-note-preserved : goal.loop-note-preserved
loop-note-preserved g c =
    let f = g.F.Function.semantics in
    let s = c.args.self.now in
    let number = c.in-Arrived.number in
    let i = c.loop-note.note-index in
    let log = s.log.now in
    let came = met_came log i c.note-item.result c.loop-note-test.true c.note-item.is number c.in-Arrived.is in
    let tested : c.is_open.result ≡ (not (is_in number (numbers_done log)) && affects f s number) =
    c.is_open.ensures ∙ ap (λ ms. not (is_marked ms number) && affects f s number) c.as_slice.ensures.value
    ∙ ap (λ b. not b && affects f s number) (c.in_ok-marks.ensures number) in
    elim c.if-is_open.branch [
      | then-is_open+in_ok-push w ↦ λ v is.
          w.found-is ∙ w.in_ok-push.ensures.ok ∙ ap (λ xs. xs ++ number ∷ []) (c.loop-note.invariant v is)
          ∙ sym (picked_next log i c.note-item.result c.loop-note-test.true c.note-item.is (is_open (failover_in f v)) number c.in-Arrived.is true
          (open_is f v s is number came true (sym tested ∙ w.if-is_open.true)))
      | else-is_open w ↦ λ v is.
          w.found-is ∙ c.loop-note.invariant v is
          ∙ sym (left_out log i c.note-item.result c.loop-note-test.true c.note-item.is (is_open (failover_in f v)) number c.in-Arrived.is
          (open_is f v s is number came false (sym tested ∙ w.if-is_open.false)))
    ]

-- Each note of a packet that was processed goes on with the lists as the definitions say.
use Rattle.standby_failover.proofs.Words.{rules, ◌≡◌, true, false, ◌+◌, take, Option, Some, None, [], refl, sym, subst, ◌∙◌, is_some, unit_at, numbers_done}
use Rattle.standby_failover.proofs.Words.{failover_in, has_seen_more}
use Rattle.std.specs.FinMap as finite
use Rattle.standby_failover.proofs.LostPackets.{IsUpTo}
use Rattle.standby_failover.proofs.MetNumbers.{done_same}
use Rattle.standby_failover.proofs.NumberedPackets.{found}
use Rattle.standby_failover.proofs.SceneSteps.{begun, is_found, passed_lost, passed_other, passed_seen}
use Rattle.standby_failover.proofs.scene.Scene.push_lost.Goals as goal
use Rattle.standby_failover.proofs.scene.Scene.push_lost.Goals.{then-has_seen_more+in_ok-step_along, else-has_seen_more+in_ok-push}

none_if : {X : Type 0} (o : Option X) → ((y : X) → o ≡ Some y → ⊥) → o ≡ None
none_if None h = refl
none_if (Some y) h = absurd (h y refl)

pub loop-note-init : goal.loop-note-init
loop-note-init g c = λ v is.
    let f = g.F.Function.semantics in
    subst (λ t. IsUpTo (failover_in f v) [] t c.args.order.now) (sym c.requires.again)
    (subst (λ o. IsUpTo (failover_in f v) [] finite.empty o) (sym c.requires.order) (begun f v c.args.self.now is g.met.F.Function.laws))

pub loop-note-preserved-in_default : goal.loop-note-preserved-in_default
loop-note-preserved-in_default g c = λ v is.
    subst (λ ns. IsUpTo (failover_in g.F.Function.semantics v) ns c.loop-note.again.live c.loop-note.order)
    (sym (done_same c.args.self.now.log.now c.loop-note.note-index c.note-item.result c.loop-note-test.true c.note-item.is c.in_default.not-Processed))
    (c.loop-note.invariant v is)

pub loop-note-preserved-in_default-packet_at : goal.loop-note-preserved-in_default-packet_at
loop-note-preserved-in_default-packet_at g c = λ v is.
    absurd (is_found g.F.Function.semantics v c.args.self.now is g.met.F.Function.laws c.loop-note.note-index c.note-item.result c.loop-note-test.true
    c.note-item.is c.in-Processed.number c.in-Processed.instance c.in-Processed.output c.in-Processed.is
    (sym c.packet_at.ensures ∙ none_if c.packet_at.result c.in_default-packet_at.not-Some))

pub loop-note-preserved-then-is_none : goal.loop-note-preserved-then-is_none
loop-note-preserved-then-is_none g c = λ v is.
    let f = g.F.Function.semantics in
    let s = c.args.self.now in
    let at : found s.packets.now c.in-Processed.number ≡ Some c.in-Some.packet = sym c.packet_at.ensures ∙ c.in-Some.is in
    let off : is_some (finite.get s.failed.now.live (unit_at f.kind s.site c.in-Some.packet)) ≡ false = search rules in
    passed_other f v s is g.met.F.Function.laws c.loop-note.note-index c.note-item.result c.loop-note-test.true c.note-item.is c.in-Processed.number
    c.in-Processed.instance c.in-Processed.output c.in-Processed.is
    c.loop-note.again.live c.loop-note.order (c.loop-note.invariant v is) c.in-Some.packet at off

pub loop-note-preserved : goal.loop-note-preserved
loop-note-preserved g c =
    let f = g.F.Function.semantics in
    let s = c.args.self.now in
    let number = c.in-Processed.number in
    let p = c.in-Some.packet in
    let i = c.loop-note.note-index in
    let log = s.log.now in
    let at : found s.packets.now number ≡ Some p = sym c.packet_at.ensures ∙ c.in-Some.is in
    let on : is_some (finite.get s.failed.now.live (unit_at f.kind s.site p)) ≡ true = search rules in
    let tested : c.has_seen_more.result ≡ has_seen_more f (finite.get s.to.now.standby (unit_at f.kind s.site p))
    (finite.get c.loop-note.again.live (unit_at f.kind s.site p)) = search rules in
    elim c.if-has_seen_more.branch [
      | then-has_seen_more+in_ok-step_along w ↦ λ v is.
          subst (λ y. IsUpTo (failover_in f v) (numbers_done (take (i + 1) log)) y.live c.if-has_seen_more.order) (sym w.again-is)
          (subst (λ o. IsUpTo (failover_in f v) (numbers_done (take (i + 1) log)) w.step_along.new.self.live o) (sym w.order-is)
          (passed_seen f v s is g.met.F.Function.laws i c.note-item.result c.loop-note-test.true c.note-item.is number c.in-Processed.instance
          c.in-Processed.output c.in-Processed.is
          c.loop-note.again.live c.loop-note.order (c.loop-note.invariant v is) p at on (sym tested
          ∙ w.if-has_seen_more.true) w.step_along.new.self.live w.in_ok-step_along.ensures.each))
      | else-has_seen_more+in_ok-push w ↦ λ v is.
          subst (λ y. IsUpTo (failover_in f v) (numbers_done (take (i + 1) log)) y.live c.if-has_seen_more.order) (sym w.again-is)
          (subst (λ o. IsUpTo (failover_in f v) (numbers_done (take (i + 1) log)) c.loop-note.again.live o) (sym (w.order-is ∙ w.in_ok-push.ensures.ok))
          (passed_lost f v s is g.met.F.Function.laws i c.note-item.result c.loop-note-test.true c.note-item.is number c.in-Processed.instance
          c.in-Processed.output c.in-Processed.is
          c.loop-note.again.live c.loop-note.order (c.loop-note.invariant v is) p at on (sym tested ∙ w.if-has_seen_more.false)))
    ]

-- The packets so far that the records have seen make them again, and the others are lost.
use Rattle.standby_failover.proofs.Words.{take, numbers_done, Stopped, IsSceneOf, failover_in}
use Rattle.standby_failover.proofs.LostPackets.{IsUpTo}
use Rattle.standby_failover.proofs.scene.Scene.push_lost.Given as goal

abbrev pub invariant-loop-note : goal.invariant-loop-note
invariant-loop-note g l = (v : Stopped g.row.F.Denot g.row.F-Record.Denot) → IsSceneOf g.F.Function.semantics v l.self
    → IsUpTo (failover_in g.F.Function.semantics v) (numbers_done (take l.note-index l.self.log.now)) l.again.live l.order

-- The open packets among those that came so far.
use Rattle.standby_failover.proofs.Words.{◌≡◌, filter, take, arrivals_in, is_open, Stopped, IsSceneOf, failover_in}
use Rattle.standby_failover.proofs.scene.Scene.pending.Given as goal

abbrev pub invariant-loop-note : goal.invariant-loop-note
invariant-loop-note g l = (v : Stopped g.row.F.Denot g.row.F-Record.Denot) → IsSceneOf g.F.Function.semantics v l.self
    → l.found ≡ filter (is_open (failover_in g.F.Function.semantics v)) (arrivals_in (take l.note-index l.self.log.now))

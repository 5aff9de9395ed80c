-- The chunks are taken in exactly where none is bad.
use Rattle.std.proofs.lemmas.Result.{IfOk-weaker}
use Rattle.instance_worker.proofs.TakenChunks.{good_taken}
use Rattle.instance_worker.proofs.instance.Instance.take_standby.Goals as goal

pub returns-clause-good : goal.returns-clause-good
returns-clause-good g c =
    IfOk-weaker c.are_taken.result _ _ (λ are is. good_taken g.F.Function.semantics c.args.chunks c.set_standby.result are c.set_standby.ensures.good
    c.set_standby.ensures.refusal is) c.are_taken.ensures

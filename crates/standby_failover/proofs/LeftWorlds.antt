-- In the world that the choices of a run lead to, what stands by has seen what it has counted, whichever two instances these are.
use Rattle.standby_failover.proofs.Words.{ℕ, List, FunctionLaws, Msg, Note, Choice, Network, Node, job_of, Promises, Failover, IsLeft, failover_of, Setting}
use Rattle.standby_failover.proofs.Words.{IsCourse, world_of}
use Rattle.nf_net.proofs.EveryRun.{every_run}
use Rattle.nf_net.proofs.StandbyRuns.{standbys}
use Rattle.standby_failover.proofs.Reflected.{reflects}

module _ {F R : Type 0} (setting : Setting F R) (cs : List Choice) (failed to : ℕ) where
  open setting use {function as f, laws, config as c, items, is_input as is}

  abbrev pub world : Network (Node F R) Msg Note
  world = world_of setting cs

  abbrev pub x : Failover F R
  x = failover_of (job_of f c items) world failed to

  pub is_left : IsCourse setting cs → IsLeft x
  is_left runs =
      let promises : Promises f c items world = every_run setting cs runs in
      let stand = standbys setting cs runs in
      record { is_input = is; promises = promises; reflects = λ u. reflects x is promises laws u (λ r e. stand.fronts to u r e) }

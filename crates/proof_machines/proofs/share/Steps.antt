-- Each move from each stage leads to a stage, in order and with no record that has seen less (`goes_on`).
use Rattle.proof_machines.proofs.share.Share.{UnitShare, ShareMachineStep, moved}
use Rattle.proof_machines.proofs.share.Stages.{Stage, Stage.Diverting, Stage.Fence_goes, Stage.Fenced_comes, Stage.Get_goes, Stage.Chunks_come, Stage.Spreads}
use Rattle.proof_machines.proofs.share.Stages.{Stage.Resting, Stage.Forwards, Stage.Carries, Stage.Chunk_comes, shape, IsShare, FitsStage, brings, Leads}
use Rattle.proof_machines.proofs.share.Setting.{diverting, fence_goes}
use Rattle.proof_machines.proofs.share.FencedSetting.{fenced_comes, get_goes, chunks_come}
use Rattle.proof_machines.proofs.share.Spreading.{spreads}
use Rattle.proof_machines.proofs.share.Serving.{resting, forwards, carries, chunk_comes}

module _ {R : Type 0} (f : UnitShare R) where
  pub goes_on : IsShare f → (s : Stage R) → FitsStage f s → (m : ShareMachineStep) → Leads f s (moved f (shape f s) m) (brings f m)
  goes_on is (Diverting d b l) h m = diverting f d b l h m
  goes_on is (Fence_goes d b l q v) h m = fence_goes f d b l q v h m
  goes_on is (Fenced_comes d b q v) h m = fenced_comes f d b q v h m
  goes_on is (Get_goes d b q v) h m = get_goes f d b q v h m
  goes_on is (Chunks_come d b q v) h m = chunks_come f is d b q v h m
  goes_on is (Spreads first d e b c at o left q v) h m = spreads f first d e b c at o left q v h m
  goes_on is (Resting d e v) h m = resting f d e v m
  goes_on is (Forwards d e p q v) h m = forwards f d e p q v m
  goes_on is (Carries d e p q v) h m = carries f d e p q v m
  goes_on is (Chunk_comes d e p q v) h m = chunk_comes f is d e p q v m

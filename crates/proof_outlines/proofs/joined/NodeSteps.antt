-- Each node's step leads from a world of a run to one, where what the step wants beside the world is so.
use Rattle.proof_outlines.proofs.Words.{◌≡◌, ℕ, zero, suc, List, arith, Chunk, Fits, Semantics, Msg, FunctionLaws}
use Rattle.proof_outlines.proofs.joined.StandbyChunks.{MayStandBy}
use Rattle.proof_outlines.proofs.joined.ControllerBegins.{CopiesNext}
use Rattle.proof_outlines.proofs.joined.SwitchSteps.{switch_leads}
use Rattle.proof_outlines.proofs.joined.ControllerSteps.{controller_leads}
use Rattle.proof_outlines.proofs.joined.InstanceMessages.{instance_leads}
use Rattle.proof_outlines.proofs.joined.JoinedSteps.{NodeLeads}
use Rattle.proof_outlines.proofs.joined.Words.{Given, Scene}

-- chunks of a copy that an instance is to keep may stand by, and the number of a copy that is asked for is new
pub record Wants {F R : Type 0} (f : Semantics R) (g : Given) (x : Scene F f g) (m : Msg) : Type 0 where
  pub stand : (op : ℕ) (chunks : List Chunk) → m ≡ Msg.Standby op chunks → MayStandBy f g x.world chunks
  pub next : CopiesNext f g x m

module _ {F R : Type 0} (f : Semantics R) (laws : FunctionLaws f) (g : Given) (fitting : (number : ℕ) → Fits g.site (g.packet number)) (n : ℕ) where
  pub node_leads : NodeLeads {F = F} f g n (Wants f g)
  node_leads x zero p m are is wants = switch_leads f laws g n x p m are is
  node_leads x (suc zero) p m are is wants = controller_leads f laws g n x p m are is wants.next
  node_leads x (suc (suc i)) p m are is wants = instance_leads f laws g fitting n x p m (suc (suc i)) (omega arith) are is wants.stand

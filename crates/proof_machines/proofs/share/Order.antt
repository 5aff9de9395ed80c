-- The order of a stage: what was processed and then the path are all that arrived, before the switch diverted and since (`in_order`);
-- and each packet that arrived since and was processed was so at its member (`parts`).
use Rattle.std.proofs.Common.{◌≡◌, ℕ, List, [], ◌++◌, refl}
use Rattle.proof_machines.proofs.share.Share.{Ran, UnitShare, if_mine, mine_in}
use Rattle.proof_machines.proofs.share.Stages.{Stage, Stage.Diverting, Stage.Fence_goes, Stage.Fenced_comes, Stage.Get_goes, Stage.Chunks_come, Stage.Spreads}
use Rattle.proof_machines.proofs.share.Stages.{Stage.Resting, Stage.Forwards, Stage.Carries, Stage.Chunk_comes, processed, packets, early, late, path, served}
use Rattle.proof_machines.proofs.share.Setting.{orders}

module _ {R : Type 0} (f : UnitShare R) where
  pub in_order : (s : Stage R) → packets (processed f s) ++ path f s ≡ early s ++ late f s
  in_order (Diverting d b l) = simp orders
  in_order s = simp orders

  -- what was processed early and late, and what waits of each
  pub record Parts (s : Stage R) : Type 0 where
    pub before : List Ran
    pub since : List ℕ
    pub early_waits : List ℕ
    pub late_waits : List ℕ
    pub done : processed f s ≡ before ++ served f since
    pub early_is : early s ≡ packets before ++ early_waits
    pub late_is : late f s ≡ since ++ late_waits
    pub path_is : path f s ≡ early_waits ++ late_waits

  known : {s : Stage R} (before : List Ran) (since early_waits late_waits : List ℕ) → processed f s ≡ before ++ served f since
      → early s ≡ packets before ++ early_waits → late f s ≡ since ++ late_waits → path f s ≡ early_waits ++ late_waits → Parts s
  known b s e l done early_is late_is path_is =
      record { before = b; since = s; early_waits = e; late_waits = l; done = done; early_is = early_is; late_is = late_is; path_is = path_is }

  pub parts : (s : Stage R) → Parts s
  parts (Diverting d b l) = known d [] l [] (simp orders) refl refl (simp orders)
  parts (Fence_goes d b l q v) = known d [] l (mine_in f (q ++ v)) (simp orders) refl refl (simp orders)
  parts (Fenced_comes d b q v) = known d [] [] (mine_in f (q ++ v)) (simp orders) (simp orders) refl (simp orders)
  parts (Get_goes d b q v) = known d [] [] (mine_in f (q ++ v)) (simp orders) (simp orders) refl (simp orders)
  parts (Chunks_come d b q v) = known d [] [] (mine_in f (q ++ v)) (simp orders) (simp orders) refl (simp orders)
  parts (Spreads first d e b c at o left q v) = known d e [] (mine_in f (q ++ v)) refl (simp orders) refl (simp orders)
  parts (Resting d e v) = known d e [] (mine_in f v) refl (simp orders) refl refl
  parts (Forwards d e p q v) = known d e [] (if_mine f p ++ mine_in f (q ++ v)) refl (simp orders) refl (simp orders)
  parts (Carries d e p q v) = known d e [] (if_mine f p ++ mine_in f (q ++ v)) refl (simp orders) refl (simp orders)
  parts (Chunk_comes d e p q v) = known d (e ++ if_mine f p) [] (mine_in f (q ++ v)) refl (simp orders) refl (simp orders)

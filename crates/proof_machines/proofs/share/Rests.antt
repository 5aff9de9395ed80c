-- The machine at rest: with no message on a link to or from the switch, the controller and the members, the share is idle, no packet
-- waits, and each member's record has seen all.
use Rattle.std.proofs.Common.{◌≡◌, ℕ, true, false, ◌==◌, Option, List, [], ◌∷◌, ◌++◌, map, refl, sym, ap, ◌∙◌}
use Rattle.proof_machines.proofs.unit.Rests.{behind_nil}
use Rattle.proof_machines.proofs.unit.Lists.{cons_nil}
use Rattle.proof_machines.proofs.share.Share.{Ran, Item, Item.Carry, Item.Fence, Item.Diverted, UnitShare, View, has, only}
use Rattle.copy_share.specs.declared.share_phase.SharePhase.TheVariants.{Idle}
use Rattle.proof_machines.proofs.share.Stages.{Turn, Turn.Going, Turn.Coming, Turn.Quiet, is_pending, goes_to, comes_from, count, Stage, Stage.Fence_goes}
use Rattle.proof_machines.proofs.share.Stages.{Stage.Fenced_comes, Stage.Get_goes, Stage.Chunks_come, Stage.Spreads, Stage.Resting, Stage.Carries}
use Rattle.proof_machines.proofs.share.Stages.{Stage.Chunk_comes, front, processed, path, shape, IsShare, FitsStage}
use Rattle.proof_machines.proofs.share.Lists.{self, count-none}

-- a stage that waits for nothing
pub record Rests {R : Type 0} (f : UnitShare R) (s : Stage R) : Type 0 where
  pub before : List Ran
  pub since : List ℕ
  pub is : s ≡ Resting before since []
  pub phase : (shape f s).phase ≡ Idle
  pub path : path f s ≡ []
  pub seen : (k : ℕ) → front f s k ≡ processed f s

pub record Silent {R : Type 0} (f : UnitShare R) (x : View R) : Type 0 where
  pub sw : (k : ℕ) → has f.members k ≡ true → x.sw k ≡ []
  pub sc : x.sc ≡ []
  pub cs : x.cs ≡ []
  pub to : (k : ℕ) → has f.members k ≡ true → x.to k ≡ []
  pub back : (k : ℕ) → has f.members k ≡ true → x.back k ≡ []

-- what stands at a node, looked at there
here : {X : Type 0} (h : ℕ) (xs : List X) → only h xs h ≡ [] → xs ≡ []
here h xs e = rw (self h) at e

quiet : {R : Type 0} (c : Option R) (t : Turn) → goes_to c t ≡ [] → ◌≡◌ {A = List (Item R)} (comes_from t) [] → is_pending t ≡ false
quiet c Going e g = cons_nil e
quiet c Coming e g = cons_nil g
quiet c Quiet e g = refl

module _ {R : Type 0} (f : UnitShare R) (is : IsShare f) where
  resting : (d : List Ran) (e v : List ℕ) → ◌≡◌ {A = List (Item R)} (map Diverted v) [] → Rests f (Resting d e v)
  resting d e [] none = record { before = d; since = e; is = refl; phase = refl; path = refl; seen = λ k. refl }
  resting d e (p ∷ v) none = cons_nil none

  pub rests : (s : Stage R) → FitsStage f s → Silent f (shape f s) → Rests f s
  rests (Fence_goes d b l q v) h x = behind_nil (map Carry l) Fence [] (here f.home (map Carry l ++ Fence ∷ []) (x.sw f.home is.home_in))
  rests (Fenced_comes d b q v) h x = cons_nil (here f.home _ (x.back f.home is.home_in))
  rests (Get_goes d b q v) h x = cons_nil (here f.home _ (x.to f.home is.home_in))
  rests (Chunks_come d b q v) h x = cons_nil (here f.home _ (x.back f.home is.home_in))
  rests (Spreads first d e b c at o left q v) h x =
      let none : count at o ≡ 0 = count-none at o (λ k there. let m = h.inside k there in quiet c (at k) (x.to k m) (x.back k m)) in
      let zero : left ≡ 0 = sym h.counts ∙ none in
      let never : true ≡ false = ap (λ n. n == 0) (sym zero) ∙ h.some in
      cc
  rests (Resting d e v) h x = resting d e v x.sc
  rests (Carries d e p q v) h x = cons_nil (here (f.member_of p) _ (x.sw (f.member_of p) (is.member_in p)))
  rests (Chunk_comes d e p q v) h x = cons_nil (here (f.member_of p) _ (x.back (f.member_of p) (is.member_in p)))
  rests s h x = cons_nil x.cs

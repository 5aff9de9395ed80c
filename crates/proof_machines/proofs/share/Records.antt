-- Each member's record is the fold of what it has seen (`own_is`), and the live one has seen all, or all but the packet that another
-- member has just processed (`is_live`). Each has seen a front of it (`seen_front`).
use Rattle.std.proofs.Common.{◌≡◌, ℕ, Bool, true, false, cond, ◌==◌, List, [], ◌∷◌, ◌++◌, inl, inr, refl, sym, append_assoc, append-nil}
use Rattle.proof_machines.proofs.share.Share.{Ran, UnitShare, if_mine, after}
use Rattle.proof_machines.proofs.share.Stages.{Turn, Turn.Going, is_going, is_pending, Stage, Stage.Diverting, Stage.Fence_goes, Stage.Fenced_comes}
use Rattle.proof_machines.proofs.share.Stages.{Stage.Get_goes, Stage.Chunks_come, Stage.Spreads, Stage.Resting, Stage.Forwards, Stage.Carries}
use Rattle.proof_machines.proofs.share.Stages.{Stage.Chunk_comes, front, processed, shape, served, IsFront, FitsStage, Behind, Lacks, Live}
use Rattle.std.proofs.lemmas.List.{map-append}
use Rattle.proof_machines.proofs.share.Lists.{cond-same, self}
use Rattle.proof_machines.proofs.share.Setting.{front_same}
use Rattle.proof_machines.proofs.share.Serving.{took_more}
use Rattle.proof_machines.proofs.Tests.{split}

pub not_pending : (t : Turn) → is_pending t ≡ false → is_going t ≡ false
not_pending Going e = cc
not_pending turn e = refl

either : (t : Bool) (old new : List Ran) → IsFront old new → IsFront (cond t new old) new
either true old new h = front_same new
either false old new h = h

module _ {R : Type 0} (f : UnitShare R) where
  pub own_is : (s : Stage R) (k : ℕ) → (shape f s).own k ≡ after f (front f s k)
  own_is (Diverting d b l) k = refl
  own_is s k = refl

  pub done_is : (s : Stage R) → (shape f s).done ≡ processed f s
  done_is (Diverting d b l) = refl
  done_is s = refl

  -- the processed packets, with one that is the unit's or isn't
  abbrev with_one : List Ran → List ℕ → ℕ → Bool → List Ran
  with_one d e p t = d ++ served f (e ++ cond t (p ∷ []) [])

  abbrev at_member : List Ran → List ℕ → ℕ → Bool → ℕ → List Ran
  at_member d e p t k = cond (k == f.member_of p) (with_one d e p t) (d ++ served f e)

  took_one : (d : List Ran) (e : List ℕ) (p : ℕ) (t : Bool)
      → Lacks f (cond t (with_one d e p true) (d ++ served f e)) (with_one d e p true) (at_member d e p true)
  took_one d e p true = inl refl
  took_one d e p false =
      inr (p, (rw (map-append _ e (p ∷ [])) (sym (append_assoc d (served f e) ((p, f.member_of p) ∷ []))), rw (self (f.member_of p)) refl))

  took : (d : List Ran) (e : List ℕ) (p : ℕ) (t : Bool) → Lacks f (at_member d e p t f.home) (with_one d e p t) (at_member d e p t)
  took d e p true = took_one d e p (f.home == f.member_of p)
  took d e p false = inl (rw (append-nil e, cond-same (f.home == f.member_of p) (d ++ served f e)) refl)

  still_behind : (n : List Ran) (b : ℕ → List Ran) (at : ℕ → Turn) → Behind f (b f.home) n at → Lacks f (b f.home) n (λ k. cond (is_going (at k)) (b k) n)
  still_behind n b at (inl a) = inl a
  still_behind n b at (inr a) = inr (a.0, (a.1.0, rw (not_pending (at (f.member_of a.0)) a.1.1) refl))

  pub is_live : (s : Stage R) → FitsStage f s → Live f s
  is_live (Spreads first d e b c at o left q v) h =
      split (is_going (at f.home)) (λ t. Lacks f (cond t (b f.home) (d ++ served f e)) (d ++ served f e) (λ k. cond (is_going (at k)) (b k) (d ++ served f e)))
      (λ g. still_behind (d ++ served f e) b at (h.lately g))
      (λ _. inl refl)
  is_live (Resting d e v) h = inl refl
  is_live (Forwards d e p q v) h = inl refl
  is_live (Carries d e p q v) h = inl refl
  is_live (Chunk_comes d e p q v) h = took d e p (f.mine p)
  is_live s h = inl (rw (self f.home) refl)

  -- each member's record has seen a front of what was processed
  pub seen_front : (s : Stage R) → FitsStage f s → (k : ℕ) → IsFront (front f s k) (processed f s)
  seen_front (Diverting d b l) h k = either (k == f.home) (b k) d (h k)
  seen_front (Fence_goes d b l q v) h k = either (k == f.home) (b k) d (h k)
  seen_front (Fenced_comes d b q v) h k = either (k == f.home) (b k) d (h k)
  seen_front (Get_goes d b q v) h k = either (k == f.home) (b k) d (h k)
  seen_front (Chunks_come d b q v) h k = either (k == f.home) (b k) d (h k)
  seen_front (Spreads first d e b c at o left q v) h k = elim (is_going (at k)) as (λ t. IsFront (cond t (b k) (d ++ served f e)) (d ++ served f e))
      [ true ↦ h.fronts k | false ↦ front_same (d ++ served f e) ]
  seen_front (Resting d e v) h k = front_same (d ++ served f e)
  seen_front (Forwards d e p q v) h k = front_same (d ++ served f e)
  seen_front (Carries d e p q v) h k = front_same (d ++ served f e)
  seen_front (Chunk_comes d e p q v) h k = either (k == f.member_of p) (d ++ served f e) (d ++ served f (e ++ if_mine f p)) (took_more f d e p)

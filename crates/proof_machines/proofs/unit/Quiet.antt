-- A row of another move shows the unit nothing: what it sends isn't seen, and it still keeps no packet of the unit.
use Rattle.proof_machines.proofs.unit.Real.{none_if}
use Rattle.proof_machines.proofs.EachLaws.{each_any, each_made, each_fails, none_passes}
use Rattle.proof_machines.proofs.unit.Words.{◌≡◌, ℕ, false, None, Option, List, [], ◌∷◌, map, refl, ◌==◌, Answer, Said, Nothing, Release, Give_back, by_if}
use Rattle.move_op.specs.Table.{Put, Forward}
use Rattle.proof_machines.proofs.unit.Real.{MovePiece, MoveMsg, MovePhase, Op, OperationTurn, operation_words, put_to, forward_to, sends_of}
use Rattle.proof_machines.proofs.unit.Real.{operation_from_source, operation_from_destination, Frame, seen, view, only_mine, sent_for}
use Rattle.proof_machines.proofs.unit.Labels.{Each, each-append}
use Rattle.proof_machines.proofs.unit.TableRows.{Hold, SaidHas, Any, any_phase}
use Rattle.proof_machines.proofs.unit.RealRows.{Brings, BringsBack, from_source_holds, from_destination_holds}

abbrev pub Unseen : {R : Type 0} → Frame → ℕ × MoveMsg R → Type 0
Unseen v x = seen v x.1 ≡ None

abbrev pub Is_quiet : {R : Type 0} → Frame → OperationTurn R → Type 0
Is_quiet v did = Each (Unseen v) did.sends × (only_mine v did.store ≡ [])

-- nothing is seen at any receiver
pub view_nothing : {R : Type 0} (v : Frame) (y : ℕ) (xs : List (ℕ × MoveMsg R)) → Each (Unseen v) xs → view v (sent_for y xs) ≡ []
view_nothing v y [] e = refl
view_nothing v y (x ∷ xs) e =
    by_if (λ r. view v r ≡ []) (x.0 == y) (let none = e.0 in rw none (view_nothing v y xs e.1)) (view_nothing v y xs e.1)

-- a packet of another unit
abbrev pub Other : Frame → ℕ → Type 0
Other v p = v.mine p ≡ false

module _ {R : Type 0} (v : Frame) (o : Op) (other : (o.num == v.move) ≡ false) where
  said_unseen : (said : Said ℕ (MovePiece R)) → SaidHas (Other v) (Any (MovePiece R)) said → Each (Unseen v) (sends_of o said)
  said_unseen Nothing h = tt
  said_unseen (Put ps) h = each_made _ (put_to o) (λ p _. none_if (o.num == v.move) _ other) ps (each_any ps)
  said_unseen (Forward p) h = (none_if (v.mine p) _ h, tt)
  said_unseen (Release f) h = each-append (Unseen {R = R} v) (map (forward_to o.dst) f) ((0, MoveMsg.Install o.num o.src o.dst) ∷ [])
      (each_made _ _ (λ p off. none_if (v.mine p) _ off) f h) (none_if (o.num == v.move) _ other, tt)
  said_unseen (Give_back f) h = each-append (Unseen {R = R} v) (map (forward_to o.src) f) ((0, MoveMsg.Fence_to o.num o.src) ∷ [])
      (each_made _ _ (λ p off. none_if (v.mine p) _ off) f h) (none_if (o.num == v.move) _ other, tt)
  said_unseen said h = (none_if (o.num == v.move) _ other, tt)

  all_quiet : (f : List ℕ) → only_mine v f ≡ []
      → Hold (operation_words o f) (Other v) (Any (MovePiece R)) (Any Answer) (Any (Option Answer)) (Is_quiet v) (Is_quiet v)
  all_quiet f e = record {
    done = tt;
    refused = λ why x. tt;
    next = λ ph said x y. (said_unseen said y, e);
    keeps = λ h. h;
    stores = λ ps all h. (h.0, none_passes v.mine ps all);
  }

  -- an event of the unit has the number of its own move
  abbrev pub IsNotMine : MoveMsg R → Type 0
  IsNotMine (MoveMsg.Event n p) = v.mine p ≡ false
  IsNotMine m = Unit {0}

  brings : (m : MoveMsg R) → IsNotMine m → Brings (Other v) (Any (MovePiece R)) m
  brings (MoveMsg.Event n p) h = h
  brings m h = tt

  brings_back : (m : MoveMsg R) → BringsBack (Any (MovePiece R)) (Any Answer) m
  brings_back (MoveMsg.Put_no n why cs) = (tt, λ last. tt)
  brings_back m = tt

  pub from_source_quiet : (phase : MovePhase R) (f : List ℕ) (m : MoveMsg R) → IsNotMine m → only_mine v f ≡ [] → Is_quiet v (operation_from_source o phase f m)
  from_source_quiet phase f m h e = from_source_holds (all_quiet f e) (each_fails v.mine f e) phase (any_phase phase) m (brings m h)

  pub from_destination_quiet : (phase : MovePhase R) (f : List ℕ) (m : MoveMsg R) → only_mine v f ≡ [] → Is_quiet v (operation_from_destination o phase f m)
  from_destination_quiet phase f m e = from_destination_holds (all_quiet f e) (each_fails v.mine f e) phase (any_phase phase) m (brings_back m)

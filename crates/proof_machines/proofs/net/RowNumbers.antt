-- What a move's row sends has that move's number, and is for an instance or the switch.
use Rattle.proof_machines.proofs.EachLaws.{each_any, each_made}
use Rattle.proof_machines.proofs.net.Words.{◌≡◌, ℕ, true, false, Option, List, [], ◌∷◌, map, refl, if◌then◌else◌, ◌==◌, Answer, MovePiece, MoveMsg, MovePhase}
use Rattle.proof_machines.proofs.net.Words.{Op, OperationTurn, operation_turn, operation_words, put_to, forward_to, sends_of, operation_from_destination, Each}
use Rattle.proof_machines.proofs.net.Words.{each-append, row_of, is_free, by_if}
use Rattle.move_op.specs.Table.{Said, Nothing, Hold_at_source, Put, Hold_at_destination, Forward, Release, Give_back}
use Rattle.proof_machines.proofs.unit.TableRows.{Hold, Any, any_phase}
use Rattle.proof_machines.proofs.unit.RealRows.{Brings, BringsBack, from_source_holds, from_destination_holds}

abbrev pub OfRow : {R : Type 0} → Op → MoveMsg R → Type 0
OfRow o (MoveMsg.Enable n k) = (n ≡ o.num) × (is_free k ≡ false)
OfRow o (MoveMsg.Stream n) = n ≡ o.num
OfRow o (MoveMsg.Delete n us) = n ≡ o.num
OfRow o (MoveMsg.Put n p first) = n ≡ o.num
OfRow o (MoveMsg.Restore n cs) = n ≡ o.num
OfRow o (MoveMsg.Install n from to) = n ≡ o.num
OfRow o (MoveMsg.Fence_to n to) = n ≡ o.num
OfRow o (MoveMsg.Forward p to) = Unit {0}
OfRow o m = ⊥

abbrev pub SentOf : {R : Type 0} → Op → ℕ × MoveMsg R → Type 0
SentOf o x = OfRow o x.1

module _ {R : Type 0} (o : Op) where
  said_of_row : (said : Said ℕ (MovePiece R)) → Each (SentOf o) (sends_of o said)
  said_of_row Nothing = tt
  said_of_row Hold_at_source = ((refl, refl), tt)
  said_of_row Hold_at_destination = ((refl, refl), tt)
  said_of_row (Put ps) = each_made _ (put_to o) (λ p _. refl) ps (each_any ps)
  said_of_row (Forward p) = (tt, tt)
  said_of_row (Release f) =
      each-append (SentOf {R = R} o) (map (forward_to o.dst) f) ((0, MoveMsg.Install o.num o.src o.dst) ∷ []) (each_made _ _ (λ p _. tt) f (each_any f))
      (refl, tt)
  said_of_row (Give_back f) =
      each-append (SentOf {R = R} o) (map (forward_to o.src) f) ((0, MoveMsg.Fence_to o.num o.src) ∷ []) (each_made _ _ (λ p _. tt) f (each_any f)) (refl, tt)
  said_of_row said = (refl, tt)

  abbrev Numbered : OperationTurn R → Type 0
  Numbered turn = Each (SentOf o) turn.sends

  all_numbered : (f : List ℕ) → Hold (operation_words o f) (Any ℕ) (Any (MovePiece R)) (Any Answer) (Any (Option Answer)) Numbered Numbered
  all_numbered f = record { done = tt; refused = λ why x. tt; next = λ ph said x y. said_of_row said; keeps = λ h. h; stores = λ ps x h. h }

  brings : (m : MoveMsg R) → Brings (Any ℕ) (Any (MovePiece R)) m
  brings (MoveMsg.Event n p) = tt
  brings m = tt

  brings_back : (m : MoveMsg R) → BringsBack (Any (MovePiece R)) (Any Answer) m
  brings_back (MoveMsg.Put_no n why cs) = (tt, λ last. tt)
  brings_back m = tt

  pub row_numbers : (phase : MovePhase R) (f : List ℕ) (port : ℕ) (m : MoveMsg R) → Each (SentOf o) (row_of o phase f port m).sends
  row_numbers phase f port m =
      by_if (λ (r : OperationTurn R). Each (SentOf o) r.sends) (port == o.src)
      (from_source_holds (all_numbered f) (each_any f) phase (any_phase phase) m (brings m))
      (elim (port == o.dst) as (λ b. Each (SentOf o) (if b then operation_from_destination o phase f m else operation_turn phase f []).sends)
      [ true ↦ from_destination_holds (all_numbered f) (each_any f) phase (any_phase phase) m (brings_back m) | false ↦ tt ])

-- Another move's pieces have nothing of the unit: at the source that cuts them, at the controller that keeps them, and so in all
-- that it sends.
use Rattle.proof_machines.proofs.unit.Words.{◌≡◌, ℕ, false, None, Option, List, [], ◌∷◌, ◌++◌, map, refl, sym, ap, ◌∙◌, is_some, is_among, Answer, Streaming}
use Rattle.proof_machines.proofs.unit.Words.{Said, Nothing, Remove, Ask, Release, Give_back, nil_left, nil_right, Unit}
pub use Rattle.proof_machines.proofs.EachLaws.{Each, each-append, each_map, each_both, each_any}
use Rattle.proof_machines.proofs.EachLaws.{each_made}
use Rattle.move_op.specs.Table.{Restore, Put}
use Rattle.proof_machines.proofs.unit.Real.{Chunks, record_at, MovePiece, chunks_of, MoveMsg, MovePhase, Op, OperationTurn, operation_words, put_to, forward_to}
use Rattle.proof_machines.proofs.unit.Real.{sends_of, operation_from_source, operation_from_destination}
use Rattle.proof_machines.proofs.unit.TableRows.{PhaseHas, SaidHas, Hold, Any, any_door}
use Rattle.proof_machines.proofs.unit.RealRows.{Brings, BringsBack, from_source_holds, from_destination_holds}
use Rattle.proof_machines.proofs.unit.Seen.{is_among-units, record_at-append}
use Rattle.std.proofs.lemmas.List.Elements.{filter_map-append}
use Rattle.proof_machines.proofs.unit.Cuts.{all_at, record_first, joined_up, marks}

abbrev pub Without : {R : Type 0} → Unit → MovePiece R → Type 0
Without u p = record_at u p.chunks ≡ None

abbrev pub Foreign : {R : Type 0} → Unit → MoveMsg R → Type 0
Foreign u (MoveMsg.Delete o us) = is_among us u ≡ false
Foreign u (MoveMsg.Put o p first) = Without u p
Foreign u (MoveMsg.Restore o cs) = record_at u cs ≡ None
Foreign u (MoveMsg.Piece o p) = Without u p
Foreign u (MoveMsg.Put_no o why cs) = record_at u cs ≡ None
Foreign u m = Prim.Unit {0}

abbrev pub SentForeign : {R : Type 0} → Unit → ℕ × MoveMsg R → Type 0
SentForeign u x = Foreign u x.1

abbrev pub Clean : {R : Type 0} → Unit → MovePhase R → Type 0
Clean u (Streaming to_remove removed came door) = Each (Without u) to_remove × Each (Without u) removed
Clean u phase = Prim.Unit {0}

abbrev pub StaysClean : {R : Type 0} → Unit → OperationTurn R → Type 0
StaysClean u did = Clean u did.phase × Each (SentForeign u) did.sends

-- the pieces that a source cuts for another filter
pub cut_foreign : {R : Type 0} (u : Unit) (total newest : ℕ) (cs : List (Chunks R)) → all_at u (joined_up cs) ≡ []
    → Each (Without u) (marks total newest cs)
cut_foreign u total newest [] e = tt
cut_foreign u total newest (c ∷ cs) e =
    let both : all_at u c ++ all_at u (joined_up cs) ≡ [] = sym (filter_map-append _ c (joined_up cs)) ∙ e in
    let none = nil_left (all_at u c) (all_at u (joined_up cs)) both in
    (record_first u c ∙ rw none refl, cut_foreign u total newest cs (nil_right (all_at u c) (all_at u (joined_up cs)) both))

pieces_foreign : {R : Type 0} (u : Unit) (ps : List (MovePiece R)) → Each (Without u) ps → record_at u (chunks_of ps) ≡ None
pieces_foreign u [] e = refl
pieces_foreign u (p ∷ ps) e = let a = e.0 in let b = pieces_foreign u ps e.1 in record_at-append u p.chunks (chunks_of ps) ∙ rw (a, b) refl

module _ {R : Type 0} (u : Unit) (o : Op) where
  said_foreign : (said : Said ℕ (MovePiece R)) → SaidHas (Any ℕ) (Without u) said → Each (SentForeign u) (sends_of o said)
  said_foreign Nothing h = tt
  said_foreign (Remove p) h = (is_among-units u p.chunks ∙ ap is_some h, tt)
  said_foreign (Restore ps) h = (pieces_foreign u ps h, tt)
  said_foreign (Ask p) h = (h, tt)
  said_foreign (Put ps) h = each_made _ (put_to o) (λ p none. none) ps h
  said_foreign (Release f) h =
      each-append (SentForeign {R = R} u) (map (forward_to o.dst) f) ((0, MoveMsg.Install o.num o.src o.dst) ∷ []) (each_made _ _ (λ p _. tt) f (each_any f))
      (tt, tt)
  said_foreign (Give_back f) h =
      each-append (SentForeign {R = R} u) (map (forward_to o.src) f) ((0, MoveMsg.Fence_to o.num o.src) ∷ []) (each_made _ _ (λ p _. tt) f (each_any f))
      (tt, tt)
  said_foreign said h = (tt, tt)

  has_none : (phase : MovePhase R) → Clean u phase → PhaseHas (Without u) (Any Answer) (Any (Option Answer)) phase
  has_none (Streaming to_remove removed came d) c = (c.0, (c.1, any_door d))
  has_none phase c = tt

  is_clean : (phase : MovePhase R) → PhaseHas (Without u) (Any Answer) (Any (Option Answer)) phase → Clean u phase
  is_clean (Streaming to_remove removed came d) h = (h.0, h.1.0)
  is_clean phase h = tt

  all_clean : (f : List ℕ) → Hold (operation_words {R = R} o f) (Any ℕ) (Without u) (Any Answer) (Any (Option Answer)) (StaysClean u) (StaysClean u)
  all_clean f = record {
    done = tt;
    refused = λ why x. tt;
    next = λ ph said x y. (is_clean ph x, said_foreign said y);
    keeps = λ h. h;
    stores = λ ps all h. h;
  }

  brings : (m : MoveMsg R) → Foreign u m → Brings (Any ℕ) (Without u) m
  brings (MoveMsg.Piece n p) w = w
  brings m w = tt

  brings_back : (m : MoveMsg R) → Foreign u m → BringsBack (Without u) (Any Answer) m
  brings_back (MoveMsg.Put_no n why cs) w = (tt, λ last. w)
  brings_back m w = tt

  pub from_source_clean : (phase : MovePhase R) (f : List ℕ) (m : MoveMsg R) → Clean u phase → Foreign u m → StaysClean u (operation_from_source o phase f m)
  from_source_clean phase f m c w = from_source_holds (all_clean f) (each_any f) phase (has_none phase c) m (brings m w)

  pub from_destination_clean : (phase : MovePhase R) (f : List ℕ) (m : MoveMsg R) → Clean u phase → Foreign u m
      → StaysClean u (operation_from_destination o phase f m)
  from_destination_clean phase f m c w = from_destination_holds (all_clean f) (each_any f) phase (has_none phase c) m (brings_back m w)

-- What is read off where a unit is: its done packets and those that wait are all that arrived, in order unless a move without a buffer
-- took the unit; and its record is the fold of what was done, at one place.
use Rattle.proof_machines.proofs.net.Words.{◌≡◌, ℕ, Bool, true, false, None, List, [], ◌++◌, refl, sym, ap, ◌∙◌, subst, append-nil, Ran, Steps, after, State}
use Rattle.proof_machines.proofs.net.Words.{firsts, map-append, nil_left, times, Same, Kept, lives, on_way, UnitSeat, Covered, Is_beside, Is_away, seat_shape}
use Rattle.proof_machines.proofs.net.Words.{seat_all, seat_path, exactly, Sys, IsSys, World, Seeing, node_at, Holds, Global, done_u, Unit, same_of}
pub use Rattle.proof_machines.proofs.unit.Machine.{fold}
use Rattle.proof_machines.proofs.unit.Stages.{shape, path}
use Rattle.proof_machines.proofs.unit.SeatLaws.{seat_kept}
use Rattle.proof_machines.proofs.net.Units.{Where, Where.At_rest, Where.In_move, shown, see}

pub not_both : (b c : Bool) → (b ≡ true → c ≡ true) → c ≡ false → b ≡ false
not_both true c f e = let never : true ≡ false = sym (f refl) ∙ e in cc
not_both false c f e = refl

firsts_bare : (d e : List Ran) (p : List ℕ) → firsts e ++ p ≡ [] → firsts (d ++ e) ≡ firsts d
firsts_bare d e p none = map-append _ d e ∙ ap (λ v. firsts d ++ v) (nil_left (firsts e) p none) ∙ append-nil (firsts d)

pub seat_parts : {R : Type 0} (F : Steps R) (s : UnitSeat F) → seat_all s ≡ firsts (seat_shape F s).done ++ seat_path s
seat_parts F (Covered s) = refl
seat_parts F (Is_beside s) = ap (λ v. v ++ seat_path (Is_beside s)) (sym (firsts_bare s.d (shape F s.base).done (path s.base) s.bare))
seat_parts F (Is_away s) = ap (λ v. v ++ s.l) (sym (firsts_bare s.d (shape F s.base).done (path s.base) s.bare))

module _ {R : Type 0} (S : Sys R) (laws : IsSys S) (u : Unit) where
  -- done and waiting are what arrived
  pub record In_order (done ps : List ℕ) (c : Bool) : Type 0 where
    pub waits : List ℕ
    pub exact : c ≡ false → done ++ waits ≡ ps
    pub same : Same (done ++ waits) ps

  pub order_of : (w : World S) (ps : List ℕ) (c : Bool) → Where S laws u w ps c → In_order (done_u S u w.done) ps c
  order_of w ps c (At_rest owner d l b h o f) = let e = h.done in record {
    waits = l;
    exact = λ off. ap (λ v. v ++ l) e ∙ exactly b (firsts d ++ l) ps (not_both b c f off) o;
    same = λ p. ap (λ v. times p (v ++ l)) e ∙ same_of b (firsts d ++ l) ps o p;
  }
  order_of w ps c (In_move op third x s b there h o f k) =
      let e : done_u S u w.done ++ seat_path s ≡ seat_all s = ap (λ v. v ++ seat_path s) h.done
      ∙ sym (seat_parts S.F s) in
      record {
        waits = seat_path s;
        exact = λ off. e ∙ exactly b (seat_all s) ps (not_both b c f off) o;
        same = λ p. ap (λ v. times p v) e ∙ same_of b (seat_all s) ps o p;
      }

  -- its record: in the tables of three nodes as the machine's state says, in no other, and there once
  pub record RecordOf (w : World S) : Type 0 where
    pub seeing : Seeing
    pub state : State R
    pub holds : Holds S seeing w state
    pub tables : (k : ℕ) → S.B.at u (w.inst k).live ≡ (node_at S seeing state k).live
    pub kept : Kept (fold S.F None (done_u S u w.done)) state.a.live (lives state) (on_way state)

  pub record_of : (w : World S) (ps : List ℕ) (c : Bool) → Global S w → Where S laws u w ps c → RecordOf w
  record_of w ps c g h =
      let k = shown S laws u w ps c g h in
      let z = see S laws u k.op k.third in
      let x = seat_shape S.F k.seat in
      let same : after S.F x.done ≡ fold S.F None (done_u S u w.done) = ap (fold S.F None) (sym k.holds.done) in
      record {
        seeing = z;
        state = x;
        holds = k.holds;
        tables = λ i. (k.holds.insts i).live;
        kept = subst (λ o. Kept o x.a.live (lives x) (on_way x)) same (seat_kept S.F k.seat);
      }

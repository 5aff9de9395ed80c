-- Of an instance's rows on pieces one unit sees the machine's instance. Of the table that needs four laws of look-ups.
use Rattle.proof_machines.proofs.Tests.{split, by_if}
use Rattle.actor_net.proofs.WeightLaws.{Each}
use Rattle.proof_machines.proofs.unit.Machine.{Put_ok}
use Rattle.proof_machines.proofs.unit.Words.{◌≡◌, ℕ, Bool, true, false, Option, Some, None, List, [], ◌∷◌, map, length, refl, ap, ◌∙◌, if◌then◌else◌, ◌==◌}
use Rattle.proof_machines.proofs.unit.Words.{option_to_list, is_among, Answer, Where, Steps, joined, Part, Stream, Delete, Put, Restore, Inst, Did, inst_does}
use Rattle.proof_machines.proofs.unit.Words.{ArePiecesOf, Unit}
use Rattle.proof_machines.proofs.unit.Real.{Chunks, record_at, MovePiece, MoveMsg, Frame, see, view}
use Rattle.proof_machines.proofs.unit.Cuts.{all_at, marks, chop, chopped_fits, view_pieces}

-- a table, by look-ups
pub record Tables (R : Type 0) : Type 1 where
  pub T : Type 0
  pub at : Unit → T → Option R
  pub select : (Unit → Bool) → T → Chunks R
  pub remove : List Unit → T → T
  pub import : Chunks R → T → T
  pub restore : Chunks R → T → T

pub record Laws {R : Type 0} (F : Steps R) (B : Tables R) : Type 0 where
  pub selected : (u : Unit) (g : Unit → Bool) (t : B.T) → all_at u (B.select g t) ≡ option_to_list (if g u then B.at u t else None)
  pub removed : (u : Unit) (us : List Unit) (t : B.T) → B.at u (B.remove us t) ≡ (if is_among us u then None else B.at u t)
  pub imported : (u : Unit) (cs : Chunks R) (t : B.T) → B.at u (B.import cs t) ≡ joined F (record_at u cs) (B.at u t)
  pub restored : (u : Unit) (cs : Chunks R) (t : B.T) → B.at u (B.restore cs t) ≡ joined F (record_at u cs) (B.at u t)

module _ {R : Type 0} (F : Steps R) (B : Tables R) where
  abbrev pub stream_row : ℕ → ℕ → ℕ → (Unit → Bool) → B.T → B.T × List (MoveMsg R)
  stream_row o total newest g t = (t, map (λ p. MoveMsg.Piece o p) (marks total newest (chop (length (B.select g t)) (B.select g t))))

  abbrev pub delete_row : ℕ → List Unit → B.T → B.T × List (MoveMsg R)
  delete_row o us t = (B.remove us t, MoveMsg.Deleted o ∷ [])

  abbrev pub restore_row : ℕ → Chunks R → B.T → B.T × List (MoveMsg R)
  restore_row o cs t = (B.restore cs t, MoveMsg.Restored o ∷ [])

  -- a put; why a first piece is refused comes from the whole table
  abbrev pub put_row : ℕ → Bool → Option Answer → MovePiece R → B.T → B.T × List (MoveMsg R)
  put_row o false refuse p t = (B.restore p.chunks t, if p.last then MoveMsg.Put_ok o ∷ [] else [])
  put_row o true None p t = (B.import p.chunks t, MoveMsg.Put_ok o ∷ [])
  put_row o true (Some why) p t = (t, MoveMsg.Put_no o why p.chunks ∷ [])

  -- what holds of each of its answers holds of what is sent
  pub put_answers : (P : MoveMsg R → Type 0) (o : ℕ) (first : Bool) (refuse : Option Answer) (p : MovePiece R) (t : B.T) → P (MoveMsg.Put_ok o)
      → ((why : Answer) → P (MoveMsg.Put_no o why p.chunks)) → Each P (put_row o first refuse p t).1
  put_answers P o false refuse p t taken refused = by_if (Each P) p.last (taken, tt) tt
  put_answers P o true None p t taken refused = (taken, tt)
  put_answers P o true (Some why) p t taken refused = (refused why, tt)

  -- the record of the unit, what is sent, and nothing else of it
  pub record SeesInstance (v : Frame) (i : Inst R) (real : B.T × List (MoveMsg R)) (did : Did R) : Type 0 where
    pub live : B.at v.unit real.0 ≡ did.inst.live
    pub rule : did.inst.rule ≡ i.rule
    pub held : did.inst.held ≡ i.held
    pub to_c : view v real.1 ≡ did.to_c
    pub ran : did.ran ≡ []

  module _ (laws : Laws F B) (w : Where) (v : Frame) (i : Inst R) (t : B.T) (is : B.at v.unit t ≡ i.live) (same : (v.move == v.move) ≡ true) where
    -- the pieces that this source sends
    abbrev pub parts_of : ℕ → ℕ → (Unit → Bool) → List (Part R)
    parts_of total newest g = map (see v) (marks total newest (chop (length (B.select g t)) (B.select g t)))

    pub stream_seen : (total newest : ℕ) (g : Unit → Bool) (refuse : Option Answer) → g v.unit ≡ true → SeesInstance v i
        (stream_row v.move total newest g t) (inst_does F w (parts_of total newest g) refuse i Stream) × ArePiecesOf (parts_of total newest g) i.live
    stream_seen total newest g refuse takes_it =
        let xs = B.select g t in
        let own : all_at v.unit xs ≡ option_to_list i.live = laws.selected v.unit g t ∙ rw (takes_it, is) refl in (
          record { live = is; rule = refl; held = refl; to_c = view_pieces v (marks total newest (chop (length xs) xs)) same; ran = refl },
          chopped_fits v total newest (length xs) xs i.live own,
        )

    pub delete_seen : (us : List Unit) (parts : List (Part R)) (refuse : Option Answer)
        → SeesInstance v i (delete_row v.move us t) (inst_does F w parts refuse i (Delete (is_among us v.unit)))
    delete_seen us parts refuse = record {
      live = laws.removed v.unit us t ∙ ap (λ o. if is_among us v.unit then None else o) is;
      rule = refl;
      held = refl;
      to_c = rw same refl;
      ran = refl;
    }

    pub restore_seen : (cs : Chunks R) (parts : List (Part R)) (refuse : Option Answer)
        → SeesInstance v i (restore_row v.move cs t) (inst_does F w parts refuse i (Restore (record_at v.unit cs)))
    restore_seen cs parts refuse = record {
      live = laws.restored v.unit cs t ∙ ap (λ o. joined F (record_at v.unit cs) o) is;
      rule = refl;
      held = refl;
      to_c = rw same refl;
      ran = refl;
    }

    pub put_seen : (p : MovePiece R) (first : Bool) (parts : List (Part R)) (refuse : Option Answer)
        → SeesInstance v i (put_row v.move first refuse p t) (inst_does F w parts refuse i (Put (see v p) first))
    put_seen p false parts refuse = record {
      live = laws.restored v.unit p.chunks t ∙ ap (λ o. joined F (record_at v.unit p.chunks) o) is;
      rule = refl;
      held = refl;
      to_c = split p.last (λ b. view v (if b then MoveMsg.Put_ok v.move ∷ [] else []) ≡ (if b then Put_ok ∷ [] else [])) (λ _. rw same refl) (λ _. refl);
      ran = refl;
    }
    put_seen p true parts None = record {
      live = laws.imported v.unit p.chunks t ∙ ap (λ o. joined F (record_at v.unit p.chunks) o) is;
      rule = refl;
      held = refl;
      to_c = rw same refl;
      ran = refl;
    }
    put_seen p true parts (Some why) = record { live = is; rule = refl; held = refl; to_c = rw same refl; ran = refl }

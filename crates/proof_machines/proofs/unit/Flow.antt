-- Steps while a move streams, whatever the door: a packet comes, is handed out or stored, a piece comes, a Delete is taken. Each
-- leads to a stage, in order.
use Rattle.proof_machines.proofs.unit.Words.{◌≡◌, ℕ, Bool, Option, Some, None, List, [], ◌∷◌, ◌++◌, refl, sym, append_assoc, append-nil, if◌then◌else◌, is_some}
use Rattle.proof_machines.proofs.unit.Words.{map-append, At_a, Ran, Steps, after, Part, pick, or_own, Arrive, Take_sa, Take_ac, Take_ca}
use Rattle.std.proofs.lemmas.List.Elements.{filter_map-append}
use Rattle.proof_machines.proofs.unit.Words.{SourceItem, Event_of, Piece_of, Deleted_of, parts_in, named, ArePiecesOf, refit, others, last_is, Streams, Doorway}
use Rattle.proof_machines.proofs.unit.Words.{Flows, reflow, front, body, GoesOn, shapes, paths, still}

ruleset mixed = (map-append, append_assoc, append-nil, filter_map-append)

-- the pieces stay in order
body_event : {R : Type 0} (y : List (SourceItem R)) (q : List (Part R)) (p : ℕ) → body y q ≡ body (y ++ Event_of p ∷ []) q
body_event y q p = simp mixed

body_piece : {R : Type 0} (y : List (SourceItem R)) (q : List (Part R)) (h : Part R) → body (Piece_of h ∷ y) q ≡ body y (q ++ h ∷ [])
body_piece y q h = simp mixed

body_deleted : {R : Type 0} (y : List (SourceItem R)) (q : List (Part R)) (h : Part R) → body y (h ∷ q) ≡ body (y ++ Deleted_of h ∷ []) q
body_deleted y q h = simp mixed

-- the record at the source goes with its Delete
pick_deleted : {R : Type 0} (x : List (Part R)) (h : Part R) (t : List (Part R)) (o : Option R) → ArePiecesOf (x ++ h ∷ t) o
    → (if is_some h.own then None else pick (h ∷ t)) ≡ pick t
pick_deleted x h t o f =
    elim h.own as (λ w. h.own ≡ w → (if is_some w then None else or_own w (pick t)) ≡ pick t) [
      | None ↦ λ _. refl
      | Some r ↦ λ e. sym (others x h t o r e f).1
    ] refl

-- the source's own piece is behind those that came before
source : {R : Type 0} (x : List (Part R)) (y : List (SourceItem R)) (h : Part R) (q : List (Part R)) → x ++ body y (h ∷ q)
    ≡ (x ++ named y) ++ h ∷ (q ++ parts_in y)
source x y h q = simp append_assoc

came : {R : Type 0} (x : List (Part R)) (y : List (SourceItem R)) (h : Part R) (q : List (Part R)) → x ++ body (Piece_of h ∷ y) q
    ≡ (x ++ (named y ++ q)) ++ h ∷ parts_in y
came x y h q = simp append_assoc

module _ {R : Type 0} (F : Steps R) (d : List Ran) (f : List ℕ) where
  pub arrives : (y : List (SourceItem R)) (q : List (Part R)) (l : List ℕ) (k : Bool) (s : Doorway R) (w : Flows F d s (body y q)) (p : ℕ)
      → GoesOn F (Streams d f y q l k s w) (Arrive p)
  arrives y q l k s w p = (Streams d f y q (l ++ p ∷ []) k s w, first_of (simp shapes, cc), first_of (simp paths, cc), still At_a d)

  pub drops_on : (y : List (SourceItem R)) (q : List (Part R)) (l : List ℕ) (k : Bool) (s : Doorway R) (w : Flows F d s (body y q))
      → GoesOn F (Streams d f y q l k s w) Take_sa
  drops_on y q [] k s w = (Streams d f y q [] k s w, first_of (simp shapes, cc), first_of (simp paths, cc), still At_a d)
  drops_on y q (p ∷ l) k s w = (
    Streams d f (y ++ Event_of p ∷ []) q l k s (reflow (body_event y q p) w),
    simp mixed,
    simp mixed,
    still At_a d,
  )

  pub deletes : (y : List (SourceItem R)) (q : List (Part R)) (l : List ℕ) (k : Bool) (s : Doorway R) (w : Flows F d s (body y q)) (parts : List (Part R))
      → GoesOn F (Streams d f y q l k s w) (Take_ca parts)
  deletes y [] l k s w parts = (Streams d f y [] l k s w, first_of (simp shapes, cc), first_of (simp paths, cc), still At_a d)
  deletes y (h ∷ q) l k s w parts =
      let gone = pick_deleted (front s ++ named y) h (q ++ parts_in y) (after F d) (refit (source (front s) y h q) w.fits) in (
        Streams d f (y ++ Deleted_of h ∷ []) q l k s (reflow (body_deleted y q h) w),
        rw gone (simp mixed),
        simp mixed,
        still At_a d,
      )

  pub stores : (y : List (SourceItem R)) (q : List (Part R)) (l : List ℕ) (k : Bool) (s : Doorway R) (p : ℕ) (w : Flows F d s (body (Event_of p ∷ y) q))
      → GoesOn F (Streams d f (Event_of p ∷ y) q l k s w) Take_ac
  stores y q l k s p w = (Streams d (f ++ p ∷ []) y q l k s w, first_of (simp shapes, cc), first_of (simp paths, cc), still At_a d)

  pub piece_comes : (y : List (SourceItem R)) (q : List (Part R)) (l : List ℕ) (k : Bool) (s : Doorway R) (h : Part R)
      (w : Flows F d s (body (Piece_of h ∷ y) q))
      → GoesOn F (Streams d f (Piece_of h ∷ y) q l k s w) Take_ac
  piece_comes y q l k s h w =
      let is = last_is (front s ++ (named y ++ q)) h (parts_in y) (after F d) (refit (came (front s) y h q) w.fits) in
      (Streams d f y (q ++ h ∷ []) l k s (reflow (body_piece y q h) w), rw is (simp mixed), first_of (simp paths, cc), still At_a d)

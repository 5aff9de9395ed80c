-- All steps while a move streams (`streams`): what the door lets on, what is put and answered, and what goes back after a refusal.
-- Each leads to a stage, in order.
use Rattle.proof_machines.proofs.unit.Words.{◌≡◌, ℕ, Bool, true, false, Option, Some, None, List, [], ◌∷◌, ◌++◌, refl, sym, ap, ◌∙◌, append_assoc, append-nil}
use Rattle.proof_machines.proofs.unit.Words.{◌&&◌, Answer, At_a, Ran, Steps, after, joined, Part, pick, or_own, is_nil, MachineStep, Arrive, Take_sa, Take_ac}
use Rattle.proof_machines.proofs.unit.Words.{Take_bc, Take_ca, Take_cb, SourceItem, Event_of, Piece_of, Deleted_of, events, parts_in, named, shown-events}
use Rattle.proof_machines.proofs.unit.Words.{nil_is, ArePiecesOf, refit, pick_all, pick-append, pick_one, others, last_is, none_behind, nil_left, nil_right}
use Rattle.proof_machines.proofs.unit.Words.{Streams, All_put, Hold_goes, Laying, Restore_goes, Doorway, Is_shut, Is_asked, Is_agreed, Is_denied, Is_wide}
use Rattle.proof_machines.proofs.unit.Words.{Is_refused, Flows, body, GoesOn, shapes, paths, still}
use Rattle.std.proofs.lemmas.Bool.{and_parts, false_from_ne_true}
use Rattle.proof_machines.proofs.unit.Flow.{arrives, drops_on, deletes, stores, piece_comes}
use Rattle.proof_machines.proofs.Tests.{either_way}

shifted : {X : Type 0} (x : List X) (h : X) (b : List X) → x ++ h ∷ b ≡ (x ++ h ∷ []) ++ b
shifted x h b = simp append_assoc

not_empty : {X : Type 0} (x : List X) (h : X) (b : List X) → is_nil ((x ++ h ∷ []) ++ b) ≡ false
not_empty [] h b = refl
not_empty (g ∷ x) h b = refl

-- a record that is put where there is none
joined_none : {R : Type 0} (F : Steps R) (h : Part R) → joined F h.own None ≡ pick (h ∷ [])
joined_none F h = elim h.own as (λ o. joined F o None ≡ or_own o None) [ None ↦ refl | Some r ↦ refl ]

-- a record that is put joins those that were
joined_pick : {R : Type 0} (F : Steps R) (g : List (Part R)) (h : Part R) (t : List (Part R)) (o : Option R) → ArePiecesOf (g ++ h ∷ t) o
    → joined F h.own (pick g) ≡ pick (g ++ h ∷ [])
joined_pick F g h t o f =
    elim h.own as (λ w. h.own ≡ w → joined F w (pick g) ≡ or_own (pick g) w) [
      | None ↦ λ e. elim (pick g) as (λ p. p ≡ or_own p None) [ None ↦ refl | Some r ↦ refl ]
      | Some r ↦ λ e. let none = (others g h t o r e f).0 in rw none refl
    ] refl ∙ ap (λ p. or_own (pick g) p) (sym (pick_one h)) ∙ sym (pick-append g (h ∷ []))

-- nothing of the body is left
pub record Calm {R : Type 0} (y : List (SourceItem R)) (q : List (Part R)) : Type 0 where
  pub no_named : named y ≡ []
  pub no_delete : q ≡ []
  pub no_piece : parts_in y ≡ []

calm : {R : Type 0} (y : List (SourceItem R)) (q : List (Part R)) → body y q ≡ [] → Calm y q
calm y q e =
    let more = nil_right (named y) (q ++ parts_in y) e in
    record { no_named = nil_left (named y) (q ++ parts_in y) e; no_delete = nil_left q (parts_in y) more; no_piece = nil_right q (parts_in y) more }

calm_tests : {R : Type 0} (y : List (SourceItem R)) (q : List (Part R)) → is_nil (parts_in y) && is_nil (named y ++ q) ≡ true → Calm y q
calm_tests y q e =
    let more = nil_is (named y ++ q) (and_parts (is_nil (parts_in y)) (is_nil (named y ++ q)) e).1 in
    record {
      no_named = nil_left (named y) q more;
      no_delete = nil_right (named y) q more;
      no_piece = nil_is (parts_in y) (and_parts (is_nil (parts_in y)) (is_nil (named y ++ q)) e).0;
    }

calm_body : {R : Type 0} (y : List (SourceItem R)) (q : List (Part R)) → Calm y q → body y q ≡ []
calm_body y q c = let n = c.no_named in let m = c.no_delete in let p = c.no_piece in rw (n, m, p) refl

going_body : {R : Type 0} (y : List (SourceItem R)) (q : List (Part R)) → is_nil (parts_in y) && is_nil (named y ++ q) ≡ false → is_nil (body y q) ≡ false
going_body y q off =
    false_from_ne_true (is_nil (body y q))
    (λ on. let c = calm y q (nil_is (body y q) on) in
    let n = c.no_named in let m = c.no_delete in let p = c.no_piece in
    let never : true ≡ false = rw (n, m, p) at off in cc)

module _ {R : Type 0} (F : Steps R) (d : List Ran) (f : List ℕ) (y : List (SourceItem R)) (q : List (Part R)) (l : List ℕ) (k : Bool) where
  -- all pieces came back to the source: they are restored
  restores : (v : List (Part R)) (c : Calm y q) → ArePiecesOf (v ++ body y q) (after F d) → pick v ≡ after F d
  restores v c w = let none = calm_body y q c in pick_all v (after F d) (refit (rw none (append-nil v)) w)

  pub refused_deleted : (h : Part R) (v : List (Part R)) (why : Answer) (w : Flows F d (Is_refused v why) (body (Deleted_of h ∷ y) q))
      → GoesOn F (Streams d f (Deleted_of h ∷ y) q l k (Is_refused v why) w) Take_ac
  refused_deleted h v why w =
      let fits = refit (shifted v h (body y q)) w.fits in
      either_way (is_nil (parts_in y) && is_nil (named y ++ q))
      (λ on.
      let c = calm_tests y q on in
      let n = c.no_named in let m = c.no_delete in let p = c.no_piece in
      let all = restores (v ++ h ∷ []) c fits in
      (Restore_goes d f (events y) l k why, rw (on, all, shown-events y n p, m, p) (first_of (simp shapes, cc)), first_of (simp paths, cc), still At_a d))
      (λ off. (
        Streams d f y q l k (Is_refused (v ++ h ∷ []) why) (record { fits = fits; going = going_body y q off }),
        rw off (first_of (simp shapes, cc)),
        first_of (simp paths, cc),
        still At_a d,
      ))

  pub deleted : (h : Part R) (s : Doorway R) (w : Flows F d s (body (Deleted_of h ∷ y) q)) → GoesOn F (Streams d f (Deleted_of h ∷ y) q l k s w) Take_ac
  deleted h Is_shut w =
      (Streams d f y q l k (Is_asked h []) (record { fits = w.fits; going = refl }), first_of (simp shapes, cc), first_of (simp paths, cc), still At_a d)
  deleted h (Is_asked g v) w = (
    Streams d f y q l k (Is_asked g (v ++ h ∷ [])) (record { fits = refit (shifted (g ∷ v) h (body y q)) w.fits; going = refl }),
    first_of (simp shapes, cc),
    first_of (simp paths, cc),
    still At_a d,
  )
  deleted h (Is_agreed g v) w = (
    Streams d f y q l k (Is_agreed g (v ++ h ∷ [])) (record { fits = refit (shifted (g ∷ v) h (body y q)) w.fits; going = refl }),
    first_of (simp shapes, cc),
    first_of (simp paths, cc),
    still At_a d,
  )
  deleted h (Is_denied g v why) w = (
    Streams d f y q l k (Is_denied g (v ++ h ∷ []) why) (record { fits = refit (shifted (g ∷ v) h (body y q)) w.fits; going = refl }),
    first_of (simp shapes, cc),
    first_of (simp paths, cc),
    still At_a d,
  )
  deleted h (Is_wide g v) w = (
    Streams d f y q l k (Is_wide g (v ++ h ∷ [])) (record { fits = refit (simp append_assoc) w.fits; going = not_empty v h (body y q) }),
    first_of (simp shapes, cc),
    first_of (simp paths, cc),
    still At_a d,
  )
  deleted h (Is_refused v why) w = refused_deleted h v why w

  pub denied : (h : Part R) (v : List (Part R)) (why : Answer) (w : Flows F d (Is_denied h v why) (body y q))
      → GoesOn F (Streams d f y q l k (Is_denied h v why) w) Take_bc
  denied h v why w =
      either_way (is_nil (parts_in y) && is_nil (named y ++ q))
      (λ on.
      let c = calm_tests y q on in
      let n = c.no_named in let m = c.no_delete in let p = c.no_piece in
      let all = restores (h ∷ v) c w.fits in
      (Restore_goes d f (events y) l k why, rw (on, all, shown-events y n p, m, p) (first_of (simp shapes, cc)), first_of (simp paths, cc), still At_a d))
      (λ off. (
        Streams d f y q l k (Is_refused (h ∷ v) why) (record { fits = w.fits; going = going_body y q off }),
        rw off (first_of (simp shapes, cc)),
        first_of (simp paths, cc),
        still At_a d,
      ))

  -- the answer to a put: the last one ends the streaming
  pub agreed : (h : Part R) (v : List (Part R)) (w : Flows F d (Is_agreed h v) (body y q)) → GoesOn F (Streams d f y q l k (Is_agreed h v) w) Take_bc
  agreed h v w =
      let is = last_is [] h (v ++ body y q) (after F d) w.fits in
      either_way h.last
      (λ on.
      let none = none_behind [] h (v ++ body y q) (after F d) on w.fits in
      let c = calm y q (nil_right v (body y q) none) in
      let n = c.no_named in let m = c.no_delete in let p = c.no_piece in
      let all : pick (h ∷ []) ≡ after F d = pick_all (h ∷ []) (after F d) (refit (ap (λ z. h ∷ z) none) w.fits) in
      either_way k
      (λ keeps. (
        Hold_goes d f (events y) l,
        rw (on, keeps, all, shown-events y n p, m, p) (first_of (simp shapes, cc)),
        first_of (simp paths, cc),
        still At_a d,
      ))
      (λ keeps. (
        Laying d [] f [] (events y) l false,
        rw (on, keeps, all, shown-events y n p, m, p) (first_of (simp shapes, cc)),
        first_of (simp paths, cc),
        still At_a d,
      )))
      (λ off. (
        Streams d f y q l k (Is_wide (h ∷ []) v) (record { fits = w.fits; going = sym is ∙ off }),
        rw off (first_of (simp shapes, cc)),
        first_of (simp paths, cc),
        still At_a d,
      ))

  pub put_next : (g : List (Part R)) (h : Part R) (v : List (Part R)) (refuse : Option Answer) (w : Flows F d (Is_wide g (h ∷ v)) (body y q))
      → GoesOn F (Streams d f y q l k (Is_wide g (h ∷ v)) w) (Take_cb refuse)
  put_next g h v refuse w =
      let fits : ArePiecesOf (g ++ h ∷ (v ++ body y q)) (after F d) = refit (append_assoc g (h ∷ v) (body y q)) w.fits in
      let is = last_is g h (v ++ body y q) (after F d) fits in
      let joins = joined_pick F g h (v ++ body y q) (after F d) fits in
      either_way h.last
      (λ on.
      let none = none_behind g h (v ++ body y q) (after F d) on fits in
      let c = calm y q (nil_right v (body y q) none) in
      let n = c.no_named in let m = c.no_delete in let p = c.no_piece in let v_none = nil_left v (body y q) none in
      let all : pick (g ++ h ∷ []) ≡ after F d = pick_all (g ++ h ∷ []) (after F d) (refit (ap (λ z. g ++ h ∷ z) none) fits) in (
        All_put d f (events y) l k,
        rw (on, joins, all, v_none, shown-events y n p, m, p) (rw n (first_of (simp shapes, cc))),
        first_of (simp paths, cc),
        still At_a d,
      ))
      (λ off. (
        Streams d f y q l k (Is_wide (g ++ h ∷ []) v) (record { fits = refit (simp append_assoc) w.fits; going = sym is ∙ off }),
        rw (joins, off) (first_of (simp shapes, cc)),
        first_of (simp paths, cc),
        still At_a d,
      ))

  pub put_taken : (s : Doorway R) (w : Flows F d s (body y q)) (refuse : Option Answer) → GoesOn F (Streams d f y q l k s w) (Take_cb refuse)
  put_taken (Is_asked h v) w None = (
    Streams d f y q l k (Is_agreed h v) (record { fits = w.fits; going = refl }),
    rw (joined_none F h) (first_of (simp shapes, cc)),
    first_of (simp paths, cc),
    still At_a d,
  )
  put_taken (Is_asked h v) w (Some why) = (
    Streams d f y q l k (Is_denied h v why) (record { fits = w.fits; going = refl }),
    first_of (simp shapes, cc),
    first_of (simp paths, cc),
    still At_a d,
  )
  put_taken (Is_wide g (h ∷ v)) w refuse = put_next g h v refuse w
  put_taken (Is_wide g []) w refuse = (Streams d f y q l k (Is_wide g []) w, first_of (simp shapes, cc), first_of (simp paths, cc), still At_a d)
  put_taken s w refuse = (Streams d f y q l k s w, first_of (simp shapes, cc), first_of (simp paths, cc), still At_a d)

  pub answered : (s : Doorway R) (w : Flows F d s (body y q)) → GoesOn F (Streams d f y q l k s w) Take_bc
  answered (Is_agreed h v) w = agreed h v w
  answered (Is_denied h v why) w = denied h v why w
  answered s w = (Streams d f y q l k s w, first_of (simp shapes, cc), first_of (simp paths, cc), still At_a d)

pub streams : {R : Type 0} (F : Steps R) (d : List Ran) (f : List ℕ) (y : List (SourceItem R)) (q : List (Part R)) (l : List ℕ) (k : Bool) (s : Doorway R)
    (w : Flows F d s (body y q)) (m : MachineStep R)
    → GoesOn F (Streams d f y q l k s w) m
streams F d f y q l k s w (Arrive p) = arrives F d f y q l k s w p
streams F d f y q l k s w Take_sa = drops_on F d f y q l k s w
streams F d f y q l k s w (Take_ca parts) = deletes F d f y q l k s w parts
streams F d f [] q l k s w Take_ac = (Streams d f [] q l k s w, first_of (simp shapes, cc), first_of (simp paths, cc), still At_a d)
streams F d f (Event_of p ∷ y) q l k s w Take_ac = stores F d f y q l k s p w
streams F d f (Piece_of h ∷ y) q l k s w Take_ac = piece_comes F d f y q l k s h w
streams F d f (Deleted_of h ∷ y) q l k s w Take_ac = deleted F d f y q l k h s w
streams F d f y q l k s w (Take_cb refuse) = put_taken F d f y q l k s w refuse
streams F d f y q l k s w Take_bc = answered F d f y q l k s w
streams F d f y q l k s w m = (Streams d f y q l k s w, first_of (simp shapes, cc), first_of (simp paths, cc), still At_a d)

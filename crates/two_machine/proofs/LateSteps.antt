-- Each step from a stage from the low rule on leads to a stage, in order.
use Rattle.two_machine.proofs.Words.{◌≡◌, ℕ, Bool, true, false, Option, Some, None, List, [], ◌∷◌, ◌++◌, refl, sym, ap, subst, ◌∙◌, append_assoc, append-nil}
use Rattle.two_machine.proofs.Words.{fold-append, map-append, read, flat_map-append, copies, copied}
use Rattle.two_machine.proofs.Words.{is_some, false≢true, Frame, Move, End_comes, Arrive, Take_sa, Take_pass, Take_plain, Take_sc, Take_forward, Take_cs}
use Rattle.two_machine.proofs.Words.{Take_cb, Take_event, Take_seen, Take_bc, Idles, same, Low_goes, Low_comes, Waits, No_packet_came, High_comes, Settles}
use Rattle.two_machine.proofs.Words.{Fence_goes, Is_over, Stage, Before, Storing, Passing, Turned, Ends, to_list, done, path, last_or, Rises, fit, Fits, shape}
use Rattle.two_machine.proofs.Words.{Allowed, Leads, to, GoesOn}
use Rattle.two_machine.proofs.Machine.{Laid, soon}
use Rattle.two_machine.proofs.Stages.{Turn, High_goes, Late, Last, Fenced_comes, Old, old, Copies, waits, since_seen, old_path, Follows, LastFits, copying}
use Rattle.two_machine.proofs.Stages.{PathFits}
use Rattle.two_machine.proofs.Laws.{copied_all, last_put, append_nil_left, append_nil_right, rises_after, rises_front, only_one, both}
use Rattle.two_machine.proofs.EarlySteps.{stays, paths, before, storing}

ruleset shapes = (append_assoc, append-nil, fold-append, map-append)

-- the old path with its packets at other places
pub refollow : {d : List ℕ} {o : Old} {c : Copies} → (w : Old) → Follows d o c → since_seen w ≡ since_seen o → old_path w ≡ old_path o → Follows d w c
refollow {d} {o} {c} w h one two =
    record { front = h.front; joined = ap (λ xs. h.front ++ xs) one ∙ h.joined; last = λ x e. ap (last_or None) two ∙ h.last x e }

-- what fits, with another path
refit : {d e : List ℕ} {o w : Old} {c : Copies} {b : Bool} {Own : Type 0} → Follows e w c → PathFits d o c b Own → PathFits e w c b Own
refit follows h = fit follows h.none_after h.own

walks : {d : List ℕ} {o : Old} {c : Copies} {b : Bool} {Own : Type 0} (w : Old) → PathFits d o c b Own → since_seen w ≡ since_seen o
    → old_path w ≡ old_path o → PathFits d w c b Own
walks w h one two = refit (refollow w h.follows one two) h

-- a packet is processed
pub follow_pass : (d : List ℕ) (s : Option ℕ) (z x g e l : List ℕ) (c : Copies) (p : ℕ) → Follows d (old s z (p ∷ x) g e l) c
    → Follows (d ++ p ∷ []) (old s (z ++ p ∷ []) x g e l) c
follow_pass d s z x g e l c p h = record {
  front = h.front;
  joined = let is = h.joined in rw (← is) (simp paths);
  last = λ v is. let same : old_path (old s (z ++ p ∷ []) x g e l) ≡ old_path (old s z (p ∷ x) g e l) = simp paths in ap (last_or None) same ∙ h.last v is;
}

-- it is told that one was seen
pub follow_seen : (d : List ℕ) (s : Option ℕ) (z x g e l : List ℕ) (c : Copies) (p : ℕ) → Follows d (old s (p ∷ z) x g e l) c
    → Follows d (old (Some p) z x g e l) c
follow_seen d None z x g e l c p h = record { front = h.front; joined = h.joined; last = h.last }
follow_seen d (Some v) z x g e l c p h = record {
  front = h.front ++ v ∷ [];
  joined = append_assoc h.front (v ∷ []) (p ∷ z) ∙ h.joined;
  last = h.last;
}

-- a packet arrives, with a copy
pub follow_both : (d : List ℕ) (s : Option ℕ) (z x g e l : List ℕ) (t : Option ℕ) (c : List ℕ) (p : ℕ) → Follows d (old s z x g e l) (copying t c)
    → Follows d (old s z x g e (l ++ p ∷ [])) (copying t (c ++ p ∷ []))
follow_both d s z x g e l t c p h = record {
  front = h.front;
  joined = h.joined;
  last = λ v is.
      let whole : old_path (old s z x g e (l ++ p ∷ [])) ≡ old_path (old s z x g e l) ++ p ∷ [] = simp paths in
      let mine : to_list t ++ (c ++ p ∷ []) ≡ (to_list t ++ c) ++ p ∷ [] = sym (append_assoc (to_list t) c (p ∷ [])) in
      ap (last_or None) whole ∙ last_put None (old_path (old s z x g e l)) p ∙ sym (ap (last_or None) mine ∙ last_put None (to_list t ++ c) p) ∙ is;
}

-- without a copy, before any
pub follow_first : (d : List ℕ) (s : Option ℕ) (z x g e l : List ℕ) (t : Option ℕ) (c : List ℕ) (p : ℕ) → t ≡ None → c ≡ []
    → Follows d (old s z x g e l) (copying t c) → Follows d (old s z x g e (l ++ p ∷ [])) (copying t c)
follow_first d s z x g e l t c p no_last none h = record {
  front = h.front;
  joined = h.joined;
  last = λ v is. let never : ◌≡◌ {A = Option ℕ} None (Some v) = rw (no_last, none) at is in cc;
}

-- a copy is taken
pub follow_copy : (d : List ℕ) (o : Old) (t : Option ℕ) (c : List ℕ) (p : ℕ) → Follows d o (copying t (p ∷ c)) → Follows d o (copying (Some p) c)
follow_copy d o None c p h = record { front = h.front; joined = h.joined; last = h.last }
follow_copy d o (Some v) c p h = record { front = h.front; joined = h.joined; last = h.last }

module _ {R : Type 0} (f : Frame R) where
  pub passing : (n : Turn) (d : List ℕ) (s : Option ℕ) (z x g e l : List ℕ) (t : Option ℕ) (c : List ℕ) (b : Bool)
      → Fits (Passing n d s z x g e l t c b) → (m : Move) → Allowed (shape f (Passing n d s z x g e l t c b)) m
      → GoesOn f (Passing n d s z x g e l t c b) m
  passing Waits d s z x g e l t c true h m a = absurd (false≢true (sym h.own))
  passing Low_goes d s z x g e l t c b h (Arrive p) a =
      to (Passing Low_goes d s z x g e (l ++ p ∷ []) t c b) (refit (follow_first d s z x g e l t c p h.own.1 h.own.0 h.follows) h) refl (simp paths)
  passing Low_comes d s z x g e l t [] b h (Arrive p) a =
      to (Passing Low_comes d s z x g e (l ++ p ∷ []) t (p ∷ []) b)
      (fit (follow_both d s z x g e l t [] p h.follows) (λ is. absurd (false≢true (sym a ∙ is))) tt) refl (simp paths)
  passing Low_comes d s z x g e l t (q ∷ c) b h (Arrive p) a =
      to (Passing Low_comes d s z x g e (l ++ p ∷ []) t (q ∷ (c ++ p ∷ [])) b)
      (fit (follow_both d s z x g e l t (q ∷ c) p h.follows) (λ is. absurd (false≢true (sym a ∙ is))) tt) (simp shapes) (simp paths)
  passing Waits d s z x g e l t [] false h (Arrive p) a =
      to (Passing Waits d s z x g e (l ++ p ∷ []) t (p ∷ []) false)
      (fit (follow_both d s z x g e l t [] p h.follows) (λ is. absurd (false≢true is)) refl) refl (simp paths)
  passing Waits d s z x g e l t (q ∷ c) false h (Arrive p) a =
      to (Passing Waits d s z x g e (l ++ p ∷ []) t (q ∷ (c ++ p ∷ [])) false)
      (fit (follow_both d s z x g e l t (q ∷ c) p h.follows) (λ is. absurd (false≢true is)) refl) (simp shapes) (simp paths)
  passing High_goes d s z x g e l t c b h (Arrive p) a =
      to (Passing High_goes d s z x g e (l ++ p ∷ []) t (c ++ p ∷ []) b)
      (fit (follow_both d s z x g e l t c p h.follows) (λ is. absurd (false≢true (sym a ∙ is))) h.own) (simp shapes) (simp paths)
  passing No_packet_came d s z x g e l t c b h (Arrive p) a = absurd (false≢true (sym a ∙ h.own.1))
  passing n d s z x g e (p ∷ l) t c b h Take_sa a =
      to (Passing n d s z x g (e ++ p ∷ []) l t c b) (walks (old s z x g (e ++ p ∷ []) l) h refl (simp paths)) refl (simp paths)
  passing n d s z (p ∷ x) g e l t c b h Take_pass a =
      to (Passing n (d ++ p ∷ []) s (z ++ p ∷ []) x g e l t c b) (refit (follow_pass d s z x g e l (copying t c) p h.follows) h) (simp shapes) (simp paths)
  passing n d s z x (p ∷ g) e l t c b h Take_forward a =
      to (Passing n d s z (x ++ p ∷ []) g e l t c b) (walks (old s z (x ++ p ∷ []) g e l) h refl (simp paths)) refl (simp paths)
  passing n d s z x g (p ∷ e) l t c b h Take_event a =
      to (Passing n d s z x (g ++ p ∷ []) e l t c b) (walks (old s z x (g ++ p ∷ []) e l) h refl (simp paths)) refl (simp paths)
  passing n d s (p ∷ z) x g e l t c b h Take_seen a =
      to (Passing n d (Some p) z x g e l t c b) (refit (follow_seen d s z x g e l (copying t c) p h.follows) h) refl (simp paths)
  passing Low_comes d s z x g e l t [] true h Take_sc a =
      to (Passing No_packet_came d s z x g e l t [] true) (fit h.follows h.none_after (refl, refl)) refl (simp paths)
  passing Low_comes d s z x g e l t (q ∷ c) true h Take_sc a = let none = h.none_after refl in cc
  passing Low_comes d s z x g e l t c false h Take_sc a = to (Passing Waits d s z x g e l t c false) (fit h.follows h.none_after refl) refl (simp paths)
  passing Waits d s z x g e l t (p ∷ c) false h Take_sc a =
      to (Passing High_goes d s z x g e l (Some p) c false)
      (fit (follow_copy d (old s z x g e l) t c p h.follows) (λ is. absurd (false≢true is)) refl) refl (simp paths)
  passing High_goes d s z x g e l t (p ∷ c) b h Take_sc a =
      to (Passing High_goes d s z x g e l (Some p) c b)
      (fit (follow_copy d (old s z x g e l) t c p h.follows) (λ is. let none = h.none_after is in cc) refl) refl (simp paths)
  passing Low_goes d s z x g e l t [] b h Take_cs a = to (Passing Low_comes d s z x g e l t [] b) (fit h.follows h.none_after tt) refl (simp paths)
  passing Low_goes d s z x g e l t (q ∷ c) b h Take_cs a = let none = h.own.0 in cc
  passing High_goes d s z x g e l t c b h Take_cs a = to (Turned High_comes d s z x g e l t c [] [] b) (refit h.follows h) refl (simp paths)
  passing Low_goes d s z x g e l t c b h End_comes a = to (Passing Low_goes d s z x g e l t c true) (fit h.follows (λ _. h.own.0) h.own) refl (simp paths)
  passing Low_comes d s z x g e l t c b h End_comes a =
      to (Passing Low_comes d s z x g e l t c true) (fit h.follows (λ _. sym (copied_all R c) ∙ a.1) tt) refl (simp paths)
  passing Waits d s z x g e l t [] false h End_comes a =
      to (Passing No_packet_came d s z x g e l t [] true) (fit h.follows (λ _. refl) (refl, refl)) refl (simp paths)
  passing Waits d s z x g e l t (q ∷ c) false h End_comes a = let none = a.1 in cc
  passing High_goes d s z x g e l t c b h End_comes a =
      to (Passing High_goes d s z x g e l t c true) (fit h.follows (λ _. sym (copied_all R c) ∙ a.1) h.own) refl (simp paths)
  passing No_packet_came d s z x g e l t c b h End_comes a = absurd (false≢true (sym a.0 ∙ h.own.1))
  passing n d s z x g e l t c b h m a = stays f (Passing n d s z x g e l t c b) h

  -- all that was on the old path was seen
  is_empty : (d : List ℕ) (v : ℕ) (z x g e l : List ℕ) (c : Copies) (h y : List ℕ) (k : ℕ) → Follows d (old (Some v) z x g e l) c → c.last ≡ Some v
      → c.coming ≡ [] → Rises k (d ++ (waits (old (Some v) z x g e l) ++ (h ++ y))) → z ++ (x ++ (g ++ (e ++ l))) ≡ []
  is_empty d v z x g e l c h y k w last none rises =
      let ends : last_or None (to_list c.last ++ c.coming) ≡ Some v = rw (last, none) refl in
      let is_last = w.last v ends in
      let whole : d ++ ((x ++ (g ++ (e ++ l))) ++ (h ++ y)) ≡ w.front ++ ((v ∷ (z ++ (x ++ (g ++ (e ++ l))))) ++ (h ++ y)) = rw (← w.joined) (simp paths) in
      let later = rises_after k w.front ((v ∷ (z ++ (x ++ (g ++ (e ++ l))))) ++ (h ++ y)) (rw whole at rises) in
      only_one later.0 v (z ++ (x ++ (g ++ (e ++ l)))) (rises_front later.0 (v ∷ (z ++ (x ++ (g ++ (e ++ l))))) (h ++ y) later.1) is_last

  -- the last packet of the old path may have been seen
  settles : (n : Late) (r : Option ℕ) (q : List ℕ) (d : List ℕ) (s : Option ℕ) (z x g e l : List ℕ) (t : Option ℕ) (h y : List ℕ) (b : Bool) (k : ℕ)
      → Follows d (old s z x g e l) (copying t []) → is_some t ≡ true → Rises k (d ++ (waits (old s z x g e l) ++ (h ++ y))) → (now : Bool) → same s t ≡ now
      → Leads f (Turned n d r q x g e l t [] h y b) (soon f (shape f (Turned Settles d s z x g e l t [] h y b))) []
  settles n r q d s z x g e l t h y b k w some rises false is =
      to (Turned Settles d s z x g e l t [] h y b) (fit w (λ _. refl) (refl, is, some)) (rw is refl) (simp paths)
  settles n r q d s z x g e l t h y b k w some rises true is =
      let two = both s t is in
      let seen = two.one in
      let none = is_empty d two.number z x g e l (copying t []) h y k (subst (λ o. Follows d (old o z x g e l) (copying t [])) seen w) two.two refl rises in
      let xs = append_nil_right z (x ++ (g ++ (e ++ l))) none in
      let gs = append_nil_right x (g ++ (e ++ l)) xs in
      let es = append_nil_right g (e ++ l) gs in
      let e_is = append_nil_left e l es in
      let l_is = append_nil_right e l es in
      rw (append_nil_left z (x ++ (g ++ (e ++ l))) none, append_nil_left x (g ++ (e ++ l)) xs, append_nil_left g (e ++ l) gs, e_is, l_is) (record {
        next = Ends Fence_goes d t s h y b;
        fits = tt;
        alike = rw is refl;
        order = simp paths;
      })

  pub turned : (n : Late) (d : List ℕ) (s : Option ℕ) (z x g e l : List ℕ) (t : Option ℕ) (c h y : List ℕ) (b : Bool)
      → Fits (Turned n d s z x g e l t c h y b) → (k : ℕ) → Rises k (d ++ (waits (old s z x g e l) ++ (h ++ y))) → (m : Move)
      → Allowed (shape f (Turned n d s z x g e l t c h y b)) m → GoesOn f (Turned n d s z x g e l t c h y b) m
  turned n d s z x g e l t c h y b w k rises (Arrive p) a = to (Turned n d s z x g e l t c h (y ++ p ∷ []) b) w refl (simp paths)
  turned n d s z x g e (p ∷ l) t c h y b w k rises Take_sa a =
      to (Turned n d s z x g (e ++ p ∷ []) l t c h y b) (walks (old s z x g (e ++ p ∷ []) l) w refl (simp paths)) refl (simp paths)
  turned n d s z (p ∷ x) g e l t c h y b w k rises Take_pass a =
      to (Turned n (d ++ p ∷ []) s (z ++ p ∷ []) x g e l t c h y b) (refit (follow_pass d s z x g e l (copying t c) p w.follows) w) (simp shapes) (simp paths)
  turned n d s z x (p ∷ g) e l t c h y b w k rises Take_forward a =
      to (Turned n d s z (x ++ p ∷ []) g e l t c h y b) (walks (old s z (x ++ p ∷ []) g e l) w refl (simp paths)) refl (simp paths)
  turned n d s z x g e l t c h (p ∷ y) b w k rises Take_plain a = to (Turned n d s z x g e l t c (h ++ p ∷ []) y b) w refl (simp paths)
  turned High_comes d s z x g (p ∷ e) l t c h y b w k rises Take_event a =
      to (Turned High_comes d s z x (g ++ p ∷ []) e l t c h y b) (walks (old s z x (g ++ p ∷ []) e l) w refl (simp paths)) refl (simp paths)
  turned Settles d s z x g (p ∷ e) l t c h y b w k rises Take_event a =
      to (Turned Settles d s z x (g ++ p ∷ []) e l t c h y b)
      (walks (old s z x (g ++ p ∷ []) e l) w refl (simp paths)) (let not_yet = w.own.1 in rw not_yet refl) (simp paths)
  turned High_comes d s (p ∷ z) x g e l t c h y b w k rises Take_seen a =
      to (Turned High_comes d (Some p) z x g e l t c h y b) (refit (follow_seen d s z x g e l (copying t c) p w.follows) w) refl (simp paths)
  turned Settles d s (p ∷ z) x g e l t [] h y b w k rises Take_seen a =
      settles Settles s (p ∷ z) d (Some p) z x g e l t h y b k (follow_seen d s z x g e l (copying t []) p w.follows) w.own.2 rises (same (Some p) t) refl
  turned Settles d s (p ∷ z) x g e l t (q ∷ c) h y b w k rises Take_seen a = let none = w.own.0 in cc
  turned High_comes d s z x g e l t [] h y b w k rises Take_sc a = settles High_comes s z d s z x g e l t h y b k w.follows w.own rises (same s t) refl
  turned High_comes d s z x g e l t (p ∷ c) h y b w k rises Take_sc a =
      to (Turned High_comes d s z x g e l (Some p) c h y b)
      (fit (follow_copy d (old s z x g e l) t c p w.follows) (λ is. let none = w.none_after is in cc) refl) refl (simp paths)
  turned High_comes d s z x g e l t c h y b w k rises End_comes a =
      to (Turned High_comes d s z x g e l t c h y true)
      (fit w.follows (λ _. sym (flat_map-append copied (copies c) (Laid true ∷ []) ∙ append-nil (read copied (copies c)) ∙ copied_all R c) ∙ a.1) w.own)
      refl (simp paths)
  turned Settles d s z x g e l t c h y b w k rises End_comes a =
      to (Turned Settles d s z x g e l t c h y true) (fit w.follows (λ _. w.own.0) w.own) (let not_yet = w.own.1 in rw not_yet refl) (simp paths)
  turned Settles d s z x g e l t c h y b w k rises Idles a =
      to (Turned Settles d s z x g e l t c h y b) w (let not_yet = w.own.1 in rw not_yet refl) (simp paths)
  turned n d s z x g e l t c h y b w k rises m a = stays f (Turned n d s z x g e l t c h y b) w

  pub ends : (n : Last) (d : List ℕ) (s t : Option ℕ) (h y : List ℕ) (b : Bool) → LastFits n h → (m : Move) → GoesOn f (Ends n d s t h y b) m
  ends Fence_goes d s t h (p ∷ y) b w Take_plain = to (Ends Fence_goes d s t (h ++ p ∷ []) y b) tt refl (simp paths)
  ends n d s t h y b w (Arrive p) = to (Ends n d s t h (y ++ p ∷ []) b) w refl (simp paths)
  ends n d s t [] (p ∷ y) b w Take_plain = to (Ends n (d ++ p ∷ []) s t [] y b) w (simp shapes) (simp paths)
  ends Fenced_comes d s t (q ∷ h) (p ∷ y) b w Take_plain = cc
  ends Is_over d s t (q ∷ h) (p ∷ y) b w Take_plain = cc
  ends Fence_goes d s t h y b w Take_cb = to (Ends Fenced_comes (d ++ h) s t [] y b) refl (simp shapes) (simp paths)
  ends Fenced_comes d s t h y b w Take_bc = to (Ends Is_over d s t h y b) w refl (simp paths)
  ends n d s t h y b w End_comes = to (Ends n d s t h y true) w refl (simp paths)
  ends n d s t h y b w m = stays f (Ends n d s t h y b) w

  -- each step from a stage leads to a stage
  pub goes_on : (s : Stage) → Fits s → (k : ℕ) → Rises k (done s ++ path s) → (m : Move) → Allowed (shape f s) m → GoesOn f s m
  goes_on (Before n d l b) w k rises m a = before f n d l b m
  goes_on (Storing n d g e l b) w k rises m a = storing f n d g e l b m
  goes_on (Passing n d s z x g e l t c b) w k rises m a = passing n d s z x g e l t c b w m a
  goes_on (Turned n d s z x g e l t c h y b) w k rises m a = turned n d s z x g e l t c h y b w k rises m a
  goes_on (Ends n d s t h y b) w k rises m a = ends n d s t h y b w m

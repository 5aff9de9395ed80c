-- Each step from a stage before the low rule is asked for leads to a stage, in order.
use Rattle.std.proofs.Common.{◌≡◌, ℕ, Bool, true, Option, Some, None, List, [], ◌∷◌, ◌++◌, refl, sym, append_assoc, append-nil}
use Rattle.two_machine.proofs.Machine.{Frame, after, Move, Begin, End_comes, Arrive, Take_sa, Take_ca, Take_cb, Take_event, Take_ac, Take_bc}
use Rattle.two_machine.proofs.Stages.{Early, Not_begun, Enable_goes, Part, Enabled_comes, Get_goes, Chunks_come, Delete_goes, Deleted_comes, Restore_goes}
use Rattle.two_machine.proofs.Stages.{Restored_comes, Hold_goes, Held_comes, Low_goes, Stage, Before, Storing, Passing, done, path, fit, Fits}
use Rattle.two_machine.proofs.Shapes.{shape, Leads, to, GoesOn}
use Rattle.std.proofs.lemmas.List.Sums.{fold-append}

pub ruleset shapes = (append_assoc, append-nil, fold-append)

pub ruleset paths = (append_assoc, append-nil)

-- the same stage
pub stays : {R : Type 0} (f : Frame R) (s : Stage) → Fits s → Leads f s (shape f s) []
stays f s fits = to s fits refl (sym (append-nil (done s ++ path s)))

module _ {R : Type 0} (f : Frame R) where
  pub before : (n : Early) (d l : List ℕ) (b : Bool) (m : Move) → GoesOn f (Before n d l b) m
  before Not_begun d l b Begin = to (Before Enable_goes d l b) tt refl (simp paths)
  before n d l b End_comes = to (Before n d l true) tt refl (simp paths)
  before n d l b (Arrive p) = to (Before n d (l ++ p ∷ []) b) tt refl (simp paths)
  before n d (p ∷ l) b Take_sa = to (Before n (d ++ p ∷ []) l b) tt (simp shapes) (simp paths)
  before Enable_goes d l b Take_ca = to (Storing Enabled_comes d [] [] l b) tt refl (simp paths)
  before n d l b m = stays f (Before n d l b) tt

  deletes : (o : Option R) (d g e l : List ℕ) (b : Bool) → after f d ≡ o → GoesOn f (Storing Delete_goes d g e l b) Take_ca
  deletes None d g e l b is = to (Storing Deleted_comes d g e l b) tt (rw is refl) (simp paths)
  deletes (Some r) d g e l b is = to (Storing Deleted_comes d g e l b) tt (rw is refl) (simp paths)

  restores : (o : Option R) (d g e l : List ℕ) (b : Bool) → after f d ≡ o → GoesOn f (Storing Restore_goes d g e l b) Take_cb
  restores None d g e l b is = to (Storing Restored_comes d g e l b) tt (rw is refl) (simp paths)
  restores (Some r) d g e l b is = to (Storing Restored_comes d g e l b) tt (rw is refl) (simp paths)

  pub storing : (n : Part) (d g e l : List ℕ) (b : Bool) (m : Move) → GoesOn f (Storing n d g e l b) m
  storing Get_goes d g e l b Take_ca = to (Storing Chunks_come d g e l b) tt refl (simp paths)
  storing n d g e l b End_comes = to (Storing n d g e l true) tt refl (simp paths)
  storing n d g e l b (Arrive p) = to (Storing n d g e (l ++ p ∷ []) b) tt refl (simp paths)
  storing n d g e (p ∷ l) b Take_sa = to (Storing n d g (e ++ p ∷ []) l b) tt refl (simp paths)
  storing n d g (p ∷ e) l b Take_event = to (Storing n d (g ++ p ∷ []) e l b) tt refl (simp paths)
  storing Delete_goes d g e l b Take_ca = deletes (after f d) d g e l b refl
  storing Enabled_comes d g e l b Take_ac = to (Storing Get_goes d g e l b) tt refl (simp paths)
  storing Chunks_come d g e l b Take_ac = to (Storing Delete_goes d g e l b) tt refl (simp paths)
  storing Deleted_comes d g e l b Take_ac = to (Storing Restore_goes d g e l b) tt refl (simp paths)
  storing Restore_goes d g e l b Take_cb = restores (after f d) d g e l b refl
  storing Hold_goes d g e l b Take_cb = to (Storing Held_comes d g e l b) tt refl (simp paths)
  storing Restored_comes d g e l b Take_bc = to (Storing Hold_goes d g e l b) tt refl (simp paths)
  storing Held_comes d g e l b Take_bc =
      to (Passing Low_goes d None [] [] g e l None [] b)
      (fit (record { front = d; joined = append-nil d; last = λ x never. cc }) (λ _. refl) (refl, refl)) refl (simp paths)
  storing n d g e l b m = stays f (Storing n d g e l b) tt

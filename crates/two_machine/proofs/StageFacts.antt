-- What every stage tells of the machine's state: packets on their way are such as the filter matches, B has no rule that drops, and has no
-- record where one is to be restored.
use Rattle.two_machine.proofs.Words.{◌≡◌, ◌≢◌, ℕ, Bool, true, false, Option, None, List, [], ◌∷◌, ◌++◌, refl, if◌then◌else◌, Drops, Item, Frame, State, Early}
use Rattle.two_machine.proofs.Words.{Not_begun, Restored_comes, Hold_goes, Held_comes, Fence_goes, Stage, Before, Storing, Passing, Turned, Ends, path, those}
use Rattle.two_machine.proofs.Words.{shape, Each}
use Rattle.two_machine.proofs.Machine.{Restore}

pub each_front : {M : Type 0} (P : M → Type 0) (xs ys : List M) → Each P (xs ++ ys) → Each P xs
each_front P [] ys h = tt
each_front P (x ∷ xs) ys h = (h.0, each_front P xs ys h.1)

pub each_after : {M : Type 0} (P : M → Type 0) (xs ys : List M) → Each P (xs ++ ys) → Each P ys
each_after P [] ys h = h
each_after P (x ∷ xs) ys h = each_after P xs ys h.1

-- those that a test finds pass it
pub each_those : (k : ℕ → Bool) (xs : List ℕ) → Each (λ p. k p ≡ true) (those k xs)
each_those k [] = tt
each_those k (x ∷ xs) = by (k x) refl (each_those k xs)
  where
    by : (b : Bool) → k x ≡ b → Each (λ p. k p ≡ true) (those k xs) → Each (λ p. k p ≡ true) (if b then x ∷ those k xs else those k xs)
    by true e more = (e, more)
    by false e more = more

pub record Knows {R : Type 0} (P : ℕ → Type 0) (x : State R) : Type 0 where
  pub no_drop : x.b.rule ≢ Drops
  pub plains : Each P x.plains
  pub passes : Each P x.passes
  pub held : Each P x.b.held
  pub starts : (n : ℕ) (l : List ℕ) → x.starts ≡ n ∷ l → l ≡ []
  pub empty : (r : Option R) (l : List (Item R)) → x.cb ≡ Restore r ∷ l → x.b.live ≡ None

module _ {R : Type 0} (f : Frame R) (P : ℕ → Type 0) where
  before_starts : (n : Early) (d l : List ℕ) (b : Bool) (i : ℕ) (k : List ℕ) → (shape f (Before n d l b)).starts ≡ i ∷ k → k ≡ []
  before_starts Not_begun d l b i k e = cc
  before_starts n d l b i k e = cc

  no_drop_there : (s : Stage) → (shape f s).b.rule ≢ Drops
  no_drop_there (Storing Held_comes d g e l b) is = cc
  no_drop_there (Ends Fence_goes d s t h y b) is = cc
  no_drop_there s is = cc

  empty_there : (s : Stage) (r : Option R) (k : List (Item R)) → (shape f s).cb ≡ Restore r ∷ k → (shape f s).b.live ≡ None
  empty_there (Storing Restored_comes d g e l b) r k is = cc
  empty_there (Storing Hold_goes d g e l b) r k is = cc
  empty_there (Storing Held_comes d g e l b) r k is = cc
  empty_there (Storing n d g e l b) r k is = refl
  empty_there (Ends Fence_goes d s t h y b) r k is = cc
  empty_there s r k is = cc

  -- the packets of a stage on the links and in B's hold
  kept_there : (s : Stage) → Each P (path s) → Each P (shape f s).plains × Each P (shape f s).passes × Each P (shape f s).b.held
  kept_there (Passing n d s z x g e l t c b) h = (tt, each_front P x (g ++ (e ++ l)) h, tt)
  kept_there (Turned n d s z x g e l t c h' y b) h =
      let first = each_front P (x ++ (g ++ (e ++ l))) (h' ++ y) h in
      let second = each_after P (x ++ (g ++ (e ++ l))) (h' ++ y) h in
      (each_after P h' y second, each_front P x (g ++ (e ++ l)) first, each_front P h' y second)
  kept_there (Ends n d s t h' y b) h = (each_after P h' y h, tt, each_front P h' y h)
  kept_there w h = (tt, tt, tt)

  starts_there : (s : Stage) (i : ℕ) (k : List ℕ) → (shape f s).starts ≡ i ∷ k → k ≡ []
  starts_there (Before n d l b) i k e = before_starts n d l b i k e
  starts_there s i k e = cc

  pub knows : (s : Stage) → Each P (path s) → Knows P (shape f s)
  knows s h =
      let kept = kept_there s h in
      record { no_drop = no_drop_there s; plains = kept.0; passes = kept.1; held = kept.2; starts = starts_there s; empty = empty_there s }

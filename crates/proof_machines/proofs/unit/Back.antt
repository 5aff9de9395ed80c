-- Each step of a refused move leads to a stage, in order: the records go back, the source's rule is turned, its own fence ends the
-- move.
use Rattle.proof_machines.proofs.unit.Words.{◌≡◌, ℕ, Bool, true, false, Option, Some, None, List, [], ◌∷◌, ◌++◌, map, refl, Answer, At_a, Ran, on, Steps, after}
use Rattle.proof_machines.proofs.unit.Words.{MachineStep, Arrive, Take_sa, Take_ac, Take_ca, Take_cs, joined, passing, plain, passes-plain, plains-plain}
use Rattle.proof_machines.proofs.unit.Words.{marked-plain, Restore_goes, Restored_comes, Turn_goes, Turned_back, Returned, Fence_a, Fenced_back, Undone, GoesOn}
use Rattle.proof_machines.proofs.unit.Words.{shapes, paths, still, one_more}

pub joined_nothing : {R : Type 0} (F : Steps R) (o : Option R) → joined F o None ≡ o
joined_nothing F None = refl
joined_nothing F (Some r) = refl

pub restore_goes : {R : Type 0} (F : Steps R) (d : List Ran) (f e l : List ℕ) (k : Bool) (why : Answer) (m : MachineStep R)
    → GoesOn F (Restore_goes d f e l k why) m
restore_goes F d f e l k why (Arrive p) = (Restore_goes d f e (l ++ p ∷ []) k why, first_of (simp shapes, cc), first_of (simp paths, cc), still At_a d)
restore_goes F d f e [] k why Take_sa = (Restore_goes d f e [] k why, first_of (simp shapes, cc), first_of (simp paths, cc), still At_a d)
restore_goes F d f e (p ∷ l) k why Take_sa = (Restore_goes d f (e ++ p ∷ []) l k why, first_of (simp shapes, cc), first_of (simp paths, cc), still At_a d)
restore_goes F d f [] l k why Take_ac = (Restore_goes d f [] l k why, first_of (simp shapes, cc), first_of (simp paths, cc), still At_a d)
restore_goes F d f (p ∷ e) l k why Take_ac = (Restore_goes d (f ++ p ∷ []) e l k why, first_of (simp shapes, cc), first_of (simp paths, cc), still At_a d)
restore_goes F d f e l k why (Take_ca parts) =
    (Restored_comes d f e [] l k why, rw (joined_nothing F (after F d)) (first_of (simp shapes, cc)), first_of (simp paths, cc), still At_a d)
restore_goes F d f e l k why m = (Restore_goes d f e l k why, first_of (simp shapes, cc), first_of (simp paths, cc), still At_a d)

pub restored : {R : Type 0} (F : Steps R) (d : List Ran) (f e g l : List ℕ) (k : Bool) (why : Answer) (m : MachineStep R)
    → GoesOn F (Restored_comes d f e g l k why) m
restored F d f e g l k why (Arrive p) = (Restored_comes d f e g (l ++ p ∷ []) k why, first_of (simp shapes, cc), first_of (simp paths, cc), still At_a d)
restored F d f e g [] k why Take_sa = (Restored_comes d f e g [] k why, first_of (simp shapes, cc), first_of (simp paths, cc), still At_a d)
restored F d f e g (p ∷ l) k why Take_sa = (Restored_comes d f e (g ++ p ∷ []) l k why, first_of (simp shapes, cc), first_of (simp paths, cc), still At_a d)
restored F d f [] g l k why Take_ac = (Turn_goes d f g l k why, first_of (simp shapes, cc), first_of (simp paths, cc), still At_a d)
restored F d f (p ∷ e) g l k why Take_ac = (Restored_comes d (f ++ p ∷ []) e g l k why, first_of (simp shapes, cc), first_of (simp paths, cc), still At_a d)
restored F d f e g l k why m = (Restored_comes d f e g l k why, first_of (simp shapes, cc), first_of (simp paths, cc), still At_a d)

pub turn_goes : {R : Type 0} (F : Steps R) (d : List Ran) (f e l : List ℕ) (k : Bool) (why : Answer) (m : MachineStep R) → GoesOn F (Turn_goes d f e l k why) m
turn_goes F d f e l k why (Arrive p) = (Turn_goes d f e (l ++ p ∷ []) k why, first_of (simp shapes, cc), first_of (simp paths, cc), still At_a d)
turn_goes F d f e [] k why Take_sa = (Turn_goes d f e [] k why, first_of (simp shapes, cc), first_of (simp paths, cc), still At_a d)
turn_goes F d f e (p ∷ l) k why Take_sa = (Turn_goes d f (e ++ p ∷ []) l k why, first_of (simp shapes, cc), first_of (simp paths, cc), still At_a d)
turn_goes F d f [] l k why Take_ac = (Turn_goes d f [] l k why, first_of (simp shapes, cc), first_of (simp paths, cc), still At_a d)
turn_goes F d f (p ∷ e) l k why Take_ac = (Turn_goes d (f ++ p ∷ []) e l k why, first_of (simp shapes, cc), first_of (simp paths, cc), still At_a d)
turn_goes F d f e l k why (Take_ca parts) = (Turned_back d f e [] l k why, first_of (simp shapes, cc), first_of (simp paths, cc), still At_a d)
turn_goes F d f e l k why m = (Turn_goes d f e l k why, first_of (simp shapes, cc), first_of (simp paths, cc), still At_a d)

pub turned_back : {R : Type 0} (F : Steps R) (d : List Ran) (f e h l : List ℕ) (k : Bool) (why : Answer) (m : MachineStep R)
    → GoesOn F (Turned_back d f e h l k why) m
turned_back F d f e h l k why (Arrive p) = (Turned_back d f e h (l ++ p ∷ []) k why, first_of (simp shapes, cc), first_of (simp paths, cc), still At_a d)
turned_back F d f e h [] k why Take_sa = (Turned_back d f e h [] k why, first_of (simp shapes, cc), first_of (simp paths, cc), still At_a d)
turned_back F d f e h (p ∷ l) k why Take_sa = (Turned_back d f e (h ++ p ∷ []) l k why, first_of (simp shapes, cc), first_of (simp paths, cc), still At_a d)
turned_back F d f [] h l k why Take_ac = (
  Returned d (map plain l) f h k why,
  rw (marked-plain l) (first_of (simp shapes, cc)),
  rw (passes-plain l, plains-plain l) (first_of (simp paths, cc)),
  still At_a d,
)
turned_back F d f (p ∷ e) h l k why Take_ac = (Turned_back d (f ++ p ∷ []) e h l k why, first_of (simp shapes, cc), first_of (simp paths, cc), still At_a d)
turned_back F d f e h l k why m = (Turned_back d f e h l k why, first_of (simp shapes, cc), first_of (simp paths, cc), still At_a d)

pub returned : {R : Type 0} (F : Steps R) (d : List Ran) (x : List (Bool × ℕ)) (f h : List ℕ) (k : Bool) (why : Answer) (m : MachineStep R)
    → GoesOn F (Returned d x f h k why) m
returned F d x f h k why (Arrive p) = (Returned d (x ++ plain p ∷ []) f h k why, first_of (simp shapes, cc), first_of (simp paths, cc), still At_a d)
returned F d [] f h k why Take_sa = (Returned d [] f h k why, first_of (simp shapes, cc), first_of (simp paths, cc), still At_a d)
returned F d ((true, p) ∷ x) f h k why Take_sa =
    (Returned (d ++ (p, At_a) ∷ []) x f h k why, first_of (simp shapes, cc), first_of (simp paths, cc), one_more At_a d p)
returned F d ((false, p) ∷ x) f h k why Take_sa = (Returned d x f (h ++ p ∷ []) k why, first_of (simp shapes, cc), first_of (simp paths, cc), still At_a d)
returned F d x [] h k why Take_cs = (Fence_a d x [] h k why, first_of (simp shapes, cc), first_of (simp paths, cc), still At_a d)
returned F d x (p ∷ f) h k why Take_cs = (Returned d (x ++ passing p ∷ []) f h k why, first_of (simp shapes, cc), first_of (simp paths, cc), still At_a d)
returned F d x f h k why m = (Returned d x f h k why, first_of (simp shapes, cc), first_of (simp paths, cc), still At_a d)

pub fence_a : {R : Type 0} (F : Steps R) (d : List Ran) (x : List (Bool × ℕ)) (n h : List ℕ) (k : Bool) (why : Answer) (m : MachineStep R)
    → GoesOn F (Fence_a d x n h k why) m
fence_a F d x n h k why (Arrive p) = (Fence_a d x (n ++ p ∷ []) h k why, first_of (simp shapes, cc), first_of (simp paths, cc), still At_a d)
fence_a F d [] n h k why Take_sa = (Fenced_back (d ++ map (on At_a) h) n k why, first_of (simp shapes, cc), first_of (simp paths, cc), (h, refl))
fence_a F d ((true, p) ∷ x) n h k why Take_sa =
    (Fence_a (d ++ (p, At_a) ∷ []) x n h k why, first_of (simp shapes, cc), first_of (simp paths, cc), one_more At_a d p)
fence_a F d ((false, p) ∷ x) n h k why Take_sa = (Fence_a d x n (h ++ p ∷ []) k why, first_of (simp shapes, cc), first_of (simp paths, cc), still At_a d)
fence_a F d x n h k why m = (Fence_a d x n h k why, first_of (simp shapes, cc), first_of (simp paths, cc), still At_a d)

pub fenced_back : {R : Type 0} (F : Steps R) (d : List Ran) (l : List ℕ) (k : Bool) (why : Answer) (m : MachineStep R) → GoesOn F (Fenced_back d l k why) m
fenced_back F d l k why (Arrive p) = (Fenced_back d (l ++ p ∷ []) k why, first_of (simp shapes, cc), first_of (simp paths, cc), still At_a d)
fenced_back F d [] k why Take_sa = (Fenced_back d [] k why, first_of (simp shapes, cc), first_of (simp paths, cc), still At_a d)
fenced_back F d (p ∷ l) k why Take_sa = (Fenced_back (d ++ (p, At_a) ∷ []) l k why, first_of (simp shapes, cc), first_of (simp paths, cc), one_more At_a d p)
fenced_back F d l k why Take_ac = (Undone d l k why, first_of (simp shapes, cc), first_of (simp paths, cc), still At_a d)
fenced_back F d l k why m = (Fenced_back d l k why, first_of (simp shapes, cc), first_of (simp paths, cc), still At_a d)

pub undone : {R : Type 0} (F : Steps R) (d : List Ran) (l : List ℕ) (k : Bool) (why : Answer) (m : MachineStep R) → GoesOn F (Undone d l k why) m
undone F d l k why (Arrive p) = (Undone d (l ++ p ∷ []) k why, first_of (simp shapes, cc), first_of (simp paths, cc), still At_a d)
undone F d [] k why Take_sa = (Undone d [] k why, first_of (simp shapes, cc), first_of (simp paths, cc), still At_a d)
undone F d (p ∷ l) k why Take_sa = (Undone (d ++ (p, At_a) ∷ []) l k why, first_of (simp shapes, cc), first_of (simp paths, cc), one_more At_a d p)
undone F d l k why m = (Undone d l k why, first_of (simp shapes, cc), first_of (simp paths, cc), still At_a d)

-- Each step of a move with a buffer at B, from the last put to the end, leads to a stage, in order.
use Rattle.proof_machines.proofs.unit.Words.{◌≡◌, ℕ, Bool, true, false, List, [], ◌∷◌, ◌++◌, map, refl, ap, At_a, At_b, Ran, on, Steps, MachineStep, Arrive}
use Rattle.proof_machines.proofs.unit.Words.{Take_sa, Take_sb, Take_ac, Take_bc, Take_cb, Take_cs, passing, plain, passes-passing, plains-passing}
use Rattle.proof_machines.proofs.unit.Words.{marked-passing, All_put, Hold_goes, Held, Laying, Turned, Fenced_a, Ending_b, Fence_b, Turned_loose, Fenced_b}
use Rattle.proof_machines.proofs.unit.Words.{Moved, GoesOn, Placed, Same, times, shapes, paths, still, one_more}

-- equal lists have the same packets
pub same_lists : {xs ys : List ℕ} → xs ≡ ys → Same xs ys
same_lists e p = ap (λ zs. times p zs) e

-- the way to all steps that hold back what is on its way at B
pub released : (d : List Ran) (h : List ℕ) → Placed At_b d (d ++ map (on At_b) h)
released d h = (h, refl)

pub all_put : {R : Type 0} (F : Steps R) (d : List Ran) (f e l : List ℕ) (k : Bool) (m : MachineStep R) → GoesOn F (All_put d f e l k) m
all_put F d f e l k (Arrive p) = (All_put d f e (l ++ p ∷ []) k, first_of (simp shapes, cc), first_of (simp paths, cc), still At_a d)
all_put F d f e [] k Take_sa = (All_put d f e [] k, first_of (simp shapes, cc), first_of (simp paths, cc), still At_a d)
all_put F d f e (p ∷ l) k Take_sa = (All_put d f (e ++ p ∷ []) l k, first_of (simp shapes, cc), first_of (simp paths, cc), still At_a d)
all_put F d f [] l k Take_ac = (All_put d f [] l k, first_of (simp shapes, cc), first_of (simp paths, cc), still At_a d)
all_put F d f (p ∷ e) l k Take_ac = (All_put d (f ++ p ∷ []) e l k, first_of (simp shapes, cc), first_of (simp paths, cc), still At_a d)
all_put F d f e l true Take_bc = (Hold_goes d f e l, first_of (simp shapes, cc), first_of (simp paths, cc), still At_a d)
all_put F d f e l false Take_bc = (Laying d [] f [] e l false, first_of (simp shapes, cc), first_of (simp paths, cc), still At_a d)
all_put F d f e l k m = (All_put d f e l k, first_of (simp shapes, cc), first_of (simp paths, cc), still At_a d)

pub hold_goes : {R : Type 0} (F : Steps R) (d : List Ran) (f e l : List ℕ) (m : MachineStep R) → GoesOn F (Hold_goes d f e l) m
hold_goes F d f e l (Arrive p) = (Hold_goes d f e (l ++ p ∷ []), first_of (simp shapes, cc), first_of (simp paths, cc), still At_a d)
hold_goes F d f e [] Take_sa = (Hold_goes d f e [], first_of (simp shapes, cc), first_of (simp paths, cc), still At_a d)
hold_goes F d f e (p ∷ l) Take_sa = (Hold_goes d f (e ++ p ∷ []) l, first_of (simp shapes, cc), first_of (simp paths, cc), still At_a d)
hold_goes F d f [] l Take_ac = (Hold_goes d f [] l, first_of (simp shapes, cc), first_of (simp paths, cc), still At_a d)
hold_goes F d f (p ∷ e) l Take_ac = (Hold_goes d (f ++ p ∷ []) e l, first_of (simp shapes, cc), first_of (simp paths, cc), still At_a d)
hold_goes F d f e l (Take_cb refuse) = (Held d f e l, first_of (simp shapes, cc), first_of (simp paths, cc), still At_a d)
hold_goes F d f e l m = (Hold_goes d f e l, first_of (simp shapes, cc), first_of (simp paths, cc), still At_a d)

pub held_on : {R : Type 0} (F : Steps R) (d : List Ran) (f e l : List ℕ) (m : MachineStep R) → GoesOn F (Held d f e l) m
held_on F d f e l (Arrive p) = (Held d f e (l ++ p ∷ []), first_of (simp shapes, cc), first_of (simp paths, cc), still At_a d)
held_on F d f e [] Take_sa = (Held d f e [], first_of (simp shapes, cc), first_of (simp paths, cc), still At_a d)
held_on F d f e (p ∷ l) Take_sa = (Held d f (e ++ p ∷ []) l, first_of (simp shapes, cc), first_of (simp paths, cc), still At_a d)
held_on F d f [] l Take_ac = (Held d f [] l, first_of (simp shapes, cc), first_of (simp paths, cc), still At_a d)
held_on F d f (p ∷ e) l Take_ac = (Held d (f ++ p ∷ []) e l, first_of (simp shapes, cc), first_of (simp paths, cc), still At_a d)
held_on F d f e l Take_bc = (Laying d [] f [] e l true, first_of (simp shapes, cc), first_of (simp paths, cc), still At_a d)
held_on F d f e l m = (Held d f e l, first_of (simp shapes, cc), first_of (simp paths, cc), still At_a d)

pub laying : {R : Type 0} (F : Steps R) (d : List Ran) (x f g e l : List ℕ) (k : Bool) (m : MachineStep R) → GoesOn F (Laying d x f g e l k) m
laying F d x f g e l k (Arrive p) = (Laying d x f g e (l ++ p ∷ []) k, first_of (simp shapes, cc), first_of (simp paths, cc), still At_b d)
laying F d x f g e [] k Take_sa = (Laying d x f g e [] k, first_of (simp shapes, cc), first_of (simp paths, cc), still At_b d)
laying F d x f g e (p ∷ l) k Take_sa = (Laying d x f g (e ++ p ∷ []) l k, first_of (simp shapes, cc), first_of (simp paths, cc), still At_b d)
laying F d x f g [] l k Take_ac = (Laying d x f g [] l k, first_of (simp shapes, cc), first_of (simp paths, cc), still At_b d)
laying F d x f g (p ∷ e) l k Take_ac = (Laying d x f (g ++ p ∷ []) e l k, first_of (simp shapes, cc), first_of (simp paths, cc), still At_b d)
laying F d [] f g e l k Take_sb = (Laying d [] f g e l k, first_of (simp shapes, cc), first_of (simp paths, cc), still At_b d)
laying F d (p ∷ x) f g e l k Take_sb = (Laying (d ++ (p, At_b) ∷ []) x f g e l k, first_of (simp shapes, cc), first_of (simp paths, cc), one_more At_b d p)
laying F d x (p ∷ f) g e l k Take_cs = (Laying d (x ++ p ∷ []) f g e l k, first_of (simp shapes, cc), first_of (simp paths, cc), still At_b d)
laying F d x [] g e l true Take_cs = (
  Turned d (map passing x) g e l [],
  rw (marked-passing x) (first_of (simp shapes, cc)),
  rw (passes-passing x, plains-passing x) (first_of (simp paths, cc)),
  still At_b d,
)
laying F d x [] g e l false Take_cs = (
  Turned_loose d (map passing x) g e l,
  rw (marked-passing x) (first_of (simp shapes, cc)),
  same_lists (rw (passes-passing x, plains-passing x) (first_of (simp paths, cc))),
  still At_b d,
)
laying F d x f g e l k m = (Laying d x f g e l k, first_of (simp shapes, cc), first_of (simp paths, cc), still At_b d)

pub turned : {R : Type 0} (F : Steps R) (d : List Ran) (x : List (Bool × ℕ)) (f e l h : List ℕ) (m : MachineStep R) → GoesOn F (Turned d x f e l h) m
turned F d x f e l h (Arrive p) = (Turned d (x ++ plain p ∷ []) f e l h, first_of (simp shapes, cc), first_of (simp paths, cc), still At_b d)
turned F d x f e [] h Take_sa = (Fenced_a d x f e h, first_of (simp shapes, cc), first_of (simp paths, cc), still At_b d)
turned F d x f e (p ∷ l) h Take_sa = (Turned d x f (e ++ p ∷ []) l h, first_of (simp shapes, cc), first_of (simp paths, cc), still At_b d)
turned F d x f [] l h Take_ac = (Turned d x f [] l h, first_of (simp shapes, cc), first_of (simp paths, cc), still At_b d)
turned F d x f (p ∷ e) l h Take_ac = (Turned d x (f ++ p ∷ []) e l h, first_of (simp shapes, cc), first_of (simp paths, cc), still At_b d)
turned F d [] f e l h Take_sb = (Turned d [] f e l h, first_of (simp shapes, cc), first_of (simp paths, cc), still At_b d)
turned F d ((true, p) ∷ x) f e l h Take_sb = (Turned (d ++ (p, At_b) ∷ []) x f e l h, first_of (simp shapes, cc), first_of (simp paths, cc), one_more At_b d p)
turned F d ((false, p) ∷ x) f e l h Take_sb = (Turned d x f e l (h ++ p ∷ []), first_of (simp shapes, cc), first_of (simp paths, cc), still At_b d)
turned F d x [] e l h Take_cs = (Turned d x [] e l h, first_of (simp shapes, cc), first_of (simp paths, cc), still At_b d)
turned F d x (p ∷ f) e l h Take_cs = (Turned d (x ++ passing p ∷ []) f e l h, first_of (simp shapes, cc), first_of (simp paths, cc), still At_b d)
turned F d x f e l h m = (Turned d x f e l h, first_of (simp shapes, cc), first_of (simp paths, cc), still At_b d)

pub fenced_a : {R : Type 0} (F : Steps R) (d : List Ran) (x : List (Bool × ℕ)) (f e h : List ℕ) (m : MachineStep R) → GoesOn F (Fenced_a d x f e h) m
fenced_a F d x f e h (Arrive p) = (Fenced_a d (x ++ plain p ∷ []) f e h, first_of (simp shapes, cc), first_of (simp paths, cc), still At_b d)
fenced_a F d x f [] h Take_ac = (Ending_b d x f h, first_of (simp shapes, cc), first_of (simp paths, cc), still At_b d)
fenced_a F d x f (p ∷ e) h Take_ac = (Fenced_a d x (f ++ p ∷ []) e h, first_of (simp shapes, cc), first_of (simp paths, cc), still At_b d)
fenced_a F d [] f e h Take_sb = (Fenced_a d [] f e h, first_of (simp shapes, cc), first_of (simp paths, cc), still At_b d)
fenced_a F d ((true, p) ∷ x) f e h Take_sb = (Fenced_a (d ++ (p, At_b) ∷ []) x f e h, first_of (simp shapes, cc), first_of (simp paths, cc), one_more At_b d p)
fenced_a F d ((false, p) ∷ x) f e h Take_sb = (Fenced_a d x f e (h ++ p ∷ []), first_of (simp shapes, cc), first_of (simp paths, cc), still At_b d)
fenced_a F d x [] e h Take_cs = (Fenced_a d x [] e h, first_of (simp shapes, cc), first_of (simp paths, cc), still At_b d)
fenced_a F d x (p ∷ f) e h Take_cs = (Fenced_a d (x ++ passing p ∷ []) f e h, first_of (simp shapes, cc), first_of (simp paths, cc), still At_b d)
fenced_a F d x f e h m = (Fenced_a d x f e h, first_of (simp shapes, cc), first_of (simp paths, cc), still At_b d)

pub ending : {R : Type 0} (F : Steps R) (d : List Ran) (x : List (Bool × ℕ)) (f h : List ℕ) (m : MachineStep R) → GoesOn F (Ending_b d x f h) m
ending F d x f h (Arrive p) = (Ending_b d (x ++ plain p ∷ []) f h, first_of (simp shapes, cc), first_of (simp paths, cc), still At_b d)
ending F d [] f h Take_sb = (Ending_b d [] f h, first_of (simp shapes, cc), first_of (simp paths, cc), still At_b d)
ending F d ((true, p) ∷ x) f h Take_sb = (Ending_b (d ++ (p, At_b) ∷ []) x f h, first_of (simp shapes, cc), first_of (simp paths, cc), one_more At_b d p)
ending F d ((false, p) ∷ x) f h Take_sb = (Ending_b d x f (h ++ p ∷ []), first_of (simp shapes, cc), first_of (simp paths, cc), still At_b d)
ending F d x [] h Take_cs = (Fence_b d x [] h, first_of (simp shapes, cc), first_of (simp paths, cc), still At_b d)
ending F d x (p ∷ f) h Take_cs = (Ending_b d (x ++ passing p ∷ []) f h, first_of (simp shapes, cc), first_of (simp paths, cc), still At_b d)
ending F d x f h m = (Ending_b d x f h, first_of (simp shapes, cc), first_of (simp paths, cc), still At_b d)

pub fence_b : {R : Type 0} (F : Steps R) (d : List Ran) (x : List (Bool × ℕ)) (n h : List ℕ) (m : MachineStep R) → GoesOn F (Fence_b d x n h) m
fence_b F d x n h (Arrive p) = (Fence_b d x (n ++ p ∷ []) h, first_of (simp shapes, cc), first_of (simp paths, cc), still At_b d)
fence_b F d [] n h Take_sb = (Fenced_b (d ++ map (on At_b) h) n true, first_of (simp shapes, cc), first_of (simp paths, cc), released d h)
fence_b F d ((true, p) ∷ x) n h Take_sb = (Fence_b (d ++ (p, At_b) ∷ []) x n h, first_of (simp shapes, cc), first_of (simp paths, cc), one_more At_b d p)
fence_b F d ((false, p) ∷ x) n h Take_sb = (Fence_b d x n (h ++ p ∷ []), first_of (simp shapes, cc), first_of (simp paths, cc), still At_b d)
fence_b F d x n h m = (Fence_b d x n h, first_of (simp shapes, cc), first_of (simp paths, cc), still At_b d)

pub fenced_b : {R : Type 0} (F : Steps R) (d : List Ran) (l : List ℕ) (k : Bool) (m : MachineStep R) → GoesOn F (Fenced_b d l k) m
fenced_b F d l k (Arrive p) = (Fenced_b d (l ++ p ∷ []) k, first_of (simp shapes, cc), first_of (simp paths, cc), still At_b d)
fenced_b F d [] k Take_sb = (Fenced_b d [] k, first_of (simp shapes, cc), first_of (simp paths, cc), still At_b d)
fenced_b F d (p ∷ l) k Take_sb = (Fenced_b (d ++ (p, At_b) ∷ []) l k, first_of (simp shapes, cc), first_of (simp paths, cc), one_more At_b d p)
fenced_b F d l k Take_bc = (Moved d l k, first_of (simp shapes, cc), first_of (simp paths, cc), still At_b d)
fenced_b F d l k m = (Fenced_b d l k, first_of (simp shapes, cc), first_of (simp paths, cc), still At_b d)

pub moved_on : {R : Type 0} (F : Steps R) (d : List Ran) (l : List ℕ) (k : Bool) (m : MachineStep R) → GoesOn F (Moved d l k) m
moved_on F d l k (Arrive p) = (Moved d (l ++ p ∷ []) k, first_of (simp shapes, cc), first_of (simp paths, cc), still At_b d)
moved_on F d [] k Take_sb = (Moved d [] k, first_of (simp shapes, cc), first_of (simp paths, cc), still At_b d)
moved_on F d (p ∷ l) k Take_sb = (Moved (d ++ (p, At_b) ∷ []) l k, first_of (simp shapes, cc), first_of (simp paths, cc), one_more At_b d p)
moved_on F d l k m = (Moved d l k, first_of (simp shapes, cc), first_of (simp paths, cc), still At_b d)

-- Each step of a move without a buffer at B, after its Install, leads to a stage, with the same packets in whatever order.
use Rattle.proof_machines.proofs.unit.Words.{ℕ, Bool, true, false, List, [], ◌∷◌, ◌++◌, append_assoc, append-nil, arith, At_b, Ran, Steps, MachineStep, Arrive}
use Rattle.proof_machines.proofs.unit.Words.{Take_sa, Take_sb, Take_ac, Take_cs, map-append, passing, plain, plains}
use Rattle.std.proofs.lemmas.List.Elements.{filter_map-append}
use Rattle.proof_machines.proofs.unit.Words.{Turned_loose, Fenced_loose, Ending_loose, Fence_loose, Fenced_b, GoesOn, shapes, paths, still, one_more}
pub use Rattle.actor_net.proofs.NumberCounts.{none_in, times-append}
use Rattle.proof_machines.proofs.unit.Late.{same_lists}

ruleset counts = (times-append, map-append, filter_map-append, append_assoc, append-nil)

pub turned_loose : {R : Type 0} (F : Steps R) (d : List Ran) (x : List (Bool × ℕ)) (f e l : List ℕ) (m : MachineStep R) → GoesOn F (Turned_loose d x f e l) m
turned_loose F d x f e l (Arrive p) =
    (Turned_loose d (x ++ plain p ∷ []) f e l, first_of (simp shapes, cc), same_lists (first_of (simp paths, cc)), still At_b d)
turned_loose F d x f e [] Take_sa = (Fenced_loose d x f e, first_of (simp shapes, cc), same_lists (first_of (simp paths, cc)), still At_b d)
turned_loose F d x f e (p ∷ l) Take_sa = (Turned_loose d x f (e ++ p ∷ []) l, first_of (simp shapes, cc), same_lists (first_of (simp paths, cc)), still At_b d)
turned_loose F d x f [] l Take_ac = (Turned_loose d x f [] l, first_of (simp shapes, cc), same_lists (first_of (simp paths, cc)), still At_b d)
turned_loose F d x f (p ∷ e) l Take_ac = (Turned_loose d x (f ++ p ∷ []) e l, first_of (simp shapes, cc), same_lists (first_of (simp paths, cc)), still At_b d)
turned_loose F d [] f e l Take_sb = (Turned_loose d [] f e l, first_of (simp shapes, cc), same_lists (first_of (simp paths, cc)), still At_b d)
turned_loose F d ((true, p) ∷ x) f e l Take_sb =
    (Turned_loose (d ++ (p, At_b) ∷ []) x f e l, first_of (simp shapes, cc), same_lists (first_of (simp paths, cc)), one_more At_b d p)
turned_loose F d ((false, p) ∷ x) f e l Take_sb =
    (Turned_loose (d ++ (p, At_b) ∷ []) x f e l, first_of (simp shapes, cc), λ n. simp counts (omega arith), one_more At_b d p)
turned_loose F d x [] e l Take_cs = (Turned_loose d x [] e l, first_of (simp shapes, cc), same_lists (first_of (simp paths, cc)), still At_b d)
turned_loose F d x (p ∷ f) e l Take_cs =
    (Turned_loose d (x ++ passing p ∷ []) f e l, first_of (simp shapes, cc), same_lists (first_of (simp paths, cc)), still At_b d)
turned_loose F d x f e l m = (Turned_loose d x f e l, first_of (simp shapes, cc), same_lists (first_of (simp paths, cc)), still At_b d)

pub fenced_loose : {R : Type 0} (F : Steps R) (d : List Ran) (x : List (Bool × ℕ)) (f e : List ℕ) (m : MachineStep R) → GoesOn F (Fenced_loose d x f e) m
fenced_loose F d x f e (Arrive p) = (Fenced_loose d (x ++ plain p ∷ []) f e, first_of (simp shapes, cc), same_lists (first_of (simp paths, cc)), still At_b d)
fenced_loose F d x f [] Take_ac = (Ending_loose d x f, first_of (simp shapes, cc), same_lists (first_of (simp paths, cc)), still At_b d)
fenced_loose F d x f (p ∷ e) Take_ac = (Fenced_loose d x (f ++ p ∷ []) e, first_of (simp shapes, cc), same_lists (first_of (simp paths, cc)), still At_b d)
fenced_loose F d [] f e Take_sb = (Fenced_loose d [] f e, first_of (simp shapes, cc), same_lists (first_of (simp paths, cc)), still At_b d)
fenced_loose F d ((true, p) ∷ x) f e Take_sb =
    (Fenced_loose (d ++ (p, At_b) ∷ []) x f e, first_of (simp shapes, cc), same_lists (first_of (simp paths, cc)), one_more At_b d p)
fenced_loose F d ((false, p) ∷ x) f e Take_sb =
    (Fenced_loose (d ++ (p, At_b) ∷ []) x f e, first_of (simp shapes, cc), λ n. simp counts (omega arith), one_more At_b d p)
fenced_loose F d x [] e Take_cs = (Fenced_loose d x [] e, first_of (simp shapes, cc), same_lists (first_of (simp paths, cc)), still At_b d)
fenced_loose F d x (p ∷ f) e Take_cs =
    (Fenced_loose d (x ++ passing p ∷ []) f e, first_of (simp shapes, cc), same_lists (first_of (simp paths, cc)), still At_b d)
fenced_loose F d x f e m = (Fenced_loose d x f e, first_of (simp shapes, cc), same_lists (first_of (simp paths, cc)), still At_b d)

pub ending_loose : {R : Type 0} (F : Steps R) (d : List Ran) (x : List (Bool × ℕ)) (f : List ℕ) (m : MachineStep R) → GoesOn F (Ending_loose d x f) m
ending_loose F d x f (Arrive p) = (Ending_loose d (x ++ plain p ∷ []) f, first_of (simp shapes, cc), same_lists (first_of (simp paths, cc)), still At_b d)
ending_loose F d [] f Take_sb = (Ending_loose d [] f, first_of (simp shapes, cc), same_lists (first_of (simp paths, cc)), still At_b d)
ending_loose F d ((true, p) ∷ x) f Take_sb =
    (Ending_loose (d ++ (p, At_b) ∷ []) x f, first_of (simp shapes, cc), same_lists (first_of (simp paths, cc)), one_more At_b d p)
ending_loose F d ((false, p) ∷ x) f Take_sb =
    (Ending_loose (d ++ (p, At_b) ∷ []) x f, first_of (simp shapes, cc), λ n. simp counts (omega arith), one_more At_b d p)
ending_loose F d x [] Take_cs = (Fence_loose d x [], first_of (simp shapes, cc), same_lists (first_of (simp paths, cc)), still At_b d)
ending_loose F d x (p ∷ f) Take_cs = (Ending_loose d (x ++ passing p ∷ []) f, first_of (simp shapes, cc), same_lists (first_of (simp paths, cc)), still At_b d)
ending_loose F d x f m = (Ending_loose d x f, first_of (simp shapes, cc), same_lists (first_of (simp paths, cc)), still At_b d)

pub fence_loose : {R : Type 0} (F : Steps R) (d : List Ran) (x : List (Bool × ℕ)) (n : List ℕ) (m : MachineStep R) → GoesOn F (Fence_loose d x n) m
fence_loose F d x n (Arrive p) = (Fence_loose d x (n ++ p ∷ []), first_of (simp shapes, cc), same_lists (first_of (simp paths, cc)), still At_b d)
fence_loose F d [] n Take_sb = (Fenced_b d n false, first_of (simp shapes, cc), first_of (simp paths, cc), still At_b d)
fence_loose F d ((true, p) ∷ x) n Take_sb =
    (Fence_loose (d ++ (p, At_b) ∷ []) x n, first_of (simp shapes, cc), same_lists (first_of (simp paths, cc)), one_more At_b d p)
fence_loose F d ((false, p) ∷ x) n Take_sb =
    (Fence_loose (d ++ (p, At_b) ∷ []) x n, first_of (simp shapes, cc), λ v. simp counts (omega (arith, times-append v (plains x) n)), one_more At_b d p)
fence_loose F d x n m = (Fence_loose d x n, first_of (simp shapes, cc), same_lists (first_of (simp paths, cc)), still At_b d)

-- The machine at rest: with no message on a link the move has ended and no packet is left.
use Rattle.proof_machines.proofs.unit.Words.{◌≡◌, ℕ, Bool, true, false, List, [], ◌∷◌, ◌++◌, refl, sym, Ran, Steps, Part, Phase, Over, delete, State}
use Rattle.proof_machines.proofs.unit.Words.{SourceItem, shown, cons_nil, map_nil, Stage, At_rest, Begun, Frozen, Stream_goes, Streams, All_put, Hold_goes}
use Rattle.proof_machines.proofs.unit.Words.{Held, Laying, Turned, Fenced_a, Ending_b, Fence_b, Turned_loose, Fenced_loose, Ending_loose, Fence_loose, Fenced_b}
use Rattle.proof_machines.proofs.unit.Words.{Moved, Restore_goes, Restored_comes, Turn_goes, Turned_back, Returned, Fence_a, Fenced_back, Undone, Doorway}
use Rattle.proof_machines.proofs.unit.Words.{Is_shut, Is_asked, Is_agreed, Is_denied, Is_wide, Is_refused, Flows, body, shape, path, IsOrderedAs}

pub exactly : (b : Bool) (xs ys : List ℕ) → b ≡ false → IsOrderedAs b xs ys → xs ≡ ys
exactly true xs ys e o = let never : true ≡ false = e in cc
exactly false xs ys e o = o

-- no message on a link
pub record Silent {R : Type 0} (u : State R) : Type 0 where
  pub sa : u.sa ≡ []
  pub sb : u.sb ≡ []
  pub ac : u.ac ≡ []
  pub bc : u.bc ≡ []
  pub ca : u.ca ≡ []
  pub cb : u.cb ≡ []
  pub cs : u.cs ≡ []

abbrev pub is_over : {R : Type 0} → Phase R → Bool
is_over (Over why) = true
is_over phase = false

abbrev pub Complete : {R : Type 0} {F : Steps R} → Stage F → Type 0
Complete {F = F} s = (is_over (shape F s).phase ≡ true) × (path s ≡ [])

pub behind_nil : {X Y : Type 0} (xs : List X) (x : X) (ys : List X) → xs ++ x ∷ ys ≡ [] → Y
behind_nil [] x ys e = cons_nil e
behind_nil (a ∷ xs) x ys e = cons_nil e

true_false : {Y : Type 0} → true ≡ false → Y
true_false e = cc

streams_on : {R : Type 0} (F : Steps R) (d : List Ran) (f : List ℕ) (y : List (SourceItem R)) (q : List (Part R)) (l : List ℕ) (k : Bool) (s : Doorway R)
    (w : Flows F d s (body y q))
    → Silent (shape F (Streams d f y q l k s w)) → y ≡ [] → q ≡ [] → Complete (Streams d f y q l k s w)
streams_on F d f (a ∷ y) q l k s w h i j = cons_nil i
streams_on F d f y (a ∷ q) l k s w h i j = cons_nil j
streams_on F d f [] [] l k Is_shut w h i j = true_false (sym w.fits.ends)
streams_on F d f [] [] l k (Is_asked g v) w h i j = cons_nil h.cb
streams_on F d f [] [] l k (Is_agreed g v) w h i j = cons_nil h.bc
streams_on F d f [] [] l k (Is_denied g v why) w h i j = cons_nil h.bc
streams_on F d f [] [] l k (Is_wide g (a ∷ v)) w h i j = cons_nil h.cb
streams_on F d f [] [] l k (Is_wide g []) w h i j = true_false w.going
streams_on F d f [] [] l k (Is_refused v why) w h i j = true_false w.going

-- the machine without a message is complete
pub rests : {R : Type 0} (F : Steps R) (s : Stage F) → Silent (shape F s) → Complete s
rests F (At_rest d l k) h = (refl, map_nil _ l h.sa)
rests F (Moved d l k) h = (refl, map_nil _ l h.sb)
rests F (Undone d l k why) h = (refl, map_nil _ l h.sa)
rests F (Begun d l k) h = cons_nil h.ca
rests F (Frozen d e l k) h = cons_nil h.ac
rests F (Stream_goes d f e l k) h = cons_nil h.ca
rests F (Streams d f y q l k s w) h = streams_on F d f y q l k s w h (map_nil shown y h.ac) (map_nil delete q h.ca)
rests F (All_put d f e l k) h = cons_nil h.bc
rests F (Hold_goes d f e l) h = cons_nil h.cb
rests F (Held d f e l) h = cons_nil h.bc
rests F (Laying d x f g e l k) h = behind_nil _ _ _ h.cs
rests F (Turned d x f e l t) h = behind_nil _ _ _ h.sa
rests F (Fenced_a d x f e t) h = behind_nil _ _ _ h.ac
rests F (Ending_b d x f t) h = behind_nil _ _ _ h.cs
rests F (Fence_b d x n t) h = behind_nil _ _ _ h.sb
rests F (Turned_loose d x f e l) h = behind_nil _ _ _ h.sa
rests F (Fenced_loose d x f e) h = behind_nil _ _ _ h.ac
rests F (Ending_loose d x f) h = behind_nil _ _ _ h.cs
rests F (Fence_loose d x n) h = behind_nil _ _ _ h.sb
rests F (Fenced_b d l k) h = cons_nil h.bc
rests F (Restore_goes d f e l k why) h = cons_nil h.ca
rests F (Restored_comes d f e g l k why) h = behind_nil _ _ _ h.ac
rests F (Turn_goes d f e l k why) h = cons_nil h.ca
rests F (Turned_back d f e t l k why) h = behind_nil _ _ _ h.ac
rests F (Returned d x f t k why) h = behind_nil _ _ _ h.cs
rests F (Fence_a d x n t k why) h = behind_nil _ _ _ h.sa
rests F (Fenced_back d l k why) h = cons_nil h.ac

-- What follows where reading gave something: each part gave something, and each test held.
use Rattle.std.proofs.Common.{◌≡◌, ℕ, Bool, true, false, List, [], ◌∷◌, Option, None, Some, Ok, Err, refl}
use Rattle.state_chunk.specs.declared.fault.ChunkFault.{ChunkFault}
use Rattle.state_chunk.specs.Reading.{Read, then_read, part, checked, at_end}

pub then_ok : {X Y P : Type 0} (r : Read X) (next : X → Read Y) (y : Y) → then_read r next ≡ Ok y → ((x : X) → r ≡ Ok x → next x ≡ Ok y → P) → P
then_ok (Ok x) next y h go = go x refl h
then_ok (Err e) next y h go = cc

pub part_ok : {X : Type 0} (o : Option X) (x : X) → part o ≡ Ok x → o ≡ Some x
part_ok None x h = cc
part_ok (Some y) x h = cc

pub checked_ok : {X : Type 0} (test : Bool) (e : ChunkFault) (next : Read X) (x : X) → checked test e next ≡ Ok x → (test ≡ true) × (next ≡ Ok x)
checked_ok true e next x h = (refl, h)
checked_ok false e next x h = cc

pub ended_ok : {X : Type 0} (bytes : List ℕ) (x y : X) → at_end bytes x ≡ Ok y → (bytes ≡ []) × (x ≡ y)
ended_ok [] x y h = (refl, cc)
ended_ok (byte ∷ more) x y h = cc

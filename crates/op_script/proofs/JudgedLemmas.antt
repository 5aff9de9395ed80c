-- What stands where something was judged to be right.
use Rattle.op_script.proofs.Words.{◌≡◌, Bool, true, false, Option, None, Some, Ok, Err, refl, ◌>>=◌, Judged, unless, wanted}
use Rattle.std.specs.Option.{option_transpose}
use Rattle.op_script.specs.declared.fault.ScriptKind.{ScriptKind}

-- the value of a first part, and what was made of it
pub record Steps {A B : Type 0} (a : Judged A) (f : A → Judged B) (t : B) : Type 0 where
  pub value : A
  pub first : a ≡ Ok value
  pub rest : f value ≡ Ok t

pub steps : {A B : Type 0} → (a : Judged A) (f : A → Judged B) (t : B) → (a >>= f) ≡ Ok t → Steps a f t
steps (Ok x) f t is = record { value = x; first = refl; rest = is }
steps (Err kind) f t is = absurd cc

pub unless_Ok : {A : Type 0} → (test : Bool) (kind : ScriptKind) (next : Judged A) (t : A) → unless test kind next ≡ Ok t → (test ≡ false) × (next ≡ Ok t)
unless_Ok true kind next t is = absurd cc
unless_Ok false kind next t is = (refl, is)

pub wanted_Ok : {A : Type 0} → (o : Option A) (kind : ScriptKind) (x : A) → wanted o kind ≡ Ok x → o ≡ Some x
wanted_Ok None kind x is = absurd cc
wanted_Ok (Some y) kind x is = cc

-- what is judged, where there is something to be judged
pub judged_some : {A : Type 0} → (a : Judged A) → option_transpose (Some a) ≡ (a >>= λ x. Ok (Some x))
judged_some (Ok x) = refl
judged_some (Err kind) = refl

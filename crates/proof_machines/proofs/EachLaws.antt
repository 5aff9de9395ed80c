-- What holds of each element of a list, by recursion: of a list of what is made of another, and of one in which none passes a test.
use Rattle.std.proofs.Common.{◌≡◌, Bool, false, List, [], ◌∷◌, map, filter, cond, refl}
pub use Rattle.actor_net.proofs.WeightLaws.{Each, each-append}
use Rattle.proof_machines.proofs.Tests.{split}

pub each_map : {X : Type 0} {P Q : X → Type 0} → ((x : X) → P x → Q x) → (xs : List X) → Each P xs → Each Q xs
each_map g [] h = tt
each_map g (x ∷ xs) h = (g x h.0, each_map g xs h.1)

pub each_both : {X : Type 0} {P Q T : X → Type 0} → ((x : X) → P x → Q x → T x) → (xs : List X) → Each P xs → Each Q xs → Each T xs
each_both g [] p q = tt
each_both g (x ∷ xs) p q = (g x p.0 q.0, each_both g xs p.1 q.1)

pub each_any : {X : Type 0} (xs : List X) → Each (λ _. Prim.Unit {0}) xs
each_any [] = tt
each_any (x ∷ xs) = (tt, each_any xs)

pub each_made : {X Y : Type 0} {P : X → Type 0} (Q : Y → Type 0) (make : X → Y) → ((x : X) → P x → Q (make x)) → (xs : List X) → Each P xs
    → Each Q (map make xs)
each_made Q make g [] h = tt
each_made Q make g (x ∷ xs) h = (g x h.0, each_made Q make g xs h.1)

module _ {X : Type 0} (p : X → Bool) where
  pub each_fails : (xs : List X) → filter p xs ≡ [] → Each (λ x. p x ≡ false) xs
  each_fails [] e = tt
  each_fails (x ∷ xs) e = split (p x) (λ b. cond b (x ∷ filter p xs) (filter p xs) ≡ [] → (p x ≡ false) × Each (λ y. p y ≡ false) xs) (λ _ some. cc)
      (λ off rest. (off, each_fails xs rest)) e

  pub none_passes : (xs : List X) → Each (λ x. p x ≡ false) xs → filter p xs ≡ []
  none_passes [] h = refl
  none_passes (x ∷ xs) h = let off = h.0 in rw off (none_passes xs h.1)

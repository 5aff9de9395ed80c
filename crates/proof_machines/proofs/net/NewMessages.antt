-- What holds of each message of a share on the links, after a step and where something is put on them.
use Rattle.proof_machines.proofs.unit.Labels.{each-append}
use Rattle.proof_machines.proofs.net.Words.{◌≡◌, ℕ, false, List, [], ◌∷◌, ◌++◌, subst, if◌then◌else◌, ◌&&◌, ◌==◌, sent_for, Each, Msg, links_after, EachSent}
use Rattle.proof_machines.proofs.net.Words.{each_after, each_put, Any, Old, New, ShareMsg, EachNew, as_old}

abbrev pub OnNew : {R : Type 0} → (ShareMsg R → Type 0) → Any R → Type 0
OnNew P (Old m) = Unit {0}
OnNew P (New m) = P m

-- of what a node sends, by the receiver
abbrev pub EachSentNew : {R : Type 0} → (ℕ → ShareMsg R → Type 0) → List (ℕ × Any R) → Type 0
EachSentNew P xs = EachSent (λ j m. OnNew (P j) m) xs

to_each : {R : Type 0} (P : ShareMsg R → Type 0) (ms : List (Any R)) → EachNew P ms → Each (OnNew P) ms
to_each P [] h = tt
to_each P (Old m ∷ ms) h = (tt, to_each P ms h)
to_each P (New m ∷ ms) h = (h.0, to_each P ms h.1)

from_each : {R : Type 0} (P : ShareMsg R → Type 0) (ms : List (Any R)) → Each (OnNew P) ms → EachNew P ms
from_each P [] h = tt
from_each P (Old m ∷ ms) h = from_each P ms h.1
from_each P (New m ∷ ms) h = (h.0, from_each P ms h.1)

pub each_new_map : {R : Type 0} (P Q : ShareMsg R → Type 0) → ((m : ShareMsg R) → P m → Q m) → (ms : List (Any R)) → EachNew P ms → EachNew Q ms
each_new_map P Q f [] h = tt
each_new_map P Q f (Old m ∷ ms) h = each_new_map P Q f ms h
each_new_map P Q f (New m ∷ ms) h = (f m h.0, each_new_map P Q f ms h.1)

pub each_new_both : {R : Type 0} (P Q T : ShareMsg R → Type 0) → ((m : ShareMsg R) → P m → Q m → T m) → (ms : List (Any R)) → EachNew P ms → EachNew Q ms
    → EachNew T ms
each_new_both P Q T f [] p q = tt
each_new_both P Q T f (Old m ∷ ms) p q = each_new_both P Q T f ms p q
each_new_both P Q T f (New m ∷ ms) p q = (f m p.0 q.0, each_new_both P Q T f ms p.1 q.1)

-- messages of moves are none of a share
pub sent_old : {R : Type 0} (P : ℕ → ShareMsg R → Type 0) (xs : List (ℕ × Msg R)) → EachSentNew P (as_old xs)
sent_old P [] = tt
sent_old P (x ∷ xs) = (tt, sent_old P xs)

pub sent_old_and : {R : Type 0} (P : ℕ → ShareMsg R → Type 0) (xs : List (ℕ × Msg R)) (ys : List (ℕ × Any R)) → EachSentNew P ys
    → EachSentNew P (as_old xs ++ ys)
sent_old_and P xs ys h = each-append _ (as_old xs) ys (sent_old P xs) h

module _ {R : Type 0} (P : ℕ → ShareMsg R → Type 0) (l : ℕ → ℕ → List (Any R)) (h : (i j : ℕ) → (i == 0) && (j == 0) ≡ false → EachNew (P j) (l i j)) where
  pub new_after : (p y : ℕ) (sends : List (ℕ × Any R)) → EachSentNew P sends → (i j : ℕ) → (i == 0) && (j == 0) ≡ false
      → EachNew (P j) (links_after l p y sends i j)
  new_after p y sends s i j off =
      from_each (P j) (links_after l p y sends i j) (each_after (λ _ j m. OnNew (P j) m) l p y sends (λ i j e. to_each (P j) (l i j) (h i j e)) s i j off)

  pub new_put : (y : ℕ) (sends : List (ℕ × Any R)) → EachSentNew P sends → (i j : ℕ) → (i == 0) && (j == 0) ≡ false
      → EachNew (P j) (l i j ++ (if i == y then sent_for j sends else []))
  new_put y sends s i j off = from_each (P j) (l i j ++ (if i == y then sent_for j sends else []))
      (each_put (λ _ j m. OnNew (P j) m) l y sends (λ i j e. to_each (P j) (l i j) (h i j e)) s i j off)

  pub new_head : (p k : ℕ) (m : ShareMsg R) (rest : List (Any R)) → (p == 0) && (k == 0) ≡ false → l p k ≡ New m ∷ rest → P k m
  new_head p k m rest off waits = (subst (λ ms. EachNew (P k) ms) waits (h p k off)).0

-- What a step sends in two lists in a row: what goes to one node, what it weighs, and what holds of each message. Generic in the messages.
use Rattle.std.proofs.Common.{◌≡◌, ℕ, ◌+◌, List, [], ◌∷◌, ◌++◌, refl, sym, ap, ◌∙◌, append_assoc, arith}
use Rattle.std.specs.Prelude.{if◌then◌else◌, ◌==◌}
use Rattle.actor_net.specs.Histories.{sent_for}
use Rattle.actor_net.proofs.WeightLaws.{EachSent, sent_weight}

module _ {M : Type 0} where
  pub sent-append : (P : ℕ → ℕ → M → Type 0) (s : ℕ) (xs ys : List (ℕ × M)) → EachSent P s xs → EachSent P s ys → EachSent P s (xs ++ ys)
  sent-append P s [] ys a b = b
  sent-append P s (x ∷ xs) ys a b = (a.0, sent-append P s xs ys a.1 b)

  pub sent_for-append : (to : ℕ) (xs ys : List (ℕ × M)) → sent_for to (xs ++ ys) ≡ sent_for to xs ++ sent_for to ys
  sent_for-append to [] ys = refl
  sent_for-append to (x ∷ xs) ys = ap (λ z. (if x.0 == to then x.1 ∷ [] else []) ++ z) (sent_for-append to xs ys)
      ∙ sym (append_assoc (if x.0 == to then x.1 ∷ [] else []) (sent_for to xs) (sent_for to ys))

  pub sent_weight-append : (w : M → ℕ) (n k : ℕ) (xs ys : List (ℕ × M)) → sent_weight w n k (xs ++ ys) ≡ sent_weight w n k xs + sent_weight w n k ys
  sent_weight-append w n k [] ys = omega arith
  sent_weight-append w n k (x ∷ xs) ys = omega (arith, sent_weight-append w n k xs ys)

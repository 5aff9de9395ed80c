-- A packet is moved: what is moved so far, and what is left to move of those that were there.
use Rattle.std.proofs.Common.{◌≡◌, ◌<◌, ℕ, suc, ◌+◌, ◌-◌, List, [], ◌∷◌, ◌++◌, map, take, drop, sym, ap, ◌∙◌, append_assoc, arith}

one_less : (most i : ℕ) → i < most → most - i ≡ suc (most - (i + 1))
one_less most i more = omega (arith, more)

module _ {X Y : Type 0} (make : X → Y) (most i : ℕ) (more : i < most) (x : X) (rest left : List X) (first : left ≡ x ∷ rest) where
  pub moved : (so_far : List Y) → (so_far ++ make x ∷ []) ++ map make (take (most - (i + 1)) rest) ≡ so_far ++ map make (take (most - i) left)
  moved so_far =
      append_assoc so_far (make x ∷ []) (map make (take (most - (i + 1)) rest))
      ∙ ap (λ k. so_far ++ map make (take k (x ∷ rest))) (sym (one_less most i more))
      ∙ ap (λ xs. so_far ++ map make (take (most - i) xs)) (sym first)

  pub still_left : drop (most - (i + 1)) rest ≡ drop (most - i) left
  still_left = ap (λ k. drop k (x ∷ rest)) (sym (one_less most i more)) ∙ ap (drop (most - i)) (sym first)

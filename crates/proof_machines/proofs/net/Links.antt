-- What is seen of all links after a step, and the labels on them. Links are a function of pairs of nodes.
use Rattle.proof_machines.proofs.unit.Machine.{State}
use Rattle.proof_machines.proofs.net.Net.{Open}
use Rattle.proof_machines.proofs.net.Holding.{IsController}
use Rattle.std.proofs.Common.{Option, Some, None, ◌≡◌, ℕ, Bool, true, false, List, [], ◌∷◌, ◌++◌, drop, refl, sym, ap, ◌∙◌, subst, append-nil, arith}
use Rattle.std.specs.Prelude.{if◌then◌else◌, ◌&&◌, ◌==◌}
use Rattle.std.proofs.lemmas.Bool.Decides.{nat_tests, Decides-eqb}
use Rattle.actor_net.proofs.LinkLemmas.{neither}
use Rattle.proof_machines.proofs.unit.Machine.{Item}
use Rattle.proof_machines.proofs.unit.Real.{add, sent_for, only_mine}
use Rattle.proof_machines.proofs.unit.Labels.{Each, each-append}
use Rattle.proof_machines.proofs.unit.Pairs.{after_take}
use Rattle.std.proofs.Common.{map}
use Rattle.std.specs.List.{filter, filter_map}
use Rattle.std.proofs.lemmas.List.{map-append}
use Rattle.std.proofs.lemmas.List.Elements.{filter-append, filter_map-append}
use Rattle.proof_machines.proofs.unit.Lists.{firsts-on}
use Rattle.proof_machines.proofs.net.Net.{Msg, Sys, seen, links_after, behind, at_node}
use Rattle.proof_machines.proofs.net.Holding.{Seeing, EachSent, frame, shows, done_of}
use Rattle.proof_machines.proofs.Tests.{split}

pub each_behind : {X : Type 0} (P : X → Type 0) (b : Bool) (xs : List X) → Each P xs → Each P (behind b xs)
each_behind P true [] h = tt
each_behind P true (x ∷ xs) h = h.1
each_behind P false xs h = h

pub each_sent : {M : Type 0} (P : ℕ → M → Type 0) (j : ℕ) (xs : List (ℕ × M)) → EachSent P xs → Each (P j) (sent_for j xs)
each_sent P j [] h = tt
each_sent P j (x ∷ xs) h = split (x.0 == j) (λ b. Each (P j) (if b then x.1 ∷ sent_for j xs else sent_for j xs))
    (λ e. (subst (λ r. P r x.1) ((Decides-eqb x.0 j).0 e) h.0, each_sent P j xs h.1))
    (λ _. each_sent P j xs h.1)

-- each message anywhere, after a step
pub each_after : {M : Type 0} (P : ℕ → ℕ → M → Type 0) (l : ℕ → ℕ → List M) (p y : ℕ) (sends : List (ℕ × M))
    → ((i j : ℕ) → (i == 0) && (j == 0) ≡ false → Each (P i j) (l i j)) → EachSent (P y) sends → (i j : ℕ) → (i == 0) && (j == 0) ≡ false
    → Each (P i j) (links_after l p y sends i j)
each_after P l p y sends h s i j off =
    each-append (P i j) (behind ((i == p) && (j == y)) (l i j)) (if i == y then sent_for j sends else []) (each_behind (P i j) ((i == p) && (j == y))
    (l i j) (h i j off)) (split (i == y) (λ b. Each (P i j) (if b then sent_for j sends else []))
    (λ e. let same : i ≡ y = (Decides-eqb i y).0 e in rw same (each_sent (P y) j sends s))
    (λ _. tt))

-- and where something is put on node y's links alone
pub each_put : {M : Type 0} (P : ℕ → ℕ → M → Type 0) (l : ℕ → ℕ → List M) (y : ℕ) (sends : List (ℕ × M))
    → ((i j : ℕ) → (i == 0) && (j == 0) ≡ false → Each (P i j) (l i j)) → EachSent (P y) sends → (i j : ℕ) → (i == 0) && (j == 0) ≡ false
    → Each (P i j) (l i j ++ (if i == y then sent_for j sends else []))
each_put P l y sends h s i j off =
    each-append (P i j) (l i j) (if i == y then sent_for j sends else []) (h i j off)
    (split (i == y) (λ b. Each (P i j) (if b then sent_for j sends else []))
    (λ e. let same : i ≡ y = (Decides-eqb i y).0 e in rw same (each_sent (P y) j sends s))
    (λ _. tt))

module _ {R : Type 0} (S : Sys R) (z : Seeing) where
  abbrev its : List (Msg R) → List (Item R)
  its ms = filter_map (seen (frame S z)) ms

  -- what is seen of the sends of node y at node j; the switch sends nothing to the input
  abbrev pub sent : ℕ → List (ℕ × Msg R) → ℕ → List (Item R)
  sent y sends j = if (y == 0) && (j == 0) then [] else its (sent_for j sends)

  nothing_in : (y i j : ℕ) (sends : List (ℕ × Msg R)) → (i == 0) && (j == 0) ≡ true → (if i == y then sent y sends j else []) ≡ []
  nothing_in y i j sends on =
      split (i == y) (λ b. (if b then sent y sends j else []) ≡ [])
      (λ e. let same : i ≡ y = (Decides-eqb i y).0 e in let here : (y == 0) && (j == 0) ≡ true = rw (← same) on in rw here refl)
      (λ _. refl)

  sent_out : (y i j : ℕ) (sends : List (ℕ × Msg R)) → (i == 0) && (j == 0) ≡ false
      → its (if i == y then sent_for j sends else []) ≡ (if i == y then sent y sends j else [])
  sent_out y i j sends off =
      split (i == y) (λ b. its (if b then sent_for j sends else []) ≡ (if b then sent y sends j else []))
      (λ e. let same : i ≡ y = (Decides-eqb i y).0 e in let here : (y == 0) && (j == 0) ≡ false = rw (← same) off in rw here refl)
      (λ _. refl)

  -- put on a node's links alone
  pub view_put : (l : ℕ → ℕ → List (Msg R)) (y : ℕ) (sends : List (ℕ × Msg R)) (i j : ℕ)
      → shows S z (λ i j. l i j ++ (if i == y then sent_for j sends else [])) i j ≡ shows S z l i j ++ (if i == y then sent y sends j else [])
  view_put l y sends i j =
      split ((i == 0) && (j == 0)) (λ t. (if t then [] else its (l i j ++ (if i == y then sent_for j sends else []))) ≡ (if t then [] else its (l i j))
      ++ (if i == y then sent y sends j else []))
      (λ on. sym (nothing_in y i j sends on))
      (λ off. filter_map-append (seen (frame S z)) (l i j) (if i == y then sent_for j sends else [])
      ∙ ap (λ v. its (l i j) ++ v) (sent_out y i j sends off))

  module _ (l : ℕ → ℕ → List (Msg R)) (p y : ℕ) (m : Msg R) (rest : List (Msg R)) (waits : l p y ≡ m ∷ rest) (no_input : (p == 0) && (y == 0) ≡ false)
      (sends : List (ℕ × Msg R)) where
    -- the head of the link
    pub head : add (seen (frame S z) m) (its rest) ≡ shows S z l p y
    head = rw no_input (ap its (sym waits))

    both_same : (i j : ℕ) → (i == p) && (j == y) ≡ true → l i j ≡ m ∷ rest
    both_same i j e = let ip : i ≡ p = grind (arith, nat_tests) in let jy : j ≡ y = grind (arith, nat_tests) in rw (ip, jy) waits

    after_raw : (i j : ℕ) (left : List (Item R)) → (i == 0) && (j == 0) ≡ false → its (behind ((i == p) && (j == y)) (l i j)) ≡ left
        → shows S z (links_after l p y sends) i j ≡ left ++ (if i == y then sent y sends j else [])
    after_raw i j left off e = rw off (filter_map-append (seen (frame S z)) (behind ((i == p) && (j == y)) (l i j)) (if i == y then sent_for j sends else [])
        ∙ ap (λ v. v ++ its (if i == y then sent_for j sends else [])) e ∙ ap (λ v. left ++ v) (sent_out y i j sends off))

    -- an item is taken
    pub view_some : (it : Item R) → seen (frame S z) m ≡ Some it → (i j : ℕ)
        → shows S z (links_after l p y sends) i j ≡ after_take p y (shows S z l) (sent y sends) i j
    view_some it is i j =
        split ((i == 0) && (j == 0)) (λ t. (if t then [] else its (links_after l p y sends i j)) ≡
        (if (i == p) && (j == y) then drop 1 (if t then [] else its (l i j)) else (if t then [] else its (l i j)))
        ++ (if i == y then sent y sends j else []))
        (λ on. sym (ap (λ v. (if (i == p) && (j == y) then [] else []) ++ v) (nothing_in y i j sends on)
        ∙ append-nil (if (i == p) && (j == y) then [] else []) ∙ neither ((i == p) && (j == y))))
        (λ off. subst (λ t. (if t then [] else its (links_after l p y sends i j))
        ≡ (if (i == p) && (j == y) then drop 1 (its (l i j)) else its (l i j)) ++ (if i == y then sent y sends j else []))
        off (after_raw i j (if (i == p) && (j == y) then drop 1 (its (l i j)) else its (l i j)) off (left i j ((i == p) && (j == y)) refl)))
      where
        left : (i j : ℕ) (b : Bool) → (i == p) && (j == y) ≡ b → its (behind b (l i j)) ≡ (if b then drop 1 (its (l i j)) else its (l i j))
        left i j true e = let at = both_same i j e in rw (at, is) refl
        left i j false e = refl

    -- nothing is seen of what is taken
    pub view_none : seen (frame S z) m ≡ None → (i j : ℕ) → shows S z (links_after l p y sends) i j ≡ shows S z l i j ++ (if i == y then sent y sends j else [])
    view_none is i j =
        split ((i == 0) && (j == 0)) (λ t. (if t then [] else its (links_after l p y sends i j)) ≡ (if t then [] else its (l i j))
        ++ (if i == y then sent y sends j else []))
        (λ on. sym (nothing_in y i j sends on))
        (λ off. subst (λ t. (if t then [] else its (links_after l p y sends i j)) ≡ its (l i j) ++ (if i == y then sent y sends j else [])) off
        (after_raw i j (its (l i j)) off (left i j ((i == p) && (j == y)) refl)))
      where
        left : (i j : ℕ) (b : Bool) → (i == p) && (j == y) ≡ b → its (behind b (l i j)) ≡ its (l i j)
        left i j true e = let at = both_same i j e in rw (at, is) refl
        left i j false e = refl

  pub done_of-append : (x y : List (ℕ × ℕ)) → done_of S z (x ++ y) ≡ done_of S z x ++ done_of S z y
  done_of-append x y = ap (filter (frame S z).mine) (map-append _ x y) ∙ filter-append _ (map _ x) (map _ y)

  pub done_at : (y : ℕ) (ps : List ℕ) → done_of S z (at_node y ps) ≡ only_mine (frame S z) ps
  done_at y ps = ap (filter (frame S z).mine) (firsts-on y ps)

  -- the controller of a state that has its move as it was
  pub same_controller : (x x' : State R) → x'.phase ≡ x.phase → x'.store ≡ x.store → x'.keep ≡ x.keep → (o : Option (Open R)) → IsController S z o x
      → IsController S z o x'
  same_controller x x' phase store keep None e = rw phase e
  same_controller x x' phase store keep (Some e) (a, b, c, f) = (a, b ∙ sym phase, c ∙ sym store, f ∙ sym keep)

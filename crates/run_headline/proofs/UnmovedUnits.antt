-- A unit that no move that is done takes stays at the instance to which its route leads, and no plain move covers it.
use Rattle.run_headline.proofs.Words.{◌≡◌, ℕ, Bool, true, false, not, ◌&&◌, ◌||◌, Option, Some, None, List, [], ◌∷◌, ◌++◌, map, refl, sym, ap, ◌∙◌, arith}
use Rattle.run_headline.proofs.Words.{◌==◌, list_any, or-true, or_parts, nat_tests, Semantics, takes, Command, Order, Move, Copy, Share, Msg, Note, Config}
use Rattle.run_headline.proofs.Words.{Answers, commands, order_numbered, installs_in, answer_in, first_owner, owner_after_order, owner, by_number, is_answered}
use Rattle.run_headline.proofs.Words.{is_done, moves}
use Rattle.nf_function.specs.declared.unit.Unit as units
use Rattle.net_world.specs.Places.{owner_after}
use Rattle.net_world.proofs.LogLemmas.{installed-append}
use Rattle.run_headline.proofs.AnswerLines.{some}
use Rattle.run_headline.proofs.CoveredUnits.{installed_any}

-- a move of the unit, and a plain one
abbrev moves_it : units.Unit → Order → Bool
moves_it u what = moves (λ keep. true) u what

abbrev moves_plainly : units.Unit → Order → Bool
moves_plainly u what = moves not u what

-- an order that moves the unit
abbrev is_move : units.Unit → Option Order → Bool
is_move u (Some what) = moves_it u what
is_move u None = false

module _ (names : List (List ℕ)) (orders : ℕ → Option Order) (u : units.Unit) where
  stays_with : (o : Option Order) (i : ℕ) → is_move u o ≡ false → owner_after_order names orders u o i ≡ i
  stays_with (Some (Move source destination filter keep)) i off = rw off refl
  stays_with (Some (Copy source destination filter)) i off = refl
  stays_with (Some (Share members filter)) i off = refl
  stays_with None i off = refl

  stays : (i : ℕ) (ops : List ℕ) → ((op : ℕ) → some op ops ≡ true → is_move u (orders op) ≡ false) → owner_after names orders u i ops ≡ i
  stays i [] h = refl
  stays i (op ∷ ops) h =
      let own : some op (op ∷ ops) ≡ true = (let self : (op == op) ≡ true = grind (arith, nat_tests) in rw self refl) in
      ap (λ k. owner_after names orders u k ops) (stays_with (orders op) i (h op own))
      ∙ stays i ops (λ k among. h k (ap (λ b. (op == k) || b) among ∙ or-true (op == k)))

some_front : (op : ℕ) (xs ys : List ℕ) → some op xs ≡ true → some op (xs ++ ys) ≡ true
some_front op [] ys h = cc
some_front op (x ∷ xs) ys h = elim (x == op) as (λ b. (b || some op xs) ≡ true → (b || some op (xs ++ ys)) ≡ true) [
  | true ↦ λ _. refl
  | false ↦ λ more. some_front op xs ys more
] h

-- what fewer pass, none pass where none of more do
less_any : (test more : Command → Bool) → ((k : Command) → test k ≡ true → more k ≡ true) → (ks : List Command) → list_any more ks ≡ false
    → list_any test ks ≡ false
less_any test more less [] h = refl
less_any test more less (k ∷ ks) h =
    let parts = or_parts (more k) (list_any more ks) h in
    elim (test k) as (λ b. test k ≡ b → (b || list_any test ks) ≡ false) [
      | true ↦ λ on. let never : true ≡ false = sym (less k on) ∙ parts.0 in cc
      | false ↦ λ _. less_any test more less ks parts.1
    ] refl

module _ {R : Type 0} (f : Semantics R) (c : Config) (items : List Msg) (log : List Note) (answered : Answers c items log)
    (numbers : map (λ x. x.0) (by_number answer_in log) ≡ map (λ k. k.op) (commands items)) (u : units.Unit)
    (unmoved : list_any (λ k. moves_it u k.what && is_answered is_done (by_number answer_in log) k.op) (commands items) ≡ false) where
  none_takes : (op : ℕ) → some op (installs_in log) ≡ true → is_move u (order_numbered items op) ≡ false
  none_takes op among = by_order (order_numbered items op) refl
    where
      by_order : (o : Option Order) → order_numbered items op ≡ o → is_move u o ≡ false
      by_order None e = refl
      by_order (Some what) e = elim (moves_it u what) as (λ b. moves_it u what ≡ b → b ≡ false) [
        | true ↦ λ on. let never : true ≡ false = sym (installed_any f c items log answered numbers u (moves_it u) op what e among on) ∙ unmoved in cc
        | false ↦ λ _. refl
      ] refl

  -- so it is owned as at first, after any part of the log
  pub owner_is : (front rest : List Note) → log ≡ front ++ rest → owner c items u front ≡ first_owner u c.routes
  owner_is front rest whole = stays c.names (order_numbered items) u (first_owner u c.routes) (installs_in front)
      (λ op among. none_takes op
      (ap (λ l. some op (installs_in l)) whole ∙ ap (some op) (installed-append front rest) ∙ some_front op (installs_in front) (installs_in rest) among))

  pub not_covered : list_any (λ k. moves_plainly u k.what && is_answered is_done (by_number answer_in log) k.op) (commands items) ≡ false
  not_covered = less_any (λ k. moves_plainly u k.what && is_answered is_done (by_number answer_in log) k.op)
      (λ k. moves_it u k.what && is_answered is_done (by_number answer_in log) k.op)
      (λ k h. plain_moves k.what (is_answered is_done (by_number answer_in log) k.op) h) (commands items) unmoved
    where
      plain : (a b d : Bool) → ((a && b) && d) ≡ true → (b && d) ≡ true
      plain true true true h = refl
      plain true true false h = h
      plain true false d h = h
      plain false b d h = cc

      plain_moves : (what : Order) (d : Bool) → (moves_plainly u what && d) ≡ true → (moves_it u what && d) ≡ true
      plain_moves (Move source destination filter keep) d h = plain (not keep) (takes filter u) d h
      plain_moves (Copy source destination filter) d h = h
      plain_moves (Share members filter) d h = h

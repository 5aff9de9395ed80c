-- Links after a step: what stands on each of them, and that there are as many.
use Rattle.std.proofs.Common.{◌≡◌, ◌≢◌, ℕ, zero, suc, ◌+◌, ◌*◌, ◌<◌, Bool, true, false, List, [], ◌∷◌, ◌++◌, length}
use Rattle.std.proofs.Common.{get_or, set, replicate, refl, sym, ap, subst, ◌∙◌, append_assoc, append-nil, arith}
use Rattle.std.specs.Prelude.{if◌then◌else◌, ◌==◌, ◌&&◌}
use Rattle.std.proofs.lemmas.Grind.{common_steps, rows}
use Rattle.std.proofs.lemmas.Bool.Decides.{nat_tests, Decides-eqb}
use Rattle.std.proofs.lemmas.Nat.{same_from_place}
use Rattle.std.proofs.lemmas.List.{get_or-set_same, get_or-set_other, length-set}
use Rattle.actor_net.specs.Network.{put_on, links_after, reaches}
use Rattle.actor_net.specs.Histories.{sent_for}
use Rattle.actor_net.proofs.WorldStepLemmas.{loop_stays}

-- nothing stands on a link that holds nothing
pub empty_link : (M : Type 0) (count i : ℕ) → get_or (replicate count (let none : List M = [] in none)) i [] ≡ []
empty_link M zero i = refl
empty_link M (suc count) zero = refl
empty_link M (suc count) (suc i) = empty_link M count i

-- what one node's sends put on a link: those for its receiver, where it is that node's and the receiver is reached
abbrev pub put_on_link : {M : Type 0} → ℕ → ℕ → ℕ → ℕ → List (ℕ × M) → List M
put_on_link n from s r sends = if (s == from) && reaches n from r then sent_for r sends else []

pub length-put_on : {M : Type 0} (n from : ℕ) (x : ℕ × M) (ls : List (List M)) → length (put_on n from x ls) ≡ length ls
length-put_on n from x ls =
    elim (reaches n from x.0) as (λ b. length (if b then set ls (from * n + x.0) (get_or ls (from * n + x.0) [] ++ x.1 ∷ []) else ls) ≡ length ls) [
      | true ↦ length-set ls (from * n + x.0) (get_or ls (from * n + x.0) [] ++ x.1 ∷ [])
      | false ↦ refl
    ]

pub length-delivered : {M : Type 0} (n from : ℕ) (sends : List (ℕ × M)) (ls : List (List M)) → length (links_after n from sends ls) ≡ length ls
length-delivered n from [] ls = refl
length-delivered n from (x ∷ xs) ls = length-delivered n from xs (put_on n from x ls) ∙ length-put_on n from x ls

pub inside : (n s r : ℕ) → s < n → r < n → s * n + r < n * n
inside n s r hs hr = grind (arith, common_steps, rows)

pub other_place : (n from to s r : ℕ) → to < n → r < n → (s ≡ from → to ≡ r → ⊥) → s * n + r ≢ from * n + to
other_place n from to s r ht hr other same = let places = same_from_place s r from to n hr ht same in other places.0 (sym places.1)

pub within : (n from to : ℕ) → reaches n from to ≡ true → to < n
within n from to is = grind (arith, nat_tests)

-- either way nothing
pub neither : {X : Type 0} (b : Bool) → ◌≡◌ {A = List X} (if b then [] else []) []
neither true = refl
neither false = refl

arrives : {M : Type 0} (n from : ℕ) (x : ℕ × M) (ls : List (List M)) (s r : ℕ) → length ls ≡ n * n → from < n → r < n → reaches n from x.0 ≡ true
    → get_or (set ls (from * n + x.0) (get_or ls (from * n + x.0) [] ++ x.1 ∷ [])) (s * n + r) []
    ≡ get_or ls (s * n + r) [] ++ put_on_link n from s r (x ∷ [])
arrives {M} n from x ls s r square hf hr is =
    let new = get_or ls (from * n + x.0) [] ++ x.1 ∷ [] in
    let there = within n from x.0 is in
    let other : (s ≡ from → x.0 ≡ r → ⊥) → get_or (set ls (from * n + x.0) new) (s * n + r) [] ≡ get_or ls (s * n + r) [] = λ no. get_or-set_other ls
    (from * n + x.0) (s * n + r) new [] (other_place n from x.0 s r there hr no) in
    elim (s == from) as (λ b. (s == from) ≡ b → get_or (set ls (from * n + x.0) new) (s * n + r) []
    ≡ get_or ls (s * n + r) [] ++ (if b && reaches n from r then (if x.0 == r then x.1 ∷ [] else []) ++ [] else [])) [
      | true ↦ λ e. elim (x.0 == r) as (λ b. (x.0 == r) ≡ b → get_or (set ls (from * n + x.0) new) (s * n + r) []
          ≡ get_or ls (s * n + r) [] ++ (if reaches n from r then (if b then x.1 ∷ [] else []) ++ [] else [])) [
            | true ↦ λ t.
                let here : s ≡ from = (Decides-eqb s from).0 e in
                let this : x.0 ≡ r = (Decides-eqb x.0 r).0 t in
                let on : reaches n from r ≡ true = subst (λ y. reaches n from y ≡ true) this is in
                let place : s * n + r ≡ from * n + x.0 = rw (here, this) refl in
                let small : from * n + x.0 < length ls = rw square (inside n from x.0 hf there) in
                rw (on, place) (get_or-set_same ls (from * n + x.0) new [] small)
            | false ↦ λ f.
                let no : s ≡ from → x.0 ≡ r → ⊥ = λ _ q. let yes = (Decides-eqb x.0 r).1 q in let never : false ≡ true = sym f ∙ yes in cc in
                rw (neither {X = M} (reaches n from r), append-nil (get_or ls (s * n + r) [])) (other no)
          ] refl
      | false ↦ λ f.
          let no : s ≡ from → x.0 ≡ r → ⊥ = λ q _. let yes = (Decides-eqb s from).1 q in let never : false ≡ true = sym f ∙ yes in cc in
          rw (append-nil (get_or ls (s * n + r) [])) (other no)
    ] refl

nothing_there : {M : Type 0} (n from : ℕ) (x : ℕ × M) (s r : ℕ) → reaches n from x.0 ≡ false → put_on_link n from s r (x ∷ []) ≡ []
nothing_there {M} n from x s r off =
    elim (x.0 == r) as (λ b. (x.0 == r) ≡ b → (if (s == from) && reaches n from r then (if b then x.1 ∷ [] else []) ++ [] else []) ≡ []) [
      | true ↦ λ t.
          let this : x.0 ≡ r = (Decides-eqb x.0 r).0 t in
          let no : reaches n from r ≡ false = subst (λ y. reaches n from y ≡ false) this off in
          rw no (elim (s == from) as (λ b. (if b && false then x.1 ∷ [] else []) ≡ []) [ true ↦ refl | false ↦ refl ])
      | false ↦ λ f. neither ((s == from) && reaches n from r)
    ] refl

-- one message more
put_one : {M : Type 0} (n from : ℕ) (x : ℕ × M) (ls : List (List M)) (s r : ℕ) → length ls ≡ n * n → from < n → r < n
    → get_or (put_on n from x ls) (s * n + r) [] ≡ get_or ls (s * n + r) [] ++ put_on_link n from s r (x ∷ [])
put_one n from x ls s r square hf hr =
    elim (reaches n from x.0)
    as (λ b. reaches n from x.0 ≡ b → get_or (if b then set ls (from * n + x.0) (get_or ls (from * n + x.0) [] ++ x.1 ∷ []) else ls) (s * n + r) []
    ≡ get_or ls (s * n + r) [] ++ put_on_link n from s r (x ∷ [])) [
      | true ↦ arrives n from x ls s r square hf hr
      | false ↦ λ off. rw (nothing_there n from x s r off, append-nil (get_or ls (s * n + r) [])) refl
    ] refl

-- one message, and then more
put_on_link_more : {M : Type 0} (n from s r : ℕ) (x : ℕ × M) (xs : List (ℕ × M))
    → put_on_link n from s r (x ∷ xs) ≡ put_on_link n from s r (x ∷ []) ++ put_on_link n from s r xs
put_on_link_more n from s r x xs =
    elim ((s == from) && reaches n from r) as (λ b. (if b then (if x.0 == r then x.1 ∷ [] else []) ++ sent_for r xs else [])
    ≡ (if b then (if x.0 == r then x.1 ∷ [] else []) ++ [] else []) ++ (if b then sent_for r xs else [])) [
      | true ↦ rw (append-nil (if x.0 == r then x.1 ∷ [] else [])) refl
      | false ↦ refl
    ]

-- all that a node sends stands at the ends of its links, and the other links are as they were
pub link_after_sends : {M : Type 0} (n from : ℕ) (sends : List (ℕ × M)) (ls : List (List M)) (s r : ℕ) → length ls ≡ n * n → from < n → r < n
    → get_or (links_after n from sends ls) (s * n + r) [] ≡ get_or ls (s * n + r) [] ++ put_on_link n from s r sends
link_after_sends n from [] ls s r square hf hr =
    rw (neither ((s == from) && reaches n from r), append-nil (get_or ls (s * n + r) [])) refl
link_after_sends n from (x ∷ xs) ls s r square hf hr =
    link_after_sends n from xs (put_on n from x ls) s r (length-put_on n from x ls ∙ square) hf hr
    ∙ ap (λ ys. ys ++ put_on_link n from s r xs) (put_one n from x ls s r square hf hr)
    ∙ append_assoc (get_or ls (s * n + r) []) (put_on_link n from s r (x ∷ [])) (put_on_link n from s r xs)
    ∙ ap (λ ys. get_or ls (s * n + r) [] ++ ys) (sym (put_on_link_more n from s r x xs))

-- the link of node 0 to itself stays as it was
loop_after_one : {M : Type 0} (n from : ℕ) (x : ℕ × M) (ls : List (List M)) → 0 < n → get_or (put_on n from x ls) 0 [] ≡ get_or ls 0 []
loop_after_one n from x ls some =
    elim (reaches n from x.0) as (λ b. reaches n from x.0 ≡ b
    → get_or (if b then set ls (from * n + x.0) (get_or ls (from * n + x.0) [] ++ x.1 ∷ []) else ls) 0 [] ≡ get_or ls 0 []) [
      | true ↦ λ is.
          let other : (x.0 == 0) && (from == 0) ≡ false = grind (arith, nat_tests) in
          loop_stays n from x.0 ls (get_or ls (from * n + x.0) [] ++ x.1 ∷ []) some other
      | false ↦ λ _. refl
    ] refl

pub loop_after_sends : {M : Type 0} (n from : ℕ) (sends : List (ℕ × M)) (ls : List (List M)) → 0 < n
    → get_or (links_after n from sends ls) 0 [] ≡ get_or ls 0 []
loop_after_sends n from [] ls some = refl
loop_after_sends n from (x ∷ xs) ls some = loop_after_sends n from xs (put_on n from x ls) some ∙ loop_after_one n from x ls some

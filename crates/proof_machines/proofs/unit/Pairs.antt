-- The machine's links as a function of pairs of nodes: the switch is 0, the controller 1, then A, B and a third instance. What a
-- step of one node leaves on them, for all pairs at once.
use Rattle.proof_machines.proofs.unit.Words.{◌≡◌, ◌≢◌, ℕ, ◌≤◌, true, false, List, [], ◌∷◌, ◌++◌, drop, refl, sym, append-nil, arith, if◌then◌else◌, ◌&&◌, ◌==◌}
use Rattle.proof_machines.proofs.unit.Words.{Item, State, cons_nil}
use Rattle.std.proofs.lemmas.Bool.Decides.{nat_tests}

-- three instances apart from each other
pub record Nodes (a b c : ℕ) : Type 0 where
  pub a_is : 2 ≤ a
  pub b_is : 2 ≤ b
  pub c_is : 2 ≤ c
  pub ab : a ≢ b
  pub ac : a ≢ c
  pub bc : b ≢ c

abbrev pub expect : {R : Type 0} → ℕ → ℕ → ℕ → State R → ℕ → ℕ → List (Item R)
expect a b c x i j =
    if i == 0 then (if j == a then x.sa else if j == b then x.sb else if j == c then x.sc else [])
    else if i == 1 then (if j == 0 then x.cs else if j == a then x.ca else if j == b then x.cb else [])
    else if j == 1 then (if i == a then x.ac else if i == b then x.bc else if i == c then x.cc else [])
    else []

-- what is left of a link, and what a node put on it
abbrev pub after_take : {X : Type 0} → ℕ → ℕ → (ℕ → ℕ → List X) → (ℕ → List X) → ℕ → ℕ → List X
after_take p y e send i j = (if (i == p) && (j == y) then drop 1 (e i j) else e i j) ++ (if i == y then send j else [])

module _ {R : Type 0} (a b c : ℕ) (n : Nodes a b c) (x : State R) (it : Item R) (v : List (Item R)) (send : ℕ → List (Item R)) where
  -- the controller takes from A
  pub ctrl_from_a : (ta tb ts : List (Item R)) → x.ac ≡ it ∷ v → send a ≡ ta → send b ≡ tb → send 0 ≡ ts → ((j : ℕ) → j ≢ a → j ≢ b → j ≢ 0 → send j ≡ [])
      → (i j : ℕ) → after_take a 1 (expect a b c x) send i j ≡ expect a b c (record x { ac = v; ca = x.ca ++ ta; cb = x.cb ++ tb; cs = x.cs ++ ts }) i j
  ctrl_from_a ta tb ts e sa sb ss none i j = grind (arith, nat_tests, append-nil, e, sa, sb, ss, none j, n.a_is, n.b_is, n.c_is, n.ab, n.ac, n.bc)

  -- the controller takes from B
  pub ctrl_from_b : (ta tb ts : List (Item R)) → x.bc ≡ it ∷ v → send a ≡ ta → send b ≡ tb → send 0 ≡ ts → ((j : ℕ) → j ≢ a → j ≢ b → j ≢ 0 → send j ≡ [])
      → (i j : ℕ) → after_take b 1 (expect a b c x) send i j ≡ expect a b c (record x { bc = v; ca = x.ca ++ ta; cb = x.cb ++ tb; cs = x.cs ++ ts }) i j
  ctrl_from_b ta tb ts e sa sb ss none i j = grind (arith, nat_tests, append-nil, e, sa, sb, ss, none j, n.a_is, n.b_is, n.c_is, n.ab, n.ac, n.bc)

  -- A takes from the switch
  pub a_from_s : (tc : List (Item R)) → x.sa ≡ it ∷ v → send 1 ≡ tc → ((j : ℕ) → j ≢ 1 → send j ≡ []) → (i j : ℕ)
      → after_take 0 a (expect a b c x) send i j ≡ expect a b c (record x { sa = v; ac = x.ac ++ tc }) i j
  a_from_s tc e sc none i j = grind (arith, nat_tests, append-nil, e, sc, none j, n.a_is, n.b_is, n.c_is, n.ab, n.ac, n.bc)

  -- A takes from the controller
  pub a_from_c : (tc : List (Item R)) → x.ca ≡ it ∷ v → send 1 ≡ tc → ((j : ℕ) → j ≢ 1 → send j ≡ []) → (i j : ℕ)
      → after_take 1 a (expect a b c x) send i j ≡ expect a b c (record x { ca = v; ac = x.ac ++ tc }) i j
  a_from_c tc e sc none i j = grind (arith, nat_tests, append-nil, e, sc, none j, n.a_is, n.b_is, n.c_is, n.ab, n.ac, n.bc)

  -- B takes from the switch
  pub b_from_s : (tc : List (Item R)) → x.sb ≡ it ∷ v → send 1 ≡ tc → ((j : ℕ) → j ≢ 1 → send j ≡ []) → (i j : ℕ)
      → after_take 0 b (expect a b c x) send i j ≡ expect a b c (record x { sb = v; bc = x.bc ++ tc }) i j
  b_from_s tc e sc none i j = grind (arith, nat_tests, append-nil, e, sc, none j, n.a_is, n.b_is, n.c_is, n.ab, n.ac, n.bc)

  -- B takes from the controller
  pub b_from_c : (tc : List (Item R)) → x.cb ≡ it ∷ v → send 1 ≡ tc → ((j : ℕ) → j ≢ 1 → send j ≡ []) → (i j : ℕ)
      → after_take 1 b (expect a b c x) send i j ≡ expect a b c (record x { cb = v; bc = x.bc ++ tc }) i j
  b_from_c tc e sc none i j = grind (arith, nat_tests, append-nil, e, sc, none j, n.a_is, n.b_is, n.c_is, n.ab, n.ac, n.bc)

  -- C takes from the switch
  pub c_from_s : (tc : List (Item R)) → x.sc ≡ it ∷ v → send 1 ≡ tc → ((j : ℕ) → j ≢ 1 → send j ≡ []) → (i j : ℕ)
      → after_take 0 c (expect a b c x) send i j ≡ expect a b c (record x { sc = v; cc = x.cc ++ tc }) i j
  c_from_s tc e sc none i j = grind (arith, nat_tests, append-nil, e, sc, none j, n.a_is, n.b_is, n.c_is, n.ab, n.ac, n.bc)

  -- the switch takes from the controller
  pub switch_from_c : (ta tb tc : List (Item R)) → x.cs ≡ it ∷ v → send a ≡ ta → send b ≡ tb → send c ≡ tc → ((j : ℕ) → j ≢ a → j ≢ b → j ≢ c → send j ≡ [])
      → (i j : ℕ) → after_take 1 0 (expect a b c x) send i j ≡ expect a b c (record x { cs = v; sa = x.sa ++ ta; sb = x.sb ++ tb; sc = x.sc ++ tc }) i j
  switch_from_c ta tb tc e sa sb sc none i j = grind (arith, nat_tests, append-nil, e, sa, sb, sc, none j, n.a_is, n.b_is, n.c_is, n.ab, n.ac, n.bc)

-- a step of which nothing is seen, at any node: what it took wasn't seen, and nor is what it sends
pub nothing_seen : {R : Type 0} (a b c : ℕ) (x : State R) (i j y : ℕ) (send : ℕ → List (Item R)) → ((j : ℕ) → send j ≡ [])
    → expect a b c x i j ++ (if i == y then send j else []) ≡ expect a b c x i j
nothing_seen a b c x i j y send none = grind (arith, nat_tests, append-nil, none j)

-- a packet comes in: the switch sends it to one side
pub arrives_at : {R : Type 0} (a b c : ℕ) (n : Nodes a b c) (x : State R) (send : ℕ → List (Item R)) (ta tb tc : List (Item R))
    → send a ≡ ta → send b ≡ tb → send c ≡ tc → ((j : ℕ) → j ≢ a → j ≢ b → j ≢ c → send j ≡ []) → (i j : ℕ)
    → expect a b c x i j ++ (if i == 0 then send j else []) ≡ expect a b c (record x { sa = x.sa ++ ta; sb = x.sb ++ tb; sc = x.sc ++ tc }) i j
arrives_at a b c n x send ta tb tc sa sb sc none i j = grind (arith, nat_tests, append-nil, sa, sb, sc, none j, n.a_is, n.b_is, n.c_is, n.ab, n.ac, n.bc)

-- the three instances that a unit's move is seen at
pub record Sides : Type 0 where
  pub source : ℕ
  pub destination : ℕ
  pub third : ℕ

-- a link, and the items on it
pub record ShownLink (R : Type 0) : Type 0 where
  pub from : ℕ
  pub to : ℕ
  pub items : List (Item R)

-- which link it was that showed an item
pub data ShownBy {R : Type 0} (n : Sides) (x : State R) (l : ShownLink R) : Type 0 where
  By_sa : l.to ≡ n.source → l.from ≡ 0 → x.sa ≡ l.items → ShownBy n x l
  By_sb : l.to ≡ n.destination → l.from ≡ 0 → x.sb ≡ l.items → ShownBy n x l
  By_sc : l.to ≡ n.third → l.from ≡ 0 → x.sc ≡ l.items → ShownBy n x l
  By_ca : l.to ≡ n.source → l.from ≡ 1 → x.ca ≡ l.items → ShownBy n x l
  By_cb : l.to ≡ n.destination → l.from ≡ 1 → x.cb ≡ l.items → ShownBy n x l
  By_ac : l.to ≡ 1 → l.from ≡ n.source → x.ac ≡ l.items → ShownBy n x l
  By_bc : l.to ≡ 1 → l.from ≡ n.destination → x.bc ≡ l.items → ShownBy n x l
  By_cc : l.to ≡ 1 → l.from ≡ n.third → x.cc ≡ l.items → ShownBy n x l
  By_cs : l.to ≡ 0 → l.from ≡ 1 → x.cs ≡ l.items → ShownBy n x l

by_test : {G : Type 0} (i j : ℕ) → (i ≡ j → (i == j) ≡ true → G) → ((i == j) ≡ false → G) → G
by_test {G = G} i j same other = elim (i == j) as (λ t. (i == j) ≡ t → G) [ true ↦ λ e. same (grind (arith, nat_tests)) e | false ↦ λ e. other e ] refl

pub shown_by : {R : Type 0} (a b c : ℕ) (n : Nodes a b c) (x : State R) (p y : ℕ) (it : Item R) (v : List (Item R)) → it ∷ v ≡ expect a b c x p y
    → ShownBy (record { source = a; destination = b; third = c }) x (record { from = p; to = y; items = it ∷ v })
shown_by a b c n x p y it v e =
    by_test p 0
    (λ p0 t0. by_test y a
    (λ ya ta. By_sa ya p0 (sym (rw (t0, ta) at e)))
    (λ na. by_test y b
    (λ yb tb. By_sb yb p0 (sym (rw (t0, na, tb) at e)))
    (λ nb. by_test y c
    (λ yc tc. By_sc yc p0 (sym (rw (t0, na, nb, tc) at e)))
    (λ nc. cons_nil (rw (t0, na, nb, nc) at e)))))
    (λ n0. by_test p 1
    (λ p1 t1. by_test y 0
    (λ y0 t. By_cs y0 p1 (sym (rw (n0, t1, t) at e)))
    (λ m0. by_test y a
    (λ ya ta. By_ca ya p1 (sym (rw (n0, t1, m0, ta) at e)))
    (λ na. by_test y b
    (λ yb tb. By_cb yb p1 (sym (rw (n0, t1, m0, na, tb) at e)))
    (λ nb. cons_nil (rw (n0, t1, m0, na, nb) at e)))))
    (λ n1. by_test y 1
    (λ y1 t. by_test p a
    (λ pa ta. By_ac y1 pa (sym (rw (n0, n1, t, ta) at e)))
    (λ na. by_test p b
    (λ pb tb. By_bc y1 pb (sym (rw (n0, n1, t, na, tb) at e)))
    (λ nb. by_test p c
    (λ pc tc. By_cc y1 pc (sym (rw (n0, n1, t, na, nb, tc) at e)))
    (λ nc. cons_nil (rw (n0, n1, t, na, nb, nc) at e)))))
    (λ m1. cons_nil (rw (n0, n1, m1) at e))))

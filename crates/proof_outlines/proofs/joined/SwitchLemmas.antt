-- What the steps of the switch have in common: what stays, and a step on a message that the abstract network doesn't see.
use Rattle.proof_outlines.proofs.Words.{◌≡◌, ◌≢◌, ℕ, zero, suc, true, false, Option, Some, None, List, [], ◌∷◌, ◌++◌, refl, sym, ap, ◌∙◌, subst, append-nil}
use Rattle.proof_outlines.proofs.Words.{arith, if◌then◌else◌, ◌&&◌, ◌==◌, Semantics, AreFilters, Order, Msg, Note, instance_node, SwitchState, stop_messages}
use Rattle.proof_outlines.proofs.Words.{less_first, EachSent, sent_for, MoveAsked, Rising, rising_less, Any, WholeWorld, EveryAll, Switch, dones_in}
use Rattle.proof_outlines.proofs.Words.{installs_in, sent-append, done-append, Unit, split}
use Rattle.std.proofs.lemmas.List.Elements.{filter_map-append}
use Rattle.proof_outlines.proofs.joined.Words.{unit_fits, want_at, want_of, is_sys, outline_all, routes_same, Given, place, target_by, Nodes, node_of, Label}
use Rattle.proof_outlines.proofs.joined.Words.{shown, S, A, asked_num, asked_nums, came_by, commands, by_node, IsSwitch, Scene, AreShown, Leads, same_grows}
use Rattle.proof_outlines.proofs.joined.Words.{instance_stays}
use Rattle.proof_outlines.proofs.joined.LogLemmas.{came_on, every_same, owners_on}

-- no command among what is sent
abbrev pub NoneAsked : {R : Type 0} → List (ℕ × Any R) → Type 0
NoneAsked [] = Prim.Unit {0}
NoneAsked (x ∷ xs) = (asked_nums (x.1 ∷ []) ≡ []) × NoneAsked xs

-- the numbers of commands among what is sent to one node
pub nums_sent : {R : Type 0} (r : ℕ) (xs : List (ℕ × Any R)) → NoneAsked xs → asked_nums (sent_for r xs) ≡ []
nums_sent r [] h = refl
nums_sent r (x ∷ xs) h = split (x.0 == r) (λ b. asked_nums (if b then x.1 ∷ sent_for r xs else sent_for r xs) ≡ [])
    (λ _. filter_map-append asked_num (x.1 ∷ []) (sent_for r xs) ∙ ap (λ v. v ++ asked_nums (sent_for r xs)) h.0 ∙ nums_sent r xs h.1) (λ _. nums_sent r xs h.1)

-- and where none is put on a link
pub nums_put : {R : Type 0} (l : List (Any R)) (r : ℕ) (xs : List (ℕ × Any R)) → NoneAsked xs → asked_nums (l ++ sent_for r xs) ≡ asked_nums l
nums_put l r xs h = filter_map-append asked_num l (sent_for r xs) ∙ ap (λ v. asked_nums l ++ v) (nums_sent r xs h) ∙ append-nil (asked_nums l)

-- a number less still rises
pub rising_without : (b k : ℕ) (xs ys : List ℕ) → Rising b (xs ++ k ∷ ys) → Rising b (xs ++ ys)
rising_without b k [] ys h = let e = h.0 in rising_less b (suc k) ys (omega (arith, e)) h.1
rising_without b k (x ∷ xs) ys h = (h.0, rising_without (suc x) k xs ys h.1)

-- what is asked for has the command's number
pub want_num : (op : ℕ) (what : Order) (place : List ℕ → Option ℕ) (w : MoveAsked) → want_of place op what ≡ Some w → w.num ≡ op
want_num op (Order.Move src dst filter keep) place w e = at_places (place src) (place dst) e
  where
    at_places : (from to : Option ℕ) → want_at op filter keep from to ≡ Some w → w.num ≡ op
    at_places (Some i) (Some j) is = let same : op ≡ w.num = cc in sym same
    at_places None to is = cc
    at_places (Some i) None is = cc
want_num op what place w e = cc

-- the switch changed, the other nodes are what they were
pub others_same : {F R : Type 0} (x : Nodes F R) (s : SwitchState) (j : ℕ) → j ≢ 0 → node_of (record x { switch = s }) j ≡ node_of x j
others_same x s zero off = absurd (off refl)
others_same x s (suc zero) off = refl
others_same x s (suc (suc i)) off = refl

module _ {R : Type 0} (f : Semantics R) (g : Given) where
  -- a switch that differs in what no route looks at
  pub same_switch : (s t : SwitchState) (to : Unit → ℕ) → t.rules ≡ s.rules → t.instances ≡ s.instances → t.site ≡ s.site → t.pool.name ≡ s.pool.name
      → IsSwitch f g s to → IsSwitch f g t to
  same_switch s t to rules instances site pool is = record {
    site = site ∙ is.site;
    instances = instances ∙ is.instances;
    filters = subst AreFilters (sym rules) is.filters;
    routes = routes_same f.kind s t to rules instances is.routes;
    pool = pool ∙ is.pool;
  }

  pub stops_labels : (k : ℕ) → EachSent (Label f g) 0 (stop_messages k)
  stops_labels zero = tt
  stops_labels (suc k) = sent-append (Label f g) 0 (stop_messages k) ((instance_node k, Msg.Stop) ∷ []) (stops_labels k) ((refl, omega arith), tt)

module _ {F R : Type 0} (f : Semantics R) (g : Given) (n : ℕ) (x : Scene F f g) (are : AreShown f g n x) where
  -- where each unit is, by a log to which nothing is added
  pub every_on : (w : WholeWorld (S f g) (A f g)) → EveryAll (S f g) (A f g) (is_sys f g.site g.packet) w (came_by f g x.log)
      → EveryAll (S f g) (A f g) (is_sys f g.site g.packet) w (came_by f g (x.log ++ []))
  every_on w h = every_same (S f g) (A f g) (is_sys f g.site g.packet) w _ _ (came_on f g n x are [] refl refl) h

  -- what holds after a step of the switch, by what it changes
  pub after : (s : SwitchState) (to : Unit → ℕ) (l : ℕ → ℕ → List (Any R)) (notes : List Note) (input : List Msg) → IsSwitch f g s to
      → EveryAll (S f g) (A f g) (is_sys f g.site g.packet) (record x.world { target = to; link = l }) (came_by f g (x.log ++ notes))
      → ((u : Unit) → unit_fits f.kind u ≡ true → to u ≡ target_by g u (installs_in (x.log ++ notes)))
      → dones_in notes ≡ [] → Rising x.world.next (asked_nums (l 0 1) ++ commands f g input) → AreShown f g n
      (record { nodes = record x.nodes { switch = s }; world = record x.world { target = to; link = l }; log = x.log ++ notes; input = input })
  after s to l notes input switch every owners none rising = record {
    switch = switch;
    controller = are.controller;
    owners = owners;
    instances = λ k two few. instance_stays f g refl refl (are.instances k two few);
    every = every;
    done_is = are.done_is ∙ ap (by_node f g) (sym (done-append x.log notes ∙ ap (λ v. dones_in x.log ++ v) none ∙ append-nil (dones_in x.log)));
    rising = rising;
  }

  -- a step that the abstract network doesn't see
  pub quiet : (p : ℕ) (m : Msg) (s : SwitchState) (sends : List (ℕ × Msg)) → shown f g m ≡ None
      → outline_all f (place g) sends ≡ [] → EachSent (Label f g) 0 sends → IsSwitch f g s x.world.target
      → Rising x.world.next (asked_nums (x.world.link 0 1) ++ commands f g (less_first ((0 == 0) && (0 == p)) x.input))
      → Leads f g n x (record { node = 0; port = p; message = m }) (record { node = Switch s; sends = sends; notes = [] })
  quiet p m s sends unseen nothing labels switch rising = record {
    nodes = record x.nodes { switch = s };
    own = refl;
    others = others_same x.nodes s;
    world = x.world;
    links = λ i j. rw (unseen, nothing) (elim (i == 0) as (λ b. x.world.link i j ≡ x.world.link i j ++ (if b then [] else []))
        [ true ↦ sym (append-nil (x.world.link i j)) | false ↦ sym (append-nil (x.world.link i j)) ]);
    labels = labels;
    grows = same_grows m x.world.next;
    shown_is = after s x.world.target x.world.link [] _ switch (every_on x.world are.every) (owners_on f g n x are [] refl) refl rising;
  }

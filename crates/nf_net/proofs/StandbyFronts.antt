-- Fronts of what was processed of a unit, by its packets: what stands by at an instance in a world of a run, and what is live there, is the record of
-- one; and what sees more in the whole world that shows it has seen a front that goes on from the older.
use Rattle.nf_net.proofs.Words.{◌≡◌, ℕ, ◌<◌, ◌≤◌, true, false, Option, Some, None, List, [], ◌∷◌, ◌++◌, length, refl, sym, ap, ◌∙◌, subst, arith, if◌then◌else◌}
use Rattle.nf_net.proofs.Words.{nat_lt, slice_get, nat_tests, slice_get-get_or, slice_get_past, Semantics, kept_after, is_transport, Msg, Note, instance_node}
use Rattle.nf_net.proofs.Words.{Network, Ran, done_u, ran_of, packets_done, live_front, fold_packets, Sees_more, Config, Node, packet_numbered, dones_in}
use Rattle.nf_net.proofs.Words.{IsFront, processed_of, live_in, live_at, standby_in, standby_at, done-append, is_sys, Given, S, A, by_node, came_by, Scene}
use Rattle.nf_net.proofs.Words.{AreShown, IsInstanceAt, Joined, went_same, given, Unit, Instance, split, Setting}
use Rattle.std.specs.FinMap as finite
use Rattle.std.proofs.lemmas.List.Sums.{fold-append}
use Rattle.proof_machines.proofs.share.Share as share
use Rattle.proof_machines.proofs.share.Stages as stages
use Rattle.proof_machines.proofs.share.Stages.{packets}
use Rattle.proof_machines.proofs.whole.FrontPackets.{front_packets}
use Rattle.proof_machines.proofs.whole.Fronts.{FrontOf}
use Rattle.net_world.specs.Fold.{fold}
use Rattle.nf_net.proofs.RunWords.{instance_of, fold_is}
use Rattle.nf_net.proofs.FrontLemmas.{front_same, front_more}
use Rattle.nf_net.proofs.OutputLemmas.{numbers, numbers-append}

module _ {R : Type 0} (f : Semantics R) (c : Config) (items : List Msg) where
  abbrev kept_of : List ℕ → Option R
  kept_of ps = fold f c items None ps

  -- what is kept is what one instance that nothing moved keeps after a front of these packets
  pub record IsOfFront (all : List ℕ) (kept : Option R) : Type 0 where
    pub front : List ℕ
    pub is_front : IsFront front all
    pub folds : kept_of front ≡ kept

  -- and later it is that after a front that goes on from the first
  pub record SeesMore (all : List ℕ) (old new : Option R) : Type 0 where
    pub before : List ℕ
    pub since : List ℕ
    pub old_is : kept_of before ≡ old
    pub new_is : kept_of since ≡ new
    pub behind : IsFront before since
    pub within : IsFront since all

  pub none_of_front : (all : List ℕ) → IsOfFront all None
  none_of_front all = record { front = []; is_front = record { rest = all; whole = refl }; folds = refl }

  of_front_more : (all more : List ℕ) (kept : Option R) → IsOfFront all kept → IsOfFront (all ++ more) kept
  of_front_more all more kept h = record { front = h.front; is_front = front_more h.front all more h.is_front; folds = h.folds }

  pub sees_same : (all : List ℕ) (kept : Option R) → IsOfFront all kept → SeesMore all kept kept
  sees_same all kept h = record { before = h.front; since = h.front; old_is = h.folds; new_is = h.folds; behind = front_same h.front; within = h.is_front }

  -- what was processed of a unit goes on with the log
  pub went_more : (u : Unit) (log notes : List Note)
      → processed_of f c items u (log ++ notes) ≡ processed_of f c items u log ++ processed_of f c items u notes
  went_more u log notes = ap (numbers f c items u) (done-append log notes) ∙ numbers-append f c items u (dones_in log) (dones_in notes)

  pub later : (u : Unit) (log notes : List Note) (kept : Option R) → IsOfFront (processed_of f c items u log) kept
      → IsOfFront (processed_of f c items u (log ++ notes)) kept
  later u log notes kept h =
      subst (λ all. IsOfFront all kept) (sym (went_more u log notes)) (of_front_more (processed_of f c items u log) (processed_of f c items u notes) kept h)

  -- what a record was folded to stays one as more is folded
  fold_some : (r : R) (ps : List ℕ) → (s : R) × (fold f c items (Some r) ps ≡ Some s)
  fold_some r [] = (r, refl)
  fold_some r (p ∷ ps) =
      let stepped : R = (f.stepped c.site (Some r) (packet_numbered items p)).kept in
      elim (is_transport (packet_numbered items p).proto) as (λ b. (s : R) × (fold f c items (if b then Some stepped else Some r) ps ≡ Some s))
      [ true ↦ fold_some stepped ps | false ↦ fold_some r ps ]

  -- so a record that was there is there later
  pub still_some : (before since : List ℕ) (r : R) → IsFront before since → kept_of before ≡ Some r → (s : R) × (kept_of since ≡ Some s)
  still_some before since r h e =
      let more = fold_some r h.rest in (
        more.0,
        ap kept_of (sym h.whole) ∙ fold-append (λ k p. kept_after f c.site k (packet_numbered items p)) None before h.rest
            ∙ ap (λ k. fold f c items k h.rest) e ∙ more.1,
      )

module _ {F R : Type 0} (setting : Setting F R) where
  open setting use {function as f, config as c, items}

  abbrev g : Given
  g = given setting

  -- the same of what the whole world has done
  to_front : (xs ys : List Ran) → stages.IsFront xs ys → IsFront (packets xs) (packets ys)
  to_front xs ys h = let p = front_packets xs ys h in record { rest = p.0; whole = sym p.1 }

  to_kept : (seen : List Ran) (r : Option R) → r ≡ share.runs (S f g).F None seen → fold f c items None (packets seen) ≡ r
  to_kept seen r h = fold_is setting None (packets seen) ∙ sym (fold_packets (S f g).F None seen) ∙ sym h

  module _ (u : Unit) (log : List Note) (ds : List (ℕ × ℕ)) (at : ds ≡ by_node f g (dones_in log)) where
    went_is : packets (ran_of (S f g) (A f g) u ds) ≡ processed_of f c items u log
    went_is = packets_done (S f g) (A f g) u ds ∙ ap (done_u (S f g) u) at ∙ went_same setting u (dones_in log)

    within_log : (seen : List Ran) → stages.IsFront seen (ran_of (S f g) (A f g) u ds) → IsFront (packets seen) (processed_of f c items u log)
    within_log seen h = subst (λ all. IsFront (packets seen) all) went_is (to_front seen (ran_of (S f g) (A f g) u ds) h)

    pub of_front : (r : Option R) → FrontOf (S f g) (A f g) (is_sys f g.site g.packet) u (ran_of (S f g) (A f g) u ds) r
        → IsOfFront f c items (processed_of f c items u log) r
    of_front r h = record { front = packets h.seen; is_front = within_log h.seen h.front; folds = to_kept h.seen r h.fold }

    pub sees_more : (old new : Option R) → Sees_more (S f g) (A f g) (is_sys f g.site g.packet) u (ran_of (S f g) (A f g) u ds) old new
        → SeesMore f c items (processed_of f c items u log) old new
    sees_more old new h = record {
      before = packets h.before;
      since = packets h.since;
      old_is = to_kept h.before old h.old_is;
      new_is = to_kept h.since new h.new_is;
      behind = to_front h.before h.since h.behind;
      within = within_log h.since h.within;
    }

  module _ (n : ℕ) where
    -- what stands by at an instance
    pub instance_front : (x : Scene F f g) → AreShown f g n x → (k : ℕ) → IsInstanceAt f g k (x.nodes.instance k) x.world → (u : Unit)
        → IsOfFront f c items (processed_of f c items u x.log) (finite.get (x.nodes.instance k).table.standby u)
    instance_front x are k at u = of_front u x.log x.world.done are.done_is (finite.get (x.nodes.instance k).table.standby u)
        (subst (λ o. FrontOf (S f g) (A f g) (is_sys f g.site g.packet) u (ran_of (S f g) (A f g) u x.world.done) o)
        (sym (ap (λ t. finite.get t u) at.standby_is)) ((are.every.fronts u).standby k))

    -- and what is live there
    live_front_at : (x : Scene F f g) → AreShown f g n x → (k : ℕ) → IsInstanceAt f g k (x.nodes.instance k) x.world → (u : Unit)
        → IsOfFront f c items (processed_of f c items u x.log) (finite.get (x.nodes.instance k).table.live u)
    live_front_at x are k at u = of_front u x.log x.world.done are.done_is (finite.get (x.nodes.instance k).table.live u)
        (subst (λ o. FrontOf (S f g) (A f g) (is_sys f g.site g.packet) u (ran_of (S f g) (A f g) u x.world.done) o) (sym (ap (λ y. finite.get y.live u)
        at.outline_is)) (live_front (S f g) (A f g) (is_sys f g.site g.packet) u x.world (came_by f g x.log u) are.every.global (are.every.unit u) k))

    -- In a world of a run.
    module _ (w : Network (Node F R) Msg Note) (count : length w.nodes ≡ n) (j : Joined f g n w) where
      -- what holds of each instance and of none holds of what is at a place
      at_place : (i : ℕ) (P : Option (Node F R) → Type 0) → P None → ((k : ℕ) → 2 ≤ k → k < n → P (Some (Instance (j.nodes.instance k))))
          → P (slice_get w.nodes (instance_node i))
      at_place i P none some = split (nat_lt (instance_node i) n) (λ _. P (slice_get w.nodes (instance_node i)))
          (λ on.
          let few : instance_node i < n = grind (arith, nat_tests, on) in
          let node = Instance (j.nodes.instance (instance_node i)) in
          let there : slice_get w.nodes (instance_node i) ≡ Some node = slice_get-get_or w.nodes (instance_node i) node (rw count few)
          ∙ ap Some (j.nodes_are (instance_node i) few node ∙ instance_of j.nodes (instance_node i) (omega arith)) in
          subst P (sym there) (some (instance_node i) (omega arith) few))
          (λ off.
          let past : length w.nodes ≤ instance_node i = grind (arith, nat_tests, off, count) in
          subst P (sym (slice_get_past w.nodes (instance_node i) past)) none)

      pub stands_front : (i : ℕ) (u : Unit) → IsOfFront f c items (processed_of f c items u w.log) (standby_at w i u)
      stands_front i u = at_place i (λ o. IsOfFront f c items (processed_of f c items u w.log) (standby_in u o))
          (none_of_front f c items (processed_of f c items u w.log)) (λ k two few. instance_front _ j.shown_is k (j.shown_is.instances k two few) u)

      pub lives_front : (i : ℕ) (u : Unit) → IsOfFront f c items (processed_of f c items u w.log) (live_at w i u)
      lives_front i u = at_place i (λ o. IsOfFront f c items (processed_of f c items u w.log) (live_in u o))
          (none_of_front f c items (processed_of f c items u w.log)) (λ k two few. live_front_at _ j.shown_is k (j.shown_is.instances k two few) u)

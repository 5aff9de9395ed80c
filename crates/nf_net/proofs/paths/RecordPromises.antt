-- The live record of a unit that no share has is the fold of what was processed of it, and it stands at one instance.
use Rattle.nf_net.proofs.Words.{◌≡◌, ℕ, zero, suc, ◌<◌, ◌≤◌, Option, Some, None, List, [], ◌∷◌, ◌++◌, length, refl, sym, ap, ◌∙◌, arith, if◌then◌else◌, ◌==◌}
use Rattle.nf_net.proofs.Words.{slice_get, option_to_list, Decides-eqb, slice_get_within, get_or_from_slice_get, Msg, Note, instance_node, Network, State, idle}
use Rattle.nf_net.proofs.Words.{Kept, Sys, World, Seeing, node_at, done_u, moves_of, Where, Node, Switch, Controller, is_loose, arrived_of, live_in, live_at}
use Rattle.nf_net.proofs.Words.{is_sys, given, Given, WhereAll, Apart_from_shares, Under_share, S, A, came_by, node_of, Joined, Unit, Instance, split}
use Rattle.nf_net.proofs.Words.{either_way, Setting}
use Rattle.std.specs.FinMap as finite
use Rattle.proof_machines.proofs.unit.Kept.{Kept.Nowhere, Kept.Is_live, Kept.On_way, Kept.Twice, lives, on_way}
use Rattle.proof_machines.proofs.net.Readings.{fold, RecordOf, record_of}
use Rattle.proof_outlines.proofs.joined.Joined.{Nodes}

-- where the machine has a record of the unit
data LivesAt {R : Type 0} (z : Seeing) (x : State R) (k : ℕ) (r : R) : Type 0 where
  In_a : k ≡ z.op.src → x.a.live ≡ Some r → LivesAt z x k r
  In_b : k ≡ z.op.dst → x.b.live ≡ Some r → LivesAt z x k r
  In_c : k ≡ z.third → x.c.live ≡ Some r → LivesAt z x k r

lives_at : {R : Type 0} (S : Sys R) (z : Seeing) (x : State R) (k : ℕ) (r : R) → (node_at S z x k).live ≡ Some r → LivesAt z x k r
lives_at S z x k r =
    split (k == z.op.src) (λ b. (if b then x.a else if k == z.op.dst then x.b else if k == z.third then x.c else idle None).live ≡ Some r → LivesAt z x k r)
    (λ e h. In_a ((Decides-eqb k z.op.src).0 e) h)
    (λ _. split (k == z.op.dst) (λ b. (if b then x.b else if k == z.third then x.c else idle None).live ≡ Some r → LivesAt z x k r)
    (λ e h. In_b ((Decides-eqb k z.op.dst).0 e) h)
    (λ _. split (k == z.third) (λ b. (if b then x.c else idle None).live ≡ Some r → LivesAt z x k r) (λ e h. In_c ((Decides-eqb k z.third).0 e) h)
    (λ _ h. cc)))

-- at most one of three, and it is the fold
record IsOne {R : Type 0} (o : Option R) (a b c : Option R) : Type 0 where
  is_a : (r : R) → a ≡ Some r → (o ≡ Some r) × (b ≡ None) × (c ≡ None)
  is_b : (r : R) → b ≡ Some r → (o ≡ Some r) × (a ≡ None) × (c ≡ None)
  is_c : (r : R) → c ≡ Some r → (o ≡ Some r) × (a ≡ None) × (b ≡ None)

-- a list with nothing, or with the fold alone
data AtMost {R : Type 0} (o : Option R) (xs : List R) : Type 0 where
  Empty : xs ≡ [] → AtMost o xs
  One : (r : R) → o ≡ Some r → xs ≡ r ∷ [] → AtMost o xs

at_most : {R : Type 0} (o at_a : Option R) (live way : List R) → Kept o at_a live way → AtMost o live
at_most o at_a live way (Nowhere e l y) = Empty l
at_most o at_a live way (Is_live r e l y) = One r e l
at_most o at_a live way (On_way r e l y) = Empty l
at_most o at_a live way (Twice r e a l y) = One r e l

is_one : {R : Type 0} (o a b c : Option R) → AtMost o (option_to_list a ++ (option_to_list b ++ option_to_list c)) → IsOne o a b c
is_one o None None None h = record { is_a = λ r e. cc; is_b = λ r e. cc; is_c = λ r e. cc }
is_one o (Some x) None None (Empty e) = cc
is_one o (Some x) None None (One r e l) = record { is_a = λ s q. ((let same : r ≡ s = cc in e ∙ ap Some same), refl, refl); is_b = λ s q. cc; is_c = λ s q. cc }
is_one o None (Some x) None (Empty e) = cc
is_one o None (Some x) None (One r e l) = record { is_a = λ s q. cc; is_b = λ s q. ((let same : r ≡ s = cc in e ∙ ap Some same), refl, refl); is_c = λ s q. cc }
is_one o None None (Some x) (Empty e) = cc
is_one o None None (Some x) (One r e l) = record { is_a = λ s q. cc; is_b = λ s q. cc; is_c = λ s q. ((let same : r ≡ s = cc in e ∙ ap Some same), refl, refl) }
is_one o a b c (Empty e) = cc
is_one o a b c (One r e l) = cc

pub instance_of : {F R : Type 0} (x : Nodes F R) (k : ℕ) → 2 ≤ k → node_of x k ≡ Instance (x.instance k)
instance_of x zero two = absurd (omega (arith, two))
instance_of x (suc zero) two = absurd (omega (arith, two))
instance_of x (suc (suc i)) two = refl

module _ {F R : Type 0} (setting : Setting F R) (n : ℕ) (w : Network (Node F R) Msg Note) (count : length w.nodes ≡ n)
    (j : Joined setting.function (given setting) n w) (u : Unit) where
  -- what is live at an instance is so in the world that shows it
  live_in_world : (i : ℕ) (r : R) → live_at w i u ≡ Some r → finite.get (j.world.inst (instance_node i)).live u ≡ Some r
  live_in_world i r h = by_node (slice_get w.nodes (instance_node i)) refl h
    where
      by_node : (o : Option (Node F R)) → slice_get w.nodes (instance_node i) ≡ o → live_in u o ≡ Some r
          → finite.get (j.world.inst (instance_node i)).live u ≡ Some r
      by_node None e k = cc
      by_node (Some (Switch s)) e k = cc
      by_node (Some (Controller s)) e k = cc
      by_node (Some (Instance s)) e k =
          let few : instance_node i < n = (let there = slice_get_within w.nodes (instance_node i) (Instance s) e in rw (← count) there) in
          let got : Instance (j.nodes.instance (instance_node i)) ≡ Instance s = sym (instance_of j.nodes (instance_node i) (omega arith))
          ∙ sym (j.nodes_are (instance_node i) few (Instance s)) ∙ get_or_from_slice_get w.nodes (instance_node i) (Instance s) (Instance s) e in
          let same : j.nodes.instance (instance_node i) ≡ s = cc in
          ap (λ x. finite.get x.live u) (sym (j.shown_is.instances (instance_node i) (omega arith) few).outline_is)
          ∙ ap (λ x. finite.get x.table.live u) same ∙ k

module _ {F R : Type 0} (setting : Setting F R) (n : ℕ) (w : Network (Node F R) Msg Note) (count : length w.nodes ≡ n)
    (j : Joined setting.function (given setting) n w) (u : Unit)
    (at : Where (S setting.function (given setting)) (is_sys setting.function (given setting).site (given setting).packet) u
    (moves_of (S setting.function (given setting)) (A setting.function (given setting)) j.world)
    (arrived_of setting.function setting.config setting.items u w.log) (is_loose setting.config setting.items u w.log)) where
  open setting use {function as f, config as c, items}

  abbrev gr : Given
  gr = given setting

  abbrev moves : World (S f gr)
  moves = moves_of (S f gr) (A f gr) j.world

  abbrev its : Sys R
  its = S f gr

  shown_record : RecordOf its (is_sys f gr.site gr.packet) u moves
  shown_record = record_of its (is_sys f gr.site gr.packet) u moves (arrived_of f c items u w.log) (is_loose c items u w.log) j.shown_is.every.global.moves at

  one : IsOne (fold its.F None (done_u its u j.world.done)) shown_record.state.a.live shown_record.state.b.live shown_record.state.c.live
  one = is_one (fold its.F None (done_u its u j.world.done)) shown_record.state.a.live shown_record.state.b.live shown_record.state.c.live (at_most
      (fold its.F None (done_u its u j.world.done)) shown_record.state.a.live (lives shown_record.state) (on_way shown_record.state) shown_record.kept)

  -- what a world has at an instance, its state of the machine has
  live_shown : (i : ℕ) (r : R) → live_at w i u ≡ Some r → LivesAt shown_record.seeing shown_record.state (instance_node i) r
  live_shown i r h = lives_at its shown_record.seeing shown_record.state (instance_node i) r
      (sym (shown_record.tables (instance_node i)) ∙ live_in_world setting n w count j u i r h)

  pub record_is : (i : ℕ) (r : R) → live_at w i u ≡ Some r → fold its.F None (done_u its u j.world.done) ≡ Some r
  record_is i r h = by_place (live_shown i r h)
    where
      by_place : LivesAt shown_record.seeing shown_record.state (instance_node i) r → fold its.F None (done_u its u j.world.done) ≡ Some r
      by_place (In_a k e) = (one.is_a r e).0
      by_place (In_b k e) = (one.is_b r e).0
      by_place (In_c k e) = (one.is_c r e).0

  one_place_apart : (i k : ℕ) (r s : R) → live_at w i u ≡ Some r → live_at w k u ≡ Some s → i ≡ k
  one_place_apart i k r s hi hk = by_places (live_shown i r hi) (live_shown k s hk)
    where
      same : (m : ℕ) → instance_node i ≡ m → instance_node k ≡ m → i ≡ k
      same m a b = omega (arith, a, b)

      never : (o : Option R) (x : R) → o ≡ Some x → o ≡ None → i ≡ k
      never o x a b = let bad = sym a ∙ b in cc

      by_places : LivesAt shown_record.seeing shown_record.state (instance_node i) r → LivesAt shown_record.seeing shown_record.state (instance_node k) s
          → i ≡ k
      by_places (In_a a e) (In_a b d) = same shown_record.seeing.op.src a b
      by_places (In_b a e) (In_b b d) = same shown_record.seeing.op.dst a b
      by_places (In_c a e) (In_c b d) = same shown_record.seeing.third a b
      by_places (In_a a e) (In_b b d) = never shown_record.state.b.live s d (one.is_a r e).1
      by_places (In_a a e) (In_c b d) = never shown_record.state.c.live s d (one.is_a r e).2
      by_places (In_b a e) (In_a b d) = never shown_record.state.a.live s d (one.is_b r e).1
      by_places (In_b a e) (In_c b d) = never shown_record.state.c.live s d (one.is_b r e).2
      by_places (In_c a e) (In_a b d) = never shown_record.state.a.live s d (one.is_c r e).1
      by_places (In_c a e) (In_b b d) = never shown_record.state.b.live s d (one.is_c r e).2

-- No unit has two live records.
module _ {F R : Type 0} (setting : Setting F R) (n : ℕ) (w : Network (Node F R) Msg Note) (count : length w.nodes ≡ n)
    (j : Joined setting.function (given setting) n w) (u : Unit) where
  open setting use {function as f}

  abbrev g : Given
  g = given setting

  pub one_place : (i k : ℕ) (r s : R) → live_at w i u ≡ Some r → live_at w k u ≡ Some s → i ≡ k
  one_place i k r s hi hk = by_where (j.shown_is.every.unit u)
    where
      by_where : WhereAll (S f g) (A f g) (is_sys f g.site g.packet) u j.world (came_by f g w.log u) → i ≡ k
      by_where (Apart_from_shares h none) = one_place_apart setting n w count j u h.is i k r s hi hk
      by_where (Under_share x before b h o fl) = omega (arith, at_home i r hi, at_home k s hk)
        where
          -- under a share it is at the home
          at_home : (m : ℕ) (y : R) → live_at w m u ≡ Some y → instance_node m ≡ x.home
          at_home m y live = either_way (instance_node m == x.home) (λ on. (Decides-eqb (instance_node m) x.home).0 on)
              (λ off. (let never : None ≡ Some y = sym (h.away (instance_node m) off) ∙ live_in_world setting n w count j u m y live in cc))

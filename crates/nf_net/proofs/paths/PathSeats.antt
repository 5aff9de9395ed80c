-- A seat that shows where a unit that no share has is in a world of a run, with nodes that are there; and what the world has of the unit on each
-- link and at each instance, by that seat.
use Rattle.nf_net.proofs.Words.{◌≡◌, ℕ, suc, ◌+◌, ◌*◌, ◌<◌, ◌≤◌, Bool, true, false, Option, Some, None, List, [], ◌++◌, length, get_or, refl, sym, ap, ◌∙◌}
use Rattle.nf_net.proofs.Words.{subst, arith, if◌then◌else◌, ◌==◌, ◌&&◌, nat_lt, slice_get, filter, filter_map, flat_map, nat_tests, Decides-ltb}
use Rattle.nf_net.proofs.Words.{slice_get-get_or, filter-append, Semantics, stored_of, Msg, Note, instance_node, Operation, Move, Copy, Share, Network, on_link}
use Rattle.nf_net.proofs.Words.{queue_at, at, EachOn, At_a, At_b, State, IsOrderedAs, Each, Op, only_mine, expect, passes_in, events_in, UnitSeat, seat_shape}
use Rattle.nf_net.proofs.Words.{seat_all, for_switch, list_all, Open, find_op, find_rule, held_of, seen, Seeing, frame, node_at, RuleLabel, EachNew, olds}
use Rattle.nf_net.proofs.Words.{OpenShare, moves_of, NoShare, Config, Node, is_loose, passed_in, carried_in, forwarded_in, handed_over_in, diverted_in, held_by}
use Rattle.nf_net.proofs.Words.{arrived_of, Sees, but_shares, is_sys, Given, place, S, A, Label, FromSwitch, ToSwitch, ToController, shown, Joined, given, Unit}
use Rattle.nf_net.proofs.Words.{Instance, split, Setting}
use Rattle.std.specs.FinMap as finite
use Rattle.proof_machines.proofs.unit.Kept.{on_way}
use Rattle.proof_machines.proofs.unit.Path.{carries, forwards, no_passes}
use Rattle.proof_machines.proofs.unit.Between.{seat_at}
use Rattle.proof_machines.proofs.net.Holding.{IsController, Holds}
use Rattle.proof_machines.proofs.net.Units.{Where.At_rest, Where.In_move, see, shown_rest}
use Rattle.net_world.specs.Path.{numbers}
use Rattle.nf_net.proofs.paths.PathLinks.{view, AreRead, are_read, no_passes as no_passed, no_events, no_forwards, no_diverts}
use Rattle.nf_net.proofs.paths.PathNodes.{held_is}
use Rattle.nf_net.proofs.paths.PathSums.{those-all}
use Rattle.nf_net.proofs.paths.RecordPromises.{instance_of}
use Rattle.nf_net.proofs.paths.Reached.{Reached, IsApart, AsMoves, HoldsAt}

-- a node that is there, or of which there is nothing
pub data There (n k : ℕ) (xs : List ℕ) : Type 0 where
  Is_there : k < n → There n k xs
  Has_none : xs ≡ [] → There n k xs

swap_false : (a b : Bool) → a && b ≡ false → b && a ≡ false
swap_false true true e = cc
swap_false true false e = refl
swap_false false true e = refl
swap_false false false e = refl

pub there : (c : Config) (n : ℕ) → n ≡ length c.names + 2 → (i : ℕ) → nat_lt i (length c.names) ≡ true → instance_node i < n
there c n count i e = let few = (Decides-ltb i (length c.names)).0 e in omega (arith, few, count)

module _ {F R : Type 0} (setting : Setting F R) (n : ℕ) (count : n ≡ length setting.config.names + 2) (w : Network (Node F R) Msg Note)
    (j : Joined setting.function (given setting) n w) where
  open setting use {function as f, config as c}

  abbrev its_given : Given
  its_given = given setting

  -- both sides of an open move are among the nodes
  pub sides : (k : ℕ) (e : Open R) → find_op j.world.ops k ≡ Some e → (e.op.src < n) × (e.op.dst < n)
  sides k e found = by_got (finite.get j.nodes.controller.operations k) refl (subst (λ o. Sees f (place its_given) o
      (but_shares (finite.get j.nodes.controller.operations k)) (stored_of j.nodes.controller.store k)) found (j.shown_is.controller.opens k).move)
    where
      by_got : (o : Option Operation) → finite.get j.nodes.controller.operations k ≡ o
          → Sees f (place its_given) (Some e) (but_shares o) (stored_of j.nodes.controller.store k) → (e.op.src < n) × (e.op.dst < n)
      by_got None got h = absurd h
      by_got (Some (Copy y)) got h = absurd h
      by_got (Some (Share s)) got h = absurd h
      by_got (Some (Move m)) got h =
          let move = j.shown_is.controller.moves k m got in
          (subst (λ o. o.src < n) (sym h.op) (there c n count m.plan.from move.from), subst (λ o. o.dst < n) (sym h.op) (there c n count m.plan.to move.to))

module _ {F R : Type 0} (f : Semantics R) (g : Given) (n : ℕ) (w : Network (Node F R) Msg Note) (nodes : length w.nodes ≡ n) (j : Joined f g n w) where
  -- an instance is where its number says
  pub found_instance : (k : ℕ) → 2 ≤ k → k < n → slice_get w.nodes k ≡ Some (Instance (j.nodes.instance k))
  found_instance k two few =
      let node = Instance (j.nodes.instance k) in
      slice_get-get_or w.nodes k node (rw nodes few) ∙ ap Some (j.nodes_are k few node ∙ instance_of j.nodes k two)

module _ {F R : Type 0} (here : Reached F R) where
  open here use {setting, n, count, w, nodes, j, world}
  open setting use {function as f, config as c, items}

  abbrev g : Given
  g = given setting

  -- the move of a seat is open, between two of the nodes; or the unit is at rest, where nothing of it is on its way
  pub data HasSides (op : Op) (x : State R) : Type 0 where
    Are_there : (e : Open R) → find_op j.world.ops op.num ≡ Some e → op.src < n → op.dst < n → HasSides op x
    Rests : on_way x ≡ [] → x.b.live ≡ None → x.target ≡ At_a → HasSides op x

  -- The seat of a unit that no share has.
  pub record Seated (u : Unit) : Type 0 where
    pub op : Op
    pub third : ℕ
    pub seat : UnitSeat (S f g).F
    pub flag : Bool
    pub holds : Holds (S f g) (see (S f g) (is_sys f g.site g.packet) u op third) (moves_of (S f g) (A f g) j.world) (seat_shape (S f g).F seat)
    pub order : IsOrderedAs flag (seat_all seat) (arrived_of f c items u w.log)
    pub flag_is : flag ≡ true → is_loose c items u w.log ≡ true
    pub passes_a : There n op.src (passes_in (seat_shape (S f g).F seat).sa)
    pub passes_b : There n op.dst (passes_in (seat_shape (S f g).F seat).sb)
    pub events_a : There n op.src (events_in (seat_shape (S f g).F seat).ac)
    pub source : (seat_shape (S f g).F seat).target ≡ At_b → op.src < n
    pub ends : HasSides op (seat_shape (S f g).F seat)

  pub seated : (u : Unit) → AsMoves here u → Seated u
  seated u at = by_where at
    where
      by_where : AsMoves here u → Seated u
      by_where (At_rest owner d l b h o fl) = record {
        op = record { num = j.world.next; src = owner; dst = suc owner; keep = true };
        third = suc (suc owner);
        seat = seat_at (S f g).F At_a d l true;
        flag = b;
        holds = shown_rest (S f g) (is_sys f g.site g.packet) u (moves_of (S f g) (A f g) j.world) j.world.next owner d l j.shown_is.every.global.moves
            (omega arith) h;
        order = o;
        flag_is = fl;
        passes_a = Has_none (no_passes R l);
        passes_b = Has_none refl;
        events_a = Has_none refl;
        source = λ e. cc;
        ends = Rests refl refl refl;
      }
      by_where (In_move op third e s b found h o fl k) =
          let at : e.op ≡ op = (subst (λ x. IsController (S f g) (see (S f g) (is_sys f g.site g.packet) u op third) x (seat_shape (S f g).F s)) found
          h.ctrl).0 in
          let both = sides setting n count w j op.num e found in
          let src : op.src < n = subst (λ o. o.src < n) at both.0 in
          let dst : op.dst < n = subst (λ o. o.dst < n) at both.1 in
          record {
            op = op;
            third = third;
            seat = s;
            flag = b;
            holds = h;
            order = o;
            flag_is = fl;
            passes_a = Is_there src;
            passes_b = Is_there dst;
            events_a = Is_there src;
            source = λ _. src;
            ends = Are_there e found src dst;
          }

  -- Links.
  on_is : (s r : ℕ) → (s == 0) && (r == 0) ≡ false → queue_at w (at r s) ≡ on_link w s r
  on_is s r off = let turned : (r == 0) && (s == 0) ≡ false = swap_false (s == 0) (r == 0) off in rw turned refl

  pub labels : (s r : ℕ) → s < n → r < n → (s == 0) && (r == 0) ≡ false → EachOn (Label f g s r) (on_link w s r)
  labels s r hs hr off = subst (EachOn (Label f g s r)) (on_is s r off) (j.labels s r (rw nodes hs) (rw nodes hr))

  -- nothing is on the switch's link to itself
  pub loop_is : on_link w 0 0 ≡ []
  loop_is = let some = world.some_node in
      let on : nat_lt 0 (length w.nodes) ≡ true = (Decides-ltb 0 (length w.nodes)).1 some in
      let first : 0 * length w.nodes + 0 ≡ 0 = omega arith in rw on (ap (λ v. get_or w.links v []) first ∙ world.no_loop)

  -- and the abstract network has what they show
  pub link_shown : (s r : ℕ) → s < n → r < n → (s == 0) && (r == 0) ≡ false → j.world.link s r ≡ filter_map (shown f g) (on_link w s r)
  link_shown s r hs hr off = j.links s r hs hr off ∙ ap (filter_map (shown f g)) (on_is s r off)

  -- what holds of an empty link, and of each but the loop, holds of each
  pub on_each : (P : List Msg → Type 0) → P [] → (s r : ℕ) → ((s == 0) && (r == 0) ≡ false → P (on_link w s r)) → P (on_link w s r)
  on_each P empty s r other = split ((s == 0) && (r == 0)) (λ _. P (on_link w s r))
      (λ on.
      let zs : s ≡ 0 = grind (arith, nat_tests) in
      let zr : r ≡ 0 = grind (arith, nat_tests) in
      subst P (sym (ap (λ v. on_link w v r) zs ∙ ap (λ v. on_link w 0 v) zr ∙ loop_is)) empty) (λ off. other off)

  pub none_on : (mine : ℕ → Bool) (s r : ℕ) (of : Msg → List ℕ)
      → ((s == 0) && (r == 0) ≡ false → filter mine (flat_map of (on_link w s r)) ≡ []) → filter mine (flat_map of (on_link w s r)) ≡ []
  none_on mine s r of = on_each (λ ms. filter mine (flat_map of ms) ≡ []) refl s r

  -- and whose messages say nothing of the kind
  none_else : (mine : ℕ → Bool) (s r : ℕ) (of : Msg → List ℕ) → ((s == 0) && (r == 0) ≡ false → flat_map of (on_link w s r) ≡ [])
      → filter mine (flat_map of (on_link w s r)) ≡ []
  none_else mine s r of none = none_on mine s r of (λ off. ap (filter mine) (none off))

  pub passed_else : (mine : ℕ → Bool) (s r : ℕ) → s < n → r < n → (FromSwitch s r → ⊥) → filter mine (flat_map passed_in (on_link w s r)) ≡ []
  passed_else mine s r hs hr other = none_else mine s r passed_in (λ off. no_passed f g s r (on_link w s r) (labels s r hs hr off) other)

  pub events_else : (mine : ℕ → Bool) (s r : ℕ) → s < n → r < n → (ToController s r → ⊥) → filter mine (flat_map handed_over_in (on_link w s r)) ≡ []
  events_else mine s r hs hr other = none_else mine s r handed_over_in (λ off. no_events f g s r (on_link w s r) (labels s r hs hr off) other)

  pub forwarded_else : (mine : ℕ → Bool) (s r : ℕ) → s < n → r < n → (ToSwitch s r → ⊥) → filter mine (flat_map forwarded_in (on_link w s r)) ≡ []
  forwarded_else mine s r hs hr other = none_else mine s r forwarded_in (λ off. no_forwards f g s r (on_link w s r) (labels s r hs hr off) other)

  pub diverted_else : (mine : ℕ → Bool) (s r : ℕ) → s < n → r < n → (s ≡ 0 → r ≡ 1 → ⊥) → filter mine (flat_map diverted_in (on_link w s r)) ≡ []
  diverted_else mine s r hs hr other = none_else mine s r diverted_in (λ off. no_diverts f g s r (on_link w s r) (labels s r hs hr off) other)

  -- as the seat has them
  module _ (u : Unit) (apart : IsApart here u) (op : Op) (third : ℕ) (x : State R) (holds : HoldsAt here u op third x) where
    abbrev z : Seeing
    z = see (S f g) (is_sys f g.site g.packet) u op third

    abbrev mine : ℕ → Bool
    mine = (frame (S f g) z).mine

    abbrev es : List OpenShare
    es = j.world.shares

    pub link_view : (s r : ℕ) → s < n → r < n → (s == 0) && (r == 0) ≡ false → view f g z es (on_link w s r) ≡ expect op.src op.dst third x s r
    link_view s r hs hr off =
        ap (λ ms. filter_map (seen (frame (S f g) z)) (olds ms)) (sym (link_shown s r hs hr off))
        ∙ ap (λ b. if b then [] else filter_map (seen (frame (S f g) z)) (olds (j.world.link s r))) (sym off) ∙ holds.views s r

    pub link_unshared : (s r : ℕ) → s < n → r < n → (s == 0) && (r == 0) ≡ false → EachNew (NoShare (S f g) u es) (filter_map (shown f g) (on_link w s r))
    link_unshared s r hs hr off = subst (EachNew (NoShare (S f g) u es)) (link_shown s r hs hr off) (apart.links s r off)

    pub link_read : (s r : ℕ) → s < n → r < n → (s == 0) && (r == 0) ≡ false → AreRead f g z es (on_link w s r) (expect op.src op.dst third x s r)
    link_read s r hs hr off = subst (AreRead f g z es (on_link w s r)) (link_view s r hs hr off)
        (are_read f g z es s r (on_link w s r) (labels s r hs hr off) (link_unshared s r hs hr off))

    pub passed_from : (k : ℕ) → 2 ≤ k → k < n → filter mine (flat_map passed_in (on_link w 0 k)) ≡ passes_in (expect op.src op.dst third x 0 k)
    passed_from k two few = (link_read 0 k (omega (arith, few)) few (let off : (k == 0) ≡ false = grind (arith, nat_tests, two) in off)).pass

    pub carried_from : (k : ℕ) → 2 ≤ k → k < n → filter mine (flat_map carried_in (on_link w 0 k)) ≡ carries (expect op.src op.dst third x 0 k)
    carried_from k two few = (link_read 0 k (omega (arith, few)) few (let off : (k == 0) ≡ false = grind (arith, nat_tests, two) in off)).carry

    pub events_to : (k : ℕ) → 2 ≤ k → k < n → filter mine (flat_map handed_over_in (on_link w k 1)) ≡ events_in (expect op.src op.dst third x k 1)
    events_to k two few = (link_read k 1 few (omega (arith, two, few)) (let off : (k == 0) ≡ false = grind (arith, nat_tests, two) in rw off refl)).event

    pub forwarded_to : list_all for_switch x.cs ≡ true → filter mine (flat_map forwarded_in (on_link w 1 0)) ≡ forwards x.cs
    forwarded_to known = (link_read 1 0 (omega (arith, count)) (omega (arith, count)) refl).forward known

    -- nothing of it is diverted
    pub diverted_none : (s r : ℕ) → s < n → r < n → filter mine (flat_map diverted_in (on_link w s r)) ≡ []
    diverted_none s r hs hr = none_on mine s r diverted_in (λ off. (link_read s r hs hr off).divert)

    -- what an instance holds
    pub held_from : (k : ℕ) → 2 ≤ k → k < n → filter mine (held_by (slice_get w.nodes k)) ≡ (node_at (S f g) z x k).held
    held_from k two few =
        let found = found_instance f g n w nodes j k two few in
        let own = j.shown_is.instances k two few in
        let rules = (j.nodes.instance k).rules in
        let labelled = subst (λ i. Each (RuleLabel (S f g) z) i.rules) (sym own.outline_is) (holds.insts k).rules in
        ap (λ o. filter mine (held_by o)) found
        ∙ those-all mine (λ r. numbers r.held) rules
        ∙ held_is f g z rules own.rules.one_each labelled
        ∙ ap (λ i. only_mine (frame (S f g) z) (held_of (find_rule op.num i.rules))) own.outline_is
        ∙ (holds.insts k).held

    -- and what stands at it
    pub stands_at : (k : ℕ) → 2 ≤ k → k < n → filter mine (held_by (slice_get w.nodes k) ++ flat_map carried_in (on_link w 0 k))
        ≡ (node_at (S f g) z x k).held ++ carries (expect op.src op.dst third x 0 k)
    stands_at k two few = filter-append mine (held_by (slice_get w.nodes k)) (flat_map carried_in (on_link w 0 k))
        ∙ ap (λ v. v ++ filter mine (flat_map carried_in (on_link w 0 k))) (held_from k two few)
        ∙ ap (λ v. (node_at (S f g) z x k).held ++ v) (carried_from k two few)

-- In a step of a run an instance processes packets at places of their units.
use Rattle.nf_net.proofs.Words.{◌≡◌, ℕ, suc, ◌+◌, ◌⊎◌, inl, inr, true, Option, Some, None, List, [], ◌∷◌, ◌++◌, length, refl, sym, ap, ◌∙◌, subst, arith}
use Rattle.nf_net.proofs.Words.{filter_map, nat_tests, Decides-eqb, and_parts, takes, Output, same_unit_equiv, Msg, Note, instance_node, FullCell, stored_of}
use Rattle.nf_net.proofs.Words.{place_of, Operation, Move, Copy, Share, InstanceState, instance_step, Network, queue_at, Each, Open, find_op, Any, New}
use Rattle.nf_net.proofs.Words.{OpenShare, moves_of, MayRun, ran_by, ItsShare, Node, job_of, is_at, owner, members, unit_numbered, IsMoving, IsPlace, Owns}
use Rattle.nf_net.proofs.Words.{Is_destination, Is_member, is_whole, unit_fits, takes_whole, ran_in, is_sys, outline_instance, Sees, but_shares, is_sharing}
use Rattle.nf_net.proofs.Words.{Given, place, S, A, Scene, IsTaken, IsInstanceAt, Joined, came_by, AllApart, each_there, IsQuiet, instance_quiet, RanAs, Seen}
use Rattle.nf_net.proofs.Words.{Unseen, ran_as, ran_any, given, all_fit, Unit, Setting}
use Rattle.std.specs.FinMap as finite
use Rattle.actor_net.proofs.EnabledChoices.{at as at_node}
use Rattle.proof_machines.proofs.net.Shares.{Old}
use Rattle.proof_machines.proofs.whole.MovePlaces.{At_route, At_destination}
use Rattle.proof_outlines.proofs.joined.OwnerLemmas.{each_front, place_quiet}
use Rattle.nf_net.proofs.RunWords.{Busy, Installs, AreUnderWay, units_fit, RanThere, ran_there}
use Rattle.nf_net.proofs.InstalledShares.{SaysOfShares}
use Rattle.nf_net.proofs.MemberLemmas.{IsThere}
use Rattle.nf_net.proofs.MembersServed.{ProcessesOne, By_move, By_home, By_member, processes_one}
use Rattle.nf_net.proofs.SharedHomes.{home_owns, member_goes}
use Rattle.nf_net.proofs.UnitShares.{diverted_members, owner_goes}

module _ {F R : Type 0} (setting : Setting F R) (n : ℕ) (w : Network (Node F R) Msg Note) (j : Joined setting.function (given setting) n w)
    (busy : AreUnderWay setting n w j) where
  open setting use {function as f, config as c, items}

  abbrev gm : Given
  gm = given setting

  module _ (u : Unit) where
    -- the open move with this number, of the unit, between two instances, as one that is under way
    pub record IsUnderWay (k : ℕ) (e : Open R) : Type 0 where
      from : ℕ
      to : ℕ
      pub moving : IsMoving items u w.log
      pub number : moving.op ≡ k
      from_is : place_of c.names moving.source ≡ Some from
      to_is : place_of c.names moving.destination ≡ Some to
      src : e.op.src ≡ instance_node from
      dst : e.op.dst ≡ instance_node to

    under_way : (k : ℕ) (e : Open R) (o : Option Operation) (events : List FullCell) → finite.get j.nodes.controller.operations k ≡ o
        → Sees f (place gm) (Some e) (but_shares o) events → takes_whole f.kind e.filter u ≡ true → IsUnderWay k e
    under_way k e (Some (Move m)) events there sees taken =
        let of = busy.plan_is k m there in
        let on = busy.open_busy k m there in
        let takes_it : takes m.plan.filter u ≡ true = (and_parts (unit_fits f.kind u) _
        ((and_parts (is_whole f.kind m.plan.filter) _ (ap (λ x. takes_whole f.kind x u) (sym sees.filter) ∙ taken)).1)).1 in
        record {
          from = m.plan.from;
          to = m.plan.to;
          moving = record {
            op = k;
            source = of.source;
            destination = of.destination;
            filter = m.plan.filter;
            keep = m.plan.keep;
            order = of.order_is;
            takes_it = takes_it;
            busy = on;
          };
          number = refl;
          from_is = of.from_is;
          to_is = of.to_is;
          src = ap (λ o. o.src) sees.op;
          dst = ap (λ o. o.dst) sees.op;
        }
    under_way k e None events there sees taken = absurd sees
    under_way k e (Some (Copy y)) events there sees taken = absurd sees
    under_way k e (Some (Share s)) events there sees taken = absurd sees

    pub open_at : (k : ℕ) (e : Open R) → find_op j.world.ops k ≡ Some e → takes_whole f.kind e.filter u ≡ true → IsUnderWay k e
    open_at k e there taken = under_way k e (finite.get j.nodes.controller.operations k) (stored_of j.nodes.controller.store k) refl
        (subst (λ q. Sees f (place gm) q (but_shares (finite.get j.nodes.controller.operations k)) (stored_of j.nodes.controller.store k)) there
        (j.shown_is.controller.opens k).move) taken

module _ {F R : Type 0} (setting : Setting F R) (n : ℕ) (count_is : n ≡ length setting.config.names + 2) (w : Network (Node F R) Msg Note)
    (j : Joined setting.function (given setting) n w) (apart : AllApart j.nodes.controller.operations) (b : Busy (given setting) w)
    (h : Installs (given setting) w) (busy : AreUnderWay setting n w j) (says : SaysOfShares setting.function setting.config setting.items w.log) where
  open setting use {function as f, laws, config as c, items}

  abbrev g : Given
  g = given setting

  abbrev scene : Scene F f g
  scene = record { nodes = j.nodes; world = j.world; log = w.log; input = queue_at w (at_node 0 0) }

  node_same : (a b k : ℕ) → instance_node a ≡ k → k ≡ instance_node b → a ≡ b
  node_same a b k x y = omega (arith, x, y)

  module _ (number i : ℕ) where
    abbrev unit : Unit
    unit = unit_numbered c items f.kind number

    fits : unit_fits f.kind unit ≡ true
    fits = units_fit setting number

    by_target : j.world.target unit ≡ instance_node i → IsPlace (job_of f c items) number w.log i
    by_target at = Owns (node_same i (owner c items unit w.log) (j.world.target unit) (sym at) (owner_goes setting n w j unit fits (omega (arith, at))))

    -- the source of a move to which the unit's packets go owns it
    covers : (source : List ℕ) (from : ℕ) → place_of c.names source ≡ Some from → j.world.target unit ≡ instance_node from
        → is_at (place_of c.names source) (owner c items unit w.log) ≡ true
    covers source from from_is goes =
        let owned : j.world.target unit ≡ instance_node (owner c items unit w.log) = owner_goes setting n w j unit fits (omega (arith, goes)) in
        let same : owner c items unit w.log ≡ from = node_same (owner c items unit w.log) from (j.world.target unit) (sym owned) goes in
        ap (λ o. is_at o (owner c items unit w.log)) from_is ∙ (Decides-eqb (owner c items unit w.log) from).1 same

    by_may : MayRun (S f g) (moves_of (S f g) (A f g) j.world) unit (instance_node i) → IsPlace (job_of f c items) number w.log i
    by_may (At_route at) = by_target at
    by_may (At_destination k e there taken goes at) =
        let m = open_at setting n w j busy unit k e there taken in
        let covered : is_at (place_of c.names m.moving.source) (owner c items unit w.log) ≡ true = covers m.moving.source m.from m.from_is (goes ∙ m.src) in
        Is_destination (record { moving = m.moving; covers = covered }) (m.to_is ∙ ap Some (node_same m.to i e.op.dst (sym m.dst) (sym at)))

    -- the share of the unit by the log
    by_there : (e : OpenShare) → ItsShare (S f g) (A f g) (is_sys f g.site g.packet) unit j.world e
        → (instance_node i ≡ e.home) ⊎ (instance_node i ≡ (A f g).member e.members number) → IsThere (members c items unit w.log)
        → IsPlace (job_of f c items) number w.log i
    by_there e its (inl at) there =
        Owns (node_same i (owner c items unit w.log) e.home at (home_owns setting n count_is w j apart b h says unit fits e its there))
    by_there e its (inr at) there = Is_member (member_goes setting n count_is w j apart b h says unit fits e its number i refl (sym at) there)

    by_one : ProcessesOne (S f g) (A f g) (is_sys f g.site g.packet) unit j.world (instance_node i) number → IsPlace (job_of f c items) number w.log i
    by_one (By_move may) = by_may may
    by_one (By_home e its (inl one) at) = by_there e its (inl at) (diverted_members setting n w j unit fits one)
    by_one (By_home e its (inr home) at) = by_target (home ∙ sym at)
    by_one (By_member e its one at) = by_there e its (inr at) (diverted_members setting n w j unit fits one)

  -- what an instance processes, it processes at a place of the unit
  module _ (y p : ℕ) (m : Msg) (taken : IsTaken f g n scene (record { node = suc (suc y); port = p; message = m })) where
    abbrev k : ℕ
    k = suc (suc y)

    abbrev own : InstanceState F R
    own = j.nodes.instance k

    abbrev at : IsInstanceAt f g k own j.world
    at = j.shown_is.instances k (omega arith) taken.receiver

    quiet : Each (IsQuiet own.index) (instance_step f own m).notes
    quiet = instance_quiet f own m

    module _ (front back : List Note) (number i : ℕ) (output : Output)
        (e : (instance_step f own m).notes ≡ front ++ Note.Processed number i output ∷ back) where
      noted_at : i ≡ own.index
      noted_at = each_there (IsQuiet own.index) front (Note.Processed number i output) back (subst (λ ns. Each (IsQuiet own.index) ns) e quiet)

      node : k ≡ instance_node i
      node = sym at.number ∙ ap instance_node (sym noted_at)

      there : RanThere (filter_map ran_in (instance_step f own m).notes) number
      there = subst (λ ns. RanThere (filter_map ran_in ns) number) (sym e) (ran_there front number i output back)

      none_there : (xs ys : List ℕ) → [] ≡ xs ++ number ∷ ys → ⊥
      none_there [] ys never = cc
      none_there (x ∷ xs) ys never = cc

      -- what ran is what the network runs
      follows : (a : Any R)
          → ran_any f g (outline_instance f g.site g.packet own) own.table.standby a ≡ ran_by (S f g) (A f g) (is_sys f g.site g.packet) j.world k a
      follows (Old a) = ap (λ x. ran_any f g x own.table.standby (Old a)) at.outline_is
      follows (New a) = ap (λ x. ran_any f g x own.table.standby (New a)) at.outline_is ∙ ap (λ t. ran_any f g (j.world.inst k) t (New a)) at.standby_is

      one : RanAs f laws g (all_fit setting) own m
          → ProcessesOne (S f g) (A f g) (is_sys f g.site g.packet) (unit_numbered c items f.kind number) j.world k number
      one (Unseen none) = absurd (none_there there.front there.back (sym none ∙ there.whole))
      one (Seen a shown_as ran) = processes_one (S f g) (A f g) (is_sys f g.site g.packet) (unit_numbered c items f.kind number)
          (is_sharing f g.site g.packet) j.world (came_by f g w.log (unit_numbered c items f.kind number)) j.shown_is.every.global p k a taken.rest
          (grind (arith, nat_tests)) (grind (arith, nat_tests)) (taken.head (grind (arith, nat_tests)) a shown_as) number
          (same_unit_equiv.refl (unit_numbered c items f.kind number)) there.front there.back
          (sym (follows a) ∙ sym ran ∙ there.whole) (j.shown_is.every.unit (unit_numbered c items f.kind number))

      pub processed_place : IsPlace (job_of f c items) number (w.log ++ front) i
      processed_place =
          place_quiet (job_of f c items) number own.index w.log front i
          (each_front (IsQuiet own.index) front (Note.Processed number i output ∷ back) (subst (λ ns. Each (IsQuiet own.index) ns) e quiet))
          (by_one number i (subst (λ q. ProcessesOne (S f g) (A f g) (is_sys f g.site g.packet) (unit_numbered c items f.kind number) j.world q number) node
          (one (ran_as f laws g (all_fit setting) k own j.world (omega arith) at p y m taken.label))))

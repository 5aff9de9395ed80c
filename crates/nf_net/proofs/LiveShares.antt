-- A unit that a share has by the log is live at the share's first member alone; and where an instance steps a record that stands by, or takes
-- records of a share, the log says the same of it.
use Rattle.nf_net.proofs.Words.{◌≡◌, ℕ, ◌+◌, ◌<◌, Bool, true, false, Option, Some, None, List, [], ◌∷◌, length, refl, sym, ap, ◌∙◌, subst, arith, if◌then◌else◌}
use Rattle.nf_net.proofs.Words.{◌&&◌, ◌||◌, ◌==◌, not, find, is_some, slice_get, slice_index, filter_map, list_any, option_map_or, nat_tests, Decides-eqb}
use Rattle.nf_net.proofs.Words.{get_or_from_slice_get, slice_get_within, or_right, and_parts, Filter, takes, same_unit, Order, Msg, Note, instance_node, home}
use Rattle.nf_net.proofs.Words.{Share, place_of, Network, Chunks, where_two, OfShare, new_head, label_of, found_each, unit_share, Any, New, Shared_on, ShareMsg}
use Rattle.nf_net.proofs.Words.{same, OpenShare, ShareAsked, find_share, moves_of, Under, seeing, ElsewhereHome, head_none, shape, ItsShare, its_share}
use Rattle.nf_net.proofs.Words.{WhereAll, Apart_from_shares, Under_share, Node, Switch, Controller, is_begun, order_numbered, before_begun, is_first_of}
use Rattle.nf_net.proofs.Words.{is_shared_away, has_begun, begins_in, is_at, is_home, owner, shared_among, live_in, live_at, unit_fits, is_whole, takes_whole}
use Rattle.nf_net.proofs.Words.{is_sys, Both, RealShare, real_share, Given, place, S, A, Joined, came_by, AllApart, given, Unit, Instance, split, Setting}
use Rattle.std.specs.FinMap as finite
use Rattle.std.proofs.lemmas.Bool.{not-true}
use Rattle.proof_outlines.proofs.whole.SwitchAll.{same_node}
use Rattle.proof_outlines.proofs.joined.Joined.{IsShare}
use Rattle.nf_net.proofs.RunWords.{Busy, open_began, instance_of, HomesOwn}
use Rattle.nf_net.proofs.MemberLemmas.{SharesIt, shares_it, home_first}
use Rattle.nf_net.proofs.ShareOwners.{OwnersStay, begun_open, begun_seen, begun_takes}
use Rattle.nf_net.proofs.UnitShares.{owner_goes, IsOpenShare, number_is}

-- which of these commands is one of some
pub record BegunOne (these : ℕ → Bool) (ops : List ℕ) : Type 0 where
  pub op : ℕ
  pub begun : list_any (λ k. k == op) ops ≡ true
  pub such : these op ≡ true

one_among : (these : ℕ → Bool) (ops : List ℕ) → list_any these ops ≡ true → BegunOne these ops
one_among these [] e = cc
one_among these (op ∷ ops) e = split (these op) (λ t. t || list_any these ops ≡ true → BegunOne these (op ∷ ops))
    (λ on _. record { op = op; begun = (let self : (op == op) ≡ true = grind (arith, nat_tests) in rw self refl); such = on })
    (λ _ rest.
    (let r = one_among these ops rest in record { op = r.op; begun = or_right (op == r.op) (list_any (λ k. k == r.op) ops) r.begun; such = r.such })) e

pub begun_one : (these : ℕ → Bool) (log : List Note) → has_begun these log ≡ true → BegunOne these (begins_in log)
begun_one these log e = one_among these (begins_in log) e

among_one : (these : ℕ → Bool) (ops : List ℕ) (op : ℕ) → list_any (λ k. k == op) ops ≡ true → these op ≡ true → list_any these ops ≡ true
among_one these [] op e on = cc
among_one these (k ∷ ops) op e on = split (k == op) (λ t. t || list_any (λ j. j == op) ops ≡ true → these k || list_any these ops ≡ true)
    (λ same _. (let at : k ≡ op = (Decides-eqb k op).0 same in let here : these k ≡ true = ap these at ∙ on in rw here refl))
    (λ _ rest. or_right (these k) (list_any these ops) (among_one these ops op rest on)) e

pub has_one : (these : ℕ → Bool) (log : List Note) (op : ℕ) → is_begun op log ≡ true → these op ≡ true → has_begun these log ≡ true
has_one these log op e on = among_one these (begins_in log) op e on

-- the flag of a message that says whether its receiver is the home
same_is : (a b : Bool) → same a b ≡ true → a ≡ b
same_is true true e = refl
same_is true false e = cc
same_is false true e = cc
same_is false false e = refl

-- an instance is the first of some names that are all known where it has the first place of theirs
home_test : (names : List (List ℕ)) (orders : ℕ → Option Order) (ms : List (List ℕ))
    → 0 < length (filter_map (place_of names) ms) → find (λ name. not (is_some (place_of names name))) ms ≡ None → (i : ℕ)
    → is_home names orders ms i ≡ (i == slice_index (filter_map (place_of names) ms) 0)
home_test names orders [] some known i = absurd (omega (arith, some))
home_test names orders (name ∷ others) some known i = by_place (place_of names name) refl known
  where
    by_place : (o : Option ℕ) → place_of names name ≡ o
        → (if not (is_some o) then Some name else find (λ name. not (is_some (place_of names name))) others) ≡ None
        → is_at o i ≡ (i == slice_index (filter_map (place_of names) (name ∷ others)) 0)
    by_place None at e = cc
    by_place (Some k) at e =
        let first : filter_map (place_of names) (name ∷ others) ≡ k ∷ filter_map (place_of names) others = rw at refl in
        ap (λ v. i == slice_index v 0) (sym first)

module _ {F R : Type 0} (setting : Setting F R) (n : ℕ) (count_is : n ≡ length setting.config.names + 2) (w : Network (Node F R) Msg Note)
    (j : Joined setting.function (given setting) n w) (apart : AllApart j.nodes.controller.operations) (b : Busy (given setting) w) where
  open setting use {function as f, config as c, items}

  abbrev g : Given
  g = given setting

  -- An open share, as its order says it.
  module _ (op : ℕ) (e : OpenShare) (found : find_share j.world.shares op ≡ Some e) where
    real : RealShare f (place g) g.site j.nodes.controller op e
    real = real_share f (place g) g.site j.world.ops j.world.shares j.nodes.controller op e j.shown_is.controller.opens found

    its : IsShare f g op real.s
    its = j.shown_is.controller.shared op real.s real.there

    ordered : order_numbered items op ≡ Some (Order.Share its.plan.names real.s.plan.filter)
    ordered = ap (order_numbered items) (sym its.op_is) ∙ its.plan.order_is

    on : is_begun op w.log ≡ true
    on = open_began f g n count_is w j b op (Share real.s) real.there

    -- its home is the first of its names
    pub first_is_home : (y : ℕ) → is_first_of c items (order_numbered items op) y ≡ (instance_node y == e.home)
    first_is_home y =
        let some : 0 < length (filter_map (place_of c.names) its.plan.names) = subst (λ v. 0 < length v) (sym its.plan.members_are)
        (let two = its.some in omega (arith, two)) in
        let known : find (λ name. not (is_some (place_of c.names name))) its.plan.names ≡ None =
        ((b.is.answered op).begins (Order.Share its.plan.names real.s.plan.filter) ordered on).known in
        let home_is : e.home ≡ instance_node (home real.s.plan) = ap (λ x. x.home) real.sees.is in
        ap (λ o. is_first_of c items o y) ordered
        ∙ home_test c.names (order_numbered items) its.plan.names some known y
        ∙ ap (λ v. y == slice_index v 0) its.plan.members_are
        ∙ same_node y (home real.s.plan)
        ∙ ap (λ k. instance_node y == k) (sym home_is)

  -- Of the units that packets may have.
  module _ (u : Unit) (fits : unit_fits f.kind u ≡ true) (kept : OwnersStay f c items w.log) where
    abbrev Where : Type 0
    Where = WhereAll (S f g) (A f g) (is_sys f g.site g.packet) u j.world (came_by f g w.log u)

    -- A share that began and whose first member owns the unit
    module _ (op : ℕ) (ms : List (List ℕ)) (filter : Filter) (what : order_numbered items op ≡ Some (Order.Share ms filter)) (takes_it : takes filter u
        ≡ true) (at_home : is_home c.names (order_numbered items) ms (owner c items u w.log) ≡ true) (begins_in : is_begun op w.log ≡ true) where
      abbrev own : IsOpenShare setting n count_is w j apart b op ms filter
      own = begun_open setting n count_is w j apart b op ms filter what begins_in

      abbrev seen : Both f (place g) g.site j.world.shares j.nodes.controller op own.state
      seen = begun_seen setting n count_is w j apart b op ms filter what begins_in

      its_own : (S f g).takes seen.e.filter u ≡ true
      its_own = begun_takes setting n count_is w j apart b op ms filter what begins_in u fits takes_it

      home_so : seen.e.home ≡ instance_node (owner c items u w.log)
      home_so =
          let first : home own.state.plan ≡ slice_index (filter_map (place_of c.names) ms) 0 = ap (λ v. slice_index v 0) (sym own.members_are) in
          ap (λ x. x.home) seen.sees.is ∙ ap instance_node (first ∙ home_first c.names (order_numbered items) ms (owner c items u w.log) at_home)

      -- is the unit's in the network, and so it is live nowhere but at home
      live_none : (y : ℕ) → is_home c.names (order_numbered items) ms y ≡ false → Where → finite.get (j.world.inst (instance_node y)).live u ≡ None
      live_none y off (Apart_from_shares k none) =
          let two = where_two (S f g) (is_sys f g.site g.packet) u (moves_of (S f g) (A f g) j.world) _ _ k.is in
          let away = found_each (ElsewhereHome (S f g) u j.world.target) j.world.shares op seen.e k.untaken.homes seen.there its_own in
          let same : seen.e.home ≡ j.world.target u = home_so ∙ sym (owner_goes setting n w j u fits two) in
          let never : (seen.e.home == j.world.target u) ≡ true = (Decides-eqb seen.e.home (j.world.target u)).1 same in
          cc
      live_none y off (Under_share x before d k o m) =
          let here : OpenShare = its_share (S f g) (A f g) (is_sys f g.site g.packet) u j.world x before _ k in
          let its_here : ItsShare (S f g) (A f g) (is_sys f g.site g.packet) u j.world here =
          record { found = k.holds.share; takes = k.covered; home_in = k.is.home_in } in
          let number : op ≡ here.num = number_is setting n count_is w j apart b u fits op ms filter own takes_it here its_here in
          k.away (instance_node y) (sym (first_is_home here.num here its_here.found y)
          ∙ ap (λ q. is_first_of c items (order_numbered items q) y) (sym number) ∙ ap (λ o. is_first_of c items o y) what ∙ off)

    abbrev sharing : ℕ → Option (List (List ℕ))
    sharing op = shared_among c.names (order_numbered items) u (order_numbered items op) (owner c items u (before_begun op w.log))

    abbrev these : ℕ → ℕ → Bool
    these y op = option_map_or (λ members. not (is_home c.names (order_numbered items) members y)) (sharing op) false

    by_sharing : (y op : ℕ) → is_begun op w.log ≡ true → (o : Option (List (List ℕ))) → sharing op ≡ o
        → option_map_or (λ members. not (is_home c.names (order_numbered items) members y)) o false ≡ true
        → finite.get (j.world.inst (instance_node y)).live u ≡ None
    by_sharing y op begins_in None at e = cc
    by_sharing y op begins_in (Some ms) at e =
        let s : SharesIt g u (order_numbered items op) (owner c items u (before_begun op w.log)) ms = shares_it g u (order_numbered items op)
        (owner c items u (before_begun op w.log)) ms at in
        let at_home : is_home c.names (order_numbered items) ms (owner c items u w.log) ≡ true =
        ap (is_home c.names (order_numbered items) ms) (sym (kept op ms s.filter u s.order_is begins_in fits s.takes_it)) ∙ s.home in
        live_none op ms s.filter s.order_is s.takes_it at_home begins_in y (not-true (is_home c.names (order_numbered items) ms y) e) (j.shown_is.every.unit u)

    -- where a share has the unit, and an instance isn't its first member, nothing of the unit is live there
    away_none : (y : ℕ) → is_shared_away c items u y w.log ≡ true → finite.get (j.world.inst (instance_node y)).live u ≡ None
    away_none y e = let r = begun_one (these y) w.log e in by_sharing y r.op r.begun (sharing r.op) refl r.such

    pub nothing_live : length w.nodes ≡ n → (y : ℕ) → is_shared_away c items u y w.log ≡ true → live_at w y u ≡ None
    nothing_live count y away = by_node (slice_get w.nodes (instance_node y)) refl
      where
        by_node : (o : Option (Node F R)) → slice_get w.nodes (instance_node y) ≡ o → live_in u o ≡ None
        by_node None e = refl
        by_node (Some (Switch s)) e = refl
        by_node (Some (Controller s)) e = refl
        by_node (Some (Instance s)) e =
            let few : instance_node y < n = (let there = slice_get_within w.nodes (instance_node y) (Instance s) e in rw (← count) there) in
            let got : ◌≡◌ {A = Node F R} (Instance (j.nodes.instance (instance_node y))) (Instance s) =
            sym (instance_of j.nodes (instance_node y) (omega arith)) ∙ sym (j.nodes_are (instance_node y) few (Instance s))
            ∙ get_or_from_slice_get w.nodes (instance_node y) (Instance s) (Instance s) e in
            let same_state : j.nodes.instance (instance_node y) ≡ s = cc in
            ap (λ x. finite.get x.table.live u) (sym same_state)
            ∙ ap (λ x. finite.get x.live u) (j.shown_is.instances (instance_node y) (omega arith) few).outline_is ∙ away_none y away

    -- Under a share the log has it so at every instance but home
    module _ (told : HomesOwn setting n count_is w j) (x : ShareAsked) (before since : List ℕ)
        (k : Under (S f g) (A f g) (seeing (S f g) (A f g) u x) j.world before since) where
      abbrev here : OpenShare
      here = its_share (S f g) (A f g) (is_sys f g.site g.packet) u j.world x before since k

      abbrev at : RealShare f (place g) g.site j.nodes.controller x.num here
      at = real x.num here k.holds.share

      abbrev share : IsShare f g x.num at.s
      share = its x.num here k.holds.share

      what_is : order_numbered items x.num ≡ Some (Order.Share share.plan.names at.s.plan.filter)
      what_is = ordered x.num here k.holds.share

      taken : takes at.s.plan.filter u ≡ true
      taken =
          let q = at.s.plan.filter in
          let whole : takes_whole f.kind q u ≡ true = ap (λ y. takes_whole f.kind y u) (sym (ap (λ y. y.filter) at.sees.is)) ∙ k.covered in
          (and_parts (unit_fits f.kind u) (takes q u) ((and_parts (is_whole f.kind q) (unit_fits f.kind u && takes q u) whole).1)).1

      home_at : (y : ℕ) → is_home c.names (order_numbered items) share.plan.names y ≡ (instance_node y == x.home)
      home_at y = ap (λ o. is_first_of c items o y) (sym what_is) ∙ first_is_home x.num here k.holds.share y

      away_there : (y : ℕ) → (instance_node y == x.home) ≡ false → is_shared_away c items u y w.log ≡ true
      away_there y off =
          let what = what_is in
          let takes_it = taken in
          let own_home : is_home c.names (order_numbered items) share.plan.names (owner c items u (before_begun x.num w.log)) ≡ true = ap (is_home c.names
          (order_numbered items) share.plan.names) (kept x.num share.plan.names at.s.plan.filter u what (on x.num here k.holds.share) fits takes_it)
          ∙ home_at (owner c items u w.log) ∙ (Decides-eqb (instance_node (owner c items u w.log)) x.home).1 (told u x before since k) in
          let not_home : is_home c.names (order_numbered items) share.plan.names y ≡ false = home_at y ∙ off in
          let such : these y x.num ≡ true = rw (what, takes_it, own_home, not_home) refl in
          has_one (these y) w.log x.num (on x.num here k.holds.share) such

    -- a packet of the unit that comes marked as one of a share away from its home
    pub away_marked : HomesOwn setting n count_is w j → (p y : ℕ) (op q : ℕ) (rest : List (Any R)) → (p == 0) && (instance_node y == 0) ≡ false
        → j.world.link p (instance_node y) ≡ New (Shared_on op false q) ∷ rest → same_unit ((S f g).packet_unit q) u ≡ true
        → is_shared_away c items u y w.log ≡ true
    away_marked told p y op q rest off waits mine = by_where (j.shown_is.every.unit u)
      where
        by_where : Where → is_shared_away c items u y w.log ≡ true
        by_where (Apart_from_shares h none) =
            let never : same_unit ((S f g).packet_unit q) u ≡ false = head_none (S f g) u (A f g) j.world p (instance_node y) (New (Shared_on op false q))
            rest off waits h.untaken in
            let bad : true ≡ false = sym mine ∙ never in cc
        by_where (Under_share x before d h o t) =
            let z = seeing (S f g) (A f g) u x in
            let v = shape (unit_share (S f g) (A f g) z) h.stage in
            let of = new_head (λ r m. OfShare (S f g) j.world.shares r m) j.world.link j.shown_is.every.global.messages p (instance_node y)
            (Shared_on op false q) rest off waits in
            let label = label_of (S f g) (A f g) z j.world j.shown_is.every.global h.covered v.phase v.queue h.holds.share (instance_node y)
            (Shared_on op false q) of in
            split (op == x.num) (λ _. is_shared_away c items u y w.log ≡ true)
            (λ its_own. away_there told x before (came_by f g w.log u).diverted h y
            (sym (same_is false (instance_node y == x.home) (label.0 its_own)))) (λ other. (let never : true ≡ false = sym mine ∙ label.1 other in cc))

  -- records of a share that come to an instance say whether it is the first member
  pub first_synced : (p y : ℕ) (op : ℕ) (at_home : Bool) (cs : Chunks R) (rest : List (Any R)) → (p == 0) && (instance_node y == 0) ≡ false
      → j.world.link p (instance_node y) ≡ New (ShareMsg.Sync op at_home cs) ∷ rest → is_first_of c items (order_numbered items op) y ≡ at_home
  first_synced p y op at_home cs rest off waits =
      let of = new_head (λ r m. OfShare (S f g) j.world.shares r m) j.world.link j.shown_is.every.global.messages p (instance_node y)
      (ShareMsg.Sync op at_home cs)
      rest off waits in
      first_is_home op of.share of.found y ∙ sym (same_is at_home (instance_node y == of.share.home) of.says.1)

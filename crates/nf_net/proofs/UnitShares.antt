-- The share of a unit in a world of a run: a share that the switch has installed is open, and of all open ones it alone takes its units. So what
-- the log says of the unit's members is what the controller serves.
use Rattle.nf_net.proofs.Words.{◌≡◌, ℕ, ◌+◌, ◌<◌, ◌≤◌, inl, inr, Bool, true, false, Option, Some, None, List, [], ◌∷◌, map, length, refl, sym, ap, ◌∙◌, subst}
use Rattle.nf_net.proofs.Words.{arith, if◌then◌else◌, ◌&&◌, ◌||◌, ◌==◌, not, find, is_some, slice_index, slice_index_or, filter_map, length-map, Decides-eqb}
use Rattle.nf_net.proofs.Words.{Filter, Flow, takes, Msg, Note, instance_node, ShareState, home, SharePhase, Operation, Move, Copy, Share, place_of, Network}
use Rattle.nf_net.proofs.Words.{Stage, UnitShare, shape, where_two, found_each, unit_share, OpenShare, moves_of, ElsewhereHome, seeing, ItsShare, its_share}
use Rattle.nf_net.proofs.Words.{WhereAll, Apart_from_shares, Under_share, Node, is_begun, has_answered, is_share, answers_of, times_installed, order_numbered}
use Rattle.nf_net.proofs.Words.{packet_numbered, installs_in, first_owner, is_home, owner, members, member_for, unit_fits, takes_whole, takes_same, is_sys}
use Rattle.nf_net.proofs.Words.{Both, both, RealShare, real_share, Given, place, is_diverted, S, A, Joined, came_by, AreApart, AllApart, names_known, given}
use Rattle.nf_net.proofs.Words.{Unit, Order, flow_of, Done, split, Setting}
use Rattle.std.specs.Prelude.{◌%◌}
use Rattle.std.specs.FinMap as finite
use Rattle.std.proofs.lemmas.Nat.{mod_below}
use Rattle.proof_machines.proofs.share.TableViews.{map_phase}
use Rattle.proof_machines.proofs.share.Stages.{Stage.Diverting}
use Rattle.proof_outlines.proofs.outline.FiltersApart.{filters_apart}
use Rattle.proof_outlines.proofs.whole.ShareOutline.{index_same}
use Rattle.proof_outlines.proofs.joined.Joined.{IsShare}
use Rattle.nf_net.proofs.RunWords.{unanswered, Busy, own_controller, keeps_is, plan_is, told_is, open_began, is_set_up}
use Rattle.nf_net.proofs.answers.InstallRuns.{Installs, dones_still}
use Rattle.nf_net.proofs.answers.InstallSteps.{is_moving, dones, open_in}
use Rattle.nf_net.proofs.MemberLemmas.{IsThere, There, is_there, IsSharedBy, shared_by, members_diverted, InstalledIn, installed_in, times_there, home_first}
use Rattle.nf_net.proofs.MemberLemmas.{member_at}

-- a share that is set up, also as its proof sees it
set_up_same : (ph : SharePhase) → is_set_up (map_phase instance_node ph) ≡ is_set_up ph
set_up_same (SharePhase.Out member) = refl
set_up_same ph = refl

-- diverts the packets of its units
serving_diverts : {R : Type 0} (f : UnitShare R) (s : Stage R) → is_set_up (shape f s).phase ≡ true → (shape f s).diverts ≡ true
serving_diverts f (Diverting d b l) e = cc
serving_diverts f s e = refl

both_so : (a s b : Bool) → a ≡ true → s ≡ true → a && (s || b) ≡ true
both_so true true b h k = refl
both_so true false b h k = cc
both_so false s b h k = cc

-- Where a unit's packets go in a world of a run, by the log.
module _ {F R : Type 0} (setting : Setting F R) (n : ℕ) (w : Network (Node F R) Msg Note) (j : Joined setting.function (given setting) n w) (u : Unit)
    (fits : unit_fits setting.function.kind u ≡ true) where
  open setting use {config as c, items}

  abbrev gt : Given
  gt = given setting

  -- packets go to the controller where the unit has members
  pub diverted_members : j.world.target u ≡ 1 → IsThere (members c items u w.log)
  diverted_members one = is_there (members c items u w.log) (members_diverted gt u (first_owner u c.routes) (installs_in w.log)
      ∙ by_test (is_diverted gt u (installs_in w.log)) (sym one ∙ j.shown_is.owners u fits))
    where
      by_test : (d : Bool) → 1 ≡ (if d then 1 else instance_node (owner c items u w.log)) → d ≡ true
      by_test true at = refl
      by_test false at = absurd (omega (arith, at))

  pub members_go : (ms : List (List ℕ)) → members c items u w.log ≡ Some ms → j.world.target u ≡ 1
  members_go ms e = j.shown_is.owners u fits ∙ ap (λ d. if d then 1 else instance_node (owner c items u w.log))
      (sym (members_diverted gt u (first_owner u c.routes) (installs_in w.log)) ∙ ap is_some e)

  -- and to the owner where it has none
  pub owner_goes : 2 ≤ j.world.target u → j.world.target u ≡ instance_node (owner c items u w.log)
  owner_goes two = by_test (is_diverted gt u (installs_in w.log)) (j.shown_is.owners u fits)
    where
      by_test : (d : Bool) → j.world.target u ≡ (if d then 1 else instance_node (owner c items u w.log))
          → j.world.target u ≡ instance_node (owner c items u w.log)
      by_test true at = absurd (omega (arith, at, two))
      by_test false at = at

module _ {F R : Type 0} (setting : Setting F R) (n : ℕ) (count_is : n ≡ length setting.config.names + 2) (w : Network (Node F R) Msg Note)
    (j : Joined setting.function (given setting) n w) (apart : AllApart j.nodes.controller.operations) (b : Busy (given setting) w) where
  open setting use {function as f, config as c, items}

  abbrev g : Given
  g = given setting

  -- an open share of an order
  pub record IsOpenShare (op : ℕ) (ms : List (List ℕ)) (filter : Filter) : Type 0 where
    pub state : ShareState
    pub there : finite.get j.nodes.controller.operations op ≡ Some (Share state)
    pub filter_is : state.plan.filter ≡ filter
    pub members_are : filter_map (place_of c.names) ms ≡ state.plan.members
    pub known : find (λ name. not (is_some (place_of c.names name))) ms ≡ None

  same_names : {a d : List (List ℕ)} {p q : Filter} → Some (Order.Share a p) ≡ Some (Order.Share d q) → a ≡ d
  same_names e = cc

  same_filter : {a d : List (List ℕ)} {p q : Filter} → Some (Order.Share a p) ≡ Some (Order.Share d q) → p ≡ q
  same_filter e = cc

  open_share : (op : ℕ) (ms : List (List ℕ)) (filter : Filter) → order_numbered items op ≡ Some (Order.Share ms filter) → (s : ShareState)
      → finite.get j.nodes.controller.operations op ≡ Some (Share s) → IsOpenShare op ms filter
  open_share op ms filter what s there =
      let its : IsShare f g op s = j.shown_is.controller.shared op s there in
      let own : order_numbered items op ≡ Some (Order.Share its.plan.names s.plan.filter) = ap (order_numbered items) (sym its.op_is) ∙ its.plan.order_is in
      let on = open_began f g n count_is w j b op (Share s) there in
      record {
        state = s;
        there = there;
        filter_is = same_filter (sym own ∙ what);
        members_are = ap (filter_map (place_of c.names)) (same_names (sym what ∙ own)) ∙ its.plan.members_are;
        known = ((b.is.answered op).begins (Order.Share ms filter) what on).known;
      }

  -- a share's command that is open has a share for its operation
  share_open : (op : ℕ) (ms : List (List ℕ)) (filter : Filter) → order_numbered items op ≡ Some (Order.Share ms filter) → (o : Option Operation)
      → finite.get j.nodes.controller.operations op ≡ o → is_some o ≡ true → IsOpenShare op ms filter
  share_open op ms filter what None at e = cc
  share_open op ms filter what (Some (Share s)) at e = open_share op ms filter what s at
  share_open op ms filter what (Some (Move m)) at e =
      let plan = plan_is f g n count_is w j b op m at in
      let never = sym plan.order_is ∙ what in
      cc
  share_open op ms filter what (Some (Copy y)) at e =
      let its = j.shown_is.controller.copies op y at in
      let never = sym (ap (order_numbered items) (sym its.op_is) ∙ its.plan.order_is) ∙ what in
      cc

  -- it is open if the switch has installed it, and if it began
  pub open_installed : Installs g w → (op : ℕ) (ms : List (List ℕ)) (filter : Filter) → order_numbered items op ≡ Some (Order.Share ms filter)
      → 1 ≤ times_installed op w.log → IsOpenShare op ms filter
  open_installed h op ms filter what some = by_got (finite.get h.controller.operations op) refl
    where
      same : h.controller ≡ j.nodes.controller
      same = own_controller j (omega (arith, count_is)) h.controller h.controller_is

      none_done : dones (is_moving (order_numbered items op)) (answers_of op w.log) ≡ 0
      none_done = ap (λ o. dones (is_moving o) (answers_of op w.log)) what ∙ dones_still (answers_of op w.log)

      by_got : (o : Option Operation) → finite.get h.controller.operations op ≡ o → IsOpenShare op ms filter
      by_got None at =
          let zero : open_in (finite.get h.controller.operations op) ≡ 0 = ap open_in at in
          absurd (omega (arith, h.balance op, none_done, zero, some))
      by_got (Some o) at = share_open op ms filter what (Some o) (ap (λ x. finite.get x.operations op) (sym same) ∙ at) refl

  pub open_begun : (op : ℕ) (ms : List (List ℕ)) (filter : Filter) → order_numbered items op ≡ Some (Order.Share ms filter) → is_begun op w.log ≡ true
      → IsOpenShare op ms filter
  open_begun op ms filter what on = share_open op ms filter what (finite.get j.nodes.controller.operations op) refl (keeps_is f g n count_is w j b op
      ∙ both_so (is_begun op w.log) (is_share (order_numbered items op)) (not (has_answered op w.log)) on (ap is_share what))

  -- Of the units that packets may have.
  module _ (u : Unit) (fits : unit_fits f.kind u ≡ true) where
    -- what one open operation takes no other takes
    one_takes : (k l : ℕ) (s t : ShareState) → finite.get j.nodes.controller.operations k ≡ Some (Share s)
        → finite.get j.nodes.controller.operations l ≡ Some (Share t) → takes_whole f.kind s.plan.filter u ≡ true
        → takes_whole f.kind t.plan.filter u ≡ true → k ≡ l
    one_takes k l s t at_k at_l on_k on_l = split (k == l) (λ _. k ≡ l) (λ same. (Decides-eqb k l).0 same)
        (λ off. absurd (not_both (apart k l (Share s) (Share t) off at_k at_l)))
      where
        not_both : AreApart (Some s.plan.filter) (Some t.plan.filter) → ⊥
        not_both (inl off) = let never : true ≡ false = sym on_l ∙ filters_apart f.kind s.plan.filter t.plan.filter u off on_k in cc
        not_both (inr off) = let never : true ≡ false = sym on_k ∙ filters_apart f.kind t.plan.filter s.plan.filter u off on_l in cc

    whole_on : (op : ℕ) (ms : List (List ℕ)) (filter : Filter) (o : IsOpenShare op ms filter) → takes filter u ≡ true
        → takes_whole f.kind o.state.plan.filter u ≡ true
    whole_on op ms filter o on =
        takes_same f.kind o.state.plan.filter u (j.shown_is.controller.shared op o.state o.there).whole fits ∙ ap (λ q. takes q u) o.filter_is ∙ on

    -- the share that has the unit in the network, and an open one that takes it
    module _ (op : ℕ) (ms : List (List ℕ)) (filter : Filter) (o : IsOpenShare op ms filter) (on : takes filter u ≡ true) (e : OpenShare)
        (its : ItsShare (S f g) (A f g) (is_sys f g.site g.packet) u j.world e) where
      real : RealShare f (place g) g.site j.nodes.controller e.num e
      real = real_share f (place g) g.site j.world.ops j.world.shares j.nodes.controller e.num e j.shown_is.controller.opens its.found

      pub number_is : op ≡ e.num
      number_is = one_takes op e.num o.state real.s o.there real.there (whole_on op ms filter o on)
          (ap (λ q. takes_whole f.kind q u) (sym (ap (λ x. x.filter) real.sees.is)) ∙ its.takes)

      same_state : o.state ≡ real.s
      same_state =
          let both : Some (Share o.state) ≡ Some (Share real.s) = sym o.there ∙ ap (finite.get j.nodes.controller.operations) number_is ∙ real.there in cc

      pub phase_is : e.phase ≡ map_phase instance_node o.state.phase
      phase_is = ap (λ x. x.phase) real.sees.is ∙ ap (λ s. map_phase instance_node s.phase) (sym same_state)

      members_same : e.members ≡ map instance_node (filter_map (place_of c.names) ms)
      members_same = ap (λ x. x.members) real.sees.is ∙ ap (λ s. map instance_node s.plan.members) (sym same_state) ∙ ap (map instance_node) (sym o.members_are)

      -- its home is the first of its names
      pub home_is : (i : ℕ) → is_home c.names (order_numbered items) ms i ≡ true → e.home ≡ instance_node i
      home_is i at =
          let first : home real.s.plan ≡ slice_index (filter_map (place_of c.names) ms) 0 = ap (λ s. home s.plan) (sym same_state)
          ∙ ap (λ v. slice_index v 0) (sym o.members_are) in
          ap (λ x. x.home) real.sees.is ∙ ap instance_node (first ∙ home_first c.names (order_numbered items) ms i at)

      -- and the member of a packet is the one that its names say
      pub member_is : (p i : ℕ) → (A f g).member e.members p ≡ instance_node i → member_for c items ms (packet_numbered items p) ≡ Some i
      member_is p i at =
          let flow : Flow = (flow_of c.site (packet_numbered items p)).0 in
          let nodes : List ℕ = filter_map (place_of c.names) ms in
          let k : ℕ = flow.lport + flow.rport + flow.remote in
          let many : length nodes ≡ length ms = all_placed ms o.known in
          let some : 0 < length nodes = subst (λ v. 0 < length v) (sym o.members_are)
          (let two = (j.shown_is.controller.shared op o.state o.there).some in omega (arith, two)) in
          let low = mod_below k (length nodes) some in
          let seen : slice_index (map instance_node nodes) (k % length (map instance_node nodes)) ≡ instance_node i =
          sym (ap (λ v. (A f g).member v p) members_same) ∙ at in
          let same : instance_node (slice_index nodes (k % length nodes)) ≡ instance_node i =
          sym (ap (λ m. slice_index (map instance_node nodes) (k % m)) (length-map nodes instance_node) ∙ index_same nodes (k % length nodes) low) ∙ seen in
          let index : slice_index nodes (k % length nodes) ≡ i = omega (arith, same) in
          ap (λ m. place_of c.names (slice_index_or ms (k % m) [])) (sym many)
          ∙ member_at c.names ms o.known (k % length nodes) (subst (λ m. k % length nodes < m) many low) ∙ ap Some index
        where
          all_placed : (these : List (List ℕ)) → find (λ name. not (is_some (place_of c.names name))) these ≡ None
              → length (filter_map (place_of c.names) these) ≡ length these
          all_placed these none = (names_known c.names these none).many

    -- the share by the log: one that the switch has installed, with these members
    pub record IsShareOfUnit (ms : List (List ℕ)) : Type 0 where
      pub op : ℕ
      pub filter : Filter
      pub open_is : IsOpenShare op ms filter
      pub takes_it : takes filter u ≡ true
      pub times : 1 ≤ times_installed op w.log

    pub share_of_unit : Installs g w → (ms : List (List ℕ)) → members c items u w.log ≡ Some ms → IsShareOfUnit ms
    share_of_unit h ms e =
        let r : IsSharedBy g u (first_owner u c.routes) (installs_in w.log) ms = shared_by g u (first_owner u c.routes) (installs_in w.log) ms e in
        let at : InstalledIn w.log r.front r.op = installed_in w.log r.front r.op r.back r.whole in
        let some : 1 ≤ times_installed r.op w.log =
        let there = ap (times_installed r.op) at.whole ∙ times_there r.op at.first at.rest in omega (arith, there) in
        record {
          op = r.op;
          filter = r.its.filter;
          open_is = open_installed h r.op ms r.its.filter r.its.order_is some;
          takes_it = r.its.takes_it;
          times = some;
        }

    -- A share that was answered has been installed for each unit that its home owns
    module _ (h : Installs g w) (op : ℕ) (ms : List (List ℕ)) (filter : Filter) (what : order_numbered items op ≡ Some (Order.Share ms filter))
        (on : takes filter u ≡ true) (at_home : is_home c.names (order_numbered items) ms (owner c items u w.log) ≡ true)
        (answered : has_answered op w.log ≡ true) (begun : is_begun op w.log ≡ true) where
      own : IsOpenShare op ms filter
      own = open_begun op ms filter what begun

      seen : Both f (place g) g.site j.world.shares j.nodes.controller op own.state
      seen = both f (place g) g.site j.world.ops j.world.shares j.nodes.controller op own.state j.shown_is.controller.opens own.there

      set_up : is_set_up own.state.phase ≡ true
      set_up = by_test (is_set_up own.state.phase) refl
        where
          by_test : (d : Bool) → is_set_up own.state.phase ≡ d → d ≡ true
          by_test true e = refl
          by_test false e =
              let none : answers_of op w.log ≡ [] = told_is f g n count_is w j b op (Share own.state) own.there ∙ ap (λ d. if d then Done ∷ [] else []) e in
              let never : true ≡ false = sym answered ∙ unanswered op w.log none in
              cc

      -- the share that has the unit is this one
      its_own : (S f g).takes seen.e.filter u ≡ true
      its_own = ap (λ x. takes_whole f.kind x.filter u) seen.sees.is ∙ whole_on op ms filter own on

      home_so : seen.e.home ≡ instance_node (owner c items u w.log)
      home_so =
          let first : home own.state.plan ≡ slice_index (filter_map (place_of c.names) ms) 0 = ap (λ v. slice_index v 0) (sym own.members_are) in
          ap (λ x. x.home) seen.sees.is ∙ ap instance_node (first ∙ home_first c.names (order_numbered items) ms (owner c items u w.log) at_home)

      diverted_by : WhereAll (S f g) (A f g) (is_sys f g.site g.packet) u j.world (came_by f g w.log u) → j.world.target u ≡ 1
      diverted_by (Apart_from_shares k none) =
          let two = where_two (S f g) (is_sys f g.site g.packet) u (moves_of (S f g) (A f g) j.world) _ _ k.is in
          let away = found_each (ElsewhereHome (S f g) u j.world.target) j.world.shares op seen.e k.untaken.homes seen.there its_own in
          let same : seen.e.home ≡ j.world.target u = home_so ∙ sym (owner_goes setting n w j u fits two) in
          let never : (seen.e.home == j.world.target u) ≡ true = (Decides-eqb seen.e.home (j.world.target u)).1 same in
          cc
      diverted_by (Under_share x before d k o m) =
          let here : OpenShare = its_share (S f g) (A f g) (is_sys f g.site g.packet) u j.world x before _ k in
          let its : ItsShare (S f g) (A f g) (is_sys f g.site g.packet) u j.world here =
          record { found = k.holds.share; takes = k.covered; home_in = k.is.home_in } in
          let serving : is_set_up (shape (unit_share (S f g) (A f g) (seeing (S f g) (A f g) u x)) k.stage).phase ≡ true =
          ap is_set_up (phase_is op ms filter own on here its) ∙ set_up_same own.state.phase ∙ set_up in
          k.holds.target ∙ ap (λ d. if d then 1 else x.home) (serving_diverts (unit_share (S f g) (A f g) (seeing (S f g) (A f g) u x)) k.stage serving)

      pub set_up_installed : 1 ≤ times_installed op w.log
      set_up_installed = by_members (diverted_members setting n w j u fits (diverted_by (j.shown_is.every.unit u)))
        where
          by_members : IsThere (members c items u w.log) → 1 ≤ times_installed op w.log
          by_members (There these e) =
              let r = share_of_unit h these e in
              let same : r.op ≡ op = one_takes r.op op r.open_is.state own.state r.open_is.there own.there
              (whole_on r.op these r.filter r.open_is r.takes_it) (whole_on op ms filter own on) in
              subst (λ k. 1 ≤ times_installed k w.log) same r.times

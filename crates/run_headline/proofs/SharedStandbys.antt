-- Where no message is left, each member of a share but its home has standing by what is kept of each of the share's units after all that was processed.
use Rattle.run_headline.proofs.Words.{◌≡◌, ℕ, ◌+◌, ◌<◌, true, false, Some, None, List, [], length, map, sym, ap, ◌∙◌, arith, ◌==◌, slice_get, Decides-eqb}
use Rattle.run_headline.proofs.Words.{Filter, place_of, takes, Msg, Note, instance_node, Network, has, Node, is_begun, order_numbered, is_home, owner}
use Rattle.run_headline.proofs.Words.{standby_in, unit_fits, Given, Joined, given, Busy, Setting}
use Rattle.std.specs.Prelude.{◌&&◌, slice_index}
use Rattle.std.specs.List.{filter_map}
use Rattle.std.specs.FinMap as finite
use Rattle.nf_function.specs.declared.unit.Unit as units
use Rattle.nf_msgs.specs.declared.command.Order.TheVariants as order
use Rattle.copy_share.specs.Share.{home}
use Rattle.ctrl_node.specs.declared.operation.Operation.TheVariants.{Share}
use Rattle.run_report.specs.proof_machines.proofs.share.Records.{own_is}
use Rattle.run_report.specs.proof_machines.proofs.share.Share.{UnitShare, runs}
use Rattle.run_report.specs.proof_machines.proofs.net.Elsewhere.{where_two}
use Rattle.run_report.specs.proof_machines.proofs.net.Net.{IsSys}
use Rattle.run_report.specs.proof_machines.proofs.net.Readings as readings
use Rattle.run_report.specs.proof_machines.proofs.net.Rest.{done_u}
use Rattle.run_report.specs.proof_machines.proofs.net.ShareLists.{found_each}
use Rattle.run_report.specs.proof_machines.proofs.net.ShareViews.{unit_share}
use Rattle.run_report.specs.proof_machines.proofs.net.Shares.{OpenShare, SeeingShare, ShareAsked, moves_of}
use Rattle.run_report.specs.proof_machines.proofs.net.Under.{Under}
use Rattle.run_report.specs.proof_machines.proofs.net.UnderReadings.{all_done, under_rests}
use Rattle.run_report.specs.proof_machines.proofs.net.UnderStarts.{seeing}
use Rattle.run_report.specs.proof_machines.proofs.net.Untaken.{ElsewhereHome}
use Rattle.run_report.specs.proof_machines.proofs.whole.Readings.{ItsShare, fold_done, its_share}
use Rattle.run_report.specs.proof_machines.proofs.whole.WhereAll.{WhereAll, Apart_from_shares, Under_share}
use Rattle.net_world.specs.Fold.{fold, processed_of}
use Rattle.run_report.specs.proof_outlines.proofs.outline.FiltersApart.{takes_same, takes_whole}
use Rattle.run_report.specs.proof_outlines.proofs.outline.Outline.{is_sys}
use Rattle.run_report.specs.proof_outlines.proofs.whole.OpenShares.{Both, RealShare, both, real_share}
use Rattle.run_report.specs.proof_outlines.proofs.joined.Given.{place}
use Rattle.run_report.specs.proof_outlines.proofs.joined.Joined.{S, A, came_by}
use Rattle.run_report.specs.proof_outlines.proofs.joined.OperationsApart.{AllApart}
use Rattle.run_report.specs.proof_outlines.proofs.joined.RunsJoined.{done_same}
use Rattle.run_report.specs.nf_net.proofs.paths.PathSeats.{found_instance}
use Rattle.run_report.specs.nf_net.proofs.paths.SharedOwners.{members_few}
use Rattle.run_report.specs.nf_net.proofs.FoldLemmas.{fold_is}
use Rattle.run_report.specs.nf_net.proofs.MemberLemmas.{home_first}
use Rattle.run_report.specs.nf_net.proofs.UnitShares.{IsOpenShare, home_is, number_is, open_begun, owner_goes}

-- A unit, and a share that began and takes it, whose home owns it.
module _ {F R : Type 0} (setting : Setting F R) (n : ℕ) (count_is : n ≡ length setting.config.names + 2) (w : Network (Node F R) Msg Note)
    (nodes : length w.nodes ≡ n) (j : Joined setting.function (given setting) n w) (apart : AllApart j.nodes.controller.operations) (b : Busy (given setting) w)
    (u : units.Unit) (fits : unit_fits setting.function.kind u ≡ true) (op : ℕ) (ms : List (List ℕ)) (filter : Filter)
    (what : order_numbered setting.items op ≡ Some (order.Share ms filter)) (on : takes filter u ≡ true) (begun : is_begun op w.log ≡ true)
    (at_home : is_home setting.config.names (order_numbered setting.items) ms (owner setting.config setting.items u w.log) ≡ true) where
  open setting use {function as f, config as c, items}

  abbrev g : Given
  g = given setting

  abbrev laws_of : IsSys (S f g)
  laws_of = is_sys f g.site g.packet

  abbrev nodes_of : List ℕ
  nodes_of = map instance_node (filter_map (place_of c.names) ms)

  own : IsOpenShare setting n count_is w j apart b op ms filter
  own = open_begun setting n count_is w j apart b op ms filter what begun

  -- the network has it
  seen : Both f (place g) g.site j.world.shares j.nodes.controller op own.state
  seen = both f (place g) g.site j.world.ops j.world.shares j.nodes.controller op own.state j.shown_is.controller.opens own.there

  takes_it : takes_whole f.kind own.state.plan.filter u ≡ true
  takes_it =
      takes_same f.kind own.state.plan.filter u (j.shown_is.controller.shared op own.state own.there).whole fits ∙ ap (λ q. takes q u) own.filter_is ∙ on

  its_own : (S f g).takes seen.e.filter u ≡ true
  its_own = ap (λ x. takes_whole f.kind x.filter u) seen.sees.is ∙ takes_it

  home_so : seen.e.home ≡ instance_node (owner c items u w.log)
  home_so =
      let first : home own.state.plan ≡ slice_index (filter_map (place_of c.names) ms) 0 = ap (λ v. slice_index v 0) (sym own.members_are) in
      ap (λ x. x.home) seen.sees.is ∙ ap instance_node (first ∙ home_first c.names (order_numbered items) ms (owner c items u w.log) at_home)

  -- what stands by is the record after all that was processed
  abbrev StandsWhole : ℕ → Type 0
  StandsWhole k = standby_in u (slice_get w.nodes k) ≡ fold f c items None (processed_of f c items u w.log)

  module _ (quiet : (i k : ℕ) → i < n → k < n → (i == 0) && (k == 0) ≡ false → j.world.link i k ≡ []) where
    -- where the unit is under a share, it is this one
    module _ (x : ShareAsked) (before since : List ℕ) (h : Under (S f g) (A f g) (seeing (S f g) (A f g) u x) j.world before since) where
      abbrev z : SeeingShare
      z = seeing (S f g) (A f g) u x

      abbrev own_share : UnitShare R
      own_share = unit_share (S f g) (A f g) z

      abbrev here : OpenShare
      here = its_share (S f g) (A f g) laws_of u j.world x before since h

      its : ItsShare (S f g) (A f g) laws_of u j.world here
      its = record { found = h.holds.share; takes = h.covered; home_in = h.is.home_in }

      real : RealShare f (place g) g.site j.nodes.controller here.num here
      real = real_share f (place g) g.site j.world.ops j.world.shares j.nodes.controller here.num here j.shown_is.controller.opens its.found

      members_same : x.members ≡ nodes_of
      members_same =
          let number : op ≡ here.num = number_is setting n count_is w j apart b u fits op ms filter own on here its in
          let found : Some (Share own.state) ≡ Some (Share real.s) = sym own.there ∙ ap (finite.get j.nodes.controller.operations) number ∙ real.there in
          let same : own.state ≡ real.s = cc in
          ap (λ y. y.members) real.sees.is ∙ ap (λ s. map instance_node s.plan.members) (sym same) ∙ ap (map instance_node) (sym own.members_are)

      home_same : x.home ≡ instance_node (owner c items u w.log)
      home_same = home_is setting n count_is w j apart b u fits op ms filter own on here its (owner c items u w.log) at_home

      few : (m : ℕ) → has x.members m ≡ true → m < n
      few m inside = members_few setting n count_is w j here h.holds.share m inside

      kept_all : (k : ℕ) → has x.members k ≡ true → (k == x.home) ≡ false
          → (S f g).B.at u (j.world.standby k) ≡ readings.fold (S f g).F None (done_u (S f g) u j.world.done)
      kept_all k inside off =
          let rest = under_rests (S f g) (A f g) z j.world before since h n (omega (arith, count_is)) few quiet in
          (rw off at (h.holds.own k inside)) ∙ own_is own_share h.stage k
          ∙ ap (runs (S f g).F None) (rest.seen k ∙ sym (all_done (S f g) (A f g) z j.world before since h))
          ∙ fold_done (S f g) (A f g) laws_of u None j.world.done

      stands_under : (k : ℕ) → has nodes_of k ≡ true → (k == instance_node (owner c items u w.log)) ≡ false → StandsWhole k
      stands_under k inside off =
          let member : has x.members k ≡ true = ap (λ ns. has ns k) members_same ∙ inside in
          let two = h.insts k member in
          let low = few k member in
          ap (standby_in u) (found_instance f g n w nodes j k two low) ∙ ap (λ t. finite.get t u) (j.shown_is.instances k two low).standby_is
          ∙ kept_all k member (ap (λ y. k == y) home_same ∙ off) ∙ ap (readings.fold (S f g).F None) (done_same setting n w j u)
          ∙ sym (fold_is setting None (processed_of f c items u w.log))

    pub member_stands : (k : ℕ) → has nodes_of k ≡ true → (k == instance_node (owner c items u w.log)) ≡ false → StandsWhole k
    member_stands k inside off = by_where (j.shown_is.every.unit u)
      where
        by_where : WhereAll (S f g) (A f g) laws_of u j.world (came_by f g w.log u) → StandsWhole k
        by_where (Under_share x before d h o m) = stands_under x before (came_by f g w.log u).diverted h k inside off
        by_where (Apart_from_shares at none) =
            let two = where_two (S f g) laws_of u (moves_of (S f g) (A f g) j.world) _ _ at.is in
            let away = found_each (ElsewhereHome (S f g) u j.world.target) j.world.shares op seen.e at.untaken.homes seen.there its_own in
            let same : seen.e.home ≡ j.world.target u = home_so ∙ sym (owner_goes setting n w j u fits two) in
            let never : (seen.e.home == j.world.target u) ≡ true = (Decides-eqb seen.e.home (j.world.target u)).1 same in
            cc

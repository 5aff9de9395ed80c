-- In the world of a complete run each packet of the input was processed, and each unit that has a record has it at its owner.
use Rattle.nf_net.proofs.Words.{◌≡◌, ℕ, ◌+◌, ◌<◌, ◌≤◌, Bool, true, false, Option, Some, None, List, [], ◌∷◌, ◌++◌, map, length, append-nil, refl, sym, ap, ◌∙◌}
use Rattle.nf_net.proofs.Words.{subst, arith, if◌then◌else◌, ◌&&◌, ◌==◌, nat_lt, slice_get, filter, filter_map, Decides-eqb, slice_get_within, slice_get-get_or}
use Rattle.nf_net.proofs.Words.{Filter, Packet, unit_at, same_unit-true, Target, Order, Msg, Note, instance_node, is_there, Choice, Network, is_done, queue_at}
use Rattle.nf_net.proofs.Words.{at, Each, firsts, nil_right, same_of, none_in, exactly, IsSys, done_u, not_both, AtEnd, OpenShare, find_share, moves_of, olds}
use Rattle.nf_net.proofs.Words.{ShareRests, EndsAll, At_share, end_all, WhereAll, Apart_from_shares, Under_share, Node, order_numbered, ends_last, answers_of}
use Rattle.nf_net.proofs.Words.{times_installed, arrivals_in, is_loose, owner, unit_numbered, node_ended, is_of, arrived_of, processed_of, live_in, live_at}
use Rattle.nf_net.proofs.Words.{unit_fits, is_sys, real_share, target_node, Given, place, GenuinePacket, S, A, shown, came_by, Joined, done_same, same_times}
use Rattle.nf_net.proofs.Words.{run_beside, given, genuine, Unit, flow_of, Done, Instance, Completed, split, Setting, IsCourse, world_of}
use Rattle.std.proofs.Common.{◌-◌}
use Rattle.std.specs.FinMap as finite
use Rattle.actor_net.proofs.CompleteWorlds.{done_waiting}
use Rattle.proof_machines.proofs.unit.Stages as stages
use Rattle.proof_machines.proofs.net.Readings as readings
use Rattle.proof_machines.proofs.net.AtEnd.{at_end}
use Rattle.proof_machines.proofs.whole.EndAll.{As_moves}
use Rattle.proof_machines.proofs.whole.WhereAll.{order_same}
use Rattle.net_world.specs.Input.{packets}
use Rattle.net_world.specs.Fold.{times, fold}
use Rattle.nf_net.proofs.answers.ArrivalLemmas.{numbers, runs_joined}
use Rattle.nf_net.proofs.RunWords.{run_busy, is_moving, there, sides, instance_of, one_place, HomesOwn, members_few, fold_is, units_fit, after_world}
use Rattle.nf_net.proofs.answers.InstallRuns.{run_installs, done_installed}
use Rattle.nf_net.proofs.SharedHomes.{run_homes}
use Rattle.nf_net.proofs.StandbyFronts.{IsOfFront, still_some, lives_front}
use Rattle.nf_net.proofs.UnitShares.{owner_goes}
use Rattle.nf_net.proofs.answers.ToldCommands.{each_answered}

module _ {F R : Type 0} (setting : Setting F R) where
  open setting use {function as f, config as c, items}

  abbrev g : Given
  g = given setting

  abbrev laws_of : IsSys (S f g)
  laws_of = is_sys f g.site g.packet

  module _ (n : ℕ) (count : n ≡ length c.names + 2) (w : Network (Node F R) Msg Note) (nodes : length w.nodes ≡ n)
      (j : Joined f g n w) (in_turn : arrivals_in w.log ++ numbers (queue_at w (at 0 0)) ≡ numbers items) (done : is_done node_ended w ≡ true)
      (told : HomesOwn setting n count w j) where
    all_came : arrivals_in w.log ≡ numbers items
    all_came = sym (append-nil (arrivals_in w.log)) ∙ ap (λ xs. arrivals_in w.log ++ numbers xs) (sym (done_waiting node_ended w done (at 0 0))) ∙ in_turn

    quiet : (i k : ℕ) → i < n → k < n → (i == 0) && (k == 0) ≡ false → j.world.link i k ≡ []
    quiet i k hi hk off = j.links i k hi hk off ∙ ap (filter_map (shown f g)) (done_waiting node_ended w done (at k i))

    -- the home of an open share is an instance
    home_two : (e : OpenShare) → find_share j.world.shares e.num ≡ Some e → 2 ≤ e.home
    home_two e found =
        let r = real_share f (place g) g.site j.world.ops j.world.shares j.nodes.controller e.num e j.shown_is.controller.opens found in
        let at = ap (λ x. x.home) r.sees.is in
        omega (arith, at)

    module _ (u : Unit) where
      -- what was processed of the unit is all that came, and its record is at an instance
      record Ended : Type 0 where
        flag : Bool
        order : stages.IsOrderedAs flag (processed_of f c items u w.log) (arrived_of f c items u w.log)
        flag_is : flag ≡ true → is_loose c items u w.log ≡ true
        place : (r : R) → fold f c items None (processed_of f c items u w.log) ≡ Some r → (i : ℕ) × (live_at w i u ≡ Some r)

      -- what is live at an instance that is there
      live_same : (k : ℕ) → 2 ≤ k → k < n → (live : Option R) → finite.get (j.world.inst k).live u ≡ live → live_at w (k - 2) u ≡ live
      live_same k two few live is_live =
          let node = Instance (j.nodes.instance k) in
          let found : slice_get w.nodes k ≡ Some node = slice_get-get_or w.nodes k node (rw nodes few)
          ∙ ap Some (j.nodes_are k few node ∙ instance_of j.nodes k two) in
          let number : instance_node (k - 2) ≡ k = omega (arith, two) in
          ap (λ y. live_in u (slice_get w.nodes y)) number ∙ ap (live_in u) found
          ∙ ap (λ x. finite.get x.live u) (j.shown_is.instances k two few).outline_is ∙ is_live

      -- where something is live is an instance that is there
      few_live : (i : ℕ) (r : R) → live_at w i u ≡ Some r → instance_node i < n
      few_live i r live = by_node (slice_get w.nodes (instance_node i)) refl live
        where
          by_node : (o : Option (Node F R)) → slice_get w.nodes (instance_node i) ≡ o → live_in u o ≡ Some r → instance_node i < n
          by_node None e h = cc
          by_node (Some node) e h = let there = slice_get_within w.nodes (instance_node i) node e in rw (← nodes) there

      done_is : done_u (S f g) u j.world.done ≡ processed_of f c items u w.log
      done_is = done_same setting n w j u

      -- the fold of what was done
      folds : (r : R) → fold f c items None (processed_of f c items u w.log) ≡ Some r → readings.fold (S f g).F None (done_u (S f g) u j.world.done) ≡ Some r
      folds r h = ap (readings.fold (S f g).F None) done_is ∙ sym (fold_is setting None (processed_of f c items u w.log)) ∙ h

      came_is : arrived_of f c items u w.log ≡ filter (is_of f c items u) (numbers items)
      came_is = ap (filter (is_of f c items u)) all_came

      -- a unit that a packet of the input has is one that packets may have, and goes to an instance that is there, where it goes to one
      record Has_packet : Type 0 where
        fits : unit_fits f.kind u ≡ true
        few : 2 ≤ j.world.target u → j.world.target u < n

      has_packet : (qs : List Packet) → Each (GenuinePacket f g) qs → (p : ℕ) (ps : List ℕ) → filter (is_of f c items u) (map (λ q. q.number) qs) ≡ p ∷ ps
          → Has_packet
      has_packet [] h p ps e = cc
      has_packet (q ∷ qs) h p ps e =
          split (is_of f c items u q.number)
          (λ b. (if b then q.number ∷ filter (is_of f c items u) (map (λ x. x.number) qs) else filter (is_of f c items u) (map (λ x. x.number) qs))
          ≡ p ∷ ps → Has_packet)
          (λ mine _.
          let way = j.shown_is.switch.routes (flow_of c.site q).0 h.0.fits in
          let same : unit_numbered c items f.kind q.number ≡ u = same_unit-true (unit_numbered c items f.kind q.number) u mine in
          let unit : unit_at f.kind c.site q ≡ u = ap (unit_at f.kind c.site) h.0.same ∙ same in
          record {
            fits = ap (unit_fits f.kind) (sym same) ∙ units_fit setting q.number;
            few = λ two. by_target two way.target (ap j.world.target (sym unit) ∙ way.node) way.there;
          }) (λ _ rest. has_packet qs h.1 p ps rest) e
        where
          by_target : 2 ≤ j.world.target u → (t : Target) → j.world.target u ≡ target_node t → is_there j.nodes.switch t ≡ true → j.world.target u < n
          by_target two Target.Controller at inside = absurd (omega (arith, two, at))
          by_target two (Target.Instance i) at inside =
              subst (λ k. k < n) (sym at) (there c n count i (subst (λ k. nat_lt i k ≡ true) j.shown_is.switch.instances inside))

      -- a unit that no share has
      module _ (e : AtEnd (S f g) laws_of u n (moves_of (S f g) (A f g) j.world) (arrived_of f c items u w.log) (is_loose c items u w.log)) where
        -- nothing came of it, or it has a packet
        by_came : {P : Type 0} → (firsts e.ran ++ e.left ≡ [] → P) → (Has_packet → P) → P
        by_came {P = P} none some = by_list (arrived_of f c items u w.log) refl
          where
            by_list : (ps : List ℕ) → arrived_of f c items u w.log ≡ ps → P
            by_list [] k = none (none_in (firsts e.ran ++ e.left)
                (λ p. same_of e.flag (firsts e.ran ++ e.left) (arrived_of f c items u w.log) e.order p ∙ ap (stages.times p) k))
            by_list (p ∷ ps) k = some (has_packet (packets items) (genuine setting) p ps (sym came_is ∙ k))

        -- no packet is left
        left_none : e.left ≡ []
        left_none = by_came (nil_right (firsts e.ran) e.left) (λ has. e.none (has.few e.two))

        ran_is : firsts e.ran ≡ processed_of f c items u w.log
        ran_is = sym e.done ∙ done_is

        went_is : firsts e.ran ++ e.left ≡ processed_of f c items u w.log
        went_is = ap (λ xs. firsts e.ran ++ xs) left_none ∙ append-nil (firsts e.ran) ∙ ran_is

        by_record : {P : Type 0} (r : R) → fold f c items None (processed_of f c items u w.log) ≡ Some r → (Has_packet → P) → P
        by_record r h some = by_came (λ none. let went_none : processed_of f c items u w.log ≡ [] = sym went_is ∙ none in
            let never : None ≡ Some r = ap (fold f c items None) (sym went_none) ∙ h in cc) some

        at_target : (r : R) → fold f c items None (processed_of f c items u w.log) ≡ Some r → live_at w (j.world.target u - 2) u ≡ Some r
        at_target r h = by_record r h (λ has. live_same (j.world.target u) e.two (has.few e.two) (Some r)
            (e.live ∙ ap (readings.fold (S f g).F None) (sym e.done) ∙ folds r h))

        moves_ended : Ended
        moves_ended = record {
          flag = e.flag;
          order = order_same e.flag (firsts e.ran ++ e.left) (processed_of f c items u w.log) (arrived_of f c items u w.log) went_is e.order;
          flag_is = e.flag_is;
          place = λ r h. (j.world.target u - 2, at_target r h);
        }

        -- its record is at its owner
        moves_own : (i : ℕ) (r : R) → fold f c items None (processed_of f c items u w.log) ≡ Some r → live_at w i u ≡ Some r → i ≡ owner c items u w.log
        moves_own i r h live = by_record r h (λ has.
            let same : i ≡ j.world.target u - 2 = one_place setting n w nodes j u i (j.world.target u - 2) r r live (at_target r h) in
            let two = e.two in
            let goes : j.world.target u ≡ instance_node (owner c items u w.log) = owner_goes setting n w j u has.fits two in
            omega (arith, same, two, goes))

      -- a unit of a share
      share_ended : (e : OpenShare) → ShareRests (S f g) (A f g) laws_of u n j.world (came_by f g w.log u) e → Ended
      share_ended e s =
          record {
            flag = s.flag;
            order = order_same s.flag (done_u (S f g) u j.world.done) (processed_of f c items u w.log) (arrived_of f c items u w.log) done_is s.order;
            flag_is = s.flag_is;
            place = λ r h. (
              e.home - 2,
              live_same e.home (home_two e s.its.found) (members_few setting n count w j e s.its.found e.home s.its.home_in) (Some r) (s.live ∙ folds r h),
            );
          }

      ended : Ended
      ended = by_end (end_all (S f g) (A f g) laws_of u n j.world (omega (arith, count)) quiet (sides setting n count w j)
          (members_few setting n count w j) (came_by f g w.log u) (j.shown_is.every.unit u))
        where
          by_end : EndsAll (S f g) (A f g) laws_of u n j.world (came_by f g w.log u) → Ended
          by_end (As_moves e) = moves_ended e
          by_end (At_share e s) = share_ended e s

      all_went : is_loose c items u w.log ≡ false → processed_of f c items u w.log ≡ arrived_of f c items u w.log
      all_went off = exactly ended.flag (processed_of f c items u w.log) (arrived_of f c items u w.log)
          (not_both ended.flag (is_loose c items u w.log) ended.flag_is off) ended.order

      each_once : (p : ℕ) → times p (processed_of f c items u w.log) ≡ times p (arrived_of f c items u w.log)
      each_once p = sym (same_times p (processed_of f c items u w.log))
          ∙ same_of ended.flag (processed_of f c items u w.log) (arrived_of f c items u w.log) ended.order p ∙ same_times p (arrived_of f c items u w.log)

      -- a live record has seen a front of what was processed, and the unit has no other: so it is the one that has seen all
      live_is : (i : ℕ) (r : R) → live_at w i u ≡ Some r → fold f c items None (processed_of f c items u w.log) ≡ Some r
      live_is i r live = by_fold (fold f c items None (processed_of f c items u w.log)) refl
        where
          front : IsOfFront f c items (processed_of f c items u w.log) (Some r)
          front = subst (λ o. IsOfFront f c items (processed_of f c items u w.log) o) live (lives_front setting n w nodes j i u)

          by_fold : (o : Option R) → fold f c items None (processed_of f c items u w.log) ≡ o → fold f c items None (processed_of f c items u w.log) ≡ Some r
          by_fold None e =
              let more = still_some f c items front.front (processed_of f c items u w.log) r front.is_front front.folds in
              let never : None ≡ Some more.0 = sym e ∙ more.1 in cc
          by_fold (Some s) e =
              let at = ended.place s e in
              let same : i ≡ at.0 = one_place setting n w nodes j u i at.0 r s live at.1 in
              e ∙ sym at.1 ∙ ap (λ k. live_at w k u) (sym same) ∙ live

      -- the live record is at the owner: where packets go, or the home of the share
      at_owner : (i : ℕ) (r : R) → live_at w i u ≡ Some r → i ≡ owner c items u w.log
      at_owner i r live = by_where (j.shown_is.every.unit u)
        where
          by_where : WhereAll (S f g) (A f g) laws_of u j.world (came_by f g w.log u) → i ≡ owner c items u w.log
          by_where (Apart_from_shares h none) =
              moves_own (at_end (S f g) laws_of u n (moves_of (S f g) (A f g) j.world) (omega (arith, count)) (λ a b x y off. ap olds (quiet a b x y off))
              (sides setting n count w j) (arrived_of f c items u w.log) (is_loose c items u w.log) h.is) i r (live_is i r live) live
          by_where (Under_share x before b h o t) = split (instance_node i == x.home) (λ _. i ≡ owner c items u w.log)
              (λ on. (let home : instance_node i ≡ x.home = (Decides-eqb (instance_node i) x.home).0 on in
              let own : instance_node (owner c items u w.log) ≡ x.home = told u x before (came_by f g w.log u).diverted h in omega (arith, home, own)))
              (λ off.
              let number : instance_node i - 2 ≡ i = omega arith in
              let none : live_at w i u ≡ None = ap (λ k. live_at w k u) (sym number)
              ∙ live_same (instance_node i) (omega arith) (few_live i r live) None (h.away (instance_node i) off) in
              let never : None ≡ Some r = sym none ∙ live in
              cc)

    pub completed : (ends_last items ≡ true → (op : ℕ) (what : Order) → order_numbered items op ≡ Some what → length (answers_of op w.log) ≡ 1)
        → ((op : ℕ) (source destination : List ℕ) (filter : Filter) (keep : Bool)
        → order_numbered items op ≡ Some (Order.Move source destination filter keep) → answers_of op w.log ≡ Done ∷ [] → times_installed op w.log ≡ 1)
        → Completed f c items w
    completed answered installed = record {
      all_came = all_came;
      all_went = all_went;
      each_once = each_once;
      records_are = live_is;
      has_record = λ u. (ended u).place;
      at_owner = at_owner;
      answered = answered;
      installed = installed;
    }

module _ {F R : Type 0} (setting : Setting F R) where
  open setting use {function as f, config as c, items}

  -- of every run that is complete
  pub complete_run : (cs : List Choice) → IsCourse setting cs → is_done node_ended (world_of setting cs) ≡ true → Completed f c items (world_of setting cs)
  complete_run cs ok done =
      let h = runs_joined setting cs ok in
      let world = after_world setting cs ok in
      let busy = run_busy setting cs ok in
      let changes = run_installs setting cs ok in
      completed setting (length c.names + 2) refl (world_of setting cs) world.1 (run_beside setting cs ok).joined h.in_turn
      done (run_homes setting cs ok)
      (λ last. each_answered setting last cs ok done)
      (λ op source destination filter keep known is_done_so. done_installed f (given setting) (length c.names + 2) refl (world_of setting cs)
      busy.0 busy.1 changes op (ap is_moving known) done is_done_so)

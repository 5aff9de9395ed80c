-- What a world has of a unit under a share, place by place, in the order of its path, is what waits at the stage that shows the unit.
use Rattle.nf_net.proofs.Words.{◌≡◌, ℕ, ◌<◌, ◌≤◌, Bool, true, false, Option, Some, None, List, [], ◌∷◌, ◌++◌, refl, sym, ap, ◌∙◌, subst, arith, if◌then◌else◌}
use Rattle.nf_net.proofs.Words.{◌==◌, ◌&&◌, nat_lt, slice_get, filter, filter_map, flat_map, nat_tests, filter-append, FullCell, Operation, Move, Copy, Share}
use Rattle.nf_net.proofs.Words.{on_link, Each, UnitShare, View, mine_in, shape, OfShare, Open, find_op, RestRule, NothingOf, none_mine, ShareLabel, label_of}
use Rattle.nf_net.proofs.Words.{unit_share, share_expect, share_items, as_share, ShareAsked, EachNew, olds, SeeingShare, seeing, lasts, passed_in, carried_in}
use Rattle.nf_net.proofs.Words.{forwarded_in, handed_over_in, diverted_in, stored_by, queued_by, held_by, on_links, Sees, but_shares, both, Given, place, S, A}
use Rattle.nf_net.proofs.Words.{shown, given, Unit, either_way}
use Rattle.proof_machines.proofs.share.Path.{carries, shared_in, forwarded as forwards, diverted as diverts}
use Rattle.proof_machines.proofs.net.NewMessages.{each_new_map}
use Rattle.proof_machines.proofs.net.ShareLabels.{queue_other}
use Rattle.proof_machines.proofs.whole.UnderMoves.{none_stored}
use Rattle.net_world.specs.Path.{numbers}
use Rattle.nf_net.proofs.paths.PathNodes.{those_mine, held_none}
use Rattle.nf_net.proofs.paths.PathSeats.{labels, link_shown, none_on, passed_else, forwarded_else, diverted_else, found_instance}
use Rattle.nf_net.proofs.paths.PathStores.{for_other, stored_for, queued_for, unseen_store, cells, got}
use Rattle.nf_net.proofs.RunWords.{those-all, no_link, one_link, Reached, IsUnder}
use Rattle.nf_net.proofs.paths.SharedLinks as links
use Rattle.nf_net.proofs.paths.SharedLinks.{AreKnown, AreRead, are_read}
use Rattle.nf_net.proofs.paths.SharedOwners.{real, members_few}
use Rattle.nf_net.proofs.paths.SharedStages.{Places, places}

module _ {F R : Type 0} (here : Reached F R) (u : Unit) (x : ShareAsked) (before since : List ℕ) (k : IsUnder here u x before since) where
  open here use {setting, n, count, w, nodes, j, world}
  open setting use {function as f}

  abbrev g : Given
  g = given setting

  abbrev pub z : SeeingShare
  z = seeing (S f g) (A f g) u x

  abbrev pub own_share : UnitShare R
  own_share = unit_share (S f g) (A f g) z

  abbrev pub v : View R
  v = shape own_share k.stage

  abbrev mine : ℕ → Bool
  mine = own_share.mine

  -- Links.
  pub link_known : (s r : ℕ) → s < n → r < n → (s == 0) && (r == 0) ≡ false → AreKnown f g z k.covered s r (filter_map (shown f g) (on_link w s r))
  link_known s r hs hr off =
      let shows = link_shown here s r hs hr off in
      let label = label_of (S f g) (A f g) z j.world j.shown_is.every.global k.covered v.phase v.queue k.holds.share r in
      record {
        moves = subst (λ ms. Each (NothingOf (S f g) u s) (olds ms)) shows (k.labels s r off);
        shares = subst (EachNew (ShareLabel (S f g) (A f g) z r)) shows (each_new_map (OfShare (S f g) j.world.shares r) (ShareLabel (S f g) (A f g) z r)
            label (j.world.link s r) (j.shown_is.every.global.messages s r off));
      }

  pub link_view : (s r : ℕ) → s < n → r < n → (s == 0) && (r == 0) ≡ false → links.view f g z k.covered r (on_link w s r) ≡ share_expect v s r
  link_view s r hs hr off = ap (share_items (S f g) (A f g) z r) (sym (link_shown here s r hs hr off)) ∙ k.holds.links s r off

  link_read : (s r : ℕ) → s < n → r < n → (s == 0) && (r == 0) ≡ false → AreRead f g z k.covered (on_link w s r) (share_expect v s r)
  link_read s r hs hr off = subst (AreRead f g z k.covered (on_link w s r)) (link_view s r hs hr off)
      (are_read f g z k.covered s r (on_link w s r) (labels here s r hs hr off) (link_known s r hs hr off))

  zero : 0 < n
  zero = omega (arith, count)

  one : 1 < n
  one = omega (arith, count)

  -- from the switch to an instance
  module _ (i : ℕ) (two : 2 ≤ i) (few : i < n) where
    to_instance : AreRead f g z k.covered (on_link w 0 i) (v.sw i)
    to_instance =
        let off_0 : (i == 0) ≡ false = grind (arith, nat_tests, two) in
        let off_1 : (i == 1) ≡ false = grind (arith, nat_tests, two) in
        subst (AreRead f g z k.covered (on_link w 0 i)) (let at : share_expect v 0 i ≡ v.sw i = rw off_1 refl in at) (link_read 0 i zero few off_0)

  pub its_places : Places own_share k.stage
  its_places = places own_share k.is k.stage

  at_few : its_places.at < n
  at_few = members_few setting n count w j (as_share (S f g) (A f g) z v.phase v.queue) k.holds.share its_places.at its_places.inside

  -- the share's packet on its way to a member
  pub passed_are : filter mine (on_links w passed_in) ≡ shared_in own_share (v.sw its_places.at)
  passed_are =
      those-all mine (flat_map passed_in) w.links
      ∙ one_link w world.square (λ ms. filter mine (flat_map passed_in ms)) 0 its_places.at (rw nodes zero) (rw nodes at_few)
      (λ a b ha hb off. elsewhere a b (rw (← nodes) ha) (rw (← nodes) hb) off)
      ∙ (to_instance its_places.at (k.insts its_places.at its_places.inside) at_few).shared
    where
      elsewhere : (a b : ℕ) → a < n → b < n → (a ≡ 0 → b ≡ its_places.at → ⊥) → filter mine (flat_map passed_in (on_link w a b)) ≡ []
      elsewhere a b ha hb off = either_way ((a == 0) && nat_lt 1 b)
          (λ on.
          let from : a ≡ 0 = grind (arith, nat_tests, on) in
          let high : 2 ≤ b = grind (arith, nat_tests, on) in
          ap (λ s. filter mine (flat_map passed_in (on_link w s b))) from ∙ (to_instance b high hb).shared ∙ its_places.others b (λ same. off from same))
          (λ out. passed_else here mine a b ha hb (λ h. (let from = h.0 in
          let on : (a == 0) && nat_lt 1 b ≡ true = grind (arith, nat_tests, from, h.1) in let never : true ≡ false = sym on ∙ out in cc)))

  -- packets on their way by the switch, and those that are diverted
  pub forwards_are : filter mine (on_links w forwarded_in) ≡ forwards own_share v.cs
  forwards_are =
      those-all mine (flat_map forwarded_in) w.links
      ∙ one_link w world.square (λ ms. filter mine (flat_map forwarded_in ms)) 1 0 (rw nodes one) (rw nodes zero)
      (λ a b ha hb off. forwarded_else here mine a b (rw (← nodes) ha) (rw (← nodes) hb) (λ h. off h.0 h.1))
      ∙ (link_read 1 0 one zero refl).forward

  pub diverts_are : filter mine (on_links w diverted_in) ≡ diverts own_share v.sc
  diverts_are =
      those-all mine (flat_map diverted_in) w.links
      ∙ one_link w world.square (λ ms. filter mine (flat_map diverted_in ms)) 0 1 (rw nodes zero) (rw nodes one)
      (λ a b ha hb off. diverted_else here mine a b (rw (← nodes) ha) (rw (← nodes) hb) off)
      ∙ (link_read 0 1 zero one refl).divert

  -- no event has any
  pub events_are : filter mine (on_links w handed_over_in) ≡ []
  events_are =
      those-all mine (flat_map handed_over_in) w.links
      ∙ no_link w world.square (λ ms. filter mine (flat_map handed_over_in ms)) (λ a b ha hb.
      none_on here mine a b handed_over_in (λ off. (link_read a b (rw (← nodes) ha) (rw (← nodes) hb) off).event))

  -- The controller stores nothing of it for another operation.
  abbrev its_cells : ℕ → List FullCell
  its_cells q = cells here q

  abbrev its_got : ℕ → Option Operation
  its_got q = got here q

  moves_store : (q : ℕ) (o : Open R) → find_op j.world.ops q ≡ Some o → (p : Option Operation) → Sees f (place g) (Some o) (but_shares p) (its_cells q)
      → filter mine (if lasts p then [] else numbers (its_cells q)) ≡ []
  moves_store q o found None h = absurd h
  moves_store q o found (Some (Copy y)) h = absurd h
  moves_store q o found (Some (Share s)) h = absurd h
  moves_store q o found (Some (Move m)) h =
      those_mine f g u (numbers (its_cells q)) ∙ ap (none_mine (S f g) u) (sym h.store) ∙ none_stored (S f g) (A f g) z j.world before since k q o found

  other_store : (q : ℕ) → for_other here mine q (its_cells q) ≡ []
  other_store q = by_open (find_op j.world.ops q) refl
    where
      by_open : (o : Option (Open R)) → find_op j.world.ops q ≡ o → for_other here mine q (its_cells q) ≡ []
      by_open None none = unseen_store here mine q none
      by_open (Some o) found = moves_store q o found (its_got q)
          (subst (λ y. Sees f (place g) y (but_shares (its_got q)) (its_cells q)) found (j.shown_is.controller.opens q).move)

  pub store_is : filter mine (flat_map stored_by w.nodes) ≡ []
  store_is = stored_for here mine 0 (λ q off. other_store q) ∙ other_store 0

  -- What waits for shares waits for its own.
  none_those : (ps : List ℕ) → Each (λ p. mine p ≡ false) ps → filter mine ps ≡ []
  none_those [] h = refl
  none_those (p ∷ ps) h = let off = h.0 in rw off (none_those ps h.1)

  queue_at : (q : ℕ) → (q == x.num) ≡ false → (o : Option Operation) → its_got q ≡ o → filter mine (if lasts o then numbers (its_cells q) else []) ≡ []
  queue_at q off None there = refl
  queue_at q off (Some (Move m)) there = refl
  queue_at q off (Some (Copy y)) there = refl
  queue_at q off (Some (Share s)) there =
      let b = both f (place g) g.site j.world.ops j.world.shares j.nodes.controller q s j.shown_is.controller.opens there in
      let queue : b.e.queue ≡ numbers (its_cells q) = ap (λ y. y.queue) b.sees.is in
      ap (filter mine) (sym queue)
      ∙ none_those b.e.queue (queue_other (S f g) (A f g) z j.world j.shown_is.every.global k.covered v.phase v.queue k.holds.share q b.e b.there off)

  pub queue_is : filter mine (flat_map queued_by w.nodes) ≡ mine_in own_share v.queue
  queue_is =
      let r = real setting n count w j u x before since k in
      let queue : v.queue ≡ numbers (its_cells x.num) = ap (λ y. y.queue) r.sees.is in
      queued_for here mine x.num
      (λ q off. queue_at q (let out : (q == x.num) ≡ false = grind (arith, nat_tests, off) in out) (its_got q) refl)
      ∙ ap (λ o. filter mine (if lasts o then numbers (its_cells x.num) else [])) r.there
      ∙ ap (filter mine) (sym queue)

  -- What stands at an instance.
  module _ (i : ℕ) (two : 2 ≤ i) (few : i < n) where
    held_is : filter mine (held_by (slice_get w.nodes i)) ≡ []
    held_is =
        let own = j.shown_is.instances i two few in
        let rules = (j.nodes.instance i).rules in
        ap (λ o. filter mine (held_by o)) (found_instance f g n w nodes j i two few)
        ∙ those-all mine (λ r. numbers r.held) rules
        ∙ held_none f g u rules (subst (λ y. Each (RestRule (S f g) u) y.rules) (sym own.outline_is) (k.rules i))

    pub stands_is : filter mine (held_by (slice_get w.nodes i) ++ flat_map carried_in (on_link w 0 i)) ≡ carries (v.sw i)
    stands_is = filter-append mine (held_by (slice_get w.nodes i)) (flat_map carried_in (on_link w 0 i))
        ∙ ap (λ l. l ++ filter mine (flat_map carried_in (on_link w 0 i))) held_is ∙ (to_instance i two few).carry

-- The share that a unit is under, by the log: its home owns the unit, and each packet of the unit goes to its member. So in every run.
use Rattle.nf_net.proofs.Words.{◌≡◌, ℕ, ◌+◌, Bool, true, false, Some, List, length, refl, sym, ap, ◌∙◌, arith, if◌then◌else◌, ◌&&◌, option_map_or, and_parts}
use Rattle.nf_net.proofs.Words.{takes, same_unit-true, Msg, Note, instance_node, Choice, Network, shape, unit_share, OpenShare, ShareAsked, Under, seeing}
use Rattle.nf_net.proofs.Words.{ItsShare, its_share, Node, is_of, packet_numbered, owner, members, member_for, unit_numbered, is_whole, unit_fits, is_sys}
use Rattle.nf_net.proofs.Words.{Given, S, A, Joined, AllApart, run_beside, given, Unit, either_way, Runs, Setting, IsCourse, world_of}
use Rattle.net_world.specs.Places.{goes_to}
use Rattle.nf_net.proofs.RunWords.{Busy, run_busy, Installs, run_installs, HomesOwn, count}
use Rattle.nf_net.proofs.InstalledShares.{SaysOfShares, says_of_shares}
use Rattle.nf_net.proofs.MemberLemmas.{IsThere, There}
use Rattle.nf_net.proofs.UnitShares.{share_of_unit, home_is, member_is, diverted_members, owner_goes}

module _ {F R : Type 0} (setting : Setting F R) (n : ℕ) (count_is : n ≡ length setting.config.names + 2) (w : Network (Node F R) Msg Note)
    (j : Joined setting.function (given setting) n w) (apart : AllApart j.nodes.controller.operations) (b : Busy (given setting) w)
    (h : Installs (given setting) w) (says : SaysOfShares setting.function setting.config setting.items w.log) where
  open setting use {function as f, config as c, items}

  abbrev g : Given
  g = given setting

  module _ (u : Unit) (fits : unit_fits f.kind u ≡ true) (e : OpenShare) (its : ItsShare (S f g) (A f g) (is_sys f g.site g.packet) u j.world e) where
    pub home_owns : IsThere (members c items u w.log) → e.home ≡ instance_node (owner c items u w.log)
    home_owns (There names shared) =
        let r = share_of_unit setting n count_is w j apart b u fits h names shared in
        home_is setting n count_is w j apart b u fits r.op names r.filter r.open_is r.takes_it e its (owner c items u w.log)
        (says.homes u fits names shared)

    pub member_goes : (p i : ℕ) → unit_numbered c items f.kind p ≡ u → (A f g).member e.members p ≡ instance_node i → IsThere (members c items u w.log)
        → goes_to c items f.kind p w.log ≡ Some i
    member_goes p i unit at (There names shared) =
        let r = share_of_unit setting n count_is w j apart b u fits h names shared in
        let member : member_for c items names (packet_numbered items p) ≡ Some i = member_is setting n count_is w j apart b u fits r.op names r.filter
        r.open_is r.takes_it e its p i at in
        ap (λ q. option_map_or (λ ns. member_for c items ns (packet_numbered items p)) (members c items q w.log) (Some (owner c items q w.log))) unit
        ∙ ap (λ o. option_map_or (λ ns. member_for c items ns (packet_numbered items p)) o (Some (owner c items u w.log))) shared
        ∙ member

  -- A unit under a share.
  module _ (u : Unit) (x : ShareAsked) (before since : List ℕ) (k : Under (S f g) (A f g) (seeing (S f g) (A f g) u x) j.world before since) where
    abbrev diverts : Bool
    diverts = (shape (unit_share (S f g) (A f g) (seeing (S f g) (A f g) u x)) k.stage).diverts

    abbrev e_here : OpenShare
    e_here = its_share (S f g) (A f g) (is_sys f g.site g.packet) u j.world x before since k

    its_here : ItsShare (S f g) (A f g) (is_sys f g.site g.packet) u j.world e_here
    its_here = record { found = k.holds.share; takes = k.covered; home_in = k.is.home_in }

    fits_here : unit_fits f.kind u ≡ true
    fits_here =
        (and_parts (unit_fits f.kind u) (takes x.filter u) (and_parts (is_whole f.kind x.filter) (unit_fits f.kind u && takes x.filter u) k.covered).1).0

    target : (d : Bool) → diverts ≡ d → j.world.target u ≡ (if d then 1 else x.home)
    target d is_so = k.holds.target ∙ ap (λ t. if t then 1 else x.home) is_so

    home_owner : instance_node (owner c items u w.log) ≡ x.home
    home_owner = either_way diverts (λ on. sym (home_owns u fits_here e_here its_here (diverted_members setting n w j u fits_here (target true on))))
        (λ off. (let at = target false off in
        let two = k.insts x.home k.is.home_in in sym (owner_goes setting n w j u fits_here (omega (arith, at, two))) ∙ at))

    -- a packet of it goes to its member, while the switch diverts them
    pub goes_so : diverts ≡ true → (p : ℕ) → is_of f c items u p ≡ true → (i : ℕ) → (A f g).member x.members p ≡ instance_node i
        → goes_to c items f.kind p w.log ≡ Some i
    goes_so on p mine i at = member_goes u fits_here e_here its_here p i (same_unit-true (unit_numbered c items f.kind p) u mine) at
        (diverted_members setting n w j u fits_here (target true on))

  pub homes_own : HomesOwn setting n count_is w j
  homes_own u x before since k = home_owner u x before since k

module _ {F R : Type 0} (setting : Setting F R) where
  abbrev after : List Choice → Network (Node F R) Msg Note
  after cs = world_of setting cs

  pub homes_of : (cs : List Choice) → IsCourse setting cs → (r : Runs setting (after cs)) → HomesOwn setting (count setting) refl (after cs) r.joined
  homes_of cs runs r = homes_own setting (count setting) refl (after cs) r.joined r.beside.kept.apart
      (run_busy setting cs runs).1 (run_installs setting cs runs) (says_of_shares setting cs runs)

  pub run_homes : (cs : List Choice) (runs : IsCourse setting cs) → HomesOwn setting (count setting) refl (after cs) (run_beside setting cs runs).joined
  run_homes cs runs = homes_of cs runs (run_beside setting cs runs)

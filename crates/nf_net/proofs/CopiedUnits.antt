-- As long as a copy is open, no move and no share takes a unit of its filter. So the unit rests: what its owner has of it has seen all of its packets
-- that were processed, and no other instance has anything of it.
use Rattle.nf_net.proofs.Words.{◌≡◌, ℕ, ◌<◌, ◌≤◌, inl, inr, true, false, Some, None, List, [], ◌∷◌, length, refl, sym, ap, ◌∙◌, subst, arith, if◌then◌else◌}
use Rattle.nf_net.proofs.Words.{◌==◌, slice_get, is_some, Decides-eqb, slice_get-get_or, Filter, takes, same_unit-true, Msg, Note, instance_node, CopyState}
use Rattle.nf_net.proofs.Words.{Copy, Move, Network, queue_at, self, shape, each_map, Open, unit_share, as_share, moves_of, seeing, Where, WhereAll}
use Rattle.nf_net.proofs.Words.{Apart_from_shares, Under_share, Node, is_of, processed_of, dones_in, done_where, owner, unit_numbered, live_at, live_in}
use Rattle.nf_net.proofs.Words.{is_whole, takes_same, unit_fits, is_sys, Given, S, A, came_by, Joined, Scene, AreApart, AllApart, done_same, given, Unit}
use Rattle.nf_net.proofs.Words.{Instance, split, Setting}
use Rattle.std.specs.Prelude.{map}
use Rattle.std.specs.FinMap as finite
use Rattle.actor_net.proofs.EnabledChoices.{at as at_node}
use Rattle.proof_machines.proofs.unit.Machine.{after}
use Rattle.proof_machines.proofs.net.Elsewhere.{Resting, where_rests}
use Rattle.proof_machines.proofs.net.GlobalAll.{TakesSome}
use Rattle.proof_machines.proofs.net.Readings as readings
use Rattle.proof_machines.proofs.whole.WhereAll.{found_takes}
use Rattle.net_world.specs.Fold.{fold}
use Rattle.net_world.specs.Log.{Done}
use Rattle.proof_outlines.proofs.joined.CopiesUnshared.{copy_out}
use Rattle.proof_outlines.proofs.joined.Joined.{IsListed}
use Rattle.nf_net.proofs.RunWords.{instance_of, record_is, fold_is, units_fit}
use Rattle.nf_net.proofs.UnitShares.{owner_goes}

-- a unit of which a packet was processed is one that packets may have
module _ {F R : Type 0} (setting : Setting F R) (u : Unit) where
  open setting use {function as f, config as c, items}

  done_fits : (d : Done) (ds rest : List Done) → done_where (is_of f c items u) ds ≡ d ∷ rest → unit_fits f.kind u ≡ true
  done_fits d [] rest e = cc
  done_fits d (x ∷ ds) rest e = split (is_of f c items u x.number)
      (λ b. (if b then x ∷ done_where (is_of f c items u) ds else done_where (is_of f c items u) ds) ≡ d ∷ rest → unit_fits f.kind u ≡ true)
      (λ mine _. subst (λ v. unit_fits f.kind v ≡ true) (same_unit-true (unit_numbered c items f.kind x.number) u mine)
      (units_fit setting x.number)) (λ _ more. done_fits d ds rest more) e

  folded_fits : (ds : List Done) (kept : R) → fold f c items None (map (λ d. d.number) (done_where (is_of f c items u) ds)) ≡ Some kept
      → unit_fits f.kind u ≡ true
  folded_fits ds kept h = by_list (done_where (is_of f c items u) ds) refl
    where
      by_list : (xs : List Done) → done_where (is_of f c items u) ds ≡ xs → unit_fits f.kind u ≡ true
      by_list [] e = let never : None ≡ Some kept = ap (λ xs. fold f c items None (map (λ d. d.number) xs)) (sym e) ∙ h in cc
      by_list (d ∷ rest) e = done_fits d ds rest e

module _ {F R : Type 0} (setting : Setting F R) (n : ℕ) (w : Network (Node F R) Msg Note) (nodes : length w.nodes ≡ n)
    (j : Joined setting.function (given setting) n w) (apart : AllApart j.nodes.controller.operations) (op : ℕ) (y : CopyState) (filter : Filter)
    (there : finite.get j.nodes.controller.operations op ≡ Some (Copy y)) (filter_is : y.plan.filter ≡ Some filter) (u : Unit) where
  open setting use {function as f, config as c, items}

  abbrev g : Given
  g = given setting

  abbrev scene : Scene F f g
  scene = record { nodes = j.nodes; world = j.world; log = w.log; input = queue_at w (at_node 0 0) }

  module _ (on : (S f g).takes filter u ≡ true) where
    no_share : TakesSome (S f g) j.world.shares u → ⊥
    no_share some = let never : true ≡ false = sym on ∙ copy_out f g n scene j.shown_is apart op y filter there filter_is u some in cc

    at_moves : Where (S f g) (is_sys f g.site g.packet) u (moves_of (S f g) (A f g) j.world) (came_by f g w.log u).all (came_by f g w.log u).bared
    at_moves = by_where (j.shown_is.every.unit u)
      where
        by_where : WhereAll (S f g) (A f g) (is_sys f g.site g.packet) u j.world (came_by f g w.log u)
            → Where (S f g) (is_sys f g.site g.packet) u (moves_of (S f g) (A f g) j.world) (came_by f g w.log u).all (came_by f g w.log u).bared
        by_where (Apart_from_shares h none) = h.is
        by_where (Under_share x before b h o k) =
            let z = seeing (S f g) (A f g) u x in
            let v = shape (unit_share (S f g) (A f g) z) h.stage in
            absurd (no_share (found_takes (S f g) j.world.shares x.num (as_share (S f g) (A f g) z v.phase v.queue) u h.holds.share h.covered))

    -- no open move takes it
    move_out : (e : Open R) → IsListed f g j.nodes.controller e → (S f g).takes e.filter u ≡ false
    move_out e listed = ap (λ q. (S f g).takes q u) listed.filter ∙ out
      where
        other : (op == e.op.num) ≡ false
        other = split (op == e.op.num) (λ b. b ≡ false)
            (λ same. let both : Some (Copy y) ≡ Some (Move listed.move) = sym there
            ∙ ap (finite.get j.nodes.controller.operations) ((Decides-eqb op e.op.num).0 same) ∙ listed.there in
            cc) (λ _. refl)

        off : AreApart (Some filter) (Some listed.move.plan.filter)
        off = subst (λ q. AreApart q (Some listed.move.plan.filter)) filter_is (apart op e.op.num (Copy y) (Move listed.move) other there listed.there)

        by_apart : AreApart (Some filter) (Some listed.move.plan.filter) → (S f g).takes listed.move.plan.filter u ≡ false
        by_apart (inl none) = (is_sys f g.site g.packet).apart filter listed.move.plan.filter u none on
        by_apart (inr none) = split ((S f g).takes listed.move.plan.filter u) (λ b. b ≡ false)
            (λ both. let never : true ≡ false = sym on ∙ (is_sys f g.site g.packet).apart listed.move.plan.filter filter u none both in cc) (λ _. refl)

        out : (S f g).takes listed.move.plan.filter u ≡ false
        out = by_apart off

    rests : Resting (S f g) u (moves_of (S f g) (A f g) j.world)
    rests = where_rests (S f g) (is_sys f g.site g.packet) u (moves_of (S f g) (A f g) j.world) (came_by f g w.log u).all (came_by f g w.log u).bared
        (each_map {P = IsListed f g j.nodes.controller} {Q = λ e. (S f g).takes e.filter u ≡ false} move_out j.world.ops j.shown_is.controller.listed)
        at_moves

  module _ (whole : is_whole f.kind filter ≡ true) (taken : takes filter u ≡ true) where
    on_by : unit_fits f.kind u ≡ true → (S f g).takes filter u ≡ true
    on_by fits = takes_same f.kind filter u whole fits ∙ taken

    -- what is live of it has seen all
    pub had : (i : ℕ) (kept : R) → 2 ≤ instance_node i → instance_node i < n → live_at w i u ≡ Some kept
        → fold f c items None (processed_of f c items u w.log) ≡ Some kept
    had i kept two few live =
        let node = Instance (j.nodes.instance (instance_node i)) in
        let found : slice_get w.nodes (instance_node i) ≡ Some node = slice_get-get_or w.nodes (instance_node i) node (rw nodes few)
        ∙ ap Some (j.nodes_are (instance_node i) few node ∙ instance_of j.nodes (instance_node i) two) in
        let own : finite.get (j.nodes.instance (instance_node i)).table.live u ≡ Some kept = sym (ap (live_in u) found) ∙ live in
        let fits = (j.shown_is.instances (instance_node i) two few).records.fits u (ap is_some own) in
        fold_is setting None (processed_of f c items u w.log)
        ∙ ap (λ ps. readings.fold (S f g).F None ps) (sym (done_same setting n w j u)) ∙ record_is setting n w nodes j u (at_moves (on_by fits)) i kept live

    -- and its owner has that
    pub owned : (i : ℕ) (kept : R) → instance_node i < n → owner c items u w.log ≡ i → fold f c items None (processed_of f c items u w.log) ≡ Some kept
        → live_at w i u ≡ Some kept
    owned i kept few own h =
        let fits = folded_fits setting u (dones_in w.log) kept h in
        let r = rests (on_by fits) in
        let k = instance_node i in
        let two : 2 ≤ j.world.target u = subst (λ q. 2 ≤ q) (sym r.rest.target) r.rest.two in
        let at_owner : r.owner ≡ k = sym r.rest.target ∙ owner_goes setting n w j u fits two ∙ ap instance_node own in
        let node = Instance (j.nodes.instance k) in
        let found : slice_get w.nodes k ≡ Some node = slice_get-get_or w.nodes k node (rw nodes few)
        ∙ ap Some (j.nodes_are k few node ∙ instance_of j.nodes k (omega arith)) in
        let same : (k == r.owner) ≡ true = ap (λ q. k == q) at_owner ∙ self k in
        ap (live_in u) found
        ∙ ap (λ x. finite.get x.live u) (j.shown_is.instances k (omega arith) few).outline_is
        ∙ subst (λ t. finite.get (j.world.inst k).live u ≡ (if t then after (S f g).F r.done else None)) same (r.rest.live k)
        ∙ ap (readings.fold (S f g).F None) (sym r.rest.done)
        ∙ ap (readings.fold (S f g).F None) (done_same setting n w j u)
        ∙ sym (fold_is setting None (processed_of f c items u w.log))
        ∙ h

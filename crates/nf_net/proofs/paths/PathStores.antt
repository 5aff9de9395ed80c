-- What the controller stores of a unit that no share has is what its seat has there, and nothing of it waits for a share.
use Rattle.nf_net.proofs.Words.{◌≡◌, ◌≢◌, ℕ, zero, suc, ◌<◌, Bool, true, false, Option, Some, None, List, [], get_or, refl, sym, ap, ◌∙◌, subst, arith}
use Rattle.nf_net.proofs.Words.{if◌then◌else◌, ◌==◌, filter, flat_map, nat_tests, Decides-eqb, FullCell, stored_of, Operation, Move, Copy, Share, State, Op}
use Rattle.nf_net.proofs.Words.{only_mine, Open, find_op, each_found, Seeing, frame, OpLabel, none_mine, found_each, Node, Switch, Controller, lasts, stored_by}
use Rattle.nf_net.proofs.Words.{queued_by, Sees, is_sys, but_shares, both, Given, place, S, node_of, given, Unit}
use Rattle.std.specs.FinMap as finite
use Rattle.proof_machines.proofs.unit.Sides.{is_released, over_released}
use Rattle.proof_machines.proofs.net.Holding.{IsController}
use Rattle.proof_machines.proofs.net.Units.{see}
use Rattle.net_world.specs.Path.{numbers}
use Rattle.nf_net.proofs.paths.PathNodes.{only_those, those_mine, store_of}
use Rattle.nf_net.proofs.RunWords.{those-all, one_at, Reached, IsApart, HoldsAt}

module _ {F R : Type 0} (here : Reached F R) where
  open here use {setting, n, count, w, nodes, j}
  open setting use {function as f}

  abbrev g : Given
  g = given setting

  abbrev pub got : ℕ → Option Operation
  got k = finite.get j.nodes.controller.operations k

  abbrev pub cells : ℕ → List FullCell
  cells k = stored_of j.nodes.controller.store k

  -- what all nodes have of a kind that the controller alone has
  module _ (mine : ℕ → Bool) (of : Node F R → List ℕ) (others : (k : ℕ) → k ≢ 1 → filter mine (of (node_of j.nodes k)) ≡ []) where
    node_is : (k : ℕ) → k < n → (d : Node F R) → filter mine (of (get_or w.nodes k d)) ≡ filter mine (of (node_of j.nodes k))
    node_is k few d = ap (λ y. filter mine (of y)) (j.nodes_are k few d)

    pub at_controller : filter mine (flat_map of w.nodes) ≡ filter mine (of (Controller j.nodes.controller))
    at_controller =
        let d : Node F R = Switch j.nodes.switch in
        let one : 1 < n = omega (arith, count) in
        those-all mine of w.nodes
        ∙ one_at (λ y. filter mine (of y)) w.nodes 1 d (rw nodes one) (λ i small off. node_is i (rw (← nodes) small) d ∙ others i off)
        ∙ node_is 1 one d

  -- the parcels of an operation, for a share or for another
  module _ (mine : ℕ → Bool) where
    abbrev pub for_share : ℕ → List FullCell → List ℕ
    for_share k ps = filter mine (if lasts (got k) then numbers ps else [])

    abbrev pub for_other : ℕ → List FullCell → List ℕ
    for_other k ps = filter mine (if lasts (got k) then [] else numbers ps)

    no_cells : (b : Bool) → filter mine (if b then [] else []) ≡ []
    no_cells true = refl
    no_cells false = refl

    others_store : (k : ℕ) → k ≢ 1 → filter mine (stored_by (node_of j.nodes k)) ≡ []
    others_store zero off = refl
    others_store (suc zero) off = absurd (off refl)
    others_store (suc (suc k)) off = refl

    others_queue : (k : ℕ) → k ≢ 1 → filter mine (queued_by (node_of j.nodes k)) ≡ []
    others_queue zero off = refl
    others_queue (suc zero) off = absurd (off refl)
    others_queue (suc (suc k)) off = refl

    -- all of them are those of one operation, if the others have none
    pub stored_for : (op : ℕ) → ((k : ℕ) → k ≢ op → for_other k (cells k) ≡ []) → filter mine (flat_map stored_by w.nodes) ≡ for_other op (cells op)
    stored_for op none =
        at_controller mine stored_by others_store
        ∙ those-all mine (λ e. if lasts (got e.0) then [] else numbers e.1) (finite.entries j.nodes.controller.store)
        ∙ store_of for_other (λ k. no_cells (lasts (got k))) op j.nodes.controller.store none

    pub queued_for : (op : ℕ) → ((k : ℕ) → k ≢ op → for_share k (cells k) ≡ []) → filter mine (flat_map queued_by w.nodes) ≡ for_share op (cells op)
    queued_for op none =
        at_controller mine queued_by others_queue
        ∙ those-all mine (λ e. if lasts (got e.0) then numbers e.1 else []) (finite.entries j.nodes.controller.store)
        ∙ store_of for_share (λ k. no_cells (lasts (got k))) op j.nodes.controller.store none

    -- where nothing is open, or a share, nothing is stored for another
    abbrev pub other_at : Option Operation → ℕ → List ℕ
    other_at o k = filter mine (if lasts o then [] else numbers (cells k))

    pub none_seen : (k : ℕ) (o : Option Operation) → got k ≡ o → Sees f (place g) None (but_shares o) (cells k) → other_at o k ≡ []
    none_seen k None e h = ap (λ v. filter mine (numbers v)) (j.shown_is.controller.emptied k e)
    none_seen k (Some (Copy y)) e h = ap (λ v. filter mine (numbers v)) (j.shown_is.controller.unstored k y e)
    none_seen k (Some (Move m)) e h = absurd h
    none_seen k (Some (Share s)) e h = refl

    pub unseen_store : (k : ℕ) → find_op j.world.ops k ≡ None → for_other k (cells k) ≡ []
    unseen_store k e = none_seen k (got k) refl (subst (λ o. Sees f (place g) o (but_shares (got k)) (cells k)) e (j.shown_is.controller.opens k).move)

  -- A unit that no share has.
  module _ (u : Unit) (apart : IsApart here u) (op : Op) (third : ℕ) (x : State R) (holds : HoldsAt here u op third x) where
    abbrev z : Seeing
    z = see (S f g) (is_sys f g.site g.packet) u op third

    abbrev mine : ℕ → Bool
    mine = (frame (S f g) z).mine

    -- nothing of it waits for a share
    queue_at : (k : ℕ) (o : Option Operation) → got k ≡ o → filter mine (if lasts o then numbers (cells k) else []) ≡ []
    queue_at k None e = refl
    queue_at k (Some (Copy y)) e = refl
    queue_at k (Some (Move m)) e = refl
    queue_at k (Some (Share s)) e =
        let b = both f (place g) g.site j.world.ops j.world.shares j.nodes.controller k s j.shown_is.controller.opens e in
        let queue : b.e.queue ≡ numbers (cells k) = ap (λ y. y.queue) b.sees.is in
        ap (filter mine) (sym queue) ∙ those_mine f g u b.e.queue ∙ found_each (λ y. none_mine (S f g) u y.queue ≡ []) j.world.shares k b.e apart.queues b.there

    pub queue_is : filter mine (flat_map queued_by w.nodes) ≡ []
    queue_is = queued_for mine 0 (λ k off. queue_at k (got k) refl) ∙ queue_at 0 (got 0) refl

    -- an operation's parcels, as its open move has them
    seen_store : (k : ℕ) (e : Open R) (o : Option Operation) → Sees f (place g) (Some e) (but_shares o) (cells k)
        → other_at mine o k ≡ only_mine (frame (S f g) z) e.store
    seen_store k e None h = absurd h
    seen_store k e (Some (Copy y)) h = absurd h
    seen_store k e (Some (Share s)) h = absurd h
    seen_store k e (Some (Move m)) h = sym (only_those f g z (numbers (cells k))) ∙ ap (only_mine (frame (S f g) z)) (sym h.store)

    found_store : (k : ℕ) (e : Open R) → find_op j.world.ops k ≡ Some e → for_other mine k (cells k) ≡ only_mine (frame (S f g) z) e.store
    found_store k e found = seen_store k e (got k) (subst (λ o. Sees f (place g) o (but_shares (got k)) (cells k)) found (j.shown_is.controller.opens k).move)

    other_store : (k : ℕ) → k ≢ op.num → for_other mine k (cells k) ≡ []
    other_store k off = by_open (find_op j.world.ops k) refl
      where
        by_open : (o : Option (Open R)) → find_op j.world.ops k ≡ o → for_other mine k (cells k) ≡ []
        by_open None e = unseen_store mine k e
        by_open (Some e) found =
            let l = each_found (OpLabel (S f g) z) k j.world.ops e holds.ops found in
            let same : e.op.num ≡ k = (Decides-eqb e.op.num k).0 l.1 in
            let other : (e.op.num == op.num) ≡ false = grind (arith, nat_tests, same, off) in
            found_store k e found ∙ (l.0.1 other).1

    pub store_is : (is_released x.phase ≡ true → x.store ≡ []) → filter mine (flat_map stored_by w.nodes) ≡ x.store
    store_is released = stored_for mine op.num other_store ∙ by_open (find_op j.world.ops op.num) refl
      where
        by_open : (o : Option (Open R)) → find_op j.world.ops op.num ≡ o → for_other mine op.num (cells op.num) ≡ x.store
        by_open None e =
            let over = subst (λ o. IsController (S f g) z o x) e holds.ctrl in
            unseen_store mine op.num e ∙ sym (released (over_released x.phase over))
        by_open (Some e) found =
            let own = subst (λ o. IsController (S f g) z o x) found holds.ctrl in
            found_store op.num e found ∙ own.2

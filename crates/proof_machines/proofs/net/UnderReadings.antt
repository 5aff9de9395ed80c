-- What is read off a unit under a share: its packets that are done and that wait are all that arrived, in order; each member's record is the
-- fold of a front of what was done, and of all of it where packets are processed; and with no message left nothing waits.
use Rattle.proof_machines.proofs.net.Words.{◌≡◌, ◌≢◌, ℕ, ◌≤◌, ◌<◌, true, false, Option, Some, None, List, [], ◌∷◌, ◌++◌, ◌⊎◌, inl, inr, refl, sym, ap, ◌∙◌}
use Rattle.proof_machines.proofs.net.Words.{subst, arith, ◌&&◌, ◌==◌, nat_tests, add, Carry, Shared, UnitShare, View, has, runs, front, processed, packets}
use Rattle.proof_machines.proofs.net.Words.{late, path, shape, IsFront, Lacks, own_is, done_is, is_live, seen_front, Meets, to_members, meets_sw, meets_to, Sys}
use Rattle.proof_machines.proofs.net.Words.{IsSys, at_node, done_u, GlobalAll, share_expect, unit_share, share_seen, share_items, own_at, Any, Sharing}
use Rattle.proof_machines.proofs.net.Words.{IsSharing, WholeWorld, ran_of, SeeingShare, true_from_ne_false}
use Rattle.proof_machines.proofs.share.Share.{Ran, Item, after}
use Rattle.proof_machines.proofs.share.Order.{in_order}
use Rattle.proof_machines.proofs.share.Rests.{Rests, rests}
use Rattle.proof_machines.proofs.net.MemberSteps.{does}
use Rattle.proof_machines.proofs.net.UnderInst.{did_at, heads, inst_from}
use Rattle.proof_machines.proofs.net.Under.{Under}
use Rattle.proof_machines.proofs.net.UnderSteps.{inst_keeps}
use Rattle.proof_machines.proofs.net.UnderStarts.{packets_done}

module _ {R : Type 0} (S : Sys R) (A : Sharing S) (z : SeeingShare) (w : WholeWorld S A) (before since : List ℕ) (u : Under S A z w before since) where
  abbrev f : UnitShare R
  f = unit_share S A z

  abbrev done : List Ran
  done = ran_of S A z.unit w.done

  pub all_done : done ≡ processed f u.stage
  all_done = u.holds.done ∙ done_is f u.stage

  -- done and waiting are what arrived
  pub under_order : done_u S z.unit w.done ++ path f u.stage ≡ before ++ since
  under_order =
      ap (λ v. v ++ path f u.stage) (sym (packets_done S A z.unit w.done) ∙ ap packets all_done)
      ∙ in_order f u.stage
      ∙ ap (λ v. v ++ late f u.stage) (sym u.before_is)
      ∙ ap (λ v. before ++ v) (sym u.since_is)

  -- a member's record: the live one at home, the one that stands by at the others; and the live one lacks at most one packet, which another
  -- member has seen
  pub record RecordsOf : Type 0 where
    pub seen : ℕ → List Ran
    pub own : (k : ℕ) → has z.members k ≡ true → own_at S A z w k ≡ runs S.F None (seen k)
    pub fronts : (k : ℕ) → IsFront (seen k) done
    pub live : Lacks f (seen z.home) done seen
    pub away : (k : ℕ) → (k == z.home) ≡ false → S.B.at z.unit (w.inst k).live ≡ None

  pub under_records : RecordsOf
  under_records = record {
    seen = front f u.stage;
    own = λ k inside. u.holds.own k inside ∙ own_is f u.stage k;
    fronts = λ k. subst (λ ds. IsFront (front f u.stage k) ds) (sym all_done) (seen_front f u.stage u.fits k);
    live = subst (λ ds. Lacks f (front f u.stage z.home) ds (front f u.stage)) (sym all_done) (is_live f u.stage u.fits);
    away = u.away;
  }

  -- Where an instance processes packets of the unit, it is a member, whose record is the fold of all that was done
  module _ (laws : IsSys S) (ok : IsSharing S A) (g : GlobalAll S A w) (y p : ℕ) (m : Any R) (rest : List (Any R)) (y0 : (y == 0) ≡ false)
      (y1 : (y == 1) ≡ false) (waits : w.link p y ≡ m ∷ rest) (some : ran_of S A z.unit (at_node y (did_at S A laws z w y m).ran) ≢ []) where
    abbrev left : List (Item R)
    left = share_items S A z y rest

    abbrev Has_run : Option (Item R) → Type 0
    Has_run o = (does S A laws z y (own_at S A z w y) o).ran ≢ []

    ran : Has_run (share_seen S A z y m)
    ran none = some ((inst_keeps S A z laws ok w before since g u y p y0 y1 m rest waits).sees.ran ∙ none)

    -- an item that makes a member process something meets all that was done
    meets_all : (it : Item R) → Has_run (Some it) → Meets f u.stage y it → after f (front f u.stage y) ≡ after f (processed f u.stage)
    meets_all (Carry q) r h = h.1
    meets_all (Shared q) r h = h.1
    meets_all it r h = absurd (r refl)

    pub record FreshAt : Type 0 where
      pub inside : has z.members y ≡ true
      pub own : own_at S A z w y ≡ runs S.F None done

    fresh_by : (it : Item R) → has z.members y ≡ true → Has_run (Some it) → Meets f u.stage y it → FreshAt
    fresh_by it inside r h =
        record { inside = inside; own = u.holds.own y inside ∙ own_is f u.stage y ∙ meets_all it r h ∙ ap (λ ds. runs S.F None ds) (sym all_done) }

    member : (it : Item R) (its : List (Item R)) → its ≡ it ∷ left → (has z.members y ≡ false → its ≡ []) → has z.members y ≡ true
    member it its head out = true_from_ne_false (has z.members y) (λ e. let never : it ∷ left ≡ [] = sym head ∙ out e in cc)

    abbrev IsFirst : Item R → Type 0
    IsFirst it = ((shape f u.stage).sw y ≡ it ∷ left) × (p ≡ 0) ⊎ ((shape f u.stage).to y ≡ it ∷ left) × (p ≡ 1)

    -- the item of which it processes something stands first on a link to it
    pub record FirstItem : Type 0 where
      pub item : Item R
      pub seen : share_seen S A z y m ≡ Some item
      pub processes : Has_run (Some item)
      pub first : IsFirst item

    by_item : (o : Option (Item R)) → share_seen S A z y m ≡ o → Has_run o → add o left ≡ share_expect (shape f u.stage) p y → FirstItem
    by_item None is r e = absurd (r refl)
    by_item (Some it) is r e =
        let first = inst_from S A laws z w (shape f u.stage) u.holds (to_members f u.is u.stage u.fits) y p m rest y0 y1 waits it e in
        record { item = it; seen = is; processes = r; first = first }

    pub first_item : FirstItem
    first_item =
        by_item (share_seen S A z y m) refl ran (heads S A laws z w (shape f u.stage) u.holds (to_members f u.is u.stage u.fits) y p m rest y0 y1 waits)

    by_link : (it : Item R) → Has_run (Some it) → IsFirst it → FreshAt
    by_link it r (inl a) = fresh_by it (member it ((shape f u.stage).sw y) a.0 ((to_members f u.is u.stage u.fits).sw y)) r (meets_sw f u.stage y it left a.0)
    by_link it r (inr a) =
        let inside = member it ((shape f u.stage).to y) a.0 ((to_members f u.is u.stage u.fits).to y) in
        fresh_by it inside r (meets_to f u.stage u.fits y inside it left a.0)

    pub under_fresh : FreshAt
    under_fresh = by_link first_item.item first_item.processes first_item.first

  -- With no message on the links between the first nodes, among them the members, the share is idle and no packet waits
  pub under_rests : (n : ℕ) → 2 ≤ n → ((k : ℕ) → has z.members k ≡ true → k < n)
      → ((i j : ℕ) → i < n → j < n → (i == 0) && (j == 0) ≡ false → w.link i j ≡ []) → Rests f u.stage
  under_rests n some_nodes few quiet = rests f u.is u.stage u.fits (record {
    sw = λ k inside. to_inst k inside (no_items 0 k zero (few k inside) (off k inside));
    sc = no_items 0 1 zero one refl;
    cs = no_items 1 0 one zero refl;
    to = λ k inside. to_member k inside (no_items 1 k one (few k inside) refl);
    back = λ k inside. from_member k inside (no_items k 1 (few k inside) one (last k));
  })
    where
      x : View R
      x = shape f u.stage

      zero : 0 < n
      zero = omega (arith, some_nodes)

      one : 1 < n
      one = omega (arith, some_nodes)

      not_0 : (k : ℕ) → has z.members k ≡ true → (k == 0) ≡ false
      not_0 k inside = let two = u.insts k inside in grind (arith, nat_tests, two)

      not_1 : (k : ℕ) → has z.members k ≡ true → (k == 1) ≡ false
      not_1 k inside = let two = u.insts k inside in grind (arith, nat_tests, two)

      off : (k : ℕ) → has z.members k ≡ true → (0 == 0) && (k == 0) ≡ false
      off k inside = not_0 k inside

      last : (k : ℕ) → (k == 0) && (1 == 0) ≡ false
      last k = elim (k == 0) as (λ b. b && false ≡ false) [ true ↦ refl | false ↦ refl ]

      no_items : (i j : ℕ) → i < n → j < n → (i == 0) && (j == 0) ≡ false → share_expect (shape f u.stage) i j ≡ []
      no_items i j hi hj e = sym (u.holds.links i j e) ∙ ap (share_items S A z j) (quiet i j hi hj e)

      to_inst : (k : ℕ) → has z.members k ≡ true → share_expect (shape f u.stage) 0 k ≡ [] → (shape f u.stage).sw k ≡ []
      to_inst k inside e = let k1 = not_1 k inside in rw k1 at e

      to_member : (k : ℕ) → has z.members k ≡ true → share_expect (shape f u.stage) 1 k ≡ [] → (shape f u.stage).to k ≡ []
      to_member k inside e = let k0 = not_0 k inside in rw k0 at e

      from_member : (k : ℕ) → has z.members k ≡ true → share_expect (shape f u.stage) k 1 ≡ [] → (shape f u.stage).back k ≡ []
      from_member k inside e = let k0 = not_0 k inside in let k1 = not_1 k inside in rw (k0, k1) at e

-- What stands by never goes back: with each step of an instance every record that stands by has seen at least as much of what was done of its unit.
-- No other step of the whole world changes what stands by.
use Rattle.proof_machines.proofs.net.Words.{◌≡◌, ℕ, Bool, true, false, Option, Some, None, List, [], ◌∷◌, ◌++◌, ◌⊎◌, inl, inr, refl, sym, ap, ◌∙◌, subst}
use Rattle.proof_machines.proofs.net.Words.{if◌then◌else◌, ◌==◌, Decides-eqb, Chunks, record_at, add, Sync, UnitShare, has, over, runs, front, shape, IsFront}
use Rattle.proof_machines.proofs.net.Words.{self, own_is, seen_front, to_members, Sys, IsSys, OfShare, GlobalAll, unit_share, share_seen, share_items, Any, Old}
use Rattle.proof_machines.proofs.net.Words.{New, ShareMsg, Shared_on, ShareAsked, Sharing, IsSharing, member_step, WholeWorld, whole_inst, ran_of, SeeingShare}
use Rattle.proof_machines.proofs.net.Words.{same_unit, either_way, true_from_ne_false, Unit}
use Rattle.proof_machines.proofs.share.Share.{Ran, Item}
use Rattle.proof_machines.proofs.share.Setting.{front_same}
use Rattle.proof_machines.proofs.net.NewMessages.{new_head}
use Rattle.proof_machines.proofs.net.ShareLabels.{ShareLabel, label_of}
use Rattle.proof_machines.proofs.net.Untaken.{head_none}
use Rattle.proof_machines.proofs.net.UnderInst.{heads, inst_from}
use Rattle.proof_machines.proofs.net.Under.{Under}
use Rattle.proof_machines.proofs.net.UnderSteps.{under_inst}
use Rattle.proof_machines.proofs.net.UnderStarts.{seeing}
use Rattle.proof_machines.proofs.net.UnderReadings.{all_done}
use Rattle.proof_machines.proofs.whole.WhereAll.{Came, WhereAll, Apart_from_shares, Under_share}
use Rattle.proof_machines.proofs.whole.Fronts.{Fronts, ran_more, same_after, its_then}
use Rattle.proof_machines.proofs.whole.FrontSteps.{no_input, table_seen, inst_fronts}

-- a flag that isn't home's
not_home : (b : Bool) → (if b then false else true) ≡ true → b ≡ false
not_home true e = sym e
not_home false e = refl

module _ {R : Type 0} (S : Sys R) (A : Sharing S) (laws : IsSys S) (u : Unit) where
  -- the newer of two records that stand by has seen a front of what was done, and no less than the older
  pub record Sees_more (all : List Ran) (old new : Option R) : Type 0 where
    pub before : List Ran
    pub since : List Ran
    pub old_is : old ≡ runs S.F None before
    pub new_is : new ≡ runs S.F None since
    pub behind : IsFront before since
    pub within : IsFront since all

  module _ (ok : IsSharing S A) (w : WholeWorld S A) (k : Came) (g : GlobalAll S A w) (p y : ℕ) (rest : List (Any R)) (y0 : (y == 0) ≡ false)
      (y1 : (y == 1) ≡ false) (wh : WhereAll S A laws u w k) (fronts : Fronts S A laws u w) where
    abbrev Sees : Any R → ℕ → Type 0
    Sees m j = Sees_more (ran_of S A u (whole_inst S A w p y m).done) (S.B.at u (w.standby j)) (S.B.at u ((whole_inst S A w p y m).standby j))

    as_it_was : (m : Any R) → w.link p y ≡ m ∷ rest → (j : ℕ) → S.B.at u ((whole_inst S A w p y m).standby j) ≡ S.B.at u (w.standby j) → Sees m j
    as_it_was m waits j e =
        let f = (inst_fronts S A laws u ok w k g p y rest y0 y1 wh fronts m waits).standby j in
        record { before = f.seen; since = f.seen; old_is = sym e ∙ f.fold; new_is = f.fold; behind = front_same f.seen; within = f.front }

    -- at the instance itself
    left_there : (m : ShareMsg R) → S.B.at u ((whole_inst S A w p y (New m)).standby y) ≡ S.B.at u (member_step S A (w.inst y).live (w.standby y) m).standby
    left_there m = ap (λ b. S.B.at u (if b then (member_step S A (w.inst y).live (w.standby y) m).standby else w.standby y)) (self y)

    -- a packet of the share
    packet_sees : (n q : ℕ) → w.link p y ≡ New (Shared_on n false q) ∷ rest → Sees (New (Shared_on n false q)) y
    packet_sees n q waits = either_way (same_unit (S.packet_unit q) u)
        (λ on.
        let ds = ran_of S A u w.done in
        let all = table_seen S A laws u ok w k g p y rest y0 y1 wh n false q waits in
        let more = ran_of S A u ((q, y) ∷ []) in
        record {
          before = ds;
          since = ds ++ more;
          old_is = all on;
          new_is = left_there (Shared_on n false q) ∙ its_then S A laws u ds q y (w.standby y) all on;
          behind = (more, refl);
          within = subst (λ es. IsFront (ds ++ more) es) (sym (ran_more S A laws u w.done ((q, y) ∷ []))) (front_same (ds ++ more));
        })
        (λ off. as_it_was (New (Shared_on n false q)) waits y (left_there (Shared_on n false q) ∙ same_after S A laws u q (w.standby y) off))

    -- a Sync
    module _ (n : ℕ) (cs : Chunks R) (waits : w.link p y ≡ New (ShareMsg.Sync n false cs) ∷ rest) where
      nothing : record_at u cs ≡ None → Sees (New (ShareMsg.Sync n false cs)) y
      nothing none = as_it_was (New (ShareMsg.Sync n false cs)) waits y
          (left_there (ShareMsg.Sync n false cs) ∙ ok.replaced u cs (w.standby y) ∙ ap (λ o. over o (S.B.at u (w.standby y))) none)

      module _ (x : ShareAsked) (before : List ℕ) (h : Under S A (seeing S A u x) w before k.diverted) where
        abbrev z : SeeingShare
        z = seeing S A u x

        abbrev f : UnitShare R
        f = unit_share S A (seeing S A u x)

        abbrev left : List (Item R)
        left = share_items S A (seeing S A u x) y rest

        label : ShareLabel S A z y (ShareMsg.Sync n false cs)
        label = let v = shape f h.stage in
            label_of S A z w g h.covered v.phase v.queue h.holds.share y (ShareMsg.Sync n false cs)
            (new_head (OfShare S w.shares) w.link g.messages p y (ShareMsg.Sync n false cs) rest (no_input S A laws u p y y0) waits)

        -- it goes to a member
        inside : (n == x.num) ≡ true → has x.members y ≡ true
        inside on =
            let members = to_members f h.is h.stage h.fits in
            let sees : share_seen S A z y (New (ShareMsg.Sync n false cs)) ≡ Some (Sync (record_at u cs)) = rw (on, label.0 on) refl in
            let head = ap (λ o. add o left) (sym sees)
            ∙ heads S A laws z w (shape f h.stage) h.holds members y p (New (ShareMsg.Sync n false cs)) rest y0 y1 waits in
            by_link (inst_from S A laws z w (shape f h.stage) h.holds members y p (New (ShareMsg.Sync n false cs)) rest y0 y1 waits (Sync (record_at u cs))
            head)
          where
            not_out : (its : List (Item R)) → its ≡ Sync (record_at u cs) ∷ left → (has x.members y ≡ false → its ≡ []) → has x.members y ≡ true
            not_out its is out = true_from_ne_false (has x.members y) (λ e. let never : Sync (record_at u cs) ∷ left ≡ [] = sym is ∙ out e in cc)

            by_link : ((shape f h.stage).sw y ≡ Sync (record_at u cs) ∷ left) × (p ≡ 0) ⊎ ((shape f h.stage).to y ≡ Sync (record_at u cs) ∷ left) × (p ≡ 1)
                → has x.members y ≡ true
            by_link (inl a) = not_out ((shape f h.stage).sw y) a.0 ((to_members f h.is h.stage h.fits).sw y)
            by_link (inr a) = not_out ((shape f h.stage).to y) a.0 ((to_members f h.is h.stage h.fits).to y)

        -- whose record sees more
        member_sees : (n == x.num) ≡ true → Sees (New (ShareMsg.Sync n false cs)) y
        member_sees on =
            let goes = under_inst S A z laws ok w before k.diverted g h y p y0 y1 (New (ShareMsg.Sync n false cs)) rest waits in
            let in_it = inside on in
            let off : (y == x.home) ≡ false = not_home (y == x.home) (label.0 on) in
            let s = h.stage in
            let t = goes.under.stage in
            record {
              before = front f s y;
              since = front f t y;
              old_is = (rw off at (h.holds.own y in_it)) ∙ own_is f s y;
              new_is = (rw off at (goes.under.holds.own y in_it)) ∙ own_is f t y;
              behind = goes.longer y in_it;
              within = subst (λ ds. IsFront (front f t y) ds)
                  (sym (all_done S A z (whole_inst S A w p y (New (ShareMsg.Sync n false cs))) before k.diverted goes.under))
                  (seen_front f t goes.under.fits y);
            }

        under_sees : Sees (New (ShareMsg.Sync n false cs)) y
        under_sees = elim (n == x.num) as (λ b. (n == x.num) ≡ b → Sees (New (ShareMsg.Sync n false cs)) y)
            [ true ↦ member_sees | false ↦ λ off. nothing (label.1 off) ] refl

      sync_sees : WhereAll S A laws u w k → Sees (New (ShareMsg.Sync n false cs)) y
      sync_sees (Apart_from_shares h none) = nothing (head_none S u A w p y (New (ShareMsg.Sync n false cs)) rest (no_input S A laws u p y y0) waits h.untaken)
      sync_sees (Under_share x before b h o i) = under_sees x before h

    new_sees : (m : ShareMsg R) → w.link p y ≡ New m ∷ rest → Sees (New m) y
    new_sees (Shared_on n false q) waits = packet_sees n q waits
    new_sees (ShareMsg.Sync n false cs) waits = sync_sees n cs waits wh
    new_sees m waits = as_it_was (New m) waits y (left_there m)

    pub inst_sees : (m : Any R) → w.link p y ≡ m ∷ rest → (j : ℕ)
        → Sees_more (ran_of S A u (whole_inst S A w p y m).done) (S.B.at u (w.standby j)) (S.B.at u ((whole_inst S A w p y m).standby j))
    inst_sees (Old m) waits j = as_it_was (Old m) waits j refl
    inst_sees (New m) waits j = either_way (j == y) (λ on. subst (λ i. Sees (New m) i) (sym ((Decides-eqb j y).0 on)) (new_sees m waits))
        (λ off. as_it_was (New m) waits j (ap (λ b. S.B.at u (if b then (member_step S A (w.inst y).live (w.standby y) m).standby else w.standby j)) off))

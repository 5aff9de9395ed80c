-- Where an instance processes packets of a unit, the record that it steps is the fold of all that was done of the unit before: by a message of a move its
-- live record, also where a share has the unit, and by one of a share the record in the table that the message names.
use Rattle.nf_net.proofs.Words.{◌≡◌, ◌≢◌, ℕ, Bool, true, false, Option, Some, None, List, [], ◌∷◌, inl, inr, refl, ap, ◌∙◌, if◌then◌else◌, ◌==◌, Decides-eqb}
use Rattle.nf_net.proofs.Words.{MoveMsg, where_true, UnitShare, Sys, IsSys, inst_step, none_mine, done_u, GlobalAll, unit_share, share_seen, own_at, does}
use Rattle.nf_net.proofs.Words.{Under, seeing, Any, olds, Sharing, IsSharing, ShareAsked, WholeWorld, moves_of, ran_of, SeeingShare, Came, WhereAll}
use Rattle.nf_net.proofs.Words.{Apart_from_shares, Under_share, processed_where, same_unit, Unit, split}
use Rattle.proof_machines.proofs.unit.Real
use Rattle.proof_machines.proofs.share.Share.{Item, Item.Carry, Item.Fence, Item.Shared, Item.Fenced, Item.Stray, runs}
use Rattle.proof_machines.proofs.share.Heads.{Meets, meets_sw, meets_to}
use Rattle.proof_machines.proofs.net.Net.{Msg, Msg.In_packet, Msg.Asked, Msg.Carry_on, Msg.Pass_on, Msg.Fence_on, Msg.Of_move, at_node}
use Rattle.proof_machines.proofs.net.Readings.{fold}
use Rattle.proof_machines.proofs.net.ShareViews.{mine, move_seen, old_seen}
use Rattle.proof_machines.proofs.net.UnderReadings.{FreshAt, first_item, under_fresh}
use Rattle.proof_machines.proofs.net.Shares.{Any.Old, Any.New, ShareMsg.Shared_on}
use Rattle.proof_machines.proofs.whole.Readings.{fold_done}
use Rattle.proof_machines.proofs.whole.FrontSteps.{table_seen}

module _ {R : Type 0} (S : Sys R) (A : Sharing S) (laws : IsSys S) (u : Unit) where
  -- where none of a unit ran, none of its packets did
  none_of : (y : ℕ) (ps : List ℕ) → ran_of S A u (at_node y ps) ≡ [] → none_mine S u ps ≡ []
  none_of y [] e = refl
  none_of y (p ∷ ps) e = split (same_unit (S.packet_unit p) u)
      (λ b. (if b then (p, y) ∷ ran_of S A u (at_node y ps) else ran_of S A u (at_node y ps)) ≡ [] → (if b then p ∷ none_mine S u ps else none_mine S u ps)
      ≡ [])
      (λ _ k. cc) (λ _ k. none_of y ps k) e

  -- a message of a move is no packet of a share
  not_shared : (b : Bool) (it : Item R) (q : ℕ) → (it ≡ Shared q → ⊥) → where_true b it ≡ Some (Shared q) → ⊥
  not_shared true it q other e = let same : it ≡ Shared q = cc in other same
  not_shared false it q other e = cc

  move_unshared : (z : SeeingShare) (m : MoveMsg R) (q : ℕ) → move_seen S A z m ≡ Some (Shared q) → ⊥
  move_unshared z (MoveMsg.Fenced n) q e = not_shared (n == z.num) Fenced q (λ s. cc) e
  move_unshared z (MoveMsg.Install n from to) q e = not_shared (n == z.num) Stray q (λ s. cc) e
  move_unshared z (MoveMsg.Fence_to n to) q e = not_shared (n == z.num) Stray q (λ s. cc) e
  move_unshared z m q e = cc

  old_unshared : (z : SeeingShare) (m : Msg R) (q : ℕ) → old_seen S A z m ≡ Some (Shared q) → ⊥
  old_unshared z (Carry_on p) q e = not_shared (mine S A z p) (Carry p) q (λ s. cc) e
  old_unshared z (Pass_on p) q e = not_shared (mine S A z p) Stray q (λ s. cc) e
  old_unshared z (Fence_on n) q e = not_shared (n == z.num) Fence q (λ s. cc) e
  old_unshared z (Of_move g m) q e = move_unshared z m q e
  old_unshared z (In_packet p) q e = cc
  old_unshared z (Asked x) q e = cc

  module _ (ok : IsSharing S A) (w : WholeWorld S A) (k : Came) (g : GlobalAll S A w) (p y : ℕ) (rest : List (Any R)) (y0 : (y == 0) ≡ false)
      (y1 : (y == 1) ≡ false) where
    -- a message of a move
    module _ (m : Msg R) (waits : w.link p y ≡ Old m ∷ rest) (some : none_mine S u (inst_step S (w.inst y) m).ran ≢ []) where
      some_ran : ran_of S A u (at_node y (inst_step S (w.inst y) m).ran) ≢ []
      some_ran none = some (none_of y (inst_step S (w.inst y) m).ran none)

      -- where a share has the unit, it comes to the home
      module _ (x : ShareAsked) (before since : List ℕ) (h : Under S A (seeing S A u x) w before since) where
        abbrev z : SeeingShare
        z = seeing S A u x

        abbrev f : UnitShare R
        f = unit_share S A z

        own_fresh : FreshAt S A z w before since h laws ok g y p (Old m) rest y0 y1 waits some_ran
        own_fresh = under_fresh S A z w before since h laws ok g y p (Old m) rest y0 y1 waits some_ran

        abbrev Has_run : Option (Item R) → Type 0
        Has_run o = (does S A laws z y (own_at S A z w y) o).ran ≢ []

        meets_home : (it : Item R) → share_seen S A z y (Old m) ≡ Some it → Has_run (Some it) → Meets f h.stage y it → y ≡ x.home
        meets_home (Carry q) e r n = n.0
        meets_home (Shared q) e r n = absurd (old_unshared z m q e)
        meets_home it e r n = absurd (r refl)

        at_home : y ≡ x.home
        at_home =
            let one = first_item S A z w before since h laws ok g y p (Old m) rest y0 y1 waits some_ran in
            meets_home one.item one.seen one.processes (elim one.first as (λ _. Meets f h.stage y one.item) [
              | inl a ↦ meets_sw f h.stage y one.item _ a.0
              | inr a ↦ meets_to f h.stage h.fits y own_fresh.inside one.item _ a.0
            ])

        fresh_home : S.B.at u (w.inst y).live ≡ runs S.F None (ran_of S A u w.done)
        fresh_home = home_own ((Decides-eqb y x.home).1 at_home) own_fresh.own
          where
            home_own : (y == x.home) ≡ true → own_at S A z w y ≡ runs S.F None (ran_of S A u w.done)
                → S.B.at u (w.inst y).live ≡ runs S.F None (ran_of S A u w.done)
            home_own on own = rw on at own

      pub fresh_live : WhereAll S A laws u w k → S.B.at u (w.inst y).live ≡ fold S.F None (done_u S u w.done)
      fresh_live (Apart_from_shares h none) =
          (processed_where S laws u (moves_of S A w) p y m (olds rest) y0 y1 (ap olds waits) some k.all k.bared g.moves h.is).live
      fresh_live (Under_share x before b h o i) = fresh_home x before k.diverted h ∙ fold_done S A laws u None w.done

    -- a packet of a share
    pub fresh_shared : (n : ℕ) (home : Bool) (q : ℕ) → w.link p y ≡ New (Shared_on n home q) ∷ rest → same_unit (S.packet_unit q) u ≡ true
        → WhereAll S A laws u w k → S.B.at u (if home then (w.inst y).live else w.standby y) ≡ fold S.F None (done_u S u w.done)
    fresh_shared n home q waits on h = table_seen S A laws u ok w k g p y rest y0 y1 h n home q waits on ∙ fold_done S A laws u None w.done

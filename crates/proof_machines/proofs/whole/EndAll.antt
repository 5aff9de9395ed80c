-- Where no message stands on the links between the first nodes, among them the members of shares and the sides of open moves: a unit under a share has
-- no packet left, its share is idle, and each member's record is the fold of all that was done. Any other unit is as moves leave it.
use Rattle.proof_machines.proofs.net.Words.{◌≡◌, ℕ, ◌≤◌, ◌<◌, Bool, true, false, None, Some, List, [], ◌++◌, sym, ap, ◌∙◌, append-nil, ◌&&◌, ◌==◌, IsOrderedAs}
use Rattle.proof_machines.proofs.net.Words.{Idle, has, runs, shape, self, own_is, Sys, IsSys, Open, find_op, done_u, unit_share, ShareAsked, olds, Sharing}
use Rattle.proof_machines.proofs.net.Words.{OpenShare, find_share, WholeWorld, moves_of, Unit}
use Rattle.proof_machines.proofs.net.AtEnd.{AtEnd, at_end}
use Rattle.proof_machines.proofs.net.Readings.{fold}
use Rattle.proof_machines.proofs.net.Under.{Under}
use Rattle.proof_machines.proofs.net.UnderStarts.{seeing}
use Rattle.proof_machines.proofs.net.UnderReadings.{all_done, under_order, under_rests}
use Rattle.proof_machines.proofs.whole.WhereAll.{Came, WhereAll, Apart_from_shares, Under_share, order_same}
use Rattle.proof_machines.proofs.whole.Readings.{fold_done, ItsShare, its_share}

module _ {R : Type 0} (S : Sys R) (A : Sharing S) (laws : IsSys S) (u : Unit) (n : ℕ) (w : WholeWorld S A) where
  -- a unit under a share that rests: all its packets are done
  pub record ShareRests (k : Came) (e : OpenShare) : Type 0 where
    pub its : ItsShare S A laws u w e
    pub idle : e.phase ≡ Idle
    pub none_queued : e.queue ≡ []
    pub flag : Bool
    pub order : IsOrderedAs flag (done_u S u w.done) k.all
    pub flag_is : flag ≡ true → k.bared ≡ true
    pub live : S.B.at u (w.inst e.home).live ≡ fold S.F None (done_u S u w.done)
    pub standby : (j : ℕ) → has e.members j ≡ true → (j == e.home) ≡ false → S.B.at u (w.standby j) ≡ fold S.F None (done_u S u w.done)

  pub data EndsAll (k : Came) : Type 0 where
    As_moves : AtEnd S laws u n (moves_of S A w) k.all k.bared → EndsAll k
    At_share : (e : OpenShare) → ShareRests k e → EndsAll k

  module _ (some : 2 ≤ n) (quiet : (i j : ℕ) → i < n → j < n → (i == 0) && (j == 0) ≡ false → w.link i j ≡ []) where
    share_ends : (k : Came) (x : ShareAsked) (before : List ℕ) (b : Bool) (h : Under S A (seeing S A u x) w before k.diverted)
        → ((j : ℕ) → has x.members j ≡ true → j < n) → IsOrderedAs b (before ++ k.diverted) k.all → (b ≡ true → k.bared ≡ true)
        → ShareRests k (its_share S A laws u w x before k.diverted h)
    share_ends k x before b h few o i =
        let z = seeing S A u x in
        let f = unit_share S A z in
        let r = under_rests S A z w before k.diverted h n some few quiet in
        let all = (λ (j : ℕ). ap (runs S.F None) (r.seen j ∙ sym (all_done S A z w before k.diverted h)) ∙ fold_done S A laws u None w.done) in
        record {
          its = record { found = h.holds.share; takes = h.covered; home_in = h.is.home_in };
          idle = r.phase;
          none_queued = ap (λ s. (shape f s).queue) r.is;
          flag = b;
          order = order_same b (before ++ k.diverted) (done_u S u w.done) k.all
              (sym (under_order S A z w before k.diverted h) ∙ ap (λ v. done_u S u w.done ++ v) r.path ∙ append-nil (done_u S u w.done)) o;
          flag_is = i;
          live = (rw (self x.home) at (h.holds.own x.home h.is.home_in)) ∙ own_is f h.stage x.home ∙ all x.home;
          standby = λ j inside off. (rw off at (h.holds.own j inside)) ∙ own_is f h.stage j ∙ all j;
        }

    pub end_all : ((j : ℕ) (e : Open R) → find_op w.ops j ≡ Some e → (e.op.src < n) × (e.op.dst < n))
        → ((e : OpenShare) → find_share w.shares e.num ≡ Some e → (j : ℕ) → has e.members j ≡ true → j < n) → (k : Came) → WhereAll S A laws u w k
        → EndsAll k
    end_all sides members k (Apart_from_shares h none) =
        As_moves (at_end S laws u n (moves_of S A w) some (λ i j a c off. ap olds (quiet i j a c off)) sides k.all k.bared h.is)
    end_all sides members k (Under_share x before b h o i) = At_share (its_share S A laws u w x before k.diverted h)
        (share_ends k x before b h (members (its_share S A laws u w x before k.diverted h) h.holds.share) o i)

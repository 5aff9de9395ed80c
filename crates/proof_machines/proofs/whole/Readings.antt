-- What is read off where a unit is in the whole world: its done packets and those that wait are all that came, in order unless a move without a
-- buffer took it; and its records.
use Rattle.proof_machines.proofs.net.Words.{◌≡◌, ℕ, true, false, Option, Some, None, List, ◌++◌, ap, ◌∙◌, ◌==◌, times, exactly, has, runs, path, shape, IsFront}
use Rattle.proof_machines.proofs.net.Words.{Lacks, self, Sys, IsSys, done_u, GlobalAll, unit_share, as_share, ShareAsked, Sharing, OpenShare, find_share}
use Rattle.proof_machines.proofs.net.Words.{WholeWorld, moves_of, ran_of, SeeingShare, Unit, same_of}
use Rattle.proof_machines.proofs.share.Share.{Ran}
use Rattle.proof_machines.proofs.net.Readings.{fold, not_both, In_order, order_of, RecordOf, record_of}
use Rattle.proof_machines.proofs.net.Under.{Under}
pub use Rattle.proof_machines.proofs.net.UnderStarts.{fold_packets}
use Rattle.proof_machines.proofs.net.UnderStarts.{seeing, packets_done}
use Rattle.proof_machines.proofs.net.UnderReadings.{under_order, under_records}
use Rattle.proof_machines.proofs.whole.WhereAll.{Came, WhereAll, Apart_from_shares, Under_share}

-- the fold looks at the packets alone
module _ {R : Type 0} (S : Sys R) (A : Sharing S) (laws : IsSys S) (u : Unit) where
  pub fold_done : (o : Option R) (ds : List Ran) → runs S.F o (ran_of S A u ds) ≡ fold S.F o (done_u S u ds)
  fold_done o ds = fold_packets S.F o (ran_of S A u ds) ∙ ap (fold S.F o) (packets_done S A u ds)

  -- done and waiting are what came
  pub order_all : (w : WholeWorld S A) (k : Came) → WhereAll S A laws u w k → In_order S laws u (done_u S u w.done) k.all k.bared
  order_all w k (Apart_from_shares h none) = order_of S laws u (moves_of S A w) k.all k.bared h.is
  order_all w k (Under_share x before b h o f) =
      let e = under_order S A (seeing S A u x) w before k.diverted h in
      record {
        waits = path (unit_share S A (seeing S A u x)) h.stage;
        exact = λ off. e ∙ exactly b (before ++ k.diverted) k.all (not_both b k.bared f off) o;
        same = λ p. ap (λ v. times p v) e ∙ same_of b (before ++ k.diverted) k.all o p;
      }

  -- the unit with its open share
  abbrev pub seen_by : OpenShare → SeeingShare
  seen_by e = record { unit = u; num = e.num; home = e.home; members = e.members; filter = e.filter }

  -- a share that has the unit
  pub record ItsShare (w : WholeWorld S A) (e : OpenShare) : Type 0 where
    pub found : find_share w.shares e.num ≡ Some e
    pub takes : S.takes e.filter u ≡ true
    pub home_in : has e.members e.home ≡ true

  -- Under a share each member's record is the fold of a front of what was done. The live one has seen all, or all but the last packet, which
  -- another member has processed and seen; it is the one that is live.
  pub record SharedRecords (w : WholeWorld S A) (e : OpenShare) : Type 0 where
    pub its : ItsShare w e
    pub seen : ℕ → List Ran
    pub live : S.B.at u (w.inst e.home).live ≡ runs S.F None (seen e.home)
    pub standby : (k : ℕ) → has e.members k ≡ true → (k == e.home) ≡ false → S.B.at u (w.standby k) ≡ runs S.F None (seen k)
    pub fronts : (k : ℕ) → IsFront (seen k) (ran_of S A u w.done)
    pub lacks : Lacks (unit_share S A (seen_by e)) (seen e.home) (ran_of S A u w.done) seen
    pub away : (k : ℕ) → (k == e.home) ≡ false → S.B.at u (w.inst k).live ≡ None

  pub data RecordsAll (w : WholeWorld S A) : Type 0 where
    By_moves : RecordOf S laws u (moves_of S A w) → RecordsAll w
    By_share : (e : OpenShare) → SharedRecords w e → RecordsAll w

  -- as the controller has its share
  abbrev pub its_share : (w : WholeWorld S A) (x : ShareAsked) (before since : List ℕ) → Under S A (seeing S A u x) w before since → OpenShare
  its_share w x before since h = let v = shape (unit_share S A (seeing S A u x)) h.stage in as_share S A (seeing S A u x) v.phase v.queue

  pub records_all : (w : WholeWorld S A) (k : Came) → GlobalAll S A w → WhereAll S A laws u w k → RecordsAll w
  records_all w k g (Apart_from_shares h none) = By_moves (record_of S laws u (moves_of S A w) k.all k.bared g.moves h.is)
  records_all w k g (Under_share x before b h o f) =
      let r = under_records S A (seeing S A u x) w before k.diverted h in
      By_share (its_share w x before k.diverted h) (record {
        its = record { found = h.holds.share; takes = h.covered; home_in = h.is.home_in };
        seen = r.seen;
        live = rw (self x.home) at (r.own x.home h.is.home_in);
        standby = λ n inside off. rw off at (r.own n inside);
        fronts = r.fronts;
        lacks = r.live;
        away = r.away;
      })

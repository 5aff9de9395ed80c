-- The chunks of a copy that an instance is to keep: their records are folds of fronts of what was done, and no share takes their units. So
-- what stands by after them may be kept.
use Rattle.proof_outlines.proofs.Words.{◌≡◌, ℕ, None, List, [], ◌++◌, refl, sym, ap, ◌∙◌, subst, Chunk, Semantics, Records, newest_of, record_at, TakesSome}
use Rattle.proof_outlines.proofs.Words.{WholeWorld, ran_of, Came, EveryAll, MayKeep, Unit, records_of}
use Rattle.std.specs.FinMap as finite
use Rattle.proof_machines.proofs.whole.Fronts.{FrontOf, front_none, front_more, ran_more}
use Rattle.proof_outlines.proofs.joined.Words.{entries, is_sys, Given, S, A}
use Rattle.proof_outlines.proofs.whole.MemberTables.{kept_has, kept_same}

module _ {R : Type 0} (f : Semantics R) (g : Given) where
  -- their records are such folds
  abbrev pub AreFronted : WholeWorld (S f g) (A f g) → List Chunk → Type 0
  AreFronted w chunks =
      (u : Unit) → FrontOf (S f g) (A f g) (is_sys f g.site g.packet) u (ran_of (S f g) (A f g) u w.done) (record_at u (entries f chunks))

  -- none is of a unit that a share takes
  abbrev pub AreUnshared : WholeWorld (S f g) (A f g) → List Chunk → Type 0
  AreUnshared w chunks = (u : Unit) → TakesSome (S f g) w.shares u → record_at u (entries f chunks) ≡ None

  pub record MayStandBy (w : WholeWorld (S f g) (A f g)) (chunks : List Chunk) : Type 0 where
    pub fronts : AreFronted w chunks
    pub unshared : AreUnshared w chunks

  -- no chunks are
  pub none_fronted : (w : WholeWorld (S f g) (A f g)) → AreFronted w []
  none_fronted w u = front_none (S f g) (A f g) (is_sys f g.site g.packet) u (ran_of (S f g) (A f g) u w.done) None refl

  -- they are such folds later, too
  pub fronted_later : (w next : WholeWorld (S f g) (A f g)) (chunks : List Chunk) (more : List (ℕ × ℕ)) → next.done ≡ w.done ++ more → AreFronted w chunks
      → AreFronted next chunks
  fronted_later w next chunks more done fronts u = subst (λ ds. FrontOf (S f g) (A f g) (is_sys f g.site g.packet) u ds (record_at u (entries f chunks)))
      (sym (ap (ran_of (S f g) (A f g) u) done ∙ ran_more (S f g) (A f g) (is_sys f g.site g.packet) u w.done more)) (front_more (S f g) (A f g)
      (is_sys f g.site g.packet) u (ran_of (S f g) (A f g) u w.done) (ran_of (S f g) (A f g) u more) (record_at u (entries f chunks)) (fronts u))

  module _ (w : WholeWorld (S f g) (A f g)) (came : Unit → Came) (every : EveryAll (S f g) (A f g) (is_sys f g.site g.packet) w came) (k : ℕ)
      (t : Records R) (shows : t ≡ w.standby k) where
    at_same : (u : Unit) → finite.get t u ≡ finite.get (w.standby k) u
    at_same u = ap (λ v. finite.get v u) shows

    front_at : (u : Unit) → FrontOf (S f g) (A f g) (is_sys f g.site g.packet) u (ran_of (S f g) (A f g) u w.done) (finite.get t u)
    front_at u =
        subst (λ o. FrontOf (S f g) (A f g) (is_sys f g.site g.packet) u (ran_of (S f g) (A f g) u w.done) o) (sym (at_same u)) ((every.fronts u).standby k)

    -- what stands there may stay
    pub same_may_keep : MayKeep (S f g) (A f g) (is_sys f g.site g.packet) w k t
    same_may_keep = record { fronts = front_at; of_shares = λ u takes. at_same u }

    -- and the newer of each unit's two records may be kept
    pub chunks_may_keep : (chunks : List Chunk) → MayStandBy w chunks
        → MayKeep (S f g) (A f g) (is_sys f g.site g.packet) w k (newest_of f t (records_of f chunks))
    chunks_may_keep chunks may = record {
      fronts = λ u. kept_has f (λ o. FrontOf (S f g) (A f g) (is_sys f g.site g.packet) u (ran_of (S f g) (A f g) u w.done) o) t chunks u (front_at u)
          (may.fronts u);
      of_shares = λ u takes. kept_same f t chunks u (may.unshared u takes) ∙ at_same u;
    }

-- Where packets of a unit are processed in the whole world, as moves know it or at a member of its share, each at home or at its member, and that
-- the record there is the fold of all that was done before.
use Rattle.proof_machines.proofs.net.Words.{◌≡◌, ◌≢◌, ℕ, Bool, true, false, Option, None, List, [], ◌∷◌, ◌++◌, refl, sym, ap, ◌∙◌, subst, if◌then◌else◌, ◌&&◌}
use Rattle.proof_machines.proofs.net.Words.{◌==◌, has, packets, processed, Sys, IsSys, inst_step, at_node, none_mine, done_u, GlobalAll, unit_share, Any, Old}
use Rattle.proof_machines.proofs.net.Words.{New, ShareMsg, Shared_on, olds, Sharing, IsSharing, OpenShare, ShareAsked, member_step, WholeWorld, whole_inst}
use Rattle.proof_machines.proofs.net.Words.{moves_of, ran_of, SeeingShare, same_unit, Unit, Grows}
use Rattle.std.proofs.lemmas.List.{append_cancel_left}
use Rattle.proof_machines.proofs.share.Places.{At_places}
use Rattle.proof_machines.proofs.net.Readings.{fold}
use Rattle.proof_machines.proofs.net.Untaken.{NoShare, head_none}
use Rattle.proof_machines.proofs.net.Under.{Under, Goes_on}
use Rattle.proof_machines.proofs.net.UnderSteps.{under_inst}
use Rattle.proof_machines.proofs.net.UnderStarts.{seeing}
use Rattle.proof_machines.proofs.net.UnderReadings.{all_done, under_fresh}
use Rattle.proof_machines.proofs.whole.WhereAll.{Came, WhereAll, Apart_from_shares, Under_share}
use Rattle.proof_machines.proofs.whole.Readings.{fold_done, seen_by, ItsShare, its_share}
use Rattle.proof_machines.proofs.whole.Fronts.{ran_more}
use Rattle.proof_machines.proofs.whole.MovePlaces.{MayRun, processed_where}

module _ {R : Type 0} (S : Sys R) (A : Sharing S) (laws : IsSys S) where
  -- what an instance processes
  abbrev pub ran_by : WholeWorld S A → ℕ → Any R → List ℕ
  ran_by w y (Old m) = (inst_step S (w.inst y) m).ran
  ran_by w y (New m) = (member_step S A (w.inst y).live (w.standby y) m).ran

  -- the table in which a member of a share keeps its record: the live one at home
  abbrev pub record_of_member : WholeWorld S A → Unit → Bool → ℕ → Option R
  record_of_member w u home k = if home then S.B.at u (w.inst k).live else S.B.at u (w.standby k)

  -- what a step adds to what was done of a unit under a share is at home or at its member
  pub grown : (z : SeeingShare) (w v : WholeWorld S A) (before since early late : List ℕ) (h : Under S A z w before since)
      → Goes_on S A z h.stage v early late → Grows (unit_share S A z) (ran_of S A z.unit w.done) (ran_of S A z.unit v.done)
  grown z w v before since early late h n =
      let f = unit_share S A z in
      subst (λ ds. Grows f ds (ran_of S A z.unit v.done)) (sym (all_done S A z w before since h))
      (subst (λ ds. Grows f (processed f h.stage) ds) (sym (all_done S A z v early late n.under)) n.placed)

  -- where an instance processes packets of the unit; under a share each of them at home or at its member
  pub data Processes (w : WholeWorld S A) (u : Unit) (y : ℕ) (ps : List ℕ) : Type 0 where
    As_moves : MayRun S (moves_of S A w) u y → S.B.at u (w.inst y).live ≡ fold S.F None (done_u S u w.done) → Processes w u y ps
    At_member : (e : OpenShare) → ItsShare S A laws u w e → has e.members y ≡ true
        → At_places (unit_share S A (seen_by S A laws u e)) (ran_of S A u (at_node y ps))
        → record_of_member w u (y == e.home) y ≡ fold S.F None (done_u S u w.done) → Processes w u y ps

  module _ (u : Unit) where
    its_ran : (y : ℕ) (ps : List ℕ) → packets (ran_of S A u (at_node y ps)) ≡ none_mine S u ps
    its_ran y [] = refl
    its_ran y (p ∷ ps) = elim (same_unit (S.packet_unit p) u) as (λ b.
        packets (if b then (p, y) ∷ ran_of S A u (at_node y ps) else ran_of S A u (at_node y ps)) ≡ (if b then p ∷ none_mine S u ps else none_mine S u ps))
        [ true ↦ ap (λ v. p ∷ v) (its_ran y ps) | false ↦ its_ran y ps ]

    -- a message of a share has nothing of a unit that no share has
    none_ran : (es : List OpenShare) (live standby : S.B.T) (m : ShareMsg R) → NoShare S u es m → none_mine S u (member_step S A live standby m).ran ≡ []
    none_ran es live standby (Shared_on n true p) off = rw off refl
    none_ran es live standby (Shared_on n false p) off = rw off refl
    none_ran es live standby (ShareMsg.Sync n true cs) off = refl
    none_ran es live standby (ShareMsg.Sync n false cs) off = refl
    none_ran es live standby m off = refl

    under_placed : (ok : IsSharing S A) (w : WholeWorld S A) (x : ShareAsked) (before since : List ℕ) → GlobalAll S A w
        → Under S A (seeing S A u x) w before since → (p y : ℕ) (m : Any R) (rest : List (Any R)) → (y == 0) ≡ false → (y == 1) ≡ false
        → w.link p y ≡ m ∷ rest → At_places (unit_share S A (seeing S A u x)) (ran_of S A u (at_node y (ran_by w y m)))
    under_placed ok w x before since g h p y m rest y0 y1 waits = placed_by m (grown (seeing S A u x) w (whole_inst S A w p y m) before since before since h
        (under_inst S A (seeing S A u x) laws ok w before since g h y p y0 y1 m rest waits))
      where
        by_lists : (ps : List ℕ) → Grows (unit_share S A (seeing S A u x)) (ran_of S A u w.done) (ran_of S A u (w.done ++ at_node y ps))
            → At_places (unit_share S A (seeing S A u x)) (ran_of S A u (at_node y ps))
        by_lists ps r = subst (At_places (unit_share S A (seeing S A u x)))
            (append_cancel_left (ran_of S A u w.done) r.by (ran_of S A u (at_node y ps)) (sym r.is ∙ ran_more S A laws u w.done (at_node y ps))) r.places

        placed_by : (m : Any R) → Grows (unit_share S A (seeing S A u x)) (ran_of S A u w.done) (ran_of S A u (whole_inst S A w p y m).done)
            → At_places (unit_share S A (seeing S A u x)) (ran_of S A u (at_node y (ran_by w y m)))
        placed_by (Old m) r = by_lists (inst_step S (w.inst y) m).ran r
        placed_by (New m) r = by_lists (member_step S A (w.inst y).live (w.standby y) m).ran r

    under_processes : (ok : IsSharing S A) (w : WholeWorld S A) (x : ShareAsked) (before since : List ℕ) → GlobalAll S A w
        → Under S A (seeing S A u x) w before since → (p y : ℕ) (m : Any R) (rest : List (Any R)) → (y == 0) ≡ false → (y == 1) ≡ false
        → w.link p y ≡ m ∷ rest → none_mine S u (ran_by w y m) ≢ [] → Processes w u y (ran_by w y m)
    under_processes ok w x before since g h p y (Old m) rest y0 y1 waits some =
        let k = under_fresh S A (seeing S A u x) w before since h laws ok g y p (Old m) rest y0 y1 waits
        (λ none. some (sym (its_ran y (inst_step S (w.inst y) m).ran) ∙ ap packets none)) in
        At_member (its_share S A laws u w x before since h) (record { found = h.holds.share; takes = h.covered; home_in = h.is.home_in }) k.inside
        (under_placed ok w x before since g h p y (Old m) rest y0 y1 waits) (k.own ∙ fold_done S A laws u None w.done)
    under_processes ok w x before since g h p y (New m) rest y0 y1 waits some =
        let k = under_fresh S A (seeing S A u x) w before since h laws ok g y p (New m) rest y0 y1 waits
        (λ none. some (sym (its_ran y (member_step S A (w.inst y).live (w.standby y) m).ran) ∙ ap packets none)) in
        At_member (its_share S A laws u w x before since h) (record { found = h.holds.share; takes = h.covered; home_in = h.is.home_in }) k.inside
        (under_placed ok w x before since g h p y (New m) rest y0 y1 waits) (k.own ∙ fold_done S A laws u None w.done)

    pub processes_all : (ok : IsSharing S A) (w : WholeWorld S A) (k : Came) → GlobalAll S A w → WhereAll S A laws u w k
        → (p y : ℕ) (m : Any R) (rest : List (Any R)) → (y == 0) ≡ false → (y == 1) ≡ false → w.link p y ≡ m ∷ rest → none_mine S u (ran_by w y m) ≢ []
        → Processes w u y (ran_by w y m)
    processes_all ok w k g (Under_share x before b h o f) p y m rest y0 y1 waits some = under_processes ok w x before k.diverted g h p y m rest y0 y1 waits some
    processes_all ok w k g (Apart_from_shares h none) p y (Old m) rest y0 y1 waits some =
        let q = processed_where S laws u (moves_of S A w) p y m (olds rest) y0 y1 (ap olds waits) some k.all k.bared g.moves h.is in
        As_moves q.place q.live
    processes_all ok w k g (Apart_from_shares h none) p y (New m) rest y0 y1 waits some =
        let off : (p == 0) && (y == 0) ≡ false = rw y0 (elim (p == 0) as (λ b. b && false ≡ false) [ true ↦ refl | false ↦ refl ]) in
        absurd (some (none_ran w.shares (w.inst y).live (w.standby y) m (head_none S u A w p y (New m) rest off waits h.untaken)))

-- Along every run: the outputs to a unit's packets are those of the fold, and a unit that the filter doesn't take stays at A.
use Rattle.two_machine.proofs.Words.{◌≡◌, ℕ, Bool, true, false, Option, Some, None, List, [], ◌∷◌, ◌++◌, refl, sym, ap, subst, ◌∙◌, if◌then◌else◌, false≢true}
use Rattle.two_machine.proofs.Words.{Free, Target, To_a, Item, State, Frame, stepped, folded, after, Stage, Restore_goes, Before, Storing}
use Rattle.two_machine.proofs.Words.{Passing, Turned, Ends, done, Rises, System, Laws, Msg, Note, Switch, Inst, In_packet, Lay, Carry, Pass, Stop, Enable, Get}
use Rattle.two_machine.proofs.Words.{Delete, Restore, Fence, Processed, has_room, goes, switch_step, processed, all_processed, inst_step, ctrl_step, Step}
use Rattle.two_machine.proofs.Words.{World, read, flat_map-append, those, filter-append, carries, item, ran, Of_unit, frame, view, Place, Ca, Cb, Sa, Sb, Sc}
use Rattle.two_machine.proofs.Words.{Ac, Bc, with_waits, Label, result, done_is, shape, Each}
use Rattle.two_machine.proofs.Machine as m
use Rattle.two_machine.proofs.View.{passes}
use Rattle.two_machine.proofs.Laws.{scan-append, fold_filter, filter_among}
use Rattle.two_machine.proofs.Promises.{of_unit, fold, outputs, answer, given}
use Rattle.two_machine.proofs.Rows.{Carried, Runs, Hands_out, Held, carried}
use Rattle.two_machine.proofs.Runs.{Holds}
use Rattle.two_machine.proofs.StepLabels.{ctrl_ok, gives}

-- where a packet is processed, the record is that of all that was done
pub record Fresh {R : Type 0} (f : Frame R) (x : State R) (d : List ℕ) : Type 0 where
  pub at_a : x.a.rule ≡ Free → x.a.live ≡ after f d
  pub plain : (p : ℕ) (l : List ℕ) → x.plains ≡ p ∷ l → x.b.live ≡ after f d
  pub pass : (p : ℕ) (l : List ℕ) → x.passes ≡ p ∷ l → x.b.live ≡ after f d
  pub fence : (l : List (Item R)) → x.cb ≡ m.Fence ∷ l → x.b.live ≡ after f d

module _ {R : Type 0} (f : Frame R) where
  fence_there : (s : Stage) (k : List (Item R)) → (shape f s).cb ≡ m.Fence ∷ k → (shape f s).b.live ≡ after f (done s)
  fence_there (Storing Restore_goes d g e l b) k is = cc
  fence_there (Storing n d g e l b) k is = cc
  fence_there (Ends n d s t h y b) k is = refl
  fence_there s k is = cc

  pub fresh_at : (s : Stage) → Fresh f (shape f s) (done s)
  fresh_at (Before n d l b) = record { at_a = λ _. refl; plain = λ p k is. cc; pass = λ p k is. cc; fence = λ k is. cc }
  fresh_at (Storing n d g e l b) = record { at_a = λ is. cc; plain = λ p k is. cc; pass = λ p k is. cc; fence = fence_there (Storing n d g e l b) }
  fresh_at (Passing n d s z x g e l t c b) = record { at_a = λ is. cc; plain = λ p k is. cc; pass = λ p k is. refl; fence = λ k is. cc }
  fresh_at (Turned n d s z x g e l t c h y b) = record { at_a = λ is. cc; plain = λ p k is. refl; pass = λ p k is. refl; fence = λ k is. cc }
  fresh_at (Ends n d s t h y b) = record { at_a = λ is. cc; plain = λ p k is. refl; pass = λ p k is. cc; fence = λ k is. refl }

module _ {U T C R O : Type 0} (S : System U T C R O) (laws : Laws S) (u : U) where
  abbrev pub mine : ℕ → Bool
  mine p = S.equal (S.unit_of p) u

  abbrev pub its_frame : Frame R
  its_frame = frame S (Of_unit u)

  -- what was answered to the unit's packets, and what one instance answers
  abbrev pub told : List (Note O) → List O
  told ns = given S u ns

  abbrev pub due : Option R → List ℕ → List O
  due r ps = outputs S r (of_unit S u ps)

  -- the unit's record by the log
  abbrev pub record_by : List (Note O) → Option R
  record_by log = folded its_frame None (read ran log)

  -- the machine's record is that of one instance
  pub fold_is : (r : Option R) (ps : List ℕ) → folded its_frame r ps ≡ fold S r (of_unit S u ps)
  fold_is r ps = sym (fold_filter (λ before p. Some (S.step before p)) mine r ps)

  due-append : (r : Option R) (xs ys : List ℕ) → due r (xs ++ ys) ≡ due r xs ++ due (folded its_frame r xs) ys
  due-append r xs ys =
      ap (outputs S r) (filter-append mine xs ys)
      ∙ scan-append (λ before p. Some (S.step before p)) S.output r (of_unit S u xs) (of_unit S u ys)
      ∙ ap (λ k. due r xs ++ outputs S k (of_unit S u ys)) (sym (fold_is r xs))

  abbrev pub IsRight : List (Note O) → Type 0
  IsRight log = told log ≡ due None (read ran log)

  pub right_more : (log notes : List (Note O)) → IsRight log → told notes ≡ due (record_by log) (read ran notes) → IsRight (log ++ notes)
  right_more log notes right more =
      flat_map-append (answer S u) log notes
      ∙ ap (λ xs. xs ++ told notes) right
      ∙ ap (λ xs. due None (read ran log) ++ xs) more
      ∙ sym (ap (due None) (flat_map-append ran log notes) ∙ due-append None (read ran log) (read ran notes))

  -- notes of nothing that was processed
  told_none : (ns : List (Note O)) → read ran ns ≡ [] → told ns ≡ []
  told_none [] e = refl
  told_none (Processed p i o ∷ ns) e = cc
  told_none (n ∷ ns) e = told_none ns e

  pub right_none : (log notes : List (Note O)) → IsRight log → read ran notes ≡ [] → IsRight (log ++ notes)
  right_none log notes right none = right_more log notes right (told_none notes none ∙ ap (due (record_by log)) (sym none))

  -- one packet, at a table that has the unit's record if it is the unit's
  pub right_one : (n : ℕ) (t : T) (p : ℕ) (r : Option R) → (mine p ≡ true → S.at t u ≡ r)
      → told (Processed p n (S.output (S.at t (S.unit_of p)) p) ∷ []) ≡ due r (p ∷ [])
  right_one n t p r has = by (mine p) refl
    where
      by : (b : Bool) → mine p ≡ b
          → (if b then S.output (S.at t (S.unit_of p)) p ∷ [] else []) ++ [] ≡ outputs S r (if b then p ∷ [] else [])
      by true e = ap (λ o. S.output o p ∷ []) (ap (S.at t) (laws.is_same (S.unit_of p) u e) ∙ has e)
      by false e = refl

  right_all : (n : ℕ) (i : Inst T) (ps : List ℕ) (r : Option R) → S.at i.table u ≡ r → told (all_processed S n i ps).notes ≡ due r ps
  right_all n i [] r has = refl
  right_all n i (p ∷ ps) r has =
      let next = (processed S n i p).node in
      let then_has : S.at next.table u ≡ stepped its_frame r p = laws.processed i.table p u ∙ ap (λ x. stepped its_frame x p) has in
      let rest = right_all n next ps (stepped its_frame r p) then_has in
      flat_map-append (answer S u) (processed S n i p).notes (all_processed S n next ps).notes
      ∙ ap (λ xs. xs ++ told (all_processed S n next ps).notes) (right_one n i.table p r (λ _. has))
      ∙ ap (λ xs. due r (p ∷ []) ++ xs) rest
      ∙ sym (due-append r (p ∷ []) ps)

  pub ran_all : (n : ℕ) (i : Inst T) (ps : List ℕ) → read ran (all_processed S n i ps).notes ≡ ps
  ran_all n i [] = refl
  ran_all n i (p ∷ ps) = ap (λ xs. p ∷ xs) (ran_all n (processed S n i p).node ps)

  pub ran_fence : (n : ℕ) (i : Inst T) → read ran (inst_step S n i Fence).notes ≡ i.held
  ran_fence n i = ran_all n (record i { rule = Free; held = [] }) i.held

  -- packets of other units
  pub own_none : (ps : List ℕ) → Each (λ p. mine p ≡ false) ps → of_unit S u ps ≡ []
  own_none [] h = refl
  own_none (p ∷ ps) h = let other = h.0 in rw other (own_none ps h.1)

  pub told_other : (n : ℕ) (i : Inst T) (ps : List ℕ) → Each (λ p. mine p ≡ false) ps → told (all_processed S n i ps).notes ≡ []
  told_other n i [] h = refl
  told_other n i (p ∷ ps) h = let other = h.0 in rw other (told_other n (processed S n i p).node ps h.1)

  pub folded_other : (r : Option R) (ps : List ℕ) → Each (λ p. mine p ≡ false) ps → folded its_frame r ps ≡ r
  folded_other r ps h = fold_is r ps ∙ ap (fold S r) (own_none ps h)

  -- the packets of a unit that the filter takes are among those that it matches
  pub cover_mine : S.takes u ≡ true → (p : ℕ) → mine p ≡ true → S.covers p ≡ true
  cover_mine its p e = sym (laws.whole p) ∙ ap S.takes (laws.is_same (S.unit_of p) u e) ∙ its

  pub other_cover : S.takes u ≡ false → (p : ℕ) → S.covers p ≡ true → mine p ≡ false
  other_cover not_its p covers = by (mine p) refl
    where
      by : (b : Bool) → mine p ≡ b → b ≡ false
      by true e = absurd (false≢true (sym not_its ∙ sym (ap S.takes (laws.is_same (S.unit_of p) u e)) ∙ laws.whole p ∙ covers))
      by false e = refl

  pub not_mine : S.takes u ≡ true → (p : ℕ) → S.covers p ≡ false → mine p ≡ false
  not_mine its p uncovered = by (mine p) refl
    where
      by : (b : Bool) → mine p ≡ b → b ≡ false
      by true e = absurd (false≢true (sym uncovered ∙ cover_mine its p e))
      by false e = refl

  pub each_other : S.takes u ≡ false → (ps : List ℕ) → Each (λ p. S.covers p ≡ true) ps → Each (λ p. mine p ≡ false) ps
  each_other not_its [] h = tt
  each_other not_its (p ∷ ps) h = (other_cover not_its p h.0, each_other not_its ps h.1)

  -- the unit's packets are among those that the filter matches, so folding over these is folding over all
  pub own_those : S.takes u ≡ true → (ps : List ℕ) → of_unit S u (those S.covers ps) ≡ of_unit S u ps
  own_those its ps = filter_among mine S.covers (not_mine its) ps

  folded_those : S.takes u ≡ true → (r : Option R) (ps : List ℕ) → folded its_frame r (those S.covers ps) ≡ folded its_frame r ps
  folded_those its r ps = fold_is r (those S.covers ps) ∙ ap (fold S r) (own_those its ps) ∙ sym (fold_is r ps)

  -- switch and controller process nothing
  goes_ran : (t : Target) (s : Switch) (p : ℕ) → read ran (goes S t s p).notes ≡ []
  goes_ran To_a s p = refl
  goes_ran t s p = refl

  pub switch_ran : (s : Switch) (x : Msg C) → read ran (switch_step S s x).notes ≡ []
  switch_ran s (In_packet p) =
      elim (has_room S s) as (λ b.
      read ran (if b then goes S (if S.covers p then s.target else To_a) s p else record { node = s; sends = []; notes = [] }).notes ≡ []) [
        | true ↦ goes_ran (if S.covers p then s.target else To_a) s p
        | false ↦ refl
      ]
  switch_ran s (Lay true) = refl
  switch_ran s (Lay false) = refl
  switch_ran s x = refl

-- a unit that the filter takes
module _ {U T C R O : Type 0} (S : System U T C R O) (laws : Laws S) (u : U) (its : S.takes u ≡ true) (all : List ℕ) (rises : Rises 0 all) where
  -- the stage's record is that of the log
  pub by_log : (v : World T C O) (h : Holds S laws (Of_unit u) its all rises v) → after (its_frame S laws u) (done h.stage) ≡ record_by S laws u v.log
  by_log v h =
      let dones : those S.covers (read ran v.log) ≡ (shape (its_frame S laws u) h.stage).done = ap (λ x. x.done) h.alike in
      ap (folded (its_frame S laws u) None) (done_is (its_frame S laws u) h.stage ∙ sym dones) ∙ folded_those S laws u its None (read ran v.log)

  fresh_here : (v : World T C O) (h : Holds S laws (Of_unit u) its all rises v) → Fresh (its_frame S laws u) (view S (Of_unit u) v) (done h.stage)
  fresh_here v h = subst (λ x. Fresh (its_frame S laws u) x (done h.stage)) (sym h.alike) (fresh_at (its_frame S laws u) h.stage)

  right_sa : (v : World T C O) (x : Msg C) (rest : List (Msg C)) → Label S Sa x → Holds S laws (Of_unit u) its all rises (with_waits S Sa (x ∷ rest) v)
      → IsRight S laws u v.log → IsRight S laws u (v.log ++ (inst_step S 0 v.a x).notes)
  right_sa v (Carry p) rest l h right = by (carried S 0 v.a p)
    where
      fresh : Fresh (its_frame S laws u) (view S (Of_unit u) (with_waits S Sa (Carry p ∷ rest) v)) (done h.stage)
      fresh = fresh_here (with_waits S Sa (Carry p ∷ rest) v) h

      by : {did : Step S (Inst T)} → Carried S 0 v.a p did → IsRight S laws u (v.log ++ did.notes)
      by (Runs free) =
          right_more S laws u v.log (processed S 0 v.a p).notes right
          (right_one S laws u 0 v.a.table p (record_by S laws u v.log)
          (λ own. fresh.at_a (free (cover_mine S laws u its p own)) ∙ by_log (with_waits S Sa (Carry p ∷ rest) v) h))
      by x = right_none S laws u v.log [] right refl
  right_sa v Stop rest l h right = right_none S laws u v.log [] right refl
  right_sa v x rest l h right = absurd l

  right_sb : (v : World T C O) (x : Msg C) (rest : List (Msg C)) → Label S Sb x → Holds S laws (Of_unit u) its all rises (with_waits S Sb (x ∷ rest) v)
      → IsRight S laws u v.log → IsRight S laws u (v.log ++ (inst_step S 1 v.b x).notes)
  right_sb v (Carry p) rest l h right = by (carried S 1 v.b p)
    where
      by : {did : Step S (Inst T)} → Carried S 1 v.b p did → IsRight S laws u (v.log ++ did.notes)
      by (Runs free) =
          let fresh = fresh_here (with_waits S Sb (Carry p ∷ rest) v) h in
          right_more S laws u v.log (processed S 1 v.b p).notes right
          (right_one S laws u 1 v.b.table p (record_by S laws u v.log)
          (λ _. fresh.plain p (read carries rest) refl ∙ by_log (with_waits S Sb (Carry p ∷ rest) v) h))
      by (Hands_out drops covers) = right_none S laws u v.log [] right refl
      by (Held covers) = right_none S laws u v.log [] right refl
  right_sb v (Pass p) rest l h right =
      let fresh = fresh_here (with_waits S Sb (Pass p ∷ rest) v) h in
      right_more S laws u v.log (processed S 1 v.b p).notes right
      (right_one S laws u 1 v.b.table p (record_by S laws u v.log)
      (λ _. fresh.pass p (read passes rest) refl ∙ by_log (with_waits S Sb (Pass p ∷ rest) v) h))
  right_sb v Stop rest l h right = right_none S laws u v.log [] right refl
  right_sb v x rest l h right = absurd l

  right_cb : (v : World T C O) (x : Msg C) (rest : List (Msg C)) → Label S Cb x → Holds S laws (Of_unit u) its all rises (with_waits S Cb (x ∷ rest) v)
      → IsRight S laws u v.log → IsRight S laws u (v.log ++ (inst_step S 1 v.b x).notes)
  right_cb v (Enable r) rest l h right = right_none S laws u v.log [] right refl
  right_cb v (Restore c) rest l h right = right_none S laws u v.log [] right refl
  right_cb v Fence rest l h right =
      let fresh = fresh_here (with_waits S Cb (Fence ∷ rest) v) h in
      let i = record v.b { rule = Free; held = [] } in
      let has = fresh.fence (read (item S (Of_unit u)) rest) refl ∙ by_log (with_waits S Cb (Fence ∷ rest) v) h in
      right_more S laws u v.log (inst_step S 1 v.b Fence).notes right
      (right_all S laws u 1 i v.b.held (record_by S laws u v.log) has ∙ ap (due S laws u (record_by S laws u v.log)) (sym (ran_fence S laws u 1 v.b)))
  right_cb v x rest l h right = absurd l

  right_ca : (v : World T C O) (x : Msg C) → Label S Ca x → IsRight S laws u v.log → IsRight S laws u (v.log ++ (inst_step S 0 v.a x).notes)
  right_ca v (Enable r) l right = right_none S laws u v.log [] right refl
  right_ca v Get l right = right_none S laws u v.log [] right refl
  right_ca v (Delete c) l right = right_none S laws u v.log [] right refl
  right_ca v x l right = absurd l

  pub right_keeps : (pl : Place) (v : World T C O) (x : Msg C) (rest : List (Msg C)) → Holds S laws (Of_unit u) its all rises (with_waits S pl (x ∷ rest) v)
      → IsRight S laws u (with_waits S pl (x ∷ rest) v).log → IsRight S laws u (result S pl (with_waits S pl rest v) x).log
  right_keeps Sc v x rest h right =
      right_none S laws u v.log (ctrl_step S v.ct 0 x).notes right (ctrl_ok S v.ct 0 x h.labels.kept (gives S Sc x (h.labels.standing Sc).0)).unrun
  right_keeps Ac v x rest h right =
      right_none S laws u v.log (ctrl_step S v.ct 2 x).notes right (ctrl_ok S v.ct 2 x h.labels.kept (gives S Ac x (h.labels.standing Ac).0)).unrun
  right_keeps Bc v x rest h right =
      right_none S laws u v.log (ctrl_step S v.ct 3 x).notes right (ctrl_ok S v.ct 3 x h.labels.kept (gives S Bc x (h.labels.standing Bc).0)).unrun
  right_keeps Sa v x rest h right = right_sa v x rest (h.labels.standing Sa).0 h right
  right_keeps Ca v x rest h right = right_ca v x (h.labels.standing Ca).0 right
  right_keeps Sb v x rest h right = right_sb v x rest (h.labels.standing Sb).0 h right
  right_keeps Cb v x rest h right = right_cb v x rest (h.labels.standing Cb).0 h right
  right_keeps pl v x rest h right = right_none S laws u v.log (switch_step S v.sw x).notes right (switch_ran S laws u v.sw x)

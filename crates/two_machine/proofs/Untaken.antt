-- Along every run a unit that the filter doesn't take stays at A: its packets go there in order, and its record is live there alone.
use Rattle.two_machine.proofs.Words.{◌≡◌, ℕ, Bool, true, false, None, List, [], ◌∷◌, ◌++◌, refl, sym, ap, ◌∙◌, append_assoc, append-nil, if◌then◌else◌, ◌==◌}
use Rattle.two_machine.proofs.Words.{Free, Target, To_a, To_both, To_b, stepped, folded, System, Laws, Msg, Note, Ctrl, Inst, Step, In_packet, In_start}
use Rattle.two_machine.proofs.Words.{In_end, Forward, Lay, Finish, Carry, Pass, Stop, Enable, Get, Delete, Restore, Fence, Credit, Arrived, goes, switch_step}
use Rattle.two_machine.proofs.Words.{processed, all_processed, inst_step, ctrl_step, takes_in, World, read, flat_map-append, those, filter-append, carries}
use Rattle.two_machine.proofs.Words.{arrived, ran, Nobody, view, Place, Ca, Cb, Cs, In, Sa, Sb, Aw, Bw, Sc, Ac, Bc, with_waits, IsSelected, OnBack, Label, sent}
use Rattle.two_machine.proofs.Words.{put_switch, put_a, put_b, result, Each, fold-append}
use Rattle.two_machine.proofs.Tables
use Rattle.two_machine.proofs.Rows.{Carried, Runs, Hands_out, Held, carried}
use Rattle.two_machine.proofs.StageFacts.{Knows}
use Rattle.two_machine.proofs.Arrivals.{Ready, inst_notes}
use Rattle.two_machine.proofs.Outputs.{mine, its_frame, told, due, record_by, IsRight, right_more, right_none, right_one, told_other, own_none, folded_other}
use Rattle.two_machine.proofs.Outputs.{other_cover, each_other, ran_fence}
use Rattle.two_machine.proofs.Promises.{outputs}
use Rattle.two_machine.proofs.StepLabels.{CtrlOk, ctrl_ok, gives}

module _ {U T C R O : Type 0} (S : System U T C R O) (laws : Laws S) (u : U) (not_its : S.takes u ≡ false) where
  abbrev own : List ℕ → List ℕ
  own ps = those (mine S laws u) ps

  pub record Stays (v : World T C O) : Type 0 where
    pub a_is : S.at v.a.table u ≡ record_by S laws u v.log
    pub b_is : S.at v.b.table u ≡ None
    pub order : own (read ran v.log) ++ own (read carries v.sa) ≡ own (read arrived v.log)
    pub right : IsRight S laws u v.log

  record_more : (log notes : List (Note O)) → record_by S laws u (log ++ notes) ≡ folded (its_frame S laws u) (record_by S laws u log) (read ran notes)
  record_more log notes =
      ap (folded (its_frame S laws u) None) (flat_map-append ran log notes) ∙ fold-append (stepped (its_frame S laws u)) None (read ran log) (read ran notes)

  -- a step that processes nothing, and brings nothing in
  quietly : {v w : World T C O} (notes : List (Note O)) → w.log ≡ v.log ++ notes → read ran notes ≡ [] → read arrived notes ≡ []
      → S.at w.a.table u ≡ S.at v.a.table u → S.at w.b.table u ≡ S.at v.b.table u → own (read carries w.sa) ≡ own (read carries v.sa) → Stays v → Stays w
  quietly {v} notes log no_ran no_came a b sa h =
      let rans : read ran (v.log ++ notes) ≡ read ran v.log = flat_map-append ran v.log notes ∙ rw no_ran (append-nil (read ran v.log)) in
      let came : read arrived (v.log ++ notes) ≡ read arrived v.log = flat_map-append arrived v.log notes ∙ rw no_came (append-nil (read arrived v.log)) in
      record {
        a_is = rw log (a ∙ h.a_is ∙ sym (ap (folded (its_frame S laws u) None) rans));
        b_is = b ∙ h.b_is;
        order = rw (log, rans, came, sa) h.order;
        right = rw log (right_none S laws u v.log notes h.right no_ran);
      }

  own_put : (xs ys : List (Msg C)) → read carries ys ≡ [] → own (read carries (xs ++ ys)) ≡ own (read carries xs)
  own_put xs ys none = ap own (flat_map-append carries xs ys ∙ rw none (append-nil (read carries xs)))

  -- A processes a packet
  runs_a : (v : World T C O) (p : ℕ) (rest : List (Msg C)) → Stays (record v { sa = Carry p ∷ rest })
      → Stays (put_a S (record v { sa = rest }) (processed S 0 v.a p))
  runs_a v p rest h = record {
    a_is = laws.processed v.a.table p u ∙ ap (λ x. stepped (its_frame S laws u) x p) h.a_is ∙ sym (record_more v.log (processed S 0 v.a p).notes);
    b_is = h.b_is;
    order =
        ap (λ xs. own xs ++ own (read carries rest)) (flat_map-append ran v.log (processed S 0 v.a p).notes)
        ∙ ap (λ xs. xs ++ own (read carries rest)) (filter-append (mine S laws u) (read ran v.log) (p ∷ []))
        ∙ append_assoc (own (read ran v.log)) (own (p ∷ [])) (own (read carries rest))
        ∙ ap (λ xs. own (read ran v.log) ++ xs) (sym (filter-append (mine S laws u) (p ∷ []) (read carries rest)))
        ∙ h.order
        ∙ sym (ap own (flat_map-append arrived v.log (processed S 0 v.a p).notes ∙ append-nil (read arrived v.log)));
    right = right_more S laws u v.log (processed S 0 v.a p).notes h.right (right_one S laws u 0 v.a.table p (record_by S laws u v.log) (λ _. h.a_is));
  }

  -- a packet of another unit leaves A's link
  less_a : (p : ℕ) (rest : List (Msg C)) → mine S laws u p ≡ false → own (read carries rest) ≡ own (read carries (Carry p ∷ rest))
  less_a p rest other = rw other refl

  stays_sa : (v : World T C O) (x : Msg C) (rest : List (Msg C)) → Label S Sa x → Stays (record v { sa = x ∷ rest })
      → Stays (put_a S (record v { sa = rest }) (inst_step S 0 v.a x))
  stays_sa v (Carry p) rest l h = by (carried S 0 v.a p)
    where
      others : (did : Step S (Inst T)) → did.notes ≡ [] → did.node.table ≡ v.a.table → S.covers p ≡ true → Stays (put_a S (record v { sa = rest }) did)
      others did quiet same covers =
          quietly [] (ap (λ ns. v.log ++ ns) quiet) refl refl (ap (λ t. S.at t u) same) refl (less_a p rest (other_cover S laws u not_its p covers)) h

      by : {did : Step S (Inst T)} → Carried S 0 v.a p did → Stays (put_a S (record v { sa = rest }) did)
      by (Runs free) = runs_a v p rest h
      by {did} (Hands_out drops covers) = others did refl refl covers
      by {did} (Held covers) = others did refl refl covers
  stays_sa v Stop rest l h = quietly [] refl refl refl refl refl refl h
  stays_sa v x rest l h = absurd l

  no_chunk : (s : T) → S.has (S.select s) u ≡ None
  no_chunk s = laws.selected s u ∙ rw not_its refl

  stays_ca : (v : World T C O) (x : Msg C) (rest : List (Msg C)) → Label S Ca x → Stays (record v { ca = x ∷ rest })
      → Stays (put_a S (record v { ca = rest }) (inst_step S 0 v.a x))
  stays_ca v (Enable r) rest l h = quietly [] refl refl refl refl refl refl h
  stays_ca v Get rest l h = quietly [] refl refl refl refl refl refl h
  stays_ca v (Delete c) rest l h =
      let kept : S.at (S.delete c v.a.table) u ≡ S.at v.a.table u = rw l.1 (laws.deleted v.a.table l.0 u ∙ rw (no_chunk l.0) refl) in
      quietly [] refl refl refl kept refl refl h
  stays_ca v x rest l h = absurd l

  -- B processes packets of other units
  runs_b : {v w : World T C O} (notes : List (Note O)) (ps : List ℕ) → w.log ≡ v.log ++ notes → read ran notes ≡ ps → read arrived notes ≡ []
      → told S laws u notes ≡ [] → Each (λ p. mine S laws u p ≡ false) ps → S.at w.a.table u ≡ S.at v.a.table u → S.at w.b.table u ≡ S.at v.b.table u
      → own (read carries w.sa) ≡ own (read carries v.sa) → Stays v → Stays w
  runs_b {v} notes ps log rans no_came tells others a b sa h =
      let came : read arrived (v.log ++ notes) ≡ read arrived v.log = flat_map-append arrived v.log notes ∙ rw no_came (append-nil (read arrived v.log)) in
      let owned : own (read ran (v.log ++ notes)) ≡ own (read ran v.log) =
      ap own (flat_map-append ran v.log notes) ∙ filter-append (mine S laws u) (read ran v.log) (read ran notes)
      ∙ ap (λ xs. own (read ran v.log) ++ xs) (ap own rans ∙ own_none S laws u ps others) ∙ append-nil (own (read ran v.log)) in
      record {
        a_is =
            rw log
            (a ∙ h.a_is
            ∙ sym
            (record_more v.log notes ∙ ap (folded (its_frame S laws u) (record_by S laws u v.log)) rans
            ∙ folded_other S laws u (record_by S laws u v.log) ps others));
        b_is = b ∙ h.b_is;
        order = rw (log, owned, came, sa) h.order;
        right =
            rw log
            (right_more S laws u v.log notes h.right
            (tells ∙ sym (ap (due S laws u (record_by S laws u v.log)) rans ∙ ap (outputs S (record_by S laws u v.log)) (own_none S laws u ps others))));
      }

  other_at : (t : T) (p : ℕ) → mine S laws u p ≡ false → S.at (S.process t p) u ≡ S.at t u
  other_at t p other = laws.processed t p u ∙ rw other refl

  others_at : (i : Inst T) (ps : List ℕ) → Each (λ p. mine S laws u p ≡ false) ps → S.at (all_processed S 1 i ps).node.table u ≡ S.at i.table u
  others_at i [] h = refl
  others_at i (p ∷ ps) h = others_at (processed S 1 i p).node ps h.1 ∙ other_at i.table p h.0

  tells_nothing : (n : ℕ) (i : Inst T) (p : ℕ) → mine S laws u p ≡ false → told S laws u (processed S n i p).notes ≡ []
  tells_nothing n i p other = rw other refl

  stays_sb : (v : World T C O) (x : Msg C) (rest : List (Msg C)) → Label S Sb x → Knows (λ p. S.covers p ≡ true) (view S Nobody (record v { sb = x ∷ rest }))
      → Stays (record v { sb = x ∷ rest }) → Stays (put_b S (record v { sb = rest }) (inst_step S 1 v.b x))
  stays_sb v (Carry p) rest l k h = by (carried S 1 v.b p)
    where
      by : {did : Step S (Inst T)} → Carried S 1 v.b p did → Stays (put_b S (record v { sb = rest }) did)
      by (Runs free) =
          let other = other_cover S laws u not_its p k.plains.0 in
          runs_b (processed S 1 v.b p).notes (p ∷ []) refl refl refl (tells_nothing 1 v.b p other) (other, tt) refl (other_at v.b.table p other) refl h
      by {did} (Hands_out drops covers) = quietly [] refl refl refl refl refl refl h
      by {did} (Held covers) = quietly [] refl refl refl refl refl refl h
  stays_sb v (Pass p) rest l k h =
      let other = other_cover S laws u not_its p k.passes.0 in
      runs_b (processed S 1 v.b p).notes (p ∷ []) refl refl refl (tells_nothing 1 v.b p other) (other, tt) refl (other_at v.b.table p other) refl h
  stays_sb v Stop rest l k h = quietly [] refl refl refl refl refl refl h
  stays_sb v x rest l k h = absurd l

  stays_cb : (v : World T C O) (x : Msg C) (rest : List (Msg C)) → Label S Cb x → Knows (λ p. S.covers p ≡ true) (view S Nobody (record v { cb = x ∷ rest }))
      → Stays (record v { cb = x ∷ rest }) → Stays (put_b S (record v { cb = rest }) (inst_step S 1 v.b x))
  stays_cb v (Enable r) rest l k h = quietly [] refl refl refl refl refl refl h
  stays_cb v (Restore c) rest l k h =
      let kept : S.at (S.restore c v.b.table) u ≡ S.at v.b.table u = rw l.1 (laws.untouched v.b.table l.0 u (no_chunk l.0)) in
      quietly [] refl refl refl refl kept refl h
  stays_cb v Fence rest l k h =
      let others = each_other S laws u not_its v.b.held k.held in
      let i = record v.b { rule = Free; held = [] } in
      runs_b (inst_step S 1 v.b Fence).notes v.b.held refl
      (ran_fence S laws u 1 v.b) (inst_notes S 1 v.b Fence) (told_other S laws u 1 i v.b.held others) others refl (others_at i v.b.held others) refl h
  stays_cb v x rest l k h = absurd l

  -- the switch
  stays_goes : (v : World T C O) (p : ℕ) (t : Target) → (t ≡ To_b → mine S laws u p ≡ false) → Stays v → Stays (put_switch S v (goes S t v.sw p))
  stays_goes v p t b h =
      let rans : read ran (v.log ++ Arrived p ∷ []) ≡ read ran v.log = flat_map-append ran v.log (Arrived p ∷ []) ∙ append-nil (read ran v.log) in
      let came : own (read arrived (v.log ++ Arrived p ∷ [])) ≡ own (read arrived v.log) ++ own (p ∷ []) =
      ap own (flat_map-append arrived v.log (Arrived p ∷ [])) ∙ filter-append (mine S laws u) (read arrived v.log) (p ∷ []) in
      let a = ap (folded (its_frame S laws u) None) (sym rans) in
      let right = right_none S laws u v.log (Arrived p ∷ []) h.right refl in
      let more : own (read ran (v.log ++ Arrived p ∷ [])) ++ own (read carries (v.sa ++ Carry p ∷ [])) ≡ own (read arrived (v.log ++ Arrived p ∷ [])) =
      ap (λ xs. own xs ++ own (read carries (v.sa ++ Carry p ∷ []))) rans
      ∙ ap (λ xs. own (read ran v.log) ++ xs)
      (ap own (flat_map-append carries v.sa (Carry p ∷ [])) ∙ filter-append (mine S laws u) (read carries v.sa) (p ∷ []))
      ∙ sym (append_assoc (own (read ran v.log)) (own (read carries v.sa)) (own (p ∷ [])))
      ∙ ap (λ xs. xs ++ own (p ∷ [])) h.order ∙ sym came
      in
      by t b a right more rans came
    where
      by : (t : Target) → (t ≡ To_b → mine S laws u p ≡ false) → record_by S laws u v.log ≡ record_by S laws u (v.log ++ Arrived p ∷ [])
          → IsRight S laws u (v.log ++ Arrived p ∷ [])
          → own (read ran (v.log ++ Arrived p ∷ [])) ++ own (read carries (v.sa ++ Carry p ∷ [])) ≡ own (read arrived (v.log ++ Arrived p ∷ []))
          → read ran (v.log ++ Arrived p ∷ []) ≡ read ran v.log → own (read arrived (v.log ++ Arrived p ∷ [])) ≡ own (read arrived v.log) ++ own (p ∷ [])
          → Stays (put_switch S v (goes S t v.sw p))
      by To_a b a right more rans came = record { a_is = h.a_is ∙ a; b_is = h.b_is; order = more; right = right }
      by To_both b a right more rans came = record { a_is = h.a_is ∙ a; b_is = h.b_is; order = more; right = right }
      by To_b b a right more rans came =
          let none : own (p ∷ []) ≡ [] = rw (b refl) refl in
          record {
            a_is = h.a_is ∙ a;
            b_is = h.b_is;
            order =
                ap (λ xs. own xs ++ own (read carries (v.sa ++ []))) rans
                ∙ ap (λ xs. own (read ran v.log) ++ own (read carries xs)) (append-nil v.sa)
                ∙ h.order ∙ sym (came ∙ ap (λ xs. own (read arrived v.log) ++ xs) none ∙ append-nil (own (read arrived v.log)));
            right = right;
          }

  stays_in : (v : World T C O) (x : Msg C) (rest : List (Msg C)) → Label S In x → takes_in S v.sw x ≡ true → Stays (record v { input = x ∷ rest })
      → Stays (put_switch S (record v { input = rest }) (switch_step S v.sw x))
  stays_in v (In_packet p) rest l ready h = rw ready (by (S.covers p) refl)
    where
      less : World T C O
      less = record v { input = rest }

      less_holds : Stays less
      less_holds = record { a_is = h.a_is; b_is = h.b_is; order = h.order; right = h.right }

      by : (b : Bool) → S.covers p ≡ b → Stays (put_switch S less (goes S (if b then v.sw.target else To_a) v.sw p))
      by true e = stays_goes less p v.sw.target (λ _. other_cover S laws u not_its p e) less_holds
      by false e = stays_goes less p To_a (λ never. cc) less_holds
  stays_in v In_start rest l ready h = quietly [] refl refl refl refl refl (own_put v.sa [] refl) h
  stays_in v In_end rest l ready h = quietly [] refl refl refl refl refl (own_put v.sa [] refl) h
  stays_in v x rest l ready h = absurd l

  stays_cs : (v : World T C O) (x : Msg C) (rest : List (Msg C)) → Label S Cs x → Stays (record v { cs = x ∷ rest })
      → Stays (put_switch S (record v { cs = rest }) (switch_step S v.sw x))
  stays_cs v (Forward p) rest l h = quietly [] refl refl refl refl refl (own_put v.sa [] refl) h
  stays_cs v (Lay true) rest l h = quietly (Tables.High ∷ []) refl refl refl refl refl (own_put v.sa [] refl) h
  stays_cs v (Lay false) rest l h = quietly (Tables.Low ∷ []) refl refl refl refl refl (own_put v.sa [] refl) h
  stays_cs v (Finish to) rest l h = quietly [] refl refl refl refl refl (by (to == 0)) h
    where
      by : (b : Bool) → own (read carries (v.sa ++ sent 2 ((if b then 2 else 3, Stop) ∷ []))) ≡ own (read carries v.sa)
      by true = own_put v.sa (Stop ∷ []) refl
      by false = own_put v.sa [] refl
  stays_cs v x rest l h = absurd l

  stays_ctrl : {v w : World T C O} (e : Bool) (did : Step S (Ctrl C)) → CtrlOk S e did → Stays v → w.log ≡ v.log ++ did.notes → w.a ≡ v.a → w.b ≡ v.b
      → w.sa ≡ v.sa → Stays w
  stays_ctrl e did ok h log a b sa =
      quietly did.notes log ok.unrun ok.quiet (ap (λ i. S.at i.table u) a) (ap (λ i. S.at i.table u) b) (ap (λ l. own (read carries l)) sa) h

  stays_back : (v : World T C O) (x : Msg C) → OnBack S x → Stays v → Stays (put_switch S v (switch_step S v.sw x))
  stays_back v (Credit p) l h = quietly [] refl refl refl refl refl (own_put v.sa [] refl) h
  stays_back v x l h = absurd l

  pub stays_keeps : (pl : Place) (v : World T C O) (x : Msg C) (rest : List (Msg C)) → Label S pl x → Ready S pl v x → IsSelected S v.ct.kept
      → Knows (λ p. S.covers p ≡ true) (view S Nobody (with_waits S pl (x ∷ rest) v)) → Stays (with_waits S pl (x ∷ rest) v)
      → Stays (result S pl (with_waits S pl rest v) x)
  stays_keeps In v x rest l ready k n h = stays_in v x rest l ready h
  stays_keeps Cs v x rest l ready k n h = stays_cs v x rest l h
  stays_keeps Aw v x rest l ready k n h = stays_back (record v { aw = rest }) x l (record { a_is = h.a_is; b_is = h.b_is; order = h.order; right = h.right })
  stays_keeps Bw v x rest l ready k n h = stays_back (record v { bw = rest }) x l (record { a_is = h.a_is; b_is = h.b_is; order = h.order; right = h.right })
  stays_keeps Sc v x rest l ready k n h = stays_ctrl _ (ctrl_step S v.ct 0 x) (ctrl_ok S v.ct 0 x k (gives S Sc x l)) h refl refl refl refl
  stays_keeps Ac v x rest l ready k n h = stays_ctrl _ (ctrl_step S v.ct 2 x) (ctrl_ok S v.ct 2 x k (gives S Ac x l)) h refl refl refl refl
  stays_keeps Bc v x rest l ready k n h = stays_ctrl _ (ctrl_step S v.ct 3 x) (ctrl_ok S v.ct 3 x k (gives S Bc x l)) h refl refl refl refl
  stays_keeps Sa v x rest l ready k n h = stays_sa v x rest l h
  stays_keeps Ca v x rest l ready k n h = stays_ca v x rest l h
  stays_keeps Sb v x rest l ready k n h = stays_sb v x rest l n h
  stays_keeps Cb v x rest l ready k n h = stays_cb v x rest l n h

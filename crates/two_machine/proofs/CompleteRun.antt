-- In a complete run all was processed, each record stands at one instance alone, and the verdict is true.
use Rattle.two_machine.proofs.Words.{◌≡◌, ℕ, Bool, true, false, Option, None, Some, List, [], ◌∷◌, ◌++◌, refl, sym, ap, subst, ◌∙◌, append-nil, arith, ◌⊎◌, inl}
use Rattle.two_machine.proofs.Words.{inr, if◌then◌else◌, and_parts, false≢true, Choice, Network, run, IsRun, is_done, Over, Scan, Is_done, Is_none, No_low}
use Rattle.two_machine.proofs.Words.{after, Frame, State, Stage, No_packet_came, High_comes, Is_over, Not_begun, Before, Storing, Passing, Turned, Ends, done}
use Rattle.two_machine.proofs.Words.{path, Fits, Rises, System, Laws, Msg, Note, Node, Is_switch, Done, No_packet, is_over, node_step, node_ready, node_ended}
use Rattle.two_machine.proofs.Words.{World, net, read, those, carries, arrived, ran, scans, Observer, Nobody, Of_unit, IsTaken, frame, view, Place, In, Cs, Ac}
use Rattle.two_machine.proofs.Words.{Sa, Sb, choice, waits, waiting_at, done_is, shape}
use Rattle.std.specs.Prelude.{filter_map, option_to_list}
use Rattle.std.specs.List.{cons_option}
use Rattle.two_machine.proofs.Stages as stages
use Rattle.two_machine.proofs.Arrivals.{coming}
use Rattle.two_machine.proofs.Runs.{Holds, Reached}
use Rattle.two_machine.proofs.Outputs.{mine, record_by, by_log, own_those, fold_is}
use Rattle.two_machine.proofs.Closing.{Close, Closed, Closing, signs}
use Rattle.two_machine.proofs.Promises.{processed, has_come, after_low, verdicts, of_unit, fold, live_in, start, LeadsTo, Complete}
use Rattle.two_machine.proofs.Scans.{came_by, verdicts_by, is_wrong, scan_right, from_start, the_verdict}
use Rattle.two_machine.proofs.EveryRun.{WithRight, WithStays, taken_run, untaken_run}
use Rattle.two_machine.proofs.RunLengths.{Counted, nobody_run}
use Rattle.actor_net.proofs.CompleteWorlds.{done_waiting, done_node}
use Rattle.two_machine.proofs.ClosingController.{over_is}

module _ {U T C R O : Type 0} (S : System U T C R O) where
  -- a world in which nothing is left to do
  pub emptied : (v : World T C O) → is_done (node_ended S) (net v) ≡ true → (pl : Place) → waits S pl v ≡ []
  emptied v e pl = sym (waiting_at S pl v) ∙ done_waiting (node_ended S) (net v) e (choice pl)

  closed_only : (k : Close) → (signs k).stopped ≡ true → (signs k).over ≡ true
  closed_only Closed e = refl
  closed_only k e = absurd (false≢true e)

  pub is_over_there : (v : World T C O) → Closing S v → is_done (node_ended S) (net v) ≡ true → v.ct.phase ≡ Over
  is_over_there v c e =
      let stopped : v.ct.stopped ≡ true = done_node (node_ended S) (net v) e 1 (Is_switch v.sw) (omega arith) in
      let over = ap (λ x. x.over) c.is ∙ closed_only c.at (sym (ap (λ x. x.stopped) c.is) ∙ stopped) in
      over_is S v.ct.phase (and_parts (is_over S v.ct.phase) v.ct.ended over).0

alone : {R : Type 0} (o : Option R) → cons_option o [] ≡ option_to_list o
alone None = refl
alone (Some r) = refl

-- the stages in which the update is over
pub data Ended : Stage → Type 0 where
  With_done : (d : List ℕ) (s t : Option ℕ) (h y : List ℕ) (b : Bool) → Ended (Ends Is_over d s t h y b)
  Without : (d : List ℕ) (s : Option ℕ) (z x g e l : List ℕ) (t : Option ℕ) (c : List ℕ) (b : Bool) → Ended (Passing No_packet_came d s z x g e l t c b)

module _ {R : Type 0} (f : Frame R) where
  pub ended_at : (s : Stage) → (shape f s).c.phase ≡ Over → Ended s
  ended_at (Before Not_begun d l b) e = cc
  ended_at (Before n d l b) e = cc
  ended_at (Storing stages.Get_goes d g e l b) is = cc
  ended_at (Storing n d g e l b) is = cc
  ended_at (Passing No_packet_came d s z x g e l t c b) is = Without d s z x g e l t c b
  ended_at (Passing n d s z x g e l t c b) is = cc
  ended_at (Turned High_comes d s z x g e l t c h y b) is = cc
  ended_at (Turned n d s z x g e l t c h y b) is = cc
  ended_at (Ends Is_over d s t h y b) is = With_done d s t h y b
  ended_at (Ends n d s t h y b) is = cc

  -- nothing waits there where nothing stands on the links
  pub no_path : (s : Stage) → Ended s → Fits s → (x : State R) → x ≡ shape f s → x.passes ≡ [] → x.plains ≡ [] → x.forwards ≡ [] → x.events ≡ [] → x.sa ≡ []
      → path s ≡ []
  no_path k (With_done d s t h y b) w x is passes plains forwards events sa =
      let y_is : y ≡ [] = sym (ap (λ z. z.plains) is) ∙ plains in
      rw (w, y_is) refl
  no_path k (Without d s z p g e l t c b) w x is passes plains forwards events sa =
      let p_is : p ≡ [] = sym (ap (λ z. z.passes) is) ∙ passes in
      let g_is : g ≡ [] = sym (ap (λ z. z.forwards) is) ∙ forwards in
      let e_is : e ≡ [] = sym (ap (λ z. z.events) is) ∙ events in
      let l_is : l ≡ [] = sym (ap (λ z. z.sa) is) ∙ sa in
      rw (p_is, g_is, e_is, l_is) refl

  -- records and the verdict there
  pub over_records : (s : Stage) → Ended s → ((shape f s).a.live ≡ None) × ((shape f s).b.live ≡ after f (done s))
  over_records k (With_done d s t h y b) = (refl, refl)
  over_records k (Without d s z x g e l t c b) = (refl, refl)

  pub over_scan : (s : Stage) → Ended s → ((shape f s).scan ≡ Is_done) ⊎ ((shape f s).scan ≡ Is_none)
  over_scan k (With_done d s t h y b) = inl refl
  over_scan k (Without d s z x g e l t c b) = inr refl

module _ {U T C R O : Type 0} (S : System U T C R O) (laws : Laws S) (window : ℕ) (early late : List ℕ) (rises : Rises 0 (early ++ late)) where
  -- no packet of the filter waits anywhere
  none_waits : (o : Observer U) (its : IsTaken S o) (v : World T C O) (h : Holds S laws o its (early ++ late) rises v) → is_done (node_ended S) (net v) ≡ true
      → Ended h.stage × (done h.stage ≡ those S.covers (read arrived v.log))
  none_waits o its v h e =
      let over = is_over_there S v h.closing e in
      let ended = ended_at (frame S o) h.stage (ap (λ x. x.c.phase) (sym h.alike) ∙ over) in
      let sa = emptied S v e Sa in
      let sb = emptied S v e Sb in
      let cs = emptied S v e Cs in
      let ac = emptied S v e Ac in
      let none = no_path (frame S o) h.stage ended h.fits (view S o v) h.alike (rw sb refl) (rw sb refl) (rw cs refl) (rw ac refl) (rw sa refl) in
      (ended, sym (append-nil (done h.stage)) ∙ ap (λ xs. done h.stage ++ xs) (sym none) ∙ h.order)

  arrived_all : (o : Observer U) (its : IsTaken S o) (v : World T C O) (h : Holds S laws o its (early ++ late) rises v) → is_done (node_ended S) (net v) ≡ true
      → read arrived v.log ≡ early ++ late
  arrived_all o its v h e =
      let input = emptied S v e In in sym (append-nil (read arrived v.log)) ∙ sym (ap (λ l. read arrived v.log ++ read coming l) input) ∙ h.arrivals_are

  -- what is known of a unit at the end
  pub record UnitEnd (u : U) (w : Network (Node T C) (Msg C) (Note O)) : Type 0 where
    pub all : of_unit S u (processed w.log) ≡ of_unit S u (early ++ late)
    pub live : filter_map (live_in S u) w.nodes ≡ option_to_list (fold S None (of_unit S u (early ++ late)))

  record_all : (u : U) (log : List (Note O)) → those (mine S laws u) (read ran log) ≡ those (mine S laws u) (early ++ late)
      → record_by S laws u log ≡ fold S None (of_unit S u (early ++ late))
  record_all u log e =
      fold_is S laws u None (read ran log) ∙ ap (fold S None) e

  end_taken : {n : ℕ} (u : U) (its : S.takes u ≡ true) (w : Network (Node T C) (Msg C) (Note O)) → WithRight S laws window early late rises u its n w
      → is_done (node_ended S) w ≡ true → UnitEnd u w
  end_taken u its w r done_there =
      let here = r.is in
      let v = r.world in
      let h = r.holds in
      let e = subst (λ y. is_done (node_ended S) y ≡ true) here done_there in
      let two = none_waits (Of_unit u) its v h e in
      let came = arrived_all (Of_unit u) its v h e in
      let dones : done h.stage ≡ those S.covers (read ran v.log) =
      done_is (frame S (Of_unit u)) h.stage ∙ sym (ap (λ x. x.done) h.alike) in
      let own_all : those (mine S laws u) (read ran v.log) ≡ those (mine S laws u) (early ++ late) =
      sym (own_those S laws u its (read ran v.log)) ∙ ap (those (mine S laws u)) (sym dones ∙ two.1)
      ∙ own_those S laws u its (read arrived v.log) ∙ ap (those (mine S laws u)) came
      in
      let records = over_records (frame S (Of_unit u)) h.stage two.0 in
      let a : S.at v.a.table u ≡ None = ap (λ x. x.a.live) h.alike ∙ records.0 in
      let b : S.at v.b.table u ≡ fold S None (of_unit S u (early ++ late)) =
      ap (λ x. x.b.live) h.alike ∙ records.1 ∙ by_log S laws u its (early ++ late) rises v h ∙ record_all u v.log own_all in
      rw here (record { all = own_all; live = ap (λ o. cons_option o (cons_option (S.at v.b.table u) [])) a ∙ alone (S.at v.b.table u) ∙ ap option_to_list b })

  end_untaken : {n : ℕ} (u : U) (not_its : S.takes u ≡ false) (w : Network (Node T C) (Msg C) (Note O)) → WithStays S laws window early late rises u not_its n w
      → is_done (node_ended S) w ≡ true → UnitEnd u w
  end_untaken u not_its w r done_there =
      let here = r.is in
      let v = r.world in
      let h = r.holds in
      let q = r.more in
      let e = subst (λ y. is_done (node_ended S) y ≡ true) here done_there in
      let sa = emptied S v e Sa in
      let came = arrived_all Nobody tt v h e in
      let own_all : those (mine S laws u) (read ran v.log) ≡ those (mine S laws u) (early ++ late) =
      sym (append-nil (those (mine S laws u) (read ran v.log)))
      ∙ sym (ap (λ l. those (mine S laws u) (read ran v.log) ++ those (mine S laws u) (read carries l)) sa) ∙ q.order
      ∙ ap (those (mine S laws u)) came
      in
      let a : S.at v.a.table u ≡ fold S None (of_unit S u (early ++ late)) = q.a_is ∙ record_all u v.log own_all in
      rw here
      (record { all = own_all; live = ap (λ o. cons_option (S.at v.a.table u) (cons_option o [])) q.b_is ∙ alone (S.at v.a.table u) ∙ ap option_to_list a })

  unit_end : (u : U) (cs : List Choice) → IsRun (node_ready S) (node_step S) cs (start S window early late)
      → is_done (node_ended S) (run (node_step S) cs (start S window early late)) ≡ true → UnitEnd u (run (node_step S) cs (start S window early late))
  unit_end u cs is done_there = by (S.takes u) refl
    where
      by : (b : Bool) → S.takes u ≡ b → UnitEnd u (run (node_step S) cs (start S window early late))
      by true e = end_taken u e (run (node_step S) cs (start S window early late)) (taken_run S laws window early late rises u e cs is) done_there
      by false e = end_untaken u e (run (node_step S) cs (start S window early late)) (untaken_run S laws window early late rises u e cs is) done_there

  -- the verdict
  verdict_of : (log : List (Note O)) → is_wrong (scans S No_low log) ≡ false → (scans S No_low log ≡ Is_done) ⊎ (scans S No_low log ≡ Is_none)
      → verdicts log ≡ (if has_come S.covers (after_low log) then Done ∷ [] else No_packet ∷ [])
  verdict_of log right (inl is) =
      the_verdict S log right ∙ ap verdicts_by is ∙ sym (ap (λ b. if b then Done ∷ [] else No_packet ∷ []) (sym (from_start S log right) ∙ ap came_by is))
  verdict_of log right (inr is) =
      the_verdict S log right ∙ ap verdicts_by is ∙ sym (ap (λ b. if b then Done ∷ [] else No_packet ∷ []) (sym (from_start S log right) ∙ ap came_by is))

  either_scan : (x y : Scan) → x ≡ y → (y ≡ Is_done) ⊎ (y ≡ Is_none) → (x ≡ Is_done) ⊎ (x ≡ Is_none)
  either_scan x y e (inl is) = inl (e ∙ is)
  either_scan x y e (inr is) = inr (e ∙ is)

  end_verdict : {n : ℕ} (w : Network (Node T C) (Msg C) (Note O)) → Reached S laws Nobody tt (early ++ late) rises (Counted S laws window early late rises) n w
      → is_done (node_ended S) w ≡ true → verdicts w.log ≡ (if has_come S.covers (after_low w.log) then Done ∷ [] else No_packet ∷ [])
  end_verdict w r done_there =
      let here = r.is in
      let v = r.world in
      let h = r.holds in
      let e = subst (λ y. is_done (node_ended S) y ≡ true) here done_there in
      let two = none_waits Nobody tt v h e in
      let scan : scans S No_low v.log ≡ (shape (frame S Nobody) h.stage).scan = ap (λ x. x.scan) h.alike in
      let right : is_wrong (scans S No_low v.log) ≡ false = ap is_wrong scan ∙ scan_right (frame S Nobody) h.stage in
      rw here
      (verdict_of v.log right (either_scan (scans S No_low v.log) (shape (frame S Nobody) h.stage).scan scan (over_scan (frame S Nobody) h.stage two.0)))

  -- what a complete run keeps
  pub complete : (cs : List Choice) (w : Network (Node T C) (Msg C) (Note O)) → LeadsTo S window early late cs w → is_done (node_ended S) w ≡ true
      → Complete S window early late w
  complete cs w leads done_there =
      let reached = leads.reached in
      let there = subst (λ y. is_done (node_ended S) y ≡ true) reached done_there in
      let ends : (u : U) → UnitEnd u w = λ u. subst (UnitEnd u) (sym reached) (unit_end u cs leads.is_run there) in
      record {
        all = λ u. (ends u).all;
        live = λ u. (ends u).live;
        verdict =
            subst (λ y. verdicts y.log ≡ (if has_come S.covers (after_low y.log) then Done ∷ [] else No_packet ∷ [])) (sym reached)
            (end_verdict (run (node_step S) cs (start S window early late)) (nobody_run S laws window early late rises cs leads.is_run) there);
      }

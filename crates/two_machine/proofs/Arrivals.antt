-- What each step notes of arrivals, and where the input and its end are.
use Rattle.two_machine.proofs.Words.{◌≡◌, ℕ, Bool, true, false, List, [], ◌∷◌, ◌++◌, refl, ap, ◌∙◌, append-nil, if◌then◌else◌, ◌==◌, Free, Target, To_a}
use Rattle.two_machine.proofs.Words.{To_both, System, Msg, Note, Switch, Ctrl, Inst, In_packet, In_start, In_end, Start, End, Copied, Laid, Forward, Lay}
use Rattle.two_machine.proofs.Words.{Finish, Carry, Stop, Fence, Credit, goes, switch_step, processed, all_processed, inst_step, ctrl_step, takes_in, Step}
use Rattle.two_machine.proofs.Words.{World, Observer, read, flat_map-append, arrived, item, Place, Cs, In, Sc, Aw, Bw, Ac, Bc, Sa, Ca, Sb, Cb, choice}
use Rattle.two_machine.proofs.Words.{with_waits, comes, IsSelected, OnBack, Label, sent, result, copied, Each, each-append}
use Rattle.two_machine.proofs.Rows.{Carried, Runs, carried, kind}
use Rattle.two_machine.proofs.StepLabels.{ctrl_ok, ended_by, gives}

-- the packets of an input
abbrev pub coming : {C : Type 0} → Msg C → List ℕ
coming (In_packet p) = p ∷ []
coming m = []

-- no End, and no copy besides
abbrev pub NotEnd : {C : Type 0} → Msg C → Type 0
NotEnd End = ⊥
NotEnd m = Unit {0}

abbrev pub Quiet : {C : Type 0} → Msg C → Type 0
Quiet End = ⊥
Quiet (Copied p) = ⊥
Quiet m = Unit {0}

-- one End, and no copy after it
abbrev pub OneEnd : {C : Type 0} → List (Msg C) → Type 0
OneEnd [] = ⊥
OneEnd (End ∷ ms) = Each Quiet ms
OneEnd (m ∷ ms) = OneEnd ms

-- the end of an input stands last
abbrev pub EndsLast : {C : Type 0} → List (Msg C) → Type 0
EndsLast [] = ⊥
EndsLast (In_end ∷ []) = Unit {0}
EndsLast (In_end ∷ m ∷ ms) = ⊥
EndsLast (m ∷ ms) = EndsLast ms

pub one_end_more : {C : Type 0} (xs ys : List (Msg C)) → OneEnd xs → Each Quiet ys → OneEnd (xs ++ ys)
one_end_more [] ys h k = absurd h
one_end_more (End ∷ xs) ys h k = each-append Quiet xs ys h k
one_end_more (x ∷ xs) ys h k = one_end_more xs ys h k

pub one_end_put : {C : Type 0} (xs : List (Msg C)) → Each NotEnd xs → OneEnd (xs ++ End ∷ [])
one_end_put [] h = tt
one_end_put (End ∷ xs) h = absurd h.0
one_end_put (x ∷ xs) h = one_end_put xs h.1

-- where the end is
pub data EndAt {T C O : Type 0} (v : World T C O) : Type 0 where
  In_input_still : EndsLast v.input → Each NotEnd v.sc → v.ct.ended ≡ false → EndAt v
  On_link : v.input ≡ [] → OneEnd v.sc → v.ct.ended ≡ false → EndAt v
  Has_come : v.input ≡ [] → Each NotEnd v.sc → v.ct.ended ≡ true → EndAt v

module _ {U T C R O : Type 0} (S : System U T C R O) where
  pub quiet_copied : (o : Observer U) (xs : List (Msg C)) → Each (Label S Sc) xs → Each Quiet xs → read copied (read (item S o) xs) ≡ []
  quiet_copied o [] l h = refl
  quiet_copied o (Start ∷ xs) l h = quiet_copied o xs l.1 h.1
  quiet_copied o (Laid high ∷ xs) l h = quiet_copied o xs l.1 h.1
  quiet_copied o (Copied p ∷ xs) l h = absurd h.0
  quiet_copied o (End ∷ xs) l h = absurd h.0
  quiet_copied o (x ∷ xs) l h = absurd l.0

  -- arrivals
  goes_notes : (t : Target) (s : Switch) (p : ℕ) → read arrived (goes S t s p).notes ≡ p ∷ []
  goes_notes To_a s p = refl
  goes_notes t s p = refl

  in_notes : (s : Switch) (m : Msg C) → Label S In m → takes_in S s m ≡ true → read arrived (switch_step S s m).notes ≡ comes In m
  in_notes s (In_packet p) h ready = rw ready (goes_notes (if S.covers p then s.target else To_a) s p)
  in_notes s In_start h ready = refl
  in_notes s In_end h ready = refl
  in_notes s m h ready = absurd h

  cs_notes : (s : Switch) (m : Msg C) → Label S Cs m → read arrived (switch_step S s m).notes ≡ []
  cs_notes s (Forward p) h = refl
  cs_notes s (Lay true) h = refl
  cs_notes s (Lay false) h = refl
  cs_notes s (Finish to) h = refl
  cs_notes s m h = absurd h

  back_notes : (s : Switch) (m : Msg C) → OnBack S m → read arrived (switch_step S s m).notes ≡ []
  back_notes s (Credit p) h = refl
  back_notes s m h = absurd h

  all_notes : (n : ℕ) (i : Inst T) (ps : List ℕ) → read arrived (all_processed S n i ps).notes ≡ []
  all_notes n i [] = refl
  all_notes n i (p ∷ ps) = all_notes n (processed S n i p).node ps

  carry_notes : {n : ℕ} {i : Inst T} {p : ℕ} {did : Step S (Inst T)} → Carried S n i p did → read arrived did.notes ≡ []
  carry_notes (Runs free) = refl
  carry_notes run = refl

  pub inst_notes : (n : ℕ) (i : Inst T) (m : Msg C) → read arrived (inst_step S n i m).notes ≡ []
  inst_notes n i (Carry p) = carry_notes (carried S n i p)
  inst_notes n i Fence = all_notes n (record i { rule = Free; held = [] }) i.held
  inst_notes n i m = refl

  abbrev pub Ready : Place → World T C O → Msg C → Type 0
  Ready In v m = takes_in S v.sw m ≡ true
  Ready pl v m = Unit {0}

  noted : (v : World T C O) (ns : List (Note O)) {ps : List ℕ} → read arrived ns ≡ ps → read arrived (v.log ++ ns) ≡ read arrived v.log ++ ps
  noted v ns is = flat_map-append arrived v.log ns ∙ ap (λ xs. read arrived v.log ++ xs) is

  pub arrivals : (pl : Place) (v : World T C O) (m : Msg C) (rest : List (Msg C)) → Label S pl m → Ready pl v m → IsSelected S v.ct.kept
      → read arrived (result S pl (with_waits S pl rest v) m).log ≡ read arrived v.log ++ comes pl m
  arrivals In v m rest h ready k = noted v (switch_step S v.sw m).notes (in_notes v.sw m h ready)
  arrivals Cs v m rest h ready k = noted v (switch_step S v.sw m).notes (cs_notes v.sw m h)
  arrivals Sc v m rest h ready k = noted v (ctrl_step S v.ct 0 m).notes (ctrl_ok S v.ct 0 m k (gives S Sc m h)).quiet
  arrivals Ac v m rest h ready k = noted v (ctrl_step S v.ct 2 m).notes (ctrl_ok S v.ct 2 m k (gives S Ac m h)).quiet
  arrivals Bc v m rest h ready k = noted v (ctrl_step S v.ct 3 m).notes (ctrl_ok S v.ct 3 m k (gives S Bc m h)).quiet
  arrivals Sa v m rest h ready k = noted v (inst_step S 0 v.a m).notes (inst_notes 0 v.a m)
  arrivals Ca v m rest h ready k = noted v (inst_step S 0 v.a m).notes (inst_notes 0 v.a m)
  arrivals Sb v m rest h ready k = noted v (inst_step S 1 v.b m).notes (inst_notes 1 v.b m)
  arrivals Cb v m rest h ready k = noted v (inst_step S 1 v.b m).notes (inst_notes 1 v.b m)
  arrivals x v m rest h ready k = noted v (switch_step S v.sw m).notes (back_notes v.sw m h)

  -- the end
  goes_sc : (t : Target) (s : Switch) (p : ℕ) → Each NotEnd (sent 1 (goes S t s p).sends)
  goes_sc To_both s p = (tt, tt)
  goes_sc x s p = tt

  end_in : (v : World T C O) (m : Msg C) (rest : List (Msg C)) → Label S In m → takes_in S v.sw m ≡ true → EndAt (with_waits S In (m ∷ rest) v)
      → EndAt (result S In (with_waits S In rest v) m)
  end_in v (In_packet p) rest h ready (In_input_still last none not_yet) =
      In_input_still last
      (each-append NotEnd v.sc (sent 1 (switch_step S v.sw (In_packet p)).sends) none
      (rw ready (goes_sc (if S.covers p then v.sw.target else To_a) v.sw p)))
      not_yet
  end_in v In_start rest h ready (In_input_still last none not_yet) = In_input_still last (each-append NotEnd v.sc (Start ∷ []) none (tt, tt)) not_yet
  end_in v In_end [] h ready (In_input_still last none not_yet) = On_link refl (one_end_put v.sc none) not_yet
  end_in v In_end (x ∷ rest) h ready (In_input_still last none not_yet) = absurd last
  end_in v m rest h ready (In_input_still last none not_yet) = absurd h
  end_in v m rest h ready (On_link none one not_yet) = cc
  end_in v m rest h ready (Has_come none no_end has) = cc

  -- Stop goes to an instance
  stop_goes : (P : Msg C → Type 0) (b : Bool) → Each P (sent 1 ((if b then 2 else 3, Stop) ∷ []))
  stop_goes P true = tt
  stop_goes P false = tt

  -- what the switch sends the controller otherwise says nothing of the end
  quiet_cs : (s : Switch) (m : Msg C) → Label S Cs m → Each Quiet (sent 1 (switch_step S s m).sends)
  quiet_cs s (Forward p) h = tt
  quiet_cs s (Lay high) h = (tt, tt)
  quiet_cs s (Finish to) h = stop_goes Quiet (to == 0)
  quiet_cs s m h = absurd h

  not_end : (xs : List (Msg C)) → Each (Label S Sc) xs → Each Quiet xs → Each NotEnd xs
  not_end [] l h = tt
  not_end (End ∷ xs) l h = absurd h.0
  not_end (x ∷ xs) l h = (tt, not_end xs l.1 h.1)

  -- the end stays where it is
  end_stays : {v w : World T C O} → w.input ≡ v.input → (OneEnd v.sc → OneEnd w.sc) → (Each NotEnd v.sc → Each NotEnd w.sc) → w.ct.ended ≡ v.ct.ended
      → EndAt v → EndAt w
  end_stays input one quiet ended (In_input_still last none not_yet) = In_input_still (rw input last) (quiet none) (ended ∙ not_yet)
  end_stays input one quiet ended (On_link empty there not_yet) = On_link (input ∙ empty) (one there) (ended ∙ not_yet)
  end_stays input one quiet ended (Has_come empty none has) = Has_come (input ∙ empty) (quiet none) (ended ∙ has)

  more_sc : {v w : World T C O} (xs : List (Msg C)) → Each (Label S Sc) xs → Each Quiet xs → w.input ≡ v.input → w.sc ≡ v.sc ++ xs → w.ct.ended ≡ v.ct.ended
      → EndAt v → EndAt w
  more_sc {v} xs l q input sc ended h =
      end_stays input (λ one. rw sc (one_end_more v.sc xs one q)) (λ none. rw sc (each-append NotEnd v.sc xs none (not_end xs l q))) ended h

  same_sc : {v w : World T C O} → w.input ≡ v.input → w.sc ≡ v.sc → w.ct.ended ≡ v.ct.ended → EndAt v → EndAt w
  same_sc input sc ended h = end_stays input (λ one. rw sc one) (λ none. rw sc none) ended h

  end_sc : (v : World T C O) (m : Msg C) (rest : List (Msg C)) → Label S Sc m → IsSelected S v.ct.kept → EndAt (with_waits S Sc (m ∷ rest) v)
      → EndAt (result S Sc (with_waits S Sc rest v) m)
  end_sc v End rest h k (In_input_still last none not_yet) = absurd none.0
  end_sc v End rest h k (On_link none one not_yet) = Has_come none (quiet_not rest one) (ctrl_ok S v.ct 0 End k tt).ended
    where
      quiet_not : (xs : List (Msg C)) → Each Quiet xs → Each NotEnd xs
      quiet_not [] h = tt
      quiet_not (End ∷ xs) h = absurd h.0
      quiet_not (x ∷ xs) h = (tt, quiet_not xs h.1)
  end_sc v End rest h k (Has_come none no_end has) = absurd no_end.0
  end_sc v Start rest h k e = end_stays refl (λ one. one) (λ none. none.1) (ctrl_ok S v.ct 0 Start k tt).ended e
  end_sc v (Copied p) rest h k e = end_stays refl (λ one. one) (λ none. none.1) (ctrl_ok S v.ct 0 (Copied p) k tt).ended e
  end_sc v (Laid high) rest h k e = end_stays refl (λ one. one) (λ none. none.1) (ctrl_ok S v.ct 0 (Laid high) k tt).ended e
  end_sc v m rest h k e = absurd h

  quiet_back : (s : Switch) (m : Msg C) → OnBack S m → sent 1 (switch_step S s m).sends ≡ []
  quiet_back s (Credit p) h = refl
  quiet_back s m h = absurd h

  -- and neither do the instances
  ended_at : (pl : Place) (m : Msg C) (c : Ctrl C) → Label S pl m → (pl ≡ Sc → ⊥) → ended_by S (kind (choice pl).port m) c ≡ c.ended
  ended_at Sc m c h other = absurd (other refl)
  ended_at pl End c h other = absurd h
  ended_at pl m c h other = refl

  on_sc_cs : (s : Switch) (m : Msg C) → Label S Cs m → Each (Label S Sc) (sent 1 (switch_step S s m).sends)
  on_sc_cs s (Forward p) h = tt
  on_sc_cs s (Lay high) h = (tt, tt)
  on_sc_cs s (Finish to) h = stop_goes (Label S Sc) (to == 0)
  on_sc_cs s m h = absurd h

  pub end_goes : (pl : Place) (v : World T C O) (m : Msg C) (rest : List (Msg C)) → Label S pl m → Ready pl v m → IsSelected S v.ct.kept
      → EndAt (with_waits S pl (m ∷ rest) v) → EndAt (result S pl (with_waits S pl rest v) m)
  end_goes In v m rest h ready k e = end_in v m rest h ready e
  end_goes Cs v m rest h ready k e = more_sc (sent 1 (switch_step S v.sw m).sends) (on_sc_cs v.sw m h) (quiet_cs v.sw m h) refl refl refl e
  end_goes Aw v m rest h ready k e = same_sc refl (rw (quiet_back v.sw m h) (append-nil v.sc)) refl e
  end_goes Bw v m rest h ready k e = same_sc refl (rw (quiet_back v.sw m h) (append-nil v.sc)) refl e
  end_goes Sc v m rest h ready k e = end_sc v m rest h k e
  end_goes Ac v m rest h ready k e = same_sc refl refl ((ctrl_ok S v.ct 2 m k (gives S Ac m h)).ended ∙ ended_at Ac m v.ct h (λ never. cc)) e
  end_goes Bc v m rest h ready k e = same_sc refl refl ((ctrl_ok S v.ct 3 m k (gives S Bc m h)).ended ∙ ended_at Bc m v.ct h (λ never. cc)) e
  end_goes Sa v m rest h ready k e = same_sc refl refl refl e
  end_goes Ca v m rest h ready k e = same_sc refl refl refl e
  end_goes Sb v m rest h ready k e = same_sc refl refl refl e
  end_goes Cb v m rest h ready k e = same_sc refl refl refl e

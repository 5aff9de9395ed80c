-- The controller's step at one unit: of its own move it sees the machine's row, of another move nothing, and all that is open or
-- sent has its labels.
use Rattle.proof_machines.proofs.unit.Real.{sent_either}
use Rattle.proof_machines.proofs.net.Words.{◌≡◌, ℕ, Bool, true, false, Option, Some, None, List, [], ◌∷◌, refl, sym, ap, ◌∙◌, subst, if◌then◌else◌, ◌==◌}
use Rattle.proof_machines.proofs.net.Words.{eqb-true, both_ways, same_Some, Item, Pass, State, ControllerTurn, goes, from_source, from_destination, MoveMsg}
use Rattle.proof_machines.proofs.net.Words.{MovePhase, Op, OperationTurn, operation_turn, operation_from_source, operation_from_destination, Frame, where_true}
use Rattle.proof_machines.proofs.net.Words.{none_if, add, view, only_mine, see_phase, sent_for, sends_to, Sees, NodesDiffer, quiet, did_a, did_b, Each, Foreign}
use Rattle.proof_machines.proofs.net.Words.{SentForeign, Clean, StaysClean, from_source_clean, from_destination_clean, filter_map, Filter, Msg, Carry_on}
use Rattle.proof_machines.proofs.net.Words.{Pass_on, Fence_on, Of_move, Sys, Open, find_op, write_op, num_of, row_of, row, filter_for, wrap, ControllerMove}
use Rattle.proof_machines.proofs.net.Words.{found, numbered, ctrl_step, seen, Seeing, EachSent, frame, MoveLabel, Label, OpLabel, IsController, same_unit}
use Rattle.proof_machines.proofs.net.Words.{either_way, by_if, split}
use Rattle.proof_machines.proofs.unit.Machine.{Carry, Fence, Forward, Phase}
use Rattle.proof_machines.proofs.unit.Real
use Rattle.move_op.specs.Phases.{Over}
use Rattle.proof_machines.proofs.unit.Quiet.{Is_quiet, IsNotMine, view_nothing, from_source_quiet, from_destination_quiet}
use Rattle.proof_machines.proofs.net.RowNumbers.{OfRow, SentOf, row_numbers}
use Rattle.proof_machines.proofs.NumberedLists.{find-drop_own}
use Rattle.proof_machines.proofs.net.Ctrl.{none_some, find_set, find_write_other, each_write, each_found, ext_a, ext_b}

module _ {R : Type 0} (S : Sys R) (z : Seeing) where
  abbrev own_frame : Frame
  own_frame = frame S z

  abbrev n : ℕ
  n = z.op.num

  abbrev its : List (Msg R) → List (Item R)
  its ms = filter_map (seen own_frame) ms

  pub wrap_view : (g : Filter) (y : ℕ) (xs : List (ℕ × MoveMsg R)) → its (sent_for y (wrap g xs)) ≡ view own_frame (sent_for y xs)
  wrap_view g y [] = refl
  wrap_view g y (x ∷ xs) = split (x.0 == y)
      (λ b. its (if b then Of_move (filter_for g x.1) x.1 ∷ sent_for y (wrap g xs) else sent_for y (wrap g xs)) ≡ view own_frame
      (if b then x.1 ∷ sent_for y xs else sent_for y xs))
      (λ _. ap (λ v. add (Real.seen own_frame x.1) v) (wrap_view g y xs)) (λ _. wrap_view g y xs)

  one_label : (o : Op) (g : Filter) (m : MoveMsg R) → OfRow o m → S.takes g z.unit ≡ (o.num == n) → ((o.num == n) ≡ false → Foreign z.unit m)
      → MoveLabel S z (filter_for g m) m
  one_label o g (MoveMsg.Enable k r) e h f = let same = e.0 in (rw same h, e.1)
  one_label o g (MoveMsg.Stream k) e h f = rw e h
  one_label o g (MoveMsg.Install k from to) e h f = rw e h
  one_label o g (MoveMsg.Delete k us) e h f = λ off. f (rw (← e) off)
  one_label o g (MoveMsg.Put k p first) e h f = λ off. f (rw (← e) off)
  one_label o g (MoveMsg.Restore k cs) e h f = λ off. f (rw (← e) off)
  one_label o g (MoveMsg.Fence_to k to) e h f = tt
  one_label o g (MoveMsg.Forward p to) e h f = tt
  one_label o g m e h f = absurd e

  pub wrap_labels : (o : Op) (g : Filter) (xs : List (ℕ × MoveMsg R)) → Each (SentOf o) xs → S.takes g z.unit ≡ (o.num == n)
      → ((o.num == n) ≡ false → Each (SentForeign z.unit) xs) → EachSent (λ j m. Label S z 1 m) (wrap g xs)
  wrap_labels o g [] a h f = tt
  wrap_labels o g (x ∷ xs) a h f = ((refl, one_label o g x.1 a.0 h (λ off. (f off).0)), wrap_labels o g xs a.1 h (λ off. (f off).1))

  not_mine : (g : Filter) (k p : ℕ) → (k == n) ≡ false → MoveLabel S z g (MoveMsg.Event k p) → (same_unit (S.packet_unit p) z.unit) ≡ false
  not_mine g k p off l = elim (same_unit (S.packet_unit p) z.unit) as (λ b. (b ≡ true → (k == n) ≡ true) → b ≡ false)
      [ true ↦ λ f. let both : false ≡ true = sym off ∙ f refl in cc | false ↦ λ _. refl ] l

  k_off : (j k : ℕ) → Some j ≡ Some k → (k == n) ≡ false → (j == n) ≡ false
  k_off j k e off = let same : j ≡ k = same_Some _ _ e in rw same off

  unseen_other : (g : Filter) (k : ℕ) (m : MoveMsg R) → num_of m ≡ Some k → (k == n) ≡ false → MoveLabel S z g m → Real.seen own_frame m ≡ None
  unseen_other g k (MoveMsg.Event j p) e off l = none_if (same_unit (S.packet_unit p) z.unit) _ (not_mine g j p (k_off j k e off) l)
  unseen_other g k (MoveMsg.Forward p to) e off l = none_some e
  unseen_other g k m e off l = none_if _ _ (k_off _ k e off)

  foreign_of : (g : Filter) (k : ℕ) (m : MoveMsg R) → num_of m ≡ Some k → (k == n) ≡ false → MoveLabel S z g m → Foreign z.unit m
  foreign_of g k (MoveMsg.Delete j us) e off l = l (k_off j k e off)
  foreign_of g k (MoveMsg.Put j p first) e off l = l (k_off j k e off)
  foreign_of g k (MoveMsg.Restore j cs) e off l = l (k_off j k e off)
  foreign_of g k (MoveMsg.Piece j p) e off l = l (k_off j k e off)
  foreign_of g k (MoveMsg.Put_no j why cs) e off l = l (k_off j k e off)
  foreign_of g k m e off l = tt

  not_of : (o : Op) (other : (o.num == n) ≡ false) (g : Filter) (k : ℕ) (m : MoveMsg R) → num_of m ≡ Some k → (k == n) ≡ false → MoveLabel S z g m
      → IsNotMine own_frame o other m
  not_of o other g k (MoveMsg.Event j p) e off l = not_mine g j p (k_off j k e off) l
  not_of o other g k m e off l = tt

  -- another move's row
  pub row_quiet : (o : Op) (ph : MovePhase R) (f : List ℕ) (port : ℕ) (g : Filter) (k : ℕ) (m : MoveMsg R) → (o.num == n) ≡ false → only_mine own_frame f ≡ []
      → num_of m ≡ Some k → (k == n) ≡ false → MoveLabel S z g m → Is_quiet own_frame (row_of o ph f port m)
  row_quiet o ph f port g k m other e num off l =
      by_if (Is_quiet own_frame) (port == o.src) (from_source_quiet own_frame o other ph f m (not_of o other g k m num off l) e)
      (by_if (Is_quiet own_frame) (port == o.dst) (from_destination_quiet own_frame o other ph f m e) (tt, e))

  pub row_clean : (o : Op) (ph : MovePhase R) (f : List ℕ) (port : ℕ) (m : MoveMsg R) → Clean z.unit ph → Foreign z.unit m
      → StaysClean z.unit (row_of o ph f port m)
  row_clean o ph f port m c w =
      by_if (StaysClean z.unit) (port == o.src) (from_source_clean z.unit o ph f m c w)
      (by_if (StaysClean z.unit) (port == o.dst) (from_destination_clean z.unit o ph f m c w) (c, tt))

  module _ (es : List (Open R)) (x : State R) (apart : NodesDiffer z.op) (labs : Each (OpLabel S z) es) (is : IsController S z (find_op es n) x) where
    pub record SeesController (c : ControllerMove R) (d : ControllerTurn R) : Type 0 where
      pub ops : Each (OpLabel S z) c.ops
      pub ctrl : (x' : State R) → x'.phase ≡ d.phase → x'.store ≡ d.store → x'.keep ≡ x.keep → IsController S z (find_op c.ops n) x'
      pub to_a : its (sent_for z.op.src c.sends) ≡ d.to_a
      pub to_b : its (sent_for z.op.dst c.sends) ≡ d.to_b
      pub to_s : its (sent_for 0 c.sends) ≡ d.to_s
      pub others : (j : ℕ) → (z.op.src == j) ≡ false → (z.op.dst == j) ≡ false → (0 == j) ≡ false → its (sent_for j c.sends) ≡ []
      pub labels : EachSent (λ j m. Label S z 1 m) c.sends

    same_ctrl : (o : Option (Open R)) (x' : State R) → IsController S z o x → x'.phase ≡ x.phase → x'.store ≡ x.store → x'.keep ≡ x.keep → IsController S z o x'
    same_ctrl None x' h a b c = rw a h
    same_ctrl (Some e) x' (h, i, j, k) a b c = (h, i ∙ sym a, j ∙ sym b, k ∙ sym c)

    abbrev stay : ControllerTurn R
    stay = goes x.phase x.store

    stays : SeesController (record { ops = es; sends = [] }) stay
    stays = record {
      ops = labs;
      ctrl = λ x' a b c. same_ctrl (find_op es n) x' is a b c;
      to_a = refl;
      to_b = refl;
      to_s = refl;
      others = λ j a b c. refl;
      labels = tt;
    }

    -- another move does its row
    other_found : (k : ℕ) (e : Open R) (port : ℕ) (g : Filter) (m : MoveMsg R) → find_op es k ≡ Some e → num_of m ≡ Some k → (k == n) ≡ false
        → MoveLabel S z g m → SeesController (found es k port m (Some e)) stay
    other_found k e port g m there num off l =
        let a = each_found (OpLabel S z) k es e labs there in
        let same : e.op.num ≡ k = eqb-true e.op.num k a.1 in
        let out : (e.op.num == n) ≡ false = rw same off in
        let clean = a.0.1 out in
        let did = row e port m in
        let q = row_quiet e.op e.phase e.store port g k m out clean.1 num off l in
        let c = row_clean e.op e.phase e.store port m clean.0 (foreign_of g k m num off l) in
        record {
          ops = each_write (OpLabel S z) k did.phase did.store es (λ y _ h. (h.0, λ _. (c.0, q.1), h.2)) labs;
          ctrl = λ x' s t u. subst (λ o. IsController S z o x') (sym (find_write_other k n did.phase did.store es off)) (same_ctrl (find_op es n) x' is s t u);
          to_a = wrap_view e.filter z.op.src did.sends ∙ view_nothing own_frame z.op.src did.sends q.0;
          to_b = wrap_view e.filter z.op.dst did.sends ∙ view_nothing own_frame z.op.dst did.sends q.0;
          to_s = wrap_view e.filter 0 did.sends ∙ view_nothing own_frame 0 did.sends q.0;
          others = λ j _ _ _. wrap_view e.filter j did.sends ∙ view_nothing own_frame j did.sends q.0;
          labels = wrap_labels e.op e.filter did.sends (row_numbers e.op e.phase e.store port m) a.0.0 (λ _. c.1);
        }

    -- its own move does its row
    after_write : (e : Open R) (ph : MovePhase R) (f : List ℕ) (x' : State R) → find_op es n ≡ Some e → e.op ≡ z.op → see_phase own_frame ph ≡ x'.phase
        → only_mine own_frame f ≡ x'.store → e.op.keep ≡ x'.keep → IsController S z (find_op (write_op n ph f es) n) x'
    after_write e (Over why) f x' there q a b c = subst (λ o. IsController S z o x') (sym (find-drop_own _ n es)) (rw (← a) refl)
    after_write e ph f x' there q a b c = subst (λ o. IsController S z o x') (sym (find_set n ph f es e there)) (q, a, b, c)

    own_does : (e : Open R) (did : OperationTurn R) (d : ControllerTurn R) → find_op es n ≡ Some e → e.op ≡ z.op → e.op.keep ≡ x.keep → Sees own_frame did d
        → Each (SentOf z.op) did.sends → SeesController (record { ops = write_op n did.phase did.store es; sends = wrap e.filter did.sends }) d
    own_does e did d there q keep s nums = record {
      ops = each_write (OpLabel S z) n did.phase did.store es (λ y on h. (h.0, λ off. absurd (both_ways (y.op.num == n) off on), h.2)) labs;
      ctrl = λ x' a b c. after_write e did.phase did.store x' there q (s.phase ∙ sym a) (s.store ∙ sym b) (keep ∙ sym c);
      to_a = wrap_view e.filter z.op.src did.sends ∙ s.to_a;
      to_b = wrap_view e.filter z.op.dst did.sends ∙ s.to_b;
      to_s = wrap_view e.filter 0 did.sends ∙ s.to_s;
      others = λ j a b c. wrap_view e.filter j did.sends ∙ s.others j a b c;
      labels = wrap_labels z.op e.filter did.sends nums (subst (λ o. S.takes e.filter z.unit ≡ (o.num == n)) q
          (each_found (OpLabel S z) n es e labs there).0.0) (λ off. absurd (both_ways (z.op.num == n) off apart.num));
    }

    -- what the machine's controller does, by the tests of the sender
    abbrev pub mdid : Bool → Bool → Phase R → List ℕ → Option (Item R) → ControllerTurn R
    mdid a b ph f None = goes ph f
    mdid a b ph f (Some it) = if a then from_source ph f it else if b then from_destination z.op.keep ph f it else goes ph f

    conv_a : (b : Bool) (did : OperationTurn R) (ph : MovePhase R) (f : List ℕ) (o : Option (Item R))
        → Sees own_frame did (did_a z.op (λ p. same_unit (S.packet_unit p) z.unit) z.unit apart ph f o)
        → Sees own_frame did (mdid true b (see_phase own_frame ph) (only_mine own_frame f) o)
    conv_a b did ph f None s = s
    conv_a b did ph f (Some it) s = s

    conv_b : (did : OperationTurn R) (ph : MovePhase R) (f : List ℕ) (o : Option (Item R))
        → Sees own_frame did (did_b z.op (λ p. same_unit (S.packet_unit p) z.unit) z.unit apart ph f o)
        → Sees own_frame did (mdid false true (see_phase own_frame ph) (only_mine own_frame f) o)
    conv_b did ph f None s = s
    conv_b did ph f (Some it) s = s

    conv_0 : (ph : MovePhase R) (f : List ℕ) (o : Option (Item R))
        → Sees own_frame (operation_turn ph f []) (mdid false false (see_phase own_frame ph) (only_mine own_frame f) o)
    conv_0 ph f None = quiet z.op (λ p. same_unit (S.packet_unit p) z.unit) z.unit apart ph f
    conv_0 ph f (Some it) = quiet z.op (λ p. same_unit (S.packet_unit p) z.unit) z.unit apart ph f

    own_sees : (ph : MovePhase R) (f : List ℕ) (port : ℕ) (m : MoveMsg R) → num_of m ≡ Some n
        → Sees own_frame (row_of z.op ph f port m) (mdid (port == z.op.src) (port == z.op.dst) (see_phase own_frame ph) (only_mine own_frame f)
        (Real.seen own_frame m))
    own_sees ph f port m num =
        split (port == z.op.src)
        (λ a. Sees own_frame (if a then operation_from_source z.op ph f m else if port ==
        z.op.dst then operation_from_destination z.op ph f m else operation_turn ph f [])
        (mdid a (port == z.op.dst) (see_phase own_frame ph) (only_mine own_frame f) (Real.seen own_frame m)))
        (λ _. conv_a (port == z.op.dst) (operation_from_source z.op ph f m) ph f (Real.seen own_frame m)
        (ext_a z.op (λ p. same_unit (S.packet_unit p) z.unit) z.unit apart ph f m num))
        (λ _. split (port == z.op.dst)
        (λ b. Sees own_frame (if b then operation_from_destination z.op ph f m else operation_turn ph f [])
        (mdid false b (see_phase own_frame ph) (only_mine own_frame f) (Real.seen own_frame m)))
        (λ _. conv_b (operation_from_destination z.op ph f m) ph f (Real.seen own_frame m)
        (ext_b z.op (λ p. same_unit (S.packet_unit p) z.unit) z.unit apart ph f m num)) (λ _. conv_0 ph f (Real.seen own_frame m)))

    own_found : (e : Open R) (port : ℕ) (m : MoveMsg R) → find_op es n ≡ Some e → IsController S z (Some e) x → num_of m ≡ Some n
        → SeesController (found es n port m (Some e)) (mdid (port == z.op.src) (port == z.op.dst) x.phase x.store (Real.seen own_frame m))
    own_found e port m there (q, a, b, c) num =
        let did = row_of z.op e.phase e.store port m in
        let s : Sees own_frame did (mdid (port == z.op.src) (port == z.op.dst) x.phase x.store (Real.seen own_frame m)) =
        subst (λ f. Sees own_frame did (mdid (port == z.op.src) (port == z.op.dst) x.phase f (Real.seen own_frame m))) b (subst (λ ph. Sees own_frame did
        (mdid (port == z.op.src) (port == z.op.dst) ph (only_mine own_frame e.store) (Real.seen own_frame m))) a (own_sees e.phase e.store port m num)) in
        subst (λ o. SeesController (record {
          ops = write_op n (row_of o e.phase e.store port m).phase (row_of o e.phase e.store port m).store es;
          sends = wrap e.filter (row_of o e.phase e.store port m).sends;
        }) (mdid (port == z.op.src) (port == z.op.dst) x.phase x.store (Real.seen own_frame m))) (sym q)
        (own_does e did (mdid (port == z.op.src) (port == z.op.dst) x.phase x.store (Real.seen own_frame m)) there q c s
        (row_numbers z.op e.phase e.store port m))

    -- an item that the controller does nothing on
    idle_it : (a b : Bool) (it : Item R) → from_source x.phase x.store it ≡ stay → from_destination z.op.keep x.phase x.store it ≡ stay
        → mdid a b x.phase x.store (Some it) ≡ stay
    idle_it true b it e f = e
    idle_it false true it e f = f
    idle_it false false it e f = refl

    idle_if : (a b t : Bool) (it : Item R) → from_source x.phase x.store it ≡ stay → from_destination z.op.keep x.phase x.store it ≡ stay
        → mdid a b x.phase x.store (where_true t it) ≡ stay
    idle_if a b true it e f = idle_it a b it e f
    idle_if a b false it e f = refl

    as_stay : {c : ControllerMove R} {d : ControllerTurn R} → d ≡ stay → SeesController c stay → SeesController c d
    as_stay {c = c} e h = subst (λ d. SeesController c d) (sym e) h

    no_num : (a b : Bool) (m : MoveMsg R) → num_of m ≡ None → mdid a b x.phase x.store (Real.seen own_frame m) ≡ stay
    no_num a b (MoveMsg.Forward p to) e = idle_if a b (own_frame.mine p) (sends_to own_frame to (λ w. Forward w p))
        (sent_either (λ it. from_source x.phase x.store it ≡ stay) own_frame to (λ w. Forward w p) (λ _. refl) refl)
        (sent_either (λ it. from_destination z.op.keep x.phase x.store it ≡ stay) own_frame to (λ w. Forward w p) (λ _. refl) refl)
    no_num a b (MoveMsg.Enable j r) e = none_some (sym e)
    no_num a b m e = none_some (sym e)

    mv_unit : (port : ℕ) (g : Filter) (m : MoveMsg R) → MoveLabel S z g m → ((it : Item R) → find_op es n ≡ None → Real.seen own_frame m ≡ Some it → ⊥)
        → SeesController (numbered es port m (num_of m)) (mdid (port == z.op.src) (port == z.op.dst) x.phase x.store (Real.seen own_frame m))
    mv_unit port g m l closed =
        elim (num_of m)
        as (λ o. num_of m ≡ o → SeesController (numbered es port m o) (mdid (port == z.op.src) (port == z.op.dst) x.phase x.store (Real.seen own_frame m))) [
          | None ↦ λ none. as_stay (no_num (port == z.op.src) (port == z.op.dst) m none) stays
          | Some k ↦ λ num. either_way (k == n)
              (λ on. let same : k ≡ n = eqb-true k n on in
              subst (λ j. SeesController (found es j port m (find_op es j))
              (mdid (port == z.op.src) (port == z.op.dst) x.phase x.store (Real.seen own_frame m)))
              (sym same) (by_op (find_op es n) refl (num ∙ ap Some same)))
              (λ off. let none = unseen_other g k m num off l in
              subst (λ o. SeesController (found es k port m (find_op es k)) (mdid (port == z.op.src) (port == z.op.dst) x.phase x.store o)) (sym none)
              (by_other k (find_op es k) refl num off))
        ] refl
      where
        by_op : (f : Option (Open R)) → find_op es n ≡ f → num_of m ≡ Some n
            → SeesController (found es n port m f) (mdid (port == z.op.src) (port == z.op.dst) x.phase x.store (Real.seen own_frame m))
        by_op None e num = as_stay (elim (Real.seen own_frame m) as (λ o. Real.seen own_frame m ≡ o
            → mdid (port == z.op.src) (port == z.op.dst) x.phase x.store o ≡ stay)
            [ None ↦ λ _. refl | Some it ↦ λ s. absurd (closed it e s) ] refl) stays
        by_op (Some e) there num = own_found e port m there (subst (λ o. IsController S z o x) there is) num

        by_other : (k : ℕ) (f : Option (Open R)) → find_op es k ≡ f → num_of m ≡ Some k → (k == n) ≡ false → SeesController (found es k port m f) stay
        by_other k None there num off = stays
        by_other k (Some e) there num off = other_found k e port g m there num off l

    pub ctrl_unit : (port i : ℕ) (m : Msg R) → Label S z i m → ((it : Item R) → find_op es n ≡ None → seen own_frame m ≡ Some it → ⊥)
        → SeesController (ctrl_step es port m) (mdid (port == z.op.src) (port == z.op.dst) x.phase x.store (seen own_frame m))
    ctrl_unit port i (Of_move g m) l closed = mv_unit port g m l.1 closed
    ctrl_unit port i (Carry_on p) l closed = as_stay (idle_if (port == z.op.src) (port == z.op.dst) (own_frame.mine p) (Carry p) refl refl) stays
    ctrl_unit port i (Pass_on p) l closed = as_stay (idle_if (port == z.op.src) (port == z.op.dst) (own_frame.mine p) (Pass p) refl refl) stays
    ctrl_unit port i (Fence_on k) l closed = as_stay (idle_if (port == z.op.src) (port == z.op.dst) (k == n) Fence refl refl) stays
    ctrl_unit port i m l closed = stays

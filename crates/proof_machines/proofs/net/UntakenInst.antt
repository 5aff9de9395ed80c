-- A unit that no share has, and the steps of instances and of the controller: it stays where it is, and no share has it.
use Rattle.proof_machines.proofs.net.Words.{◌≡◌, ℕ, Bool, true, false, Some, None, List, [], ◌∷◌, ◌++◌, refl, sym, ap, ◌∙◌, append-nil, if◌then◌else◌, ◌&&◌}
use Rattle.proof_machines.proofs.net.Words.{◌==◌, option_to_list, option_map_or, Decides-eqb, Each, each_map, first, record_first, over, Sys, IsSys, process}
use Rattle.proof_machines.proofs.net.Words.{inst_step, at_node, done_u, found_each, Disjoint, OfShare, GlobalAll, Any, Old, New, ShareMsg, Shared_on, olds}
use Rattle.proof_machines.proofs.net.Words.{as_old, Sharing, IsSharing, OpenShare, find_share, shared_chunk, member_step, WholeWorld, moves_of, whole_inst}
use Rattle.proof_machines.proofs.net.Words.{whole_ctrl, same_unit, split, Unit}
use Rattle.proof_machines.proofs.net.Net.{put}
use Rattle.proof_machines.proofs.net.Units.{Where, inst_where, ctrl_where}
use Rattle.proof_machines.proofs.net.Elsewhere.{elsewhere_where, where_rests}
use Rattle.proof_machines.proofs.net.AsMoves.{member_new, no_olds-after, inst_old, ctrl_old, ctrl_new}
use Rattle.proof_machines.proofs.net.NewMessages.{EachSentNew, sent_old, new_after, new_head}
use Rattle.proof_machines.proofs.net.Untaken.{NoShare, ElsewhereHome, Untaken, head_none, ctrl_untaken}

module _ {R : Type 0} (S : Sys R) (u : Unit) where
  -- what was done of other units
  pub done_other : (ds : List (ℕ × ℕ)) (p y : ℕ) → same_unit (S.packet_unit p) u ≡ false → done_u S u (ds ++ (p, y) ∷ []) ≡ done_u S u ds
  done_other [] p y off = rw off refl
  done_other (d ∷ ds) p y off = ap (λ v. if same_unit (S.packet_unit d.0) u then d.0 ∷ v else v) (done_other ds p y off)

  field_put : {X Y : Type 0} (f : X → Y) (g : ℕ → X) (y : ℕ) (x : X) → f x ≡ f (g y) → (k : ℕ) → f (put g y x k) ≡ f (g k)
  field_put f g y x e k = split (k == y) (λ b. f (if b then x else g k) ≡ f (g k))
      (λ on. let same : k ≡ y = (Decides-eqb k y).0 on in e ∙ ap (λ j. f (g j)) (sym same))
      (λ _. refl)

module _ {R : Type 0} (S : Sys R) (A : Sharing S) (laws : IsSys S) (u : Unit) where
  -- where a unit is that no share has
  pub record Unshared (w : WholeWorld S A) (ps : List ℕ) (c : Bool) : Type 0 where
    pub is : Where S laws u (moves_of S A w) ps c
    pub untaken : Untaken S u A w

  -- no open move takes what a share takes
  pub free_moves : (w : WholeWorld S A) → GlobalAll S A w → (n : ℕ) (e : OpenShare) → find_share w.shares n ≡ Some e → S.takes e.filter u ≡ true
      → Each (λ o. S.takes o.filter u ≡ false) w.ops
  free_moves w g n e there on =
      each_map (λ o d. d u on) w.ops (found_each (λ e. Each (λ o. Disjoint S e.filter o.filter) w.ops) w.shares n e g.apart_moves there)

  -- the home gives nothing of the unit
  abbrev GetsNone : WholeWorld S A → ℕ → ShareMsg R → Type 0
  GetsNone w y (ShareMsg.Get n g) = (e : OpenShare) → find_share w.shares n ≡ Some e → (if S.takes g u then S.B.at u (w.inst y).live else None) ≡ None
  GetsNone w y m = Prim.Unit {0}

  gets_none : (w : WholeWorld S A) (ps : List ℕ) (c : Bool) (y : ℕ) → GlobalAll S A w → Unshared w ps c → (m : ShareMsg R) → OfShare S w.shares y m
      → GetsNone w y m
  gets_none w ps c y g h (ShareMsg.Get n f) of = λ e there. split (S.takes f u) (λ b. (if b then S.B.at u (w.inst y).live else None) ≡ None)
      (λ on.
      let k = of e there in
      let takes : S.takes e.filter u ≡ true = ap (λ x. S.takes x u) (sym k.0) ∙ on in
      let r = where_rests S laws u (moves_of S A w) ps c (free_moves w g n e there takes) h.is in
      let away : (e.home == w.target u) ≡ false = found_each (ElsewhereHome S u w.target) w.shares n e h.untaken.homes there takes in
      let owns : w.target u ≡ r.owner = r.rest.target in
      let here : y ≡ e.home = k.1 in
      let off : (y == r.owner) ≡ false = rw (here, ← owns) away in
      r.rest.live y ∙ rw off refl)
      (λ _. refl)
  gets_none w ps c y g h (Shared_on n home p) of = tt
  gets_none w ps c y g h m of = tt

  -- what an instance leaves, on a message of a share
  record Leaves (w : WholeWorld S A) (y : ℕ) (m : ShareMsg R) : Type 0 where
    live : S.B.at u (member_step S A (w.inst y).live (w.standby y) m).live ≡ S.B.at u (w.inst y).live
    ran : (ds : List (ℕ × ℕ)) → done_u S u (ds ++ at_node y (member_step S A (w.inst y).live (w.standby y) m).ran) ≡ done_u S u ds
    sends : EachSentNew (λ _ m. NoShare S u w.shares m) (member_step S A (w.inst y).live (w.standby y) m).sends

  process_other : (t : S.B.T) (p : ℕ) → same_unit (S.packet_unit p) u ≡ false → S.B.at u (process S t p) ≡ S.B.at u t
  process_other t p off = laws.written u (S.packet_unit p) (S.F.step (S.B.at (S.packet_unit p) t) p) t ∙ rw off refl

  chunk_none : (es : List OpenShare) (n p : ℕ) (t : S.B.T) → same_unit (S.packet_unit p) u ≡ false
      → EachSentNew (λ _ m. NoShare S u es m) (shared_chunk S A n p t)
  chunk_none es n p t off = elim (S.B.at (S.packet_unit p) t) as (λ o. EachSentNew (λ _ m. NoShare S u es m)
      (option_map_or (λ r. (1, New (ShareMsg.Shared n (S.packet_unit p, r))) ∷ []) o [])) [ None ↦ tt | Some r ↦ (off, tt) ]

  nothing_ran : (ds : List (ℕ × ℕ)) → done_u S u (ds ++ []) ≡ done_u S u ds
  nothing_ran ds = ap (done_u S u) (append-nil ds)

  member_leaves : IsSharing S A → (w : WholeWorld S A) (y : ℕ) (m : ShareMsg R) → NoShare S u w.shares m → GetsNone w y m → Leaves w y m
  member_leaves ok w y (Shared_on n true p) off gets = record {
    live = process_other (w.inst y).live p off;
    ran = λ ds. done_other S u ds p y off;
    sends = chunk_none w.shares n p (process S (w.inst y).live p) off;
  }
  member_leaves ok w y (Shared_on n false p) off gets =
      record { live = refl; ran = λ ds. done_other S u ds p y off; sends = chunk_none w.shares n p (process S (w.standby y) p) off }
  member_leaves ok w y (ShareMsg.Get n f) off gets = record {
    live = refl;
    ran = nothing_ran;
    sends = (
      (λ e there. record_first u (S.B.select (S.takes f) (w.inst y).live)
          ∙ ap first (laws.laws.selected u (S.takes f) (w.inst y).live ∙ ap option_to_list (gets e there))),
      tt,
    );
  }
  member_leaves ok w y (ShareMsg.Sync n true cs) off gets =
      record { live = ok.replaced u cs (w.inst y).live ∙ ap (λ o. over o (S.B.at u (w.inst y).live)) off; ran = nothing_ran; sends = (tt, tt) }
  member_leaves ok w y (ShareMsg.Sync n false cs) off gets = record { live = refl; ran = nothing_ran; sends = (tt, tt) }
  member_leaves ok w y m off gets = record { live = refl; ran = nothing_ran; sends = tt }

  -- The steps
  pub inst_unshared : IsSharing S A → (w : WholeWorld S A) (ps : List ℕ) (c : Bool) → GlobalAll S A w → (p y : ℕ) (m : Any R) (rest : List (Any R))
      → (y == 0) ≡ false → (y == 1) ≡ false → w.link p y ≡ m ∷ rest → Unshared w ps c → Unshared (whole_inst S A w p y m) ps c
  inst_unshared ok w ps c g p y (Old m) rest y0 y1 waits h = record {
    is = elsewhere_where S laws u (Rattle.proof_machines.proofs.net.Net.inst_next S (moves_of S A w) p y m) (moves_of S A (whole_inst S A w p y (Old m))) ps
        c (inst_old S A w p m rest u y waits) (inst_where S laws u (moves_of S A w) ps c g.moves p y m (olds rest) y0 y1 (ap olds waits) h.is);
    untaken = record {
      homes = h.untaken.homes;
      queues = h.untaken.queues;
      links = new_after (λ _ m. NoShare S u w.shares m) w.link h.untaken.links p y (as_old (inst_step S (w.inst y) m).sends)
          (sent_old (λ _ m. NoShare S u w.shares m) (inst_step S (w.inst y) m).sends);
    };
  }
  inst_unshared ok w ps c g p y (New m) rest y0 y1 waits h =
      let off : (p == 0) && (y == 0) ≡ false = rw y0 (elim (p == 0) as (λ b. b && false ≡ false) [ true ↦ refl | false ↦ refl ]) in
      let none = head_none S u A w p y (New m) rest off waits h.untaken in
      let of = new_head (OfShare S w.shares) w.link g.messages p y m rest off waits in
      let k = member_leaves ok w y m none (gets_none w ps c y g h m of) in
      let d = member_step S A (w.inst y).live (w.standby y) m in
      record {
        is = elsewhere_where S laws u (moves_of S A w) (moves_of S A (whole_inst S A w p y (New m))) ps c (record {
          target = refl;
          ops = refl;
          live = field_put S u (λ i. S.B.at u i.live) w.inst y (record (w.inst y) { live = d.live }) k.live;
          rules = field_put S u (λ i. i.rules) w.inst y (record (w.inst y) { live = d.live }) refl;
          link = λ i j _. no_olds-after w.link p y m rest d.sends waits (member_new S A (w.inst y).live (w.standby y) m) i j;
          done = k.ran w.done;
        }) h.is;
        untaken = record {
          homes = h.untaken.homes;
          queues = h.untaken.queues;
          links = new_after (λ _ m. NoShare S u w.shares m) w.link h.untaken.links p y d.sends k.sends;
        };
      }

  pub ctrl_unshared : (w : WholeWorld S A) (ps : List ℕ) (c : Bool) → GlobalAll S A w → (p : ℕ) (m : Any R) (rest : List (Any R)) → w.link p 1 ≡ m ∷ rest
      → Unshared w ps c → Unshared (whole_ctrl S A w p m) ps c
  ctrl_unshared w ps c g p (Old m) rest waits h = record {
    is = elsewhere_where S laws u (Rattle.proof_machines.proofs.net.Net.ctrl_next S (moves_of S A w) p m) (moves_of S A (whole_ctrl S A w p (Old m))) ps c
        (ctrl_old S A w p m rest u waits) (ctrl_where S laws u (moves_of S A w) ps c g.moves p m (olds rest) (ap olds waits) h.is);
    untaken = ctrl_untaken S u A w p (Old m) rest waits g.nums_apart h.untaken;
  }
  ctrl_unshared w ps c g p (New m) rest waits h = record {
    is = elsewhere_where S laws u (moves_of S A w) (moves_of S A (whole_ctrl S A w p (New m))) ps c (ctrl_new S A u w p m rest waits) h.is;
    untaken = ctrl_untaken S u A w p (New m) rest waits g.nums_apart h.untaken;
  }

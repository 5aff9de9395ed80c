-- An instance takes a message of a move: to a unit of that move it is the machine's row, to another unit nothing.
use Rattle.proof_machines.proofs.EachLaws.{each_made}
use Rattle.proof_machines.proofs.Tests.{by_if}
use Rattle.proof_machines.proofs.unit.Real.{sent_either}
use Rattle.proof_machines.proofs.unit.SeenInst.{put_answers}
use Rattle.proof_machines.proofs.net.Words.{◌≡◌, ℕ, Bool, true, false, Option, Some, None, List, [], ◌∷◌, map, length, refl, sym, ap, ◌∙◌, subst, if◌then◌else◌}
use Rattle.proof_machines.proofs.net.Words.{◌&&◌, ◌==◌, eqb-true, both_ways, Where, Rule, Part, Inst, Did, Item, Enable, Stream, Delete, Put, Restore, Fence_to}
use Rattle.proof_machines.proofs.net.Words.{ArePiecesOf, Chunks, record_at, MovePiece, MoveMsg, Frame, where_true, see, sends_to, view, only_mine, Each}
use Rattle.proof_machines.proofs.net.Words.{Without, cut_foreign, all_at, marks, chop, joined-chop, SeesInstance, stream_row, delete_row, restore_row, put_row}
use Rattle.proof_machines.proofs.net.Words.{parts_of, stream_seen, delete_seen, restore_seen, put_seen, Filter, everything, Msg, Sys, IsSys, to_ctrl}
use Rattle.proof_machines.proofs.net.Words.{NumberedInstance, InstanceTurn, says, with_table, on_move, is_free, held_of, Seeing, EachSent, frame, MoveLabel}
use Rattle.proof_machines.proofs.net.Words.{Label, SeesNode, is_among, Answer, split, Unit, did_sends}
use Rattle.proof_machines.proofs.unit.Machine.{joined, Forward, Install, Stray}
use Rattle.proof_machines.proofs.unit.Real
use Rattle.proof_machines.proofs.net.RuleLists.{find_set_other, set_own_rule, set_own_held}
use Rattle.proof_machines.proofs.net.Insts.{InstanceGoes, does, ctrl_sends, ctrl_else, one_else, label_set}

module _ {R : Type 0} (S : Sys R) (laws : IsSys S) (z : Seeing) (num : (z.op.num == z.op.num) ≡ true) (w : Where) (i : NumberedInstance S) (x : Inst R)
    (s : SeesNode S z i x) where
  abbrev own_frame : Frame
  own_frame = frame S z

  abbrev n : ℕ
  n = z.op.num

  abbrev Goes : InstanceTurn S → Did R → Type 0
  Goes did d = InstanceGoes S laws z num did d

  abbrev do_it : List (Part R) → Option Answer → Option (Item R) → Did R
  do_it parts refuse o = does S laws z num w parts refuse x o

  -- with the flags that the unit can't see
  pub data MovesInstance (did : InstanceTurn S) (o : Option (Item R)) : Type 0 where
    Any : ((parts : List (Part R)) (refuse : Option Answer) → Goes did (do_it parts refuse o)) → MovesInstance did o
    Streams_out : (parts : List (Part R)) → ArePiecesOf parts x.live → o ≡ Some Stream → ((refuse : Option Answer) → Goes did (do_it parts refuse o))
        → MovesInstance did o
    Puts_in : (refuse : Option Answer) (h : Part R) (first : Bool) → o ≡ Some (Put h first) → ((parts : List (Part R)) → Goes did (do_it parts refuse o))
        → MovesInstance did o

  Sent : List (ℕ × Msg R) → Type 0
  Sent xs = EachSent (λ j m. Label S z 1 m) xs

  idle_goes : Goes (says S i []) (did_sends x [])
  unfolding Sent
  idle_goes = record { node = s; to_c = refl; others = λ j e. refl; labels = tt; ran = refl }

  idle_on : (o : Option (Item R)) → ((parts : List (Part R)) (refuse : Option Answer) → do_it parts refuse o ≡ did_sends x []) → MovesInstance (says S i []) o
  idle_on o e = Any (λ parts refuse. subst (λ d. Goes (says S i []) d) (sym (e parts refuse)) idle_goes)

  -- what the table's step gives
  of_table : (real : S.B.T × List (MoveMsg R)) (d : Did R) → SeesInstance S.F S.B own_frame x real d → EachSent (λ j m. Label S z 1 m) (map to_ctrl real.1)
      → Goes (with_table S i real) d
  of_table real d t l = record {
    node = record { live = t.live; rule = s.rule ∙ sym t.rule; held = s.held ∙ sym t.held; rules = s.rules };
    to_c = ctrl_sends S laws z num everything real.1 ∙ t.to_c;
    others = λ j e. ctrl_else S laws z num real.1 j e;
    labels = l;
    ran = let none = t.ran in rw none refl;
  }

  -- another move's step leaves the record, and what it sends isn't seen
  of_other : (real : S.B.T × List (MoveMsg R)) → S.B.at z.unit real.0 ≡ S.B.at z.unit i.live → view own_frame real.1 ≡ []
      → EachSent (λ j m. Label S z 1 m) (map to_ctrl real.1) → Goes (with_table S i real) (did_sends x [])
  of_other real live none l = record {
    node = record { live = live ∙ s.live; rule = s.rule; held = s.held; rules = s.rules };
    to_c = ctrl_sends S laws z num everything real.1 ∙ none;
    others = λ j e. ctrl_else S laws z num real.1 j e;
    labels = l;
    ran = refl;
  }

  enable_goes : (g : Filter) (m : ℕ) (k : Rule) → (S.takes g z.unit ≡ (m == n)) × (is_free k ≡ false)
      → MovesInstance (on_move S i g (MoveMsg.Enable m k)) (Real.seen own_frame (MoveMsg.Enable m k))
  enable_goes g m k l =
      Any (λ parts refuse. split (m == n) (λ b. Goes (on_move S i g (MoveMsg.Enable m k)) (do_it parts refuse (where_true b (Enable k))))
      (λ e.
      let same : m ≡ n = eqb-true m n e in subst (λ q. Goes (on_move S i g (MoveMsg.Enable q k)) (do_it parts refuse (Some (Enable k)))) (sym same) (record {
        node = record {
          live = s.live;
          rule = set_own_rule n g k i.rules num;
          held = ap (only_mine own_frame) (set_own_held n g k i.rules num) ∙ s.held;
          rules = label_set S laws z num n g k i.rules (subst (λ q. S.takes g z.unit ≡ (q == n)) same l.0, l.1) s.rules;
        };
        to_c = rw num refl;
        others = λ j off. one_else S laws z num (MoveMsg.Enabled n) j off;
        labels = ((refl, tt), tt);
        ran = refl;
      }))
      (λ e.
      let same = find_set_other n m g k i.rules e in
      record {
        node = record {
          live = s.live;
          rule = ap Rattle.proof_machines.proofs.net.Net.rule_of same ∙ s.rule;
          held = ap (λ o. only_mine own_frame (held_of o)) same ∙ s.held;
          rules = label_set S laws z num m g k i.rules l s.rules;
        };
        to_c = rw e refl;
        others = λ j off. one_else S laws z num (MoveMsg.Enabled m) j off;
        labels = ((refl, tt), tt);
        ran = refl;
      }))

  pieces_unseen : (m : ℕ) (ps : List (MovePiece R)) → (m == n) ≡ false → view own_frame (map (λ p. MoveMsg.Piece m p) ps) ≡ []
  pieces_unseen m [] e = refl
  pieces_unseen m (p ∷ ps) e = rw e (pieces_unseen m ps e)

  pieces_label : (m : ℕ) (ps : List (MovePiece R)) → ((m == n) ≡ false → Each (Without z.unit) ps)
      → EachSent (λ j x. Label S z 1 x) (map to_ctrl (map (λ p. MoveMsg.Piece m p) ps))
  pieces_label m [] l = tt
  pieces_label m (p ∷ ps) l = ((refl, λ off. (l off).0), pieces_label m ps (λ off. (l off).1))

  stream_goes : (g : Filter) (m : ℕ) → S.takes g z.unit ≡ (m == n) → MovesInstance (on_move S i g (MoveMsg.Stream m)) (Real.seen own_frame (MoveMsg.Stream m))
  stream_goes g m l =
      let xs : Chunks R = S.B.select (S.takes g) i.live in
      split (m == n) (λ b. MovesInstance (on_move S i g (MoveMsg.Stream m)) (where_true b Stream))
      (λ e.
      let same : m ≡ n = eqb-true m n e in
      let takes : S.takes g z.unit ≡ true = l ∙ e in
      let parts = parts_of S.F S.B laws.laws w own_frame x i.live s.live num (length xs) (S.newest xs) (S.takes g) in
      subst (λ q. MovesInstance (on_move S i g (MoveMsg.Stream q)) (Some Stream)) (sym same)
      (Streams_out parts (stream_seen S.F S.B laws.laws w own_frame x i.live s.live num (length xs) (S.newest xs) (S.takes g) None takes).1 refl
      (λ refuse. of_table (stream_row S.F S.B n (length xs) (S.newest xs) (S.takes g) i.live) (do_it parts refuse (Some Stream))
      (stream_seen S.F S.B laws.laws w own_frame x i.live s.live num (length xs) (S.newest xs) (S.takes g) refuse takes).0
      (pieces_label n (marks (length xs) (S.newest xs) (chop (length xs) xs)) (λ off. absurd (both_ways (n == n) off num))))))
      (λ e.
      let out : S.takes g z.unit ≡ false = l ∙ e in
      let none : all_at z.unit xs ≡ [] = laws.laws.selected z.unit (S.takes g) i.live ∙ rw out refl in
      Any (λ parts refuse. of_other (stream_row S.F S.B m (length xs) (S.newest xs) (S.takes g) i.live)
      refl (pieces_unseen m (marks (length xs) (S.newest xs) (chop (length xs) xs)) e)
      (pieces_label m (marks (length xs) (S.newest xs) (chop (length xs) xs))
      (λ _. cut_foreign z.unit (length xs) (S.newest xs) (chop (length xs) xs) (ap (all_at z.unit) (joined-chop (length xs) xs) ∙ none)))))

  delete_goes : (g : Filter) (m : ℕ) (us : List Unit) → ((m == n) ≡ false → is_among us z.unit ≡ false)
      → MovesInstance (on_move S i g (MoveMsg.Delete m us)) (Real.seen own_frame (MoveMsg.Delete m us))
  delete_goes g m us l = Any (λ parts refuse.
      split (m == n) (λ b. Goes (on_move S i g (MoveMsg.Delete m us)) (do_it parts refuse (where_true b (Delete (is_among us z.unit)))))
      (λ e. let same : m ≡ n = eqb-true m n e in
      subst (λ q. Goes (on_move S i g (MoveMsg.Delete q us)) (do_it parts refuse (Some (Delete (is_among us z.unit))))) (sym same)
      (of_table (delete_row S.F S.B n us i.live) (do_it parts refuse (Some (Delete (is_among us z.unit))))
      (delete_seen S.F S.B laws.laws w own_frame x i.live s.live num us parts refuse) ((refl, tt), tt)))
      (λ e. of_other (delete_row S.F S.B m us i.live) (laws.laws.removed z.unit us i.live ∙ (let out = l e in rw out refl)) (rw e refl)
      ((refl, tt), tt)))

  restore_goes : (g : Filter) (m : ℕ) (cs : Chunks R) → ((m == n) ≡ false → record_at z.unit cs ≡ None)
      → MovesInstance (on_move S i g (MoveMsg.Restore m cs)) (Real.seen own_frame (MoveMsg.Restore m cs))
  restore_goes g m cs l = Any (λ parts refuse.
      split (m == n) (λ b. Goes (on_move S i g (MoveMsg.Restore m cs)) (do_it parts refuse (where_true b (Restore (record_at z.unit cs)))))
      (λ e. let same : m ≡ n = eqb-true m n e in
      subst (λ q. Goes (on_move S i g (MoveMsg.Restore q cs)) (do_it parts refuse (Some (Restore (record_at z.unit cs))))) (sym same)
      (of_table (restore_row S.F S.B n cs i.live) (do_it parts refuse (Some (Restore (record_at z.unit cs))))
      (restore_seen S.F S.B laws.laws w own_frame x i.live s.live num cs parts refuse) ((refl, tt), tt)))
      (λ e. of_other (restore_row S.F S.B m cs i.live) (laws.laws.restored z.unit cs i.live ∙ ap (λ o. joined S.F o (S.B.at z.unit i.live)) (l e))
      (rw e refl) ((refl, tt), tt)))

  -- a put, by whether it is the first, and refused
  put_label : (m : ℕ) (p : MovePiece R) (first : Bool) (refuse : Option Answer) → ((m == n) ≡ false → Without z.unit p)
      → EachSent (λ j x. Label S z 1 x) (map to_ctrl (put_row S.F S.B m first refuse p i.live).1)
  put_label m p first refuse l = each_made _ to_ctrl (λ _ k. (refl, k)) _ (put_answers S.F S.B (MoveLabel S z everything) m first refuse p i.live tt (λ _. l))

  put_other : (m : ℕ) (p : MovePiece R) (first : Bool) (refuse : Option Answer) → (m == n) ≡ false → Without z.unit p
      → (S.B.at z.unit (put_row S.F S.B m first refuse p i.live).0 ≡ S.B.at z.unit i.live) × (view own_frame (put_row S.F S.B m first refuse p i.live).1 ≡ [])
  put_other m p false refuse off l = (
    laws.laws.restored z.unit p.chunks i.live ∙ ap (λ o. joined S.F o (S.B.at z.unit i.live)) l,
    by_if (λ ms. view own_frame ms ≡ []) p.last (rw off refl) refl,
  )
  put_other m p true None off l = (laws.laws.imported z.unit p.chunks i.live ∙ ap (λ o. joined S.F o (S.B.at z.unit i.live)) l, rw off refl)
  put_other m p true (Some why) off l = (refl, rw off refl)

  put_goes : (g : Filter) (m : ℕ) (p : MovePiece R) (first : Bool) → ((m == n) ≡ false → Without z.unit p)
      → MovesInstance (on_move S i g (MoveMsg.Put m p first)) (Real.seen own_frame (MoveMsg.Put m p first))
  put_goes g m p first l = split (m == n) (λ b. MovesInstance (on_move S i g (MoveMsg.Put m p first)) (where_true b (Put (see own_frame p) first)))
      (λ e.
      let same : m ≡ n = eqb-true m n e in
      subst (λ q. MovesInstance (on_move S i g (MoveMsg.Put q p first)) (Some (Put (see own_frame p) first))) (sym same)
      (Puts_in (S.refuse i.room i.live p) (see own_frame p) first refl (λ parts. of_table (put_row S.F S.B n first (S.refuse i.room i.live p) p i.live)
      (do_it parts (S.refuse i.room i.live p) (Some (Put (see own_frame p) first))) (put_seen S.F S.B laws.laws w own_frame x i.live s.live num p first parts
      (S.refuse i.room i.live p)) (put_label n p first (S.refuse i.room i.live p) (λ off. absurd (both_ways (n == n) off num))))))
      (λ e.
      let q = put_other m p first (S.refuse i.room i.live p) e (l e) in
      Any (λ parts refuse. of_other (put_row S.F S.B m first (S.refuse i.room i.live p) p i.live) q.0 q.1
      (put_label m p first (S.refuse i.room i.live p) l)))

  abbrev IsIdle : Item R → Type 0
  IsIdle it = (parts : List (Part R)) (refuse : Option Answer) → do_it parts refuse (Some it) ≡ did_sends x []

  when_seen : (b : Bool) (it : Item R) → IsIdle it → (parts : List (Part R)) (refuse : Option Answer) → do_it parts refuse (where_true b it) ≡ did_sends x []
  when_seen true it e parts refuse = e parts refuse
  when_seen false it e parts refuse = refl

  seen_idle : (o : Option (Item R)) (b : Bool) (it : Item R) → o ≡ where_true b it → IsIdle it → MovesInstance (says S i []) o
  seen_idle o b it e idle = idle_on o (λ parts refuse. ap (do_it parts refuse) e ∙ when_seen b it idle parts refuse)

  pub move_goes : (g : Filter) (m : MoveMsg R) → MoveLabel S z g m → MovesInstance (on_move S i g m) (Real.seen own_frame m)
  move_goes g (MoveMsg.Enable m k) l = enable_goes g m k l
  move_goes g (MoveMsg.Stream m) l = stream_goes g m l
  move_goes g (MoveMsg.Delete m us) l = delete_goes g m us l
  move_goes g (MoveMsg.Put m p first) l = put_goes g m p first l
  move_goes g (MoveMsg.Restore m cs) l = restore_goes g m cs l
  move_goes g (MoveMsg.Forward p to) l = idle_on (Real.seen own_frame (MoveMsg.Forward p to))
      (when_seen (own_frame.mine p) (sends_to own_frame to (λ v. Forward v p))
      (sent_either IsIdle own_frame to (λ v. Forward v p) (λ _ _ _. refl) (λ _ _. refl)))
  move_goes g (MoveMsg.Install m from to) l = idle_on (Real.seen own_frame (MoveMsg.Install m from to))
      (when_seen (m == n) (if (from == own_frame.from) && (to == own_frame.to) then Install else Stray)
      (by_if IsIdle ((from == own_frame.from) && (to == own_frame.to)) (λ _ _. refl) (λ _ _. refl)))
  move_goes g (MoveMsg.Fence_to m to) l = idle_on (Real.seen own_frame (MoveMsg.Fence_to m to))
      (when_seen (m == n) (sends_to own_frame to (λ v. Fence_to v)) (sent_either IsIdle own_frame to (λ v. Fence_to v) (λ _ _ _. refl) (λ _ _. refl)))
  move_goes g m l = seen_idle (Real.seen own_frame m) _ _ refl (λ _ _. refl)

-- An instance takes a message of a move: a unit under a share sees at most a plain packet of it, or the share's fence (`moves_sees`).
use Rattle.proof_machines.proofs.EachLaws.{each_made}
use Rattle.proof_machines.proofs.net.Net.{everything}
use Rattle.proof_machines.proofs.unit.SeenInst.{put_answers}
use Rattle.proof_machines.proofs.net.Words.{◌≡◌, ℕ, Bool, true, false, Option, Some, None, List, [], ◌∷◌, map, length, refl, sym, ap, ◌∙◌, subst, arith}
use Rattle.proof_machines.proofs.net.Words.{if◌then◌else◌, ◌==◌, nat_tests, Free, Drops, Buffers, MovePiece, MoveMsg, where_true, add, sent_for, marks, chop}
use Rattle.proof_machines.proofs.net.Words.{Carry, Fence, Fenced, Stray, member_does, Filter, Msg, Carry_on, Pass_on, Fence_on, Of_move, Sys, IsSys, Ruling}
use Rattle.proof_machines.proofs.net.Words.{first_rule, to_ctrl, NumberedInstance, by_kind, by_rule, on_move, inst_step, EachSent, NothingOf, mine, unit_share}
use Rattle.proof_machines.proofs.net.Words.{move_seen, old_seen, share_items, own_of, Old, as_old, Sharing, SeeingShare, split}
use Rattle.proof_machines.proofs.unit.Real
use Rattle.proof_machines.proofs.share.Share as share
use Rattle.proof_machines.proofs.share.Share.{Item, Did}
use Rattle.proof_machines.proofs.net.UnderOld.{LeavesInstance, packet_in}
use Rattle.proof_machines.proofs.net.MemberSteps.{any_step, as_was, does, SeesMember, ran_at}

module _ {R : Type 0} (S : Sys R) (A : Sharing S) (z : SeeingShare) where
  -- sends of which the unit sees nothing
  abbrev pub Unseen : List (ℕ × Msg R) → Type 0
  Unseen xs = EachSent (λ _ m. old_seen S A z m ≡ None) xs

  pub unseen_view : (xs : List (ℕ × Msg R)) → Unseen xs → (r : ℕ) → share_items S A z r (sent_for r (as_old xs)) ≡ []
  unseen_view [] h r = refl
  unseen_view (x ∷ xs) h r = elim (x.0 == r) as (λ b. share_items S A z r (if b then Old x.1 ∷ sent_for r (as_old xs) else sent_for r (as_old xs)) ≡ [])
      [ true ↦ ap (λ o. add o (share_items S A z r (sent_for r (as_old xs)))) h.0 ∙ unseen_view xs h.1 r | false ↦ unseen_view xs h.1 r ]

  pieces_unseen : (n : ℕ) (ps : List (MovePiece R)) → Unseen (map to_ctrl (map (λ p. MoveMsg.Piece n p) ps))
  pieces_unseen n [] = tt
  pieces_unseen n (p ∷ ps) = (refl, pieces_unseen n ps)

  move_unseen : (i : NumberedInstance S) (g : Filter) (m : MoveMsg R) → Unseen (on_move S i g m).sends
  move_unseen i g (MoveMsg.Enable n k) = (refl, tt)
  move_unseen i g (MoveMsg.Stream n) = pieces_unseen n (marks (length (S.B.select (S.takes g) i.live)) (S.newest (S.B.select (S.takes g) i.live))
      (chop (length (S.B.select (S.takes g) i.live)) (S.B.select (S.takes g) i.live)))
  move_unseen i g (MoveMsg.Delete n us) = (refl, tt)
  move_unseen i g (MoveMsg.Put n p first) = each_made _ to_ctrl (λ _ k. k) _
      (put_answers S.F S.B (λ m. old_seen S A z (Of_move everything m) ≡ None) n first (S.refuse i.room i.live p) p i.live refl (λ _. refl))
  move_unseen i g (MoveMsg.Restore n cs) = (refl, tt)
  move_unseen i g m = tt

  carry_unseen : (i : NumberedInstance S) (p : ℕ) (o : Option Ruling) → Unseen (by_rule S i p o).sends
  carry_unseen i p None = tt
  carry_unseen i p (Some r) = elim r.rule as (λ k. Unseen (by_kind S i p r.num k).sends) [ Free ↦ tt | Drops ↦ (refl, tt) | Buffers ↦ tt ]

  -- what an instance answers
  abbrev answer_to : Msg R → List (Item R)
  answer_to (Fence_on n) = add (where_true (n == z.num) Fenced) []
  answer_to m = []

  record Answers (i : NumberedInstance S) (m : Msg R) : Type 0 where
    to_c : share_items S A z 1 (sent_for 1 (as_old (inst_step S i m).sends)) ≡ answer_to m
    others : (r : ℕ) → (r == 1) ≡ false → share_items S A z r (sent_for r (as_old (inst_step S i m).sends)) ≡ []

  answers : (i : NumberedInstance S) (m : Msg R) → Answers i m
  answers i (Carry_on p) =
      let h = carry_unseen i p (first_rule S (S.packet_unit p) i.rules) in
      record { to_c = unseen_view (inst_step S i (Carry_on p)).sends h 1; others = λ r _. unseen_view (inst_step S i (Carry_on p)).sends h r }
  answers i (Fence_on n) = record { to_c = refl; others = λ r off. let other : (1 == r) ≡ false = grind (arith, nat_tests) in rw other refl }
  answers i (Of_move g m) =
      record { to_c = unseen_view (on_move S i g m).sends (move_unseen i g m) 1; others = λ r _. unseen_view (on_move S i g m).sends (move_unseen i g m) r }
  answers i m = record { to_c = refl; others = λ r _. refl }

  module _ (laws : IsSys S) (y : ℕ) (i : NumberedInstance S) (standby : S.B.T) where
    abbrev own : Option R
    own = own_of S A z (y == z.home) i.live standby

    -- a plain packet of the unit is for home
    abbrev pub AtHome : Msg R → Type 0
    AtHome (Carry_on p) = mine S A z p ≡ true → (y == z.home) ≡ true
    AtHome m = Unit {0}

    abbrev Sees : Msg R → Did R → Type 0
    Sees m x = SeesMember S A laws z y i.live (any_step S A laws z i standby (Old m)) x

    own_live : (b : Bool) (t : S.B.T) → S.B.at z.unit t ≡ S.B.at z.unit i.live → own_of S A z b t standby ≡ own_of S A z b i.live standby
    own_live true t e = e
    own_live false t e = refl

    -- its record and its packets are as they were
    quiet : (m : Msg R) (x : Did R) → LeavesInstance S laws z.unit i (inst_step S i m) [] → x.own ≡ own → x.to_c ≡ answer_to m → x.ran ≡ [] → Sees m x
    quiet m x h own_is to_c ran = let a = answers i m in record {
      own = own_live (y == z.home) (inst_step S i m).node.live h.live ∙ sym own_is;
      away = λ _. h.live;
      to_c = a.to_c ∙ sym to_c;
      others = a.others;
      ran = ran_at S A laws z y (inst_step S i m).ran ∙ ap (share.at_node y) h.ran ∙ sym ran;
    }

    packet : (p : ℕ) → (y == z.home) ≡ true → LeavesInstance S laws z.unit i (inst_step S i (Carry_on p)) (p ∷ [])
        → Sees (Carry_on p) (does S A laws z y own (Some (Carry p)))
    packet p here h = let a = answers i (Carry_on p) in record {
      own = rw here h.live;
      away = λ off. let both : true ≡ false = sym here ∙ off in cc;
      to_c = a.to_c;
      others = a.others;
      ran = ran_at S A laws z y (inst_step S i (Carry_on p)).ran ∙ ap (share.at_node y) h.ran;
    }

    -- a move's messages do nothing at a member
    quiet_if : (b : Bool) (it : Item R) → member_does (unit_share S A z) y own it ≡ as_was S A laws z own
        → does S A laws z y own (where_true b it) ≡ as_was S A laws z own
    quiet_if true it e = e
    quiet_if false it e = refl

    move_idle : (m : MoveMsg R) → does S A laws z y own (move_seen S A z m) ≡ as_was S A laws z own
    move_idle (MoveMsg.Fenced n) = quiet_if (n == z.num) Fenced refl
    move_idle (MoveMsg.Install n from to) = quiet_if (n == z.num) Stray refl
    move_idle (MoveMsg.Fence_to n to) = quiet_if (n == z.num) Stray refl
    move_idle m = refl

    fence : (n : ℕ) (b : Bool) → (n == z.num) ≡ b → LeavesInstance S laws z.unit i (inst_step S i (Fence_on n)) []
        → Sees (Fence_on n) (does S A laws z y own (where_true b Fence))
    fence n true e h = quiet (Fence_on n) (does S A laws z y own (Some Fence)) h refl (ap (λ b. add (where_true b Fenced) []) (sym e)) refl
    fence n false e h = quiet (Fence_on n) (as_was S A laws z own) h refl (ap (λ b. add (where_true b Fenced) []) (sym e)) refl

    pub moves_sees : (k : ℕ) (m : Msg R) → LeavesInstance S laws z.unit i (inst_step S i m) (packet_in S laws z.unit m) → NothingOf S z.unit k m → AtHome m
        → Sees m (does S A laws z y own (old_seen S A z m))
    moves_sees k (Carry_on p) h l home =
        split (mine S A z p) (λ b. LeavesInstance S laws z.unit i (inst_step S i (Carry_on p)) (if b then p ∷ [] else [])
        → Sees (Carry_on p) (does S A laws z y own (where_true b (Carry p))))
        (λ on g. packet p (home on) g)
        (λ _ g. quiet (Carry_on p) (as_was S A laws z own) g refl refl refl) h
    moves_sees k (Pass_on p) h off home = rw off (quiet (Pass_on p) (as_was S A laws z own) h refl refl refl)
    moves_sees k (Fence_on n) h l home = fence n (n == z.num) refl h
    moves_sees k (Of_move g m) h l home = let e =
        move_idle m in subst (λ d. Sees (Of_move g m) d) (sym e) (quiet (Of_move g m) (as_was S A laws z own) h refl refl refl)
    moves_sees k m h l home = quiet m (as_was S A laws z own) h refl refl refl

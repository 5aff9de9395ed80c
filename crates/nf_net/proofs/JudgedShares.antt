-- An open share's step keeps what is known of open moves and of answers, and asks once for the share's state: it is answered that it is done, where
-- it is set up.
use Rattle.nf_net.proofs.Words.{◌≡◌, ℕ, ◌+◌, ◌≤◌, Bool, true, false, cond, Option, Some, None, List, [], ◌∷◌, ◌++◌, refl, sym, ap, ◌∙◌, subst, arith, map}
use Rattle.nf_net.proofs.Words.{if◌then◌else◌, ◌==◌, Decides-eqb, stored_of, FullCell, Answer, Piece, Msg, Note, ShareState, ShareRow, service_if_idle, Share}
use Rattle.nf_net.proofs.Words.{ControllerState, hand_step, queue_step, EachSent, sent_weight, Each, is_begun, answers_of, sent-append, OpenAt, answered, noted}
use Rattle.nf_net.proofs.Words.{ShareLeaves, handed_leaves, queued_leaves, split}
use Rattle.std.specs.FinMap as finite
use Rattle.copy_share.specs.Share.{next_phase, row}
use Rattle.ctrl_node.specs.Controller.{Step}
use Rattle.proof_outlines.proofs.whole.ShareLeft.{next_share}
use Rattle.nf_net.proofs.RunWords.{began_same, first_is, other_there, once, Said}
use Rattle.nf_net.proofs.answers.ShareTells.{is_set_up, is_of_share, AreOfShare, Tells, ShareStep, handed_share, queued_share}
use Rattle.nf_net.proofs.JudgedTables as tables
use Rattle.nf_net.proofs.JudgedTables.{used, is_own, By_still}
use Rattle.nf_net.proofs.ShareAsks.{asked, Asks, row_asks, none_asked, leaves_own, leaves_other}

-- an answer begins no command
noted_none : (k op : ℕ) (a : Option Answer) → is_begun k (noted op a) ≡ false
noted_none k op None = refl
noted_none k op (Some why) = refl

-- What a row of an open share sends once, and what was sent once before and after it.
module _ (n : ℕ) (log : List Note) (x : OpenAt) (op_is : x.share.plan.op ≡ x.num) (there : finite.get x.node.operations x.num ≡ Some (Share x.share))
    (r : ShareRow) (did : Step) (l : ShareLeaves x r did) where
  abbrev AllOnce : Type 0
  AllOnce = (k : ℕ) (first : Bool) → sent_weight (once first k) n 1 did.sends + used (finite.get x.node.operations k) (is_begun k log) first
      ≤ used (finite.get did.node.operations k) (is_begun k (log ++ did.notes)) first

  spends_once : ((first : Bool) → Asks n first x.share.plan x.share.phase r) → AllOnce
  spends_once asks k first =
      let begun : is_begun k (log ++ did.notes) ≡ is_begun k log = began_same k log did.notes (ap (is_begun k) l.notes ∙ noted_none k x.num r.answer) in
      let after : used (finite.get did.node.operations k) (is_begun k (log ++ did.notes)) first
      ≡ used (cond (k == x.num) (Some (next_share x r)) (finite.get x.node.operations k)) (is_begun k log) first =
      ap (λ o. used o (is_begun k (log ++ did.notes)) first) (l.operations k)
      ∙ ap (λ b. used (cond (k == x.num) (Some (next_share x r)) (finite.get x.node.operations k)) b first) begun in
      omega (arith, after, by_number first k (k == x.num) refl)
    where
      by_number : (first : Bool) (k : ℕ) (b : Bool) → (k == x.num) ≡ b
          → sent_weight (once first k) n 1 did.sends + used (finite.get x.node.operations k) (is_begun k log) first
          ≤ used (cond b (Some (next_share x r)) (finite.get x.node.operations k)) (is_begun k log) first
      by_number first k true on =
          let it : k ≡ x.num = (Decides-eqb k x.num).0 on in
          let was : used (finite.get x.node.operations k) (is_begun k log) first ≡ asked x.share.phase =
          ap (λ j. used (finite.get x.node.operations j) (is_begun k log) first) it ∙ ap (λ o. used o (is_begun k log) first) there in
          let own = subst (λ j. sent_weight (once first j) n 1 did.sends + asked x.share.phase ≤ asked (service_if_idle x.share.plan r.phase x.cells).phase)
          (sym it) (leaves_own n first x op_is r did l (asks first)) in
          omega (arith, was, own)
      by_number first k false off = let none = leaves_other n first x op_is r did l (asks first) k off in omega (arith, none)

module _ (Part : ℕ → Piece → Type 0) (Verdict : ℕ → Answer → Type 0) (Goes : ℕ → ℕ → Type 0) (Still : ℕ → Type 0) (log : List Note) (n : ℕ)
    (c : ControllerState) where
  abbrev IsFound : ℕ → Answer → Type 0
  IsFound = tables.IsFound Part Verdict Goes Still log n c

  abbrev StepIs : Step → Type 0
  StepIs = tables.StepIs Part Verdict Goes Still log n c

  share_said : (r : ℕ) (m : Msg) → is_of_share m ≡ true → Said Part Verdict Goes 1 r m
  share_said r (Msg.Piece op piece) e = cc
  share_said r (Msg.Put op piece true) e = cc
  share_said r (Msg.Put op piece false) e = cc
  share_said r (Msg.PutOk op) e = cc
  share_said r (Msg.PutNo op refused) e = cc
  share_said r m e = tt

  shares_said : (sends : List (ℕ × Msg)) → AreOfShare sends → EachSent (Said Part Verdict Goes) 1 sends
  shares_said [] h = tt
  shares_said (x ∷ xs) h = (share_said x.0 x.1 h.0, shares_said xs h.1)

  answered_said : (op : ℕ) (a : Option Answer) (sends : List (ℕ × Msg)) → AreOfShare sends → EachSent (Said Part Verdict Goes) 1 (answered op a sends)
  answered_said op None sends h = shares_said sends h
  answered_said op (Some why) sends h = sent-append (Said Part Verdict Goes) 1 sends ((0, Msg.Answered op) ∷ []) (shares_said sends h) (tt, tt)

  own_noted : (op : ℕ) (a : Option Answer) → Each (λ x. is_own x ≡ true) (noted op a)
  own_noted op None = tt
  own_noted op (Some why) = (refl, tt)

  module _ (knows : tables.AllKnow Part Verdict Goes Still log n c c.operations) (op : ℕ) (s : ShareState)
      (there : finite.get c.operations op ≡ Some (Share s)) (its : Still op) (begun_is : is_begun op log ≡ true) where
    -- where it is set up it is answered that it is done
    found_by : (now : Bool) (a : Option Answer) → Tells (is_set_up s.phase) now a → (k : ℕ) (b : Answer) → answers_of k (noted op a) ≡ b ∷ [] → IsFound k b
    found_by now None tells k b is = cc
    found_by now (Some why) tells k b is =
        split (op == k) (λ t. map (λ (one : ℕ × Answer). one.1) (if t then (op, why) ∷ [] else []) ≡ b ∷ [] → IsFound k b)
        (λ on given. subst (λ j. IsFound j b) ((Decides-eqb op k).0 on) (record {
          known = λ _. By_still its (sym (first_is why b given) ∙ tells.0);
          refused = λ never. (let on = sym begun_is ∙ never in cc);
        })) (λ off never. cc) is

    share_is : (did : Step) → ShareStep c op s did → ((k : ℕ) (first : Bool) → sent_weight (once first k) n 1 did.sends
        + used (finite.get c.operations k) (is_begun k log) first ≤ used (finite.get did.node.operations k) (is_begun k (log ++ did.notes)) first)
        → StepIs did
    share_is did l all_once = record {
      knows = λ k x e. knows k x
          (other_there (k == op) (Some (Share (record s { phase = l.after }))) (finite.get c.operations k) x tt (sym (l.operations k) ∙ e));
      says = subst (EachSent (Said Part Verdict Goes) 1) (sym l.sends_are) (sent-append (Said Part Verdict Goes) 1 (answered op l.answer l.first) l.second
          (answered_said op l.answer l.first l.first_own) (shares_said l.second l.second_own));
      found = λ k b is. found_by (is_set_up l.after) l.answer l.tells k b (ap (answers_of k) (sym l.notes_are) ∙ is);
      own = subst (Each (λ x. is_own x ≡ true)) (sym l.notes_are) (own_noted op l.answer);
      once = all_once;
    }

    module _ (op_is : s.plan.op ≡ op) where
      -- a message of its number
      pub handed_shared : (port : ℕ) (m : Msg) → StepIs (hand_step c op port m)
      handed_shared port m =
          let x : OpenAt = record { node = c; num = op; share = s; cells = stored_of c.store op } in
          let r : ShareRow = row s port m in
          share_is (hand_step c op port m) (handed_share c op s there op_is port m) (spends_once n log x op_is there r (hand_step c op port m)
          (handed_leaves x r op_is port m there refl refl) (λ first. row_asks n first s.plan s.phase port m))

      -- a packet behind its queue
      pub queued_shared : (cell : FullCell) → StepIs (queue_step c cell (Some op))
      queued_shared cell =
          let x : OpenAt = record { node = c; num = op; share = s; cells = stored_of c.store op ++ cell ∷ [] } in
          share_is (queue_step c cell (Some op)) (queued_share c op s there op_is cell) (spends_once n log x op_is there (next_phase s.phase [])
          (queue_step c cell (Some op)) (queued_leaves c op s cell there op_is) (λ first. none_asked n first s.plan s.phase))

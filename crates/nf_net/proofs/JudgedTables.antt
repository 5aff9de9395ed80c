-- What the controller's step is to keep of what is known of open moves, of answers and of what is sent once; and that a copy's keeps it.
use Rattle.nf_net.proofs.Words.{◌≡◌, ℕ, ◌+◌, ◌≤◌, Bool, true, false, cond, Option, Some, None, List, [], ◌∷◌, ◌++◌, refl, sym, ap, ◌∙◌, subst, arith, map}
use Rattle.nf_net.proofs.Words.{if◌then◌else◌, ◌==◌, Decides-eqb, Answer, Piece, Msg, Note, instance_node, Keeping, CopyState, MoveState, Operation, Move, Copy}
use Rattle.nf_net.proofs.Words.{Share, OpenOperations, ControllerState, EachSent, sent_weight, Each, is_begun, answers_of, is_refusal, got_insert, got_remove}
use Rattle.nf_net.proofs.Words.{NotMove, CopyTurn, Idle, Hands, Hands_all, Ends, hands, Done, split}
use Rattle.std.specs.FinMap as finite
use Rattle.ctrl_node.specs.Controller.{Step, still}
use Rattle.nf_net.proofs.RunWords.{other_there, began_same, first_is, Said, Knows}
use Rattle.proof_outlines.proofs.outline.CopyTurns.{ends}
use Rattle.nf_net.proofs.answers.MoveOnce.{once, spent, spent_few, NoneOnce, no_one}
use Rattle.nf_net.proofs.ShareAsks.{asked, asked_few}

-- a note of a command's begin or answer
abbrev pub is_own : Note → Bool
is_own (Note.Begun op) = true
is_own (Note.Answered op answer) = true
is_own n = false

-- how many of what is sent once were sent for a command, by its open operation, or else by whether it began
abbrev pub used : Option Operation → Bool → Bool → ℕ
used (Some (Move m)) has_begun first = spent m.phase first
used (Some (Share s)) has_begun first = asked s.phase
used None has_begun first = if has_begun then 1 else 0
used (Some (Copy y)) has_begun first = 1

pub used_few : (o : Option Operation) (has_begun first : Bool) → used o has_begun first ≤ 1
used_few (Some (Move m)) has_begun first = spent_few m.phase first
used_few (Some (Copy y)) has_begun first = omega arith
used_few (Some (Share s)) has_begun first = asked_few s.phase
used_few None true first = omega arith
used_few None false first = omega arith

module _ (Part : ℕ → Piece → Type 0) (Verdict : ℕ → Answer → Type 0) (Goes : ℕ → ℕ → Type 0) (Still : ℕ → Type 0) (log : List Note) (n : ℕ)
    (c : ControllerState) where
  -- why a command that began is answered so: by its verdict, or that it is done, since it moves no units
  pub data IsDue (op : ℕ) (a : Answer) : Type 0 where
    By_verdict : Verdict op a → IsDue op a
    By_still : Still op → a ≡ Done → IsDue op a

  -- the answer to a command that began is due, and others are refused
  pub record IsFound (op : ℕ) (a : Answer) : Type 0 where
    pub known : is_begun op log ≡ true → IsDue op a
    pub refused : is_begun op log ≡ false → is_refusal a ≡ true

  -- each open move knows what it is to know
  abbrev pub AllKnow : OpenOperations → Type 0
  AllKnow ops = (op : ℕ) (m : MoveState) → finite.get ops op ≡ Some (Move m) → Knows Part Verdict Goes op m.phase

  pub record StepIs (did : Step) : Type 0 where
    pub knows : AllKnow did.node.operations
    pub says : EachSent (Said Part Verdict Goes) 1 did.sends
    pub found : (op : ℕ) (a : Answer) → answers_of op did.notes ≡ a ∷ [] → IsFound op a
    pub own : Each (λ x. is_own x ≡ true) did.notes
    pub once : (op : ℕ) (first : Bool) → sent_weight (once first op) n 1 did.sends + used (finite.get c.operations op) (is_begun op log) first
        ≤ used (finite.get did.node.operations op) (is_begun op (log ++ did.notes)) first

  module _ (knows : AllKnow c.operations) where
    -- the operations stay, and nothing is noted
    pub quiet_is : (s : ControllerState) (sends : List (ℕ × Msg)) → s.operations ≡ c.operations → EachSent (Said Part Verdict Goes) 1 sends
        → ((first : Bool) → NoneOnce n 1 first sends) → StepIs (record { node = s; sends = sends; notes = [] })
    quiet_is s sends same says none = record {
      knows = λ op m there. knows op m (ap (λ ops. finite.get ops op) (sym same) ∙ there);
      says = says;
      found = λ op a is. cc;
      own = tt;
      once = λ op first. (let weighs = none first op in
          let all = ap (λ ops. used (finite.get ops op) (is_begun op log) first) same in
          let begun = ap (λ b. used (finite.get s.operations op) b first) (began_same op log [] refl) in omega (arith, weighs, all, begun));
    }

    pub still_is : StepIs (still c)
    still_is = quiet_is c [] refl tt (λ first op. refl)

    -- a copy, which has asked, hands on what came or ends
    module _ (op : ℕ) (y : CopyState) (there : finite.get c.operations op ≡ Some (Copy y)) (its : Still op) (begun_is : is_begun op log ≡ true) where
      -- other moves know what they knew
      knows_other : (o : Option Operation) → NotMove o → (k : ℕ) (x : MoveState) → cond (k == op) o (finite.get c.operations k) ≡ Some (Move x)
          → Knows Part Verdict Goes k x.phase
      knows_other o h k x e = knows k x (other_there (k == op) o (finite.get c.operations k) x h e)

      hands_is : (m : Msg) → Said Part Verdict Goes 1 (instance_node y.plan.to) m → ((first : Bool) (k : ℕ) → once first k m ≡ 0) → StepIs (hands c op y m)
      hands_is m says quiet = record {
        knows = λ k x e. knows_other (Some (Copy (record y { phase = Keeping }))) tt k x
            (sym (got_insert c.operations op k (Copy (record y { phase = Keeping }))) ∙ e);
        says = (says, tt);
        found = λ k a is. cc;
        own = tt;
        once = λ k first.
            let begun = began_same k log [] refl in
            let here : used (finite.get (hands c op y m).node.operations k) (is_begun k (log ++ [])) first
            ≡ used (finite.get c.operations k) (is_begun k log) first =
            ap (λ o. used o (is_begun k (log ++ [])) first) (got_insert c.operations op k (Copy (record y { phase = Keeping })))
            ∙ ap (λ b. used (cond (k == op) (Some (Copy (record y { phase = Keeping }))) (finite.get c.operations k)) b first) begun
            ∙ split (k == op) (λ b. used (cond b (Some (Copy (record y { phase = Keeping }))) (finite.get c.operations k)) (is_begun k log) first ≡ used
            (finite.get c.operations k) (is_begun k log) first)
            (λ on. sym (ap (λ j. used (finite.get c.operations j) (is_begun k log) first) ((Decides-eqb k op).0 on)
            ∙ ap (λ o. used o (is_begun k log) first) there)) (λ off. refl) in
            omega (arith, no_one n 1 first (instance_node y.plan.to) m (quiet first) k, here);
      }

      ends_is : StepIs (ends c op)
      ends_is = record {
        knows = λ k x e. knows_other None tt k x (sym (got_remove c.operations op k) ∙ e);
        says = (tt, tt);
        found = λ k b is.
            split (op == k) (λ t. map (λ (one : ℕ × Answer). one.1) (if t then (op, Done) ∷ [] else []) ≡ b ∷ [] → IsFound k b)
            (λ on given. subst (λ j. IsFound j b) ((Decides-eqb op k).0 on) (record {
              known = λ _. By_still its (sym (first_is Done b given));
              refused = λ never. (let on = sym (begun_is) ∙ never in cc);
            })) (λ off never. cc) is;
        own = (refl, tt);
        once = λ k first.
            let sent = no_one n 1 first 0 (Msg.Answered op) (λ j. refl) k in
            let begun = began_same k log (Note.Answered op Done ∷ []) refl in
            let here : used (finite.get (finite.remove c.operations op) k) (is_begun k (log ++ Note.Answered op Done ∷ [])) first
            ≡ used (finite.get c.operations k) (is_begun k log) first =
            ap (λ o. used o (is_begun k (log ++ Note.Answered op Done ∷ [])) first) (got_remove c.operations op k)
            ∙ ap (λ b. used (cond (k == op) None (finite.get c.operations k)) b first) begun
            ∙ split (k == op) (λ b. used (cond b None (finite.get c.operations k)) (is_begun k log) first ≡ used (finite.get c.operations k)
            (is_begun k log) first)
            (λ on.
            let it : k ≡ op = (Decides-eqb k op).0 on in
            let has : is_begun k log ≡ true = ap (λ j. is_begun j log) it ∙ begun_is in
            let one : used (finite.get c.operations k) (is_begun k log) first ≡ 1 =
            ap (λ j. used (finite.get c.operations j) (is_begun k log) first) it ∙ ap (λ o. used o (is_begun k log) first) there in
            ap (λ b. used None b first) has ∙ sym one) (λ off. refl) in
            omega (arith, sent, here);
      }

      pub copy_is : (m : Msg) (did : Step) → CopyTurn (record { controller = c; op = op; copy = y }) m did → StepIs did
      copy_is m did (Idle e) = subst StepIs (sym e) still_is
      copy_is m did (Hands k chunks e d) = subst StepIs (sym d) (hands_is (Msg.Standby y.plan.op chunks) tt (λ first j. refl))
      copy_is m did (Hands_all k chunk e d) = subst StepIs (sym d) (hands_is (Msg.PutAll y.plan.op chunk) tt (λ first j. refl))
      copy_is m did (Ends d) = subst StepIs (sym d) ends_is

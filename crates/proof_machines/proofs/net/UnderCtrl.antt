-- The controller's step is, to a unit under a share, nothing or a move of the share's machine (`ctrl_goes`).
use Rattle.proof_machines.proofs.net.Words.{◌≡◌, ℕ, ◌≤◌, Bool, true, false, Option, Some, None, List, [], ◌∷◌, ◌++◌, refl, sym, ap, ◌∙◌, subst, arith}
use Rattle.proof_machines.proofs.net.Words.{if◌then◌else◌, ◌&&◌, ◌==◌, Decides-eqb, add, sent_for, filter_map-append, sent_for-append, UnitShare, View, Take_sc}
use Rattle.proof_machines.proofs.net.Words.{Take_back, has, joined, waits, share_does, from_sc, from_back, Stage, IsShare, FitsStage, shape, to_members, Sys}
use Rattle.proof_machines.proofs.net.Words.{GlobalAll, share_expect, unit_share, share_seen, share_items, ShareHolds, Any, as_old, Sharing, told_by, SharesStep}
use Rattle.proof_machines.proofs.net.Words.{by_share, WholeWorld, old_step, whole_ctrl, SeeingShare, split, false_from_ne_true}
use Rattle.proof_machines.proofs.share.Share.{Item}
use Rattle.proof_machines.proofs.net.OnShareLinks.{Sender, back_sender, sc_sender}
use Rattle.proof_machines.proofs.net.ShareLinks.{sc_links, back_links, quiet_links, view_after, Goes, Goes.Nothing, Goes.Moves_so}
use Rattle.proof_machines.proofs.net.MemberMoves.{unseen_view}
use Rattle.proof_machines.proofs.net.ShareSees.{Sees_share, share_item, SenderIf, share_sees, moves_unseen}

module _ {R : Type 0} (S : Sys R) (A : Sharing S) (z : SeeingShare) where
  abbrev f : UnitShare R
  f = unit_share S A z

  module _ (is : IsShare f) (insts : (k : ℕ) → has z.members k ≡ true → 2 ≤ k) (w : WholeWorld S A) (g : GlobalAll S A w)
      (covered : S.takes z.filter z.unit ≡ true) (s : Stage R) (fits : FitsStage f s) (h : ShareHolds S A z w (shape f s)) (p : ℕ) (m : Any R)
      (rest : List (Any R)) (waits_at : w.link p 1 ≡ m ∷ rest) where
    abbrev x : View R
    x = shape f s

    abbrev w' : WholeWorld S A
    w' = whole_ctrl S A w p m

    abbrev step : SharesStep S A
    step = by_share S A w.shares p (told_by S A w.shares m)

    abbrev sends : List (ℕ × Any R)
    sends = as_old (old_step S A w.ops p m).sends ++ step.sends

    abbrev left : List (Item R)
    left = share_items S A z 1 rest

    abbrev sent : ℕ → List (Item R)
    sent j = share_items S A z j (sent_for j sends)

    -- of what the controller sends, the unit sees what the shares send
    sent_is : (j : ℕ) → sent j ≡ share_items S A z j (sent_for j step.sends)
    sent_is j =
        ap (share_items S A z j) (sent_for-append j (as_old (old_step S A w.ops p m).sends) step.sends)
        ∙ filter_map-append (share_seen S A z j) (sent_for j (as_old (old_step S A w.ops p m).sends)) (sent_for j step.sends)
        ∙ ap (λ v. v ++ share_items S A z j (sent_for j step.sends))
        (unseen_view S A z (old_step S A w.ops p m).sends (moves_unseen S A z is insts w g covered x.phase x.queue h.share p m) j)

    no_input : (p == 0) && (1 == 0) ≡ false
    no_input = elim (p == 0) as (λ b. b && false ≡ false) [ true ↦ refl | false ↦ refl ]

    after_is : (i j : ℕ) → (i == 0) && (j == 0) ≡ false
        → share_items S A z j (w'.link i j) ≡ (if (i == p) && (j == 1) then left else share_expect x i j) ++ (if i == 1 then sent j else [])
    after_is i j e = view_after S A z w.link p 1 m rest sends waits_at i j
        ∙ ap (λ v. (if (i == p) && (j == 1) then left else v) ++ (if i == 1 then sent j else [])) (h.links i j e)

    heads : add (share_seen S A z 1 m) left ≡ share_expect x p 1
    heads = sym (ap (share_items S A z 1) waits_at) ∙ h.links p 1 no_input

    quiet : share_seen S A z 1 m ≡ None → Sees_share S A z step (waits x.phase x.queue) → Goes S A z w' x
    quiet none t = Nothing (record {
      links = λ i j e. after_is i j e ∙ quiet_links x p 1 i j left sent (ap (λ o. add o left) (sym none) ∙ heads) (λ r. sent_is r ∙ none_sent r (r == 0) refl);
      own = h.own;
      share = t.share;
      target = h.target;
      diverts = h.diverts;
      done = h.done;
    })
      where
        none_sent : (r : ℕ) (b : Bool) → (r == 0) ≡ b → share_items S A z r (sent_for r step.sends) ≡ []
        none_sent r true on = let zero : r ≡ 0 = (Decides-eqb r 0).0 on in rw zero t.to_s
        none_sent r false off = t.to r off

    by_sc : (it : Item R) → x.sc ≡ it ∷ left → p ≡ 0 → Sees_share S A z step (share_does f it x.phase x.queue) → Goes S A z w' x
    by_sc it head from t =
        let did = share_does f it x.phase x.queue in
        Moves_so Take_sc refl (subst (λ ys. ShareHolds S A z w' (from_sc f x ys)) (sym head) (record {
          links = λ i j e. after_is i j e ∙ subst (λ n. (if (i == n) && (j == 1) then left else share_expect x i j) ++ (if i == 1 then sent j else [])
              ≡ share_expect (record x { sc = left; cs = x.cs ++ did.to_s; to = joined x.to did.to }) i j)
              (sym from) (sc_links x i j left did.to_s did.to sent (sent_is 0 ∙ t.to_s) (λ k off. sent_is k ∙ t.to k off));
          own = h.own;
          share = t.share;
          target = h.target;
          diverts = h.diverts;
          done = h.done;
        }))

    by_back : (it : Item R) → x.back p ≡ it ∷ left → (p == 0) ≡ false → (p == 1) ≡ false → Sees_share S A z step (share_does f it x.phase x.queue)
        → Goes S A z w' x
    by_back it head p0 p1 t =
        let did = share_does f it x.phase x.queue in
        Moves_so (Take_back p) refl (subst (λ ys. ShareHolds S A z w' (from_back f x p ys)) (sym head) (record {
          links = λ i j e. after_is i j e ∙ back_links x p i j left did.to_s did.to sent p0 p1 (sent_is 0 ∙ t.to_s) (λ k off. sent_is k ∙ t.to k off);
          own = h.own;
          share = t.share;
          target = h.target;
          diverts = h.diverts;
          done = h.done;
        }))

    -- which link it was
    data From (it : Item R) : Type 0 where
      Of_sc : x.sc ≡ it ∷ left → p ≡ 0 → From it
      Of_back : x.back p ≡ it ∷ left → (p == 0) ≡ false → (p == 1) ≡ false → From it

    outside : has z.members 1 ≡ false
    outside = false_from_ne_true (has z.members 1) (λ on. let two : 2 ≤ 1 = insts 1 on in let never : ⊥ = omega (arith, two) in absurd never)

    from : (it : Item R) → it ∷ left ≡ share_expect x p 1 → From it
    from it e =
        split (p == 0) (λ b. it ∷ left ≡ (if b then x.sc else if p == 1 then x.to 1 else x.back p) → From it) (λ t r. Of_sc (sym r) ((Decides-eqb p 0).0 t))
        (λ p0 r. split (p == 1) (λ b. it ∷ left ≡ (if b then x.to 1 else x.back p) → From it)
        (λ _ bad. let never : it ∷ left ≡ [] = bad ∙ (to_members f is s fits).to 1 outside in cc)
        (λ p1 good. Of_back (sym good) p0 p1) r) e

    sender : (it : Item R) → From it → Sender f x.phase p it
    sender it (Of_sc head p0) = sc_sender f s p it left head
    sender it (Of_back head p0 p1) = back_sender f s p it left head

    sender_if : (o : Option (Item R)) → add o left ≡ share_expect x p 1 → SenderIf S A z x.phase p o
    sender_if None e = tt
    sender_if (Some it) e = sender it (from it e)

    pub ctrl_goes : Goes S A z w' x
    ctrl_goes = elim (share_seen S A z 1 m) as (λ o. share_seen S A z 1 m ≡ o → Sees_share S A z step (share_item S A z x.phase x.queue o)
        → add o left ≡ share_expect x p 1 → Goes S A z w' x) [
          | None ↦ λ e t _. quiet e t
          | Some it ↦ λ e t there. elim (from it there) as (λ _. Goes S A z w' x) [
            | Of_sc head p0 ↦ by_sc it head p0 t
            | Of_back head p0 p1 ↦ by_back it head p0 p1 t
          ]
        ] refl (share_sees S A z is insts w g covered x.phase x.queue h.share p m (sender_if (share_seen S A z 1 m) heads)) heads

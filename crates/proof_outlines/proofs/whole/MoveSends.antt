-- What a move sends is of moves alone: the network with shares sees of it what the one of moves does.
use Rattle.proof_outlines.proofs.Words.{◌≡◌, ℕ, false, Option, List, [], ◌∷◌, ◌++◌, map, refl, sym, ap, ◌∙◌, Semantics, FullCell, Piece, Msg, Said, Put}
use Rattle.proof_outlines.proofs.Words.{Release, Give_back, MovePlan, MoveState, put_to, forward_to, messages_of, row, Old, as_old, Target}
use Rattle.proof_machines.proofs.net.Net as net
use Rattle.proof_outlines.proofs.outline.Outline.{outline_sent, outline_sends}
use Rattle.proof_outlines.proofs.outline.InstanceOutline.{filter_map-put}
use Rattle.proof_outlines.proofs.outline.MoveRows.{row_sends}
use Rattle.proof_outlines.proofs.whole.WholeOutline.{outline_each, outline_all}

as_old-put : {R : Type 0} (xs ys : List (ℕ × net.Msg R)) → as_old (xs ++ ys) ≡ as_old xs ++ as_old ys
as_old-put [] ys = refl
as_old-put (x ∷ xs) ys = ap (λ zs. (x.0, Old x.1) ∷ zs) (as_old-put xs ys)

module _ {R : Type 0} (f : Semantics R) (place : List ℕ → Option ℕ) where
  -- sends that are of moves alone
  abbrev pub AreOld : List (ℕ × Msg) → Type 0
  AreOld sends = outline_all f place sends ≡ as_old (outline_sends f place sends)

  pub old-put : (xs ys : List (ℕ × Msg)) → AreOld xs → AreOld ys → AreOld (xs ++ ys)
  old-put xs ys a b =
      filter_map-put (outline_each f place) xs ys
      ∙ ap (λ zs. zs ++ outline_all f place ys) a
      ∙ ap (λ zs. as_old (outline_sends f place xs) ++ zs) b
      ∙ sym (ap as_old (filter_map-put (outline_sent f place) xs ys) ∙ as_old-put (outline_sends f place xs) (outline_sends f place ys))

  one_more : (x : ℕ × Msg) (xs : List (ℕ × Msg)) → AreOld (x ∷ []) → AreOld xs → AreOld (x ∷ xs)
  one_more x xs a b = old-put (x ∷ []) xs a b

  module _ (plan : MovePlan) where
    puts_old : (ps : List Piece) → AreOld (map (put_to plan false) ps)
    puts_old [] = refl
    puts_old (p ∷ ps) = one_more (put_to plan false p) (map (put_to plan false) ps) refl (puts_old ps)

    forwards_old : (to : ℕ) (cells : List FullCell) → AreOld (map (forward_to plan to) cells)
    forwards_old to [] = refl
    forwards_old to (c ∷ cs) = one_more (forward_to plan to c) (map (forward_to plan to) cs) refl (forwards_old to cs)

    said_old : (says : Said FullCell Piece) → AreOld (messages_of plan says)
    said_old (Put ps) = puts_old ps
    said_old (Release cells) = old-put (map (forward_to plan plan.to) cells)
        ((0, Msg.Install plan.op plan.filter plan.from (Target.Instance plan.to)) ∷ []) (forwards_old plan.to cells) refl
    said_old (Give_back cells) = old-put (map (forward_to plan plan.from) cells) ((0, Msg.FenceTo plan.op plan.from) ∷ [])
        (forwards_old plan.from cells) refl
    said_old says = refl

  -- the sends of a move's row
  pub row_old : (mv : MoveState) (events : List FullCell) (sender : ℕ) (m : Msg) → AreOld (row mv events sender m).next.sends
  row_old mv events sender m = row_sends AreOld mv.plan (said_old mv.plan) mv.phase events sender m

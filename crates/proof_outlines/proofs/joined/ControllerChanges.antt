-- A controller of a run is one after a change at one number, where the operation under it is one of a run, with what is stored for it.
use Rattle.proof_outlines.proofs.Words.{◌≡◌, ℕ, ◌≤◌, false, Option, Some, None, List, [], ◌∷◌, refl, sym, ap, ◌∙◌, subst, arith, ◌==◌, Decides-eqb, Semantics}
use Rattle.proof_outlines.proofs.Words.{stored_of, FullCell, answer_of, Operation, Move, Copy, Share, ControllerState, Each, Open, OpenShare, either_way}
use Rattle.proof_outlines.proofs.Words.{false_from_ne_true}
use Rattle.std.specs.FinMap as finite
use Rattle.proof_outlines.proofs.joined.Words.{OpensAll, Given, place, Genuine, IsController, IsListed, IsMove, IsCopy, IsShare}

-- no move
abbrev pub NotMove : Option Operation → Type 0
NotMove (Some (Move m)) = ⊥
NotMove o = Unit {0}

-- two controllers are the same but for the operation under one number and what is stored for it
pub record AreAlike (c d : ControllerState) (n : ℕ) : Type 0 where
  pub names : d.names ≡ c.names
  pub site : d.site ≡ c.site
  pub operations : (k : ℕ) → (k == n) ≡ false → finite.get d.operations k ≡ finite.get c.operations k
  pub store : (k : ℕ) → (k == n) ≡ false → stored_of d.store k ≡ stored_of c.store k

module _ {R : Type 0} (f : Semantics R) (g : Given) where
  -- an operation of a run under a number, or none, and what is stored for it
  abbrev pub IsKind : ℕ → Option Operation → List FullCell → Type 0
  IsKind n None cells = cells ≡ []
  IsKind n (Some (Move m)) cells = IsMove f g n m × (answer_of m.phase ≡ None)
  IsKind n (Some (Copy y)) cells = IsCopy f g n y × (cells ≡ [])
  IsKind n (Some (Share s)) cells = IsShare f g n s

  pub record IsOperation (n : ℕ) (o : Option Operation) (cells : List FullCell) : Type 0 where
    pub kind : IsKind n o cells
    pub genuine : Each (Genuine f g) cells

  pub operation_is : (c : ControllerState) (ops : List (Open R)) (shares : List OpenShare) (next : ℕ) → IsController f g c ops shares next → (k : ℕ)
      → IsOperation k (finite.get c.operations k) (stored_of c.store k)
  operation_is c ops shares next is k = record { kind = by_got (finite.get c.operations k) refl; genuine = is.genuine k }
    where
      by_got : (o : Option Operation) → finite.get c.operations k ≡ o → IsKind k o (stored_of c.store k)
      by_got None e = is.emptied k e
      by_got (Some (Move m)) e = (is.moves k m e, is.going k m e)
      by_got (Some (Copy y)) e = (is.copies k y e, is.unstored k y e)
      by_got (Some (Share s)) e = is.shared k s e

  -- where no move stood, the list of moves is one of the controller's after the change
  module _ (c d : ControllerState) (n : ℕ) (alike : AreAlike c d n) (was : NotMove (finite.get c.operations n)) where
    not_there : (e : Open R) → IsListed f g c e → (e.op.num == n) ≡ false
    not_there e l = false_from_ne_true (e.op.num == n)
        (λ on.
        let there : finite.get c.operations n ≡ Some (Move l.move) = ap (finite.get c.operations) (sym ((Decides-eqb e.op.num n).0 on)) ∙ l.there in
        absurd (subst NotMove there was))

    pub listed_alike : (ops : List (Open R)) → Each (IsListed f g c) ops → Each (IsListed f g d) ops
    listed_alike [] h = tt
    listed_alike (e ∷ ops) h =
        let l = h.0 in (record { move = l.move; there = alike.operations e.op.num (not_there e l) ∙ l.there; filter = l.filter }, listed_alike ops h.1)

  module _ (c d : ControllerState) (ops : List (Open R)) (shares : List OpenShare) (next after n : ℕ) (is : IsController f g c ops shares next)
      (alike : AreAlike c d n) (grows : next ≤ after) (own : IsOperation n (finite.get d.operations n) (stored_of d.store n))
      (later : after ≤ n → stored_of d.store n ≡ []) where
    operation_after : (k : ℕ) → IsOperation k (finite.get d.operations k) (stored_of d.store k)
    operation_after k = either_way (k == n)
        (λ on. subst (λ j. IsOperation j (finite.get d.operations j) (stored_of d.store j)) (sym ((Decides-eqb k n).0 on)) own)
        (λ off. subst (λ o. IsOperation k o (stored_of d.store k)) (sym (alike.operations k off))
        (subst (IsOperation k (finite.get c.operations k)) (sym (alike.store k off)) (operation_is c ops shares next is k)))

    kind_at : (k : ℕ) (o : Option Operation) → finite.get d.operations k ≡ o → IsKind k o (stored_of d.store k)
    kind_at k o e = subst (λ p. IsKind k p (stored_of d.store k)) e (operation_after k).kind

    nothing_after : (k : ℕ) → after ≤ k → stored_of d.store k ≡ []
    nothing_after k least = either_way (k == n)
        (λ on. (let same : k ≡ n = (Decides-eqb k n).0 on in ap (λ j. stored_of d.store j) same ∙ later (subst (λ j. after ≤ j) same least)))
        (λ off. alike.store k off ∙ is.nothing k (omega (arith, grows, least)))

    -- Only the moves and shares that are open afterwards are asked for.
    pub changed : (new : List (Open R)) (others : List OpenShare) → OpensAll f (place g) g.site new others d → Each (IsListed f g d) new
        → IsController f g d new others after
    changed new others opens listed = record {
      names = alike.names ∙ is.names;
      site = alike.site ∙ is.site;
      opens = opens;
      moves = λ k m e. (kind_at k (Some (Move m)) e).0;
      copies = λ k y e. (kind_at k (Some (Copy y)) e).0;
      shared = λ k s e. kind_at k (Some (Share s)) e;
      listed = listed;
      nothing = nothing_after;
      emptied = λ k e. kind_at k None e;
      unstored = λ k y e. (kind_at k (Some (Copy y)) e).1;
      going = λ k m e. (kind_at k (Some (Move m)) e).1;
      genuine = λ k. (operation_after k).genuine;
    }

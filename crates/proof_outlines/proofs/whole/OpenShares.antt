-- The controller's open operations as the network with shares sees them: moves and shares by their numbers, copies not at all; what a change
-- at one number leaves of the others; and the controller without its shares, which is one of moves alone.
use Rattle.proof_outlines.proofs.Words.{◌≡◌, ℕ, Bool, true, false, cond, Option, Some, None, List, ◌++◌, refl, sym, ap, ◌∙◌, subst, arith, ◌==◌}
use Rattle.proof_outlines.proofs.Words.{nat_cmp-IsAntisymmetric, nat_tests, Decides-eqb, Packet, Site, Semantics, FullCell, stored_of, ShareState, Operation}
use Rattle.proof_outlines.proofs.Words.{Move, Copy, Share, ControllerState, Step, Sys, Open, ControllerMove, find_op, links_after, Any, Sharing, OpenShare}
use Rattle.proof_outlines.proofs.Words.{find_share, as_old, old_step, SharesStep, told_by, by_share, WholeWorld, whole_ctrl, either_way}
use Rattle.std.specs.FinMap as finite
use Rattle.proof_outlines.proofs.outline.Outline.{sys}
use Rattle.proof_outlines.proofs.outline.ControlOutline.{Sees, Opens}
use Rattle.proof_outlines.proofs.whole.WholeOutline.{outline_all, sharing}
use Rattle.proof_outlines.proofs.whole.ShareOutline.{SeesShare}

pub turned_test : (k n : ℕ) → (k == n) ≡ false → (n == k) ≡ false
turned_test k n off = grind (arith, nat_tests, off)

-- an operation that isn't a share
abbrev pub but_shares : Option Operation → Option Operation
but_shares (Some (Share s)) = None
but_shares o = o

-- an operation that is one
abbrev pub share_in : Option Operation → Option ShareState
share_in (Some (Share s)) = Some s
share_in o = None

-- what the proof doesn't see: a copy, or nothing
abbrev pub IsUnseen : Option Operation → Type 0
IsUnseen None = Unit {0}
IsUnseen (Some (Copy y)) = Unit {0}
IsUnseen (Some (Move m)) = ⊥
IsUnseen (Some (Share s)) = ⊥

-- the open moves and shares of the abstract network, and the controller
pub record Table (R : Type 0) : Type 0 where
  pub ops : List (Open R)
  pub shares : List OpenShare
  pub node : ControllerState

-- two of them are the same but for one number
pub record Elsewhere {R : Type 0} (n : ℕ) (a b : Table R) : Type 0 where
  pub ops : (k : ℕ) → (k == n) ≡ false → find_op b.ops k ≡ find_op a.ops k
  pub shares : (k : ℕ) → (k == n) ≡ false → find_share b.shares k ≡ find_share a.shares k
  pub operations : (k : ℕ) → (k == n) ≡ false → finite.get b.node.operations k ≡ finite.get a.node.operations k
  pub store : (k : ℕ) → (k == n) ≡ false → stored_of b.node.store k ≡ stored_of a.node.store k

module _ {R : Type 0} (f : Semantics R) (place : List ℕ → Option ℕ) (at : Site) where
  abbrev pub SeesOne : Option OpenShare → Option ShareState → List FullCell → Type 0
  SeesOne None None cells = Unit {0}
  SeesOne (Some e) (Some s) cells = SeesShare at e s cells
  SeesOne None (Some s) cells = ⊥
  SeesOne (Some e) None cells = ⊥

  -- an operation, as the proof of moves sees it and as that of shares does
  pub record SeesAny (o : Option (Open R)) (h : Option OpenShare) (p : Option Operation) (cells : List FullCell) : Type 0 where
    pub move : Sees f place o (but_shares p) cells
    pub share : SeesOne h (share_in p) cells

  -- the open operations by their numbers
  abbrev pub OpensAll : List (Open R) → List OpenShare → ControllerState → Type 0
  OpensAll ops shares c = (n : ℕ) → SeesAny (find_op ops n) (find_share shares n) (finite.get c.operations n) (stored_of c.store n)

  -- what is seen at a number of a table
  abbrev pub SeesAt : Table R → ℕ → Type 0
  SeesAt t n = SeesAny (find_op t.ops n) (find_share t.shares n) (finite.get t.node.operations n) (stored_of t.node.store n)

  -- a change at one number
  pub opens_at : (n : ℕ) (a b : Table R) → Elsewhere n a b → SeesAt b n → OpensAll a.ops a.shares a.node → OpensAll b.ops b.shares b.node
  opens_at n a b other own h k = either_way (k == n) (λ on. subst (SeesAt b) (sym ((Decides-eqb k n).0 on)) own)
      (λ off.
      subst (λ o. SeesAny o (find_share b.shares k) (finite.get b.node.operations k) (stored_of b.node.store k)) (sym (other.ops k off))
      (subst (λ o. SeesAny (find_op a.ops k) o (finite.get b.node.operations k) (stored_of b.node.store k)) (sym (other.shares k off))
      (subst (λ o. SeesAny (find_op a.ops k) (find_share a.shares k) o (stored_of b.node.store k)) (sym (other.operations k off))
      (subst (SeesAny (find_op a.ops k) (find_share a.shares k) (finite.get a.node.operations k)) (sym (other.store k off)) (h k)))))

  -- what is seen where no move or no share is, whatever is stored
  pub sees_none : (o : Option (Open R)) (p q : Option Operation) (cells other : List FullCell) → IsUnseen p → IsUnseen q → Sees f place o p cells
      → Sees f place o q other
  sees_none None p None cells other a b s = tt
  sees_none None p (Some (Copy y)) cells other a b s = tt
  sees_none None p (Some (Move m)) cells other a b s = absurd b
  sees_none None p (Some (Share x)) cells other a b s = absurd b
  sees_none (Some e) None q cells other a b s = absurd s
  sees_none (Some e) (Some (Copy y)) q cells other a b s = absurd s
  sees_none (Some e) (Some (Move m)) q cells other a b s = absurd a
  sees_none (Some e) (Some (Share x)) q cells other a b s = absurd a

  no_share : (h : Option OpenShare) (cells other : List FullCell) → SeesOne h None cells → SeesOne h None other
  no_share None cells other s = tt
  no_share (Some e) cells other s = absurd s

  unseen_moves : (p : Option Operation) → IsUnseen p → but_shares p ≡ p
  unseen_moves None a = refl
  unseen_moves (Some (Copy y)) a = refl
  unseen_moves (Some (Move m)) a = absurd a
  unseen_moves (Some (Share s)) a = absurd a

  unseen_shares : (p : Option Operation) → IsUnseen p → share_in p ≡ None
  unseen_shares None a = refl
  unseen_shares (Some (Copy y)) a = refl
  unseen_shares (Some (Move m)) a = absurd a
  unseen_shares (Some (Share s)) a = absurd a

  -- a copy or nothing in place of another
  pub unseen_at : (o : Option (Open R)) (h : Option OpenShare) (p q : Option Operation) (cells other : List FullCell) → IsUnseen p → IsUnseen q
      → SeesAny o h p cells → SeesAny o h q other
  unseen_at o h p q cells other a b s = record {
    move = subst (λ x. Sees f place o x other) (sym (unseen_moves q b))
        (sees_none o p q cells other a b (subst (λ x. Sees f place o x cells) (unseen_moves p a) s.move));
    share = subst (λ x. SeesOne h x other) (sym (unseen_shares q b)) (no_share h cells other (subst (λ x. SeesOne h x cells) (unseen_shares p a) s.share));
  }

  -- the abstract network has nothing there
  pub no_op : (o : Option (Open R)) (h : Option OpenShare) (p : Option Operation) (cells : List FullCell) → IsUnseen (but_shares p) → SeesAny o h p cells
      → o ≡ None
  no_op o h p cells a s = by_seen o (but_shares p) a s.move
    where
      by_seen : (x : Option (Open R)) (q : Option Operation) → IsUnseen q → Sees f place x q cells → x ≡ None
      by_seen None q b t = refl
      by_seen (Some e) None b t = absurd t
      by_seen (Some e) (Some (Copy y)) b t = absurd t
      by_seen (Some e) (Some (Move m)) b t = absurd b
      by_seen (Some e) (Some (Share x)) b t = absurd b

  pub no_open_share : (o : Option (Open R)) (h : Option OpenShare) (p : Option Operation) (cells : List FullCell) → share_in p ≡ None → SeesAny o h p cells
      → h ≡ None
  no_open_share o h p cells e s = by_seen h (subst (λ x. SeesOne h x cells) e s.share)
    where
      by_seen : (x : Option OpenShare) → SeesOne x None cells → x ≡ None
      by_seen None t = refl
      by_seen (Some y) t = absurd t

  -- the share that the abstract network has under a number
  pub record Both (shares : List OpenShare) (c : ControllerState) (n : ℕ) (s : ShareState) : Type 0 where
    pub e : OpenShare
    pub there : find_share shares n ≡ Some e
    pub sees : SeesShare at e s (stored_of c.store n)

  pub both : (ops : List (Open R)) (shares : List OpenShare) (c : ControllerState) (n : ℕ) (s : ShareState) → OpensAll ops shares c
      → finite.get c.operations n ≡ Some (Share s) → Both shares c n s
  both ops shares c n s h there =
      by_seen (find_share shares n) refl (subst (λ p. SeesOne (find_share shares n) (share_in p) (stored_of c.store n)) there (h n).share)
    where
      by_seen : (o : Option OpenShare) → find_share shares n ≡ o → SeesOne (find_share shares n) (Some s) (stored_of c.store n) → Both shares c n s
      by_seen None e seen = absurd (subst (λ o. SeesOne o (Some s) (stored_of c.store n)) e seen)
      by_seen (Some e) is seen = record { e = e; there = is; sees = subst (λ o. SeesOne o (Some s) (stored_of c.store n)) is seen }

  -- the real share of one that the abstract network has
  pub record RealShare (c : ControllerState) (n : ℕ) (e : OpenShare) : Type 0 where
    pub s : ShareState
    pub there : finite.get c.operations n ≡ Some (Share s)
    pub sees : SeesShare at e s (stored_of c.store n)

  pub real_share : (ops : List (Open R)) (shares : List OpenShare) (c : ControllerState) (n : ℕ) (e : OpenShare) → OpensAll ops shares c
      → find_share shares n ≡ Some e → RealShare c n e
  real_share ops shares c n e h there =
      by_got (finite.get c.operations n) refl (subst (λ o. SeesOne o (share_in (finite.get c.operations n)) (stored_of c.store n)) there (h n).share)
    where
      by_got : (p : Option Operation) → finite.get c.operations n ≡ p → SeesOne (Some e) (share_in (finite.get c.operations n)) (stored_of c.store n)
          → RealShare c n e
      by_got None is seen = absurd (subst (λ p. SeesOne (Some e) (share_in p) (stored_of c.store n)) is seen)
      by_got (Some (Move m)) is seen = absurd (subst (λ p. SeesOne (Some e) (share_in p) (stored_of c.store n)) is seen)
      by_got (Some (Copy y)) is seen = absurd (subst (λ p. SeesOne (Some e) (share_in p) (stored_of c.store n)) is seen)
      by_got (Some (Share s)) is seen = record { s = s; there = is; sees = subst (λ p. SeesOne (Some e) (share_in p) (stored_of c.store n)) is seen }

  -- whether an operation is no share
  abbrev pub is_moving : Option Operation → Bool
  is_moving (Some (Share s)) = false
  is_moving o = true

  -- the controller without its shares
  abbrev pub without_shares : ControllerState → ControllerState
  without_shares c = record c { operations = finite.retain_keys c.operations (λ k. is_moving (finite.get c.operations k)) }

  moving_only : (p : Option Operation) → cond (is_moving p) p None ≡ but_shares p
  moving_only None = refl
  moving_only (Some (Move m)) = refl
  moving_only (Some (Copy y)) = refl
  moving_only (Some (Share s)) = refl

  pub got_moves : (c : ControllerState) (k : ℕ) → finite.get (without_shares c).operations k ≡ but_shares (finite.get c.operations k)
  got_moves c k = finite.get-retain_keys c.operations (λ j. is_moving (finite.get c.operations j)) k
      (λ x same. ap (λ j. is_moving (finite.get c.operations j)) (sym (nat_cmp-IsAntisymmetric k x same))) ∙ moving_only (finite.get c.operations k)

  -- is one of moves alone
  pub opens_moves : (ops : List (Open R)) (shares : List OpenShare) (c : ControllerState) → OpensAll ops shares c → Opens f place ops (without_shares c)
  opens_moves ops shares c h n = subst (λ p. Sees f place (find_op ops n) p (stored_of c.store n)) (sym (got_moves c n)) (h n).move

-- what a step of the abstract controller leaves of its moves and its shares, and sends
pub record AllStep (R : Type 0) : Type 0 where
  pub ops : List (Open R)
  pub shares : List OpenShare
  pub sends : List (ℕ × Any R)

module _ {R : Type 0} (f : Semantics R) (at : Site) (packet : ℕ → Packet) (place : List ℕ → Option ℕ) where
  abbrev S : Sys R
  S = sys f at packet

  abbrev A : Sharing S
  A = sharing f at packet

  abbrev pub joins : ControllerMove R → SharesStep S A → AllStep R
  joins did shared = record { ops = did.ops; shares = shared.shares; sends = as_old did.sends ++ shared.sends }

  -- the step of `whole_ctrl`
  abbrev pub all_step : List (Open R) → List OpenShare → ℕ → Any R → AllStep R
  all_step ops shares p a = joins (old_step S A ops p a) (by_share S A shares p (told_by S A shares a))

  -- a real step is such a step
  pub record StepFollows (step : Step) (did : AllStep R) : Type 0 where
    pub opens : OpensAll f place at did.ops did.shares step.node
    pub sends : outline_all f place step.sends ≡ did.sends

  -- `whole_ctrl` is this step
  pub step_is : (w : WholeWorld S A) (p : ℕ) (a : Any R) → whole_ctrl S A w p a ≡ record w {
    ops = (all_step w.ops w.shares p a).ops;
    shares = (all_step w.ops w.shares p a).shares;
    link = links_after w.link p 1 (all_step w.ops w.shares p a).sends;
  }
  step_is w p a = refl

-- No share takes a unit that an open copy's filter takes; so of chunks of such units none is a share's.
use Rattle.proof_outlines.proofs.Words.{◌≡◌, ℕ, true, false, inl, inr, Some, None, List, sym, ap, ◌∙◌, subst, ◌==◌, Decides-eqb, Filter, Chunk, Semantics}
use Rattle.proof_outlines.proofs.Words.{CopyState, ShareState, Copy, Share, ControllerState, each_any, record_at, TakesSome, taking_each, taking_found}
use Rattle.proof_outlines.proofs.Words.{false_from_ne_true, Unit}
use Rattle.std.specs.FinMap as finite
use Rattle.proof_outlines.proofs.joined.Words.{entries, is_sys, real_share, Given, place, S, A, Scene, AreShown}
use Rattle.proof_outlines.proofs.joined.OperationsApart.{AreApart, AllApart}
use Rattle.proof_outlines.proofs.joined.StandbyChunks.{AreUnshared}

module _ {R : Type 0} (f : Semantics R) (g : Given) where
  -- chunks of no unit but of those that a filter takes
  abbrev pub AreWithin : Filter → List Chunk → Type 0
  AreWithin filter chunks = (u : Unit) → (S f g).takes filter u ≡ false → record_at u (entries f chunks) ≡ None

  -- what one of two filters that don't meet takes, the other doesn't
  other_out : (a b : Filter) (u : Unit) → AreApart (Some a) (Some b) → (S f g).takes b u ≡ true → (S f g).takes a u ≡ false
  other_out a b u (inl off) on = false_from_ne_true ((S f g).takes a u)
      (λ both. let never : true ≡ false = sym on ∙ (is_sys f g.site g.packet).apart a b u off both in cc)
  other_out a b u (inr off) on = (is_sys f g.site g.packet).apart b a u off on

module _ {F R : Type 0} (f : Semantics R) (g : Given) (n : ℕ) (x : Scene F f g) (are : AreShown f g n x) (apart : AllApart x.nodes.controller.operations) where
  abbrev c : ControllerState
  c = x.nodes.controller

  -- a unit that a share takes isn't one of an open copy's
  pub copy_out : (op : ℕ) (y : CopyState) (filter : Filter) → finite.get c.operations op ≡ Some (Copy y) → y.plan.filter ≡ Some filter → (u : Unit)
      → TakesSome (S f g) x.world.shares u → (S f g).takes filter u ≡ false
  copy_out op y filter there is u takes =
      let e = takes.0 in
      let found = taking_found (S f g) (A f g) x.world.shares u e are.every.global.nums_apart takes.1 in
      let real = real_share f (place g) g.site x.world.ops x.world.shares c e.num e are.controller.opens found in
      let on : (S f g).takes e.filter u ≡ true = (taking_each (S f g) (A f g) (λ _. Prim.Unit {0}) x.world.shares u e (each_any x.world.shares) takes.1).1 in
      let filter_is : e.filter ≡ real.s.plan.filter = ap (λ y. y.filter) real.sees.is in
      let other = numbers_differ op e.num y real.s there real.there in
      let off : AreApart (Some filter) (Some real.s.plan.filter) = subst (λ p. AreApart p (Some real.s.plan.filter)) is
      (apart op e.num (Copy y) (Share real.s) other there real.there) in
      other_out f g filter real.s.plan.filter u off (ap (λ q. (S f g).takes q u) (sym filter_is) ∙ on)
    where
      numbers_differ : (k l : ℕ) (y : CopyState) (s : ShareState) → finite.get c.operations k ≡ Some (Copy y) → finite.get c.operations l ≡ Some (Share s)
          → (k == l) ≡ false
      numbers_differ k l y s a b = false_from_ne_true (k == l)
          (λ same. let both : Some (Copy y) ≡ Some (Share s) = sym a ∙ ap (finite.get c.operations) ((Decides-eqb k l).0 same) ∙ b in cc)

  -- and so its chunks are of no unit of a share
  pub copy_unshared : (op : ℕ) (y : CopyState) (filter : Filter) (chunks : List Chunk) → finite.get c.operations op ≡ Some (Copy y)
      → y.plan.filter ≡ Some filter → AreWithin f g filter chunks → AreUnshared f g x.world chunks
  copy_unshared op y filter chunks there is within u takes = within u (copy_out op y filter there is u takes)

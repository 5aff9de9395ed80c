-- The controller's open operations after one is written or closed; and where no share is open nothing is served, so a message of an
-- operation's number does what its turn does.
use Rattle.proof_outlines.proofs.Words.{◌≡◌, ◌≢◌, ℕ, Bool, true, false, cond, Option, Some, None, [], ◌++◌, append-nil, refl, sym, ap, ◌∙◌, subst, arith, ◌==◌}
use Rattle.proof_outlines.proofs.Words.{nat_cmp, eq_by_cmp, nat_cmp_total, nat_cmp-IsAntisymmetric, nat_tests, Decides-eqb, Answer, Msg, CopyState, ShareState}
use Rattle.proof_outlines.proofs.Words.{MoveState, MoveRow, Store, row_in, answer_of, Operation, Move, Copy, Share, OpenOperations, turn_of, serving_of}
use Rattle.proof_outlines.proofs.Words.{turn_of_move, turn_of_copy, ControllerState, Step, still, with_turn, after_turn, takes_turn, serve_step, and_serves}
use Rattle.proof_outlines.proofs.Words.{hand_step, split}
use Rattle.std.specs.FinMap as finite
use Rattle.std.specs.FinMap.{same_map}
use Rattle.std.proofs.lemmas.Cmp.{nat_eq_equiv}
use Rattle.copy_share.specs.Copy as copy

order_test : (a b : ℕ) → eq_by_cmp nat_cmp a b ≡ (a == b)
order_test a b = grind (arith, nat_tests)

pub got_insert : (ops : OpenOperations) (op k : ℕ) (o : Operation) → finite.get (finite.insert ops op o) k ≡ cond (k == op) (Some o) (finite.get ops k)
got_insert ops op k o = finite.get-insert nat_cmp_total ops op o k ∙ ap (λ b. cond b (Some o) (finite.get ops k)) (order_test k op)

pub got_remove : (ops : OpenOperations) (op k : ℕ) → finite.get (finite.remove ops op) k ≡ cond (k == op) None (finite.get ops k)
got_remove ops op k = finite.get-remove nat_cmp_total ops op k ∙ ap (λ b. cond b None (finite.get ops k)) (order_test k op)

-- two removals and writes at one number
pub gone_twice : (b : Bool) (o p : Option Operation) → cond b None (cond b o p) ≡ cond b None p
gone_twice true o p = refl
gone_twice false o p = refl

-- what is written in place of the same changes nothing
pub insert_same : (ops : OpenOperations) (op : ℕ) (o : Operation) → finite.get ops op ≡ Some o → finite.insert ops op o ≡ ops
insert_same ops op o there = same_map nat_cmp_total nat_cmp-IsAntisymmetric (finite.insert ops op o) ops (λ k.
    got_insert ops op k o ∙ split (k == op) (λ b. cond b (Some o) (finite.get ops k) ≡ finite.get ops k)
    (λ on. sym (ap (finite.get ops) ((Decides-eqb k op).0 on) ∙ there))
    (λ off. refl))

-- what is written and then closed is closed
pub remove_insert : (ops : OpenOperations) (op : ℕ) (o : Operation) → finite.remove (finite.insert ops op o) op ≡ finite.remove ops op
remove_insert ops op o = same_map nat_cmp_total nat_cmp-IsAntisymmetric _ _ (λ k.
    got_remove (finite.insert ops op o) op k ∙ ap (cond (k == op) None) (got_insert ops op k o) ∙ gone_twice (k == op) (Some o) (finite.get ops k)
    ∙ sym (got_remove ops op k))

-- no share
abbrev pub NotShared : Option Operation → Type 0
NotShared (Some (Share s)) = ⊥
NotShared o = Unit {0}

-- an operation is a share or it isn't
pub shared_or_not : {P : Type 0} (o : Option Operation) → (NotShared o → P) → ((s : ShareState) → o ≡ Some (Share s) → P) → P
shared_or_not None other share = other tt
shared_or_not (Some (Move m)) other share = other tt
shared_or_not (Some (Copy y)) other share = other tt
shared_or_not (Some (Share s)) other share = share s refl

pub not_shared : (ops : OpenOperations) (op : ℕ) → ((s : ShareState) → finite.get ops op ≢ Some (Share s)) → NotShared (finite.get ops op)
not_shared ops op none = by_got (finite.get ops op) refl
  where
    by_got : (o : Option Operation) → finite.get ops op ≡ o → NotShared o
    by_got None e = tt
    by_got (Some (Move m)) e = tt
    by_got (Some (Copy y)) e = tt
    by_got (Some (Share s)) e = absurd (none s e)

-- where no share is open under a number, nothing is served there
serves_nothing : (c : ControllerState) (op : ℕ) (o : Option Operation) → finite.get c.operations op ≡ o → NotShared o → serve_step c op ≡ still c
serves_nothing c op None is h = ap (λ x. record { node = with_turn c op (serving_of x c.store); sends = (serving_of x c.store).sends; notes = [] }) is
serves_nothing c op (Some (Move m)) is h =
    ap (λ x. record { node = with_turn c op (serving_of x c.store); sends = (serving_of x c.store).sends; notes = [] }) is
serves_nothing c op (Some (Copy y)) is h =
    ap (λ x. record { node = with_turn c op (serving_of x c.store); sends = (serving_of x c.store).sends; notes = [] }) is
serves_nothing c op (Some (Share s)) is h = absurd h

same_step : (did : Step) (op : ℕ) → NotShared (finite.get did.node.operations op) → and_serves did op ≡ did
same_step did op h =
    ap (λ x. record { node = x.node; sends = did.sends ++ x.sends; notes = did.notes }) (serves_nothing did.node op (finite.get did.node.operations op) refl h)
    ∙ ap (λ xs. record { node = did.node; sends = xs; notes = did.notes }) (append-nil did.sends)

-- an operation that isn't a share is none after its turn
module _ (c : ControllerState) (op : ℕ) where
  written : (o : Operation) → NotShared (Some o) → NotShared (finite.get (finite.insert c.operations op o) op)
  written o h = subst NotShared (sym (got_insert c.operations op op o ∙ ap (λ b. cond b (Some o) (finite.get c.operations op)) (nat_eq_equiv.refl op))) h

  gone : (ops : OpenOperations) → NotShared (finite.get (finite.remove ops op) op)
  gone ops = subst NotShared (sym (got_remove ops op op ∙ ap (λ b. cond b None (finite.get ops op)) (nat_eq_equiv.refl op))) tt

  move_turns : (m : MoveState) (store : Store) (r : MoveRow) (a : Option Answer)
      → NotShared (finite.get (after_turn c op (turn_of_move m store r) a).node.operations op)
  move_turns m store r None = written (Move (record m { phase = r.next.phase })) tt
  move_turns m store r (Some why) = gone (finite.insert c.operations op (Move (record m { phase = r.next.phase })))

  copy_turns : (y : CopyState) (store : Store) (r : copy.CopyRow) (a : Option Answer)
      → NotShared (finite.get (after_turn c op (turn_of_copy y store r) a).node.operations op)
  copy_turns y store r None = written (Copy (record y { phase = r.phase })) tt
  copy_turns y store r (Some why) = gone (finite.insert c.operations op (Copy (record y { phase = r.phase })))

  turns : (port : ℕ) (m : Msg) (o : Option Operation) → finite.get c.operations op ≡ o → NotShared o
      → NotShared (finite.get (takes_turn c op (turn_of o c.store port m)).node.operations op)
  turns port m None is h = subst NotShared (sym is) tt
  turns port m (Some (Move mv)) is h = move_turns mv c.store (row_in mv c.store port m) (answer_of (row_in mv c.store port m).next.phase)
  turns port m (Some (Copy y)) is h = copy_turns y c.store (copy.row y port m) (copy.answer_of (copy.row y port m).phase)
  turns port m (Some (Share s)) is h = absurd h

  -- a message of an operation's number does what its turn does
  pub handed_is : (port : ℕ) (m : Msg) → NotShared (finite.get c.operations op)
      → hand_step c op port m ≡ takes_turn c op (turn_of (finite.get c.operations op) c.store port m)
  handed_is port m h = same_step (takes_turn c op (turn_of (finite.get c.operations op) c.store port m)) op (turns port m (finite.get c.operations op) refl h)

-- Lists of open moves: what a number finds after a move was written or closed. And of its own move's row a unit sees the machine's,
-- on any message.
use Rattle.proof_machines.proofs.unit.Real.{sent_either}
use Rattle.proof_machines.proofs.net.Words.{◌≡◌, ℕ, Bool, true, false, Some, None, List, [], refl, ap, ◌∙◌, ◌&&◌, ◌==◌, same_Some, Fence_to, MoveMsg, MovePhase}
use Rattle.proof_machines.proofs.net.Words.{Op, operation_turn, operation_from_source, operation_from_destination, Sees, NodesDiffer, frame_of, quiet, did_a}
use Rattle.proof_machines.proofs.net.Words.{did_b, from_source_seen, from_destination_seen, Each, Open, find_op, set_op, write_op, num_of, Unit}
use Rattle.std.specs.Option.{option_map}
use Rattle.proof_machines.proofs.net.Net.{written}
use Rattle.proof_machines.proofs.Tests.{by_if}
use Rattle.proof_machines.proofs.NumberedLists as numbers
use Rattle.proof_machines.proofs.NumberedLists.{find-drop_other, find-change_own, find-change_other, each-drop, each-change}
use Rattle.proof_machines.proofs.unit.Real
use Rattle.move_op.specs.Phases.{Over}

pub none_some : {X : Type 0} {P : Type 0} {a : X} → None ≡ Some a → P
none_some e = cc

-- finding after writing
pub find_set : {R : Type 0} (n : ℕ) (ph : MovePhase R) (f : List ℕ) (es : List (Open R)) (e : Open R) → find_op es n ≡ Some e
    → find_op (set_op n ph f es) n ≡ Some (record e { phase = ph; store = f })
find_set n ph f es e there = find-change_own _ (written ph f) (λ e. refl) n es ∙ ap (option_map (written ph f)) there

pub find_write_other : {R : Type 0} (k n : ℕ) (ph : MovePhase R) (f : List ℕ) (es : List (Open R)) → (k == n) ≡ false
    → find_op (write_op k ph f es) n ≡ find_op es n
find_write_other k n (Over why) f es off = find-drop_other _ k n es off
find_write_other k n ph f es off = find-change_other _ (written ph f) (λ e. refl) k n es off

pub each_write : {R : Type 0} (P : Open R → Type 0) (k : ℕ) (ph : MovePhase R) (f : List ℕ) (es : List (Open R))
    → ((e : Open R) → (e.op.num == k) ≡ true → P e → P (record e { phase = ph; store = f })) → Each P es → Each P (write_op k ph f es)
each_write P k (Over why) f es g h = each-drop _ P k es h
each_write P k ph f es g h = each-change _ P k (written ph f) g es h

pub each_found : {R : Type 0} (P : Open R → Type 0) (k : ℕ) (es : List (Open R)) (e : Open R) → Each P es → find_op es k ≡ Some e
    → P e × ((e.op.num == k) ≡ true)
each_found P k es e h there = numbers.each_found _ P k es e h there

own_num : (k n : ℕ) → (n == n) ≡ true → Some k ≡ Some n → (k == n) ≡ true
own_num k n self e = let same : k ≡ n = same_Some _ _ e in rw same self

-- a row of a move on each message that bears its number, also on those that it doesn't know
module _ {R : Type 0} (o : Op) (mine : ℕ → Bool) (u : Unit) (t : NodesDiffer o) where
  pub ext_a : (phase : MovePhase R) (f : List ℕ) (m : MoveMsg R) → num_of m ≡ Some o.num
      → Sees (frame_of o mine u) (operation_from_source o phase f m) (did_a o mine u t phase f (Real.seen (frame_of o mine u) m))
  ext_a phase f (MoveMsg.Event n p) h = from_source_seen o mine u t phase f (MoveMsg.Event n p) tt
  ext_a phase f (MoveMsg.Enable n k) h = let e = own_num n o.num t.num h in rw e (quiet o mine u t phase f)
  ext_a phase f (MoveMsg.Stream n) h = let e = own_num n o.num t.num h in rw e (quiet o mine u t phase f)
  ext_a phase f (MoveMsg.Delete n us) h = let e = own_num n o.num t.num h in rw e (quiet o mine u t phase f)
  ext_a phase f (MoveMsg.Put n p first) h = let e = own_num n o.num t.num h in rw e (quiet o mine u t phase f)
  ext_a phase f (MoveMsg.Restore n cs) h = let e = own_num n o.num t.num h in rw e (quiet o mine u t phase f)
  ext_a phase f (MoveMsg.Forward p to) h = none_some h
  ext_a phase f (MoveMsg.Install n from to) h =
      let e = own_num n o.num t.num h in let none = quiet o mine u t phase f in
      rw e (by_if (λ it. Sees (frame_of o mine u) (operation_turn phase f []) (did_a o mine u t phase f (Some it))) ((from == o.src) && (to == o.dst)) none
      none)
  ext_a phase f (MoveMsg.Fence_to n to) h =
      let e = own_num n o.num t.num h in let none = quiet o mine u t phase f in
      rw e (sent_either (λ it. Sees (frame_of o mine u) (operation_turn phase f []) (did_a o mine u t phase f (Some it))) (frame_of o mine u) to
      (λ w. Fence_to w)
      (λ _. none) none)
  ext_a phase f m h = from_source_seen o mine u t phase f m (same_Some _ _ h)

  pub ext_b : (phase : MovePhase R) (f : List ℕ) (m : MoveMsg R) → num_of m ≡ Some o.num
      → Sees (frame_of o mine u) (operation_from_destination o phase f m) (did_b o mine u t phase f (Real.seen (frame_of o mine u) m))
  ext_b phase f (MoveMsg.Event n p) h = from_destination_seen o mine u t phase f (MoveMsg.Event n p) tt
  ext_b phase f (MoveMsg.Enable n k) h = let e = own_num n o.num t.num h in rw e (quiet o mine u t phase f)
  ext_b phase f (MoveMsg.Stream n) h = let e = own_num n o.num t.num h in rw e (quiet o mine u t phase f)
  ext_b phase f (MoveMsg.Delete n us) h = let e = own_num n o.num t.num h in rw e (quiet o mine u t phase f)
  ext_b phase f (MoveMsg.Put n p first) h = let e = own_num n o.num t.num h in rw e (quiet o mine u t phase f)
  ext_b phase f (MoveMsg.Restore n cs) h = let e = own_num n o.num t.num h in rw e (quiet o mine u t phase f)
  ext_b phase f (MoveMsg.Forward p to) h = none_some h
  ext_b phase f (MoveMsg.Install n from to) h =
      let e = own_num n o.num t.num h in let none = quiet o mine u t phase f in
      rw e (by_if (λ it. Sees (frame_of o mine u) (operation_turn phase f []) (did_b o mine u t phase f (Some it))) ((from == o.src) && (to == o.dst)) none
      none)
  ext_b phase f (MoveMsg.Fence_to n to) h =
      let e = own_num n o.num t.num h in let none = quiet o mine u t phase f in
      rw e (sent_either (λ it. Sees (frame_of o mine u) (operation_turn phase f []) (did_b o mine u t phase f (Some it))) (frame_of o mine u) to
      (λ w. Fence_to w)
      (λ _. none) none)
  ext_b phase f m h = from_destination_seen o mine u t phase f m (same_Some _ _ h)

-- A unit at rest, said without any move: a world with it shows a seat at rest, and a seat at rest whose move isn't open is a unit at
-- rest.
use Rattle.std.proofs.Common.{◌≡◌, ℕ, ◌≤◌, ◌<◌, Bool, false, Option, Some, None, List, [], map, filter, filter_map, arith}
use Rattle.std.specs.Prelude.{if◌then◌else◌, ◌&&◌, ◌==◌}
use Rattle.std.proofs.lemmas.Bool.Decides.{nat_tests}
use Rattle.proof_machines.proofs.unit.Machine.{Ran, after}
use Rattle.proof_machines.proofs.unit.Lists.{firsts}
use Rattle.proof_machines.proofs.unit.Real
use Rattle.proof_machines.proofs.unit.Real.{where_true, record_at, MoveMsg}
use Rattle.proof_machines.proofs.unit.Seen.{NodesDiffer}
use Rattle.proof_machines.proofs.unit.Labels.{Each, Clean, Foreign}
use Rattle.flow_filter.specs.declared.filter.Filter.{Filter}
use Rattle.proof_machines.proofs.net.Net.{Msg, Carry_on, Pass_on, Fence_on, Of_move, Sys, Ruling, is_free, Open, num_of, World}
use Rattle.nf_function.specs.declared.unit.Unit as units
use Rattle.record_table.specs.Table.{same_unit}

-- numbers below a bound
abbrev pub IsBelow : ℕ → Option ℕ → Type 0
IsBelow b None = Prim.Unit {0}
IsBelow b (Some k) = k < b

abbrev pub Below : {R : Type 0} → ℕ → Msg R → Type 0
Below b (Fence_on k) = k < b
Below b (Of_move g m) = IsBelow b (num_of m)
Below b m = Prim.Unit {0}

module _ {R : Type 0} (S : Sys R) where
  pub record Global (w : World S) : Type 0 where
    pub messages : (i j : ℕ) → (i == 0) && (j == 0) ≡ false → Each (Below w.next) (w.link i j)
    pub rules : (k : ℕ) → Each (λ r. r.num < w.next) (w.inst k).rules
    pub ops : Each (λ e. e.op.num < w.next) w.ops

module _ {R : Type 0} (S : Sys R) (u : units.Unit) where
  abbrev pub mine : ℕ → Bool
  mine p = same_unit (S.packet_unit p) u

  abbrev pub HasNothing : Filter → MoveMsg R → Type 0
  HasNothing g (MoveMsg.Enable n k) = (S.takes g u ≡ false) × (is_free k ≡ false)
  HasNothing g (MoveMsg.Stream n) = S.takes g u ≡ false
  HasNothing g (MoveMsg.Install n from to) = S.takes g u ≡ false
  HasNothing g (MoveMsg.Event n p) = mine p ≡ false
  HasNothing g (MoveMsg.Forward p to) = mine p ≡ false
  HasNothing g m = Foreign u m

  -- a message has nothing of the unit but a plain packet
  abbrev pub NothingOf : ℕ → Msg R → Type 0
  NothingOf i (Of_move g m) = ((i == 0) ≡ false) × HasNothing g m
  NothingOf i (Pass_on p) = mine p ≡ false
  NothingOf i m = Prim.Unit {0}

  abbrev pub none_mine : List ℕ → List ℕ
  none_mine ps = filter mine ps

  abbrev pub RestRule : Ruling → Type 0
  RestRule r = (S.takes r.filter u ≡ false) × (none_mine r.held ≡ []) × (is_free r.rule ≡ false)

  abbrev pub RestOp : Open R → Type 0
  RestOp e = (S.takes e.filter u ≡ false) × (Clean u e.phase × (none_mine e.store ≡ [])) × NodesDiffer e.op

  abbrev carried : Msg R → Option ℕ
  carried (Carry_on p) = where_true (mine p) p
  carried m = None

  abbrev pub carries_of : List (Msg R) → List ℕ
  carries_of ms = filter_map carried ms

  abbrev pub done_u : List (ℕ × ℕ) → List ℕ
  done_u ds = filter mine (map (λ d. d.0) ds)

  pub record Rest (w : World S) (owner : ℕ) (d : List Ran) (l : List ℕ) : Type 0 where
    pub two : 2 ≤ owner
    pub links : (i j : ℕ) → (i == 0) && (j == 0) ≡ false → carries_of (w.link i j) ≡ (if (i == 0) && (j == owner) then l else [])
    pub labels : (i j : ℕ) → (i == 0) && (j == 0) ≡ false → Each (NothingOf i) (w.link i j)
    pub live : (k : ℕ) → S.B.at u (w.inst k).live ≡ (if k == owner then after S.F d else None)
    pub rules : (k : ℕ) → Each RestRule (w.inst k).rules
    pub target : w.target u ≡ owner
    pub ops : Each RestOp w.ops
    pub done : done_u w.done ≡ firsts d

pub below_off : (k b n : ℕ) → k < b → b ≤ n → (k == n) ≡ false
below_off k b n a e = grind (arith, nat_tests, a, e)

-- The messages of a share in the abstract network, beside those of moves.
use Rattle.std.proofs.Common.{ℕ, Bool, List}
use Rattle.flow_filter.specs.declared.filter.Filter.{Filter}
use Rattle.nf_function.specs.declared.unit.Unit as units
use Rattle.proof_machines.proofs.unit.MoveMessages as moves

-- a share that is asked for; the home is the first member
pub record ShareAsked : Type 0 where
  pub num : ℕ
  pub home : ℕ
  pub members : List ℕ
  pub filter : Filter

-- `home` is the message's own flag. A share's fence and its answer are Net's Fence_on and MoveMsg.Fenced, since the real ones bear a number alone
pub data ShareMsg (R : Type 0) : Type 0 where
  Shared_on : (n : ℕ) (home : Bool) (p : ℕ) → ShareMsg R  -- switch to instance: Carry with the mark Shared
  Diverted_on : (p : ℕ) → ShareMsg R  -- switch to controller
  Asked : ShareAsked → ShareMsg R
  Install : (n : ℕ) (g : Filter) (from : ℕ) → ShareMsg R  -- controller to switch: its target is the controller
  Forward : (n : ℕ) (home : Bool) (p to : ℕ) → ShareMsg R
  Get : (n : ℕ) (g : Filter) → ShareMsg R  -- controller to instance; also a copy's
  Sync : (n : ℕ) (home : Bool) (cs : moves.Chunks R) → ShareMsg R
  Chunks : (n : ℕ) (cs : moves.Chunks R) → ShareMsg R  -- instance to controller; also a copy's
  Shared : (n : ℕ) (c : units.Unit × R) → ShareMsg R
  Synced : (n : ℕ) → ShareMsg R

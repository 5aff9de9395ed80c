-- The loop of `Tally::merge`.
use Rattle.std.proofs.Common.{◌≡◌, ◌<◌, ◌≤◌, ℕ, max, get_or, length}
use Rattle.nf_function.proofs.tally.Tally.merge.Given as goal

-- slots before this instance are merged, and the others are as they were
abbrev pub invariant-loop-instance : goal.invariant-loop-instance
invariant-loop-instance l = record {
  size : length l.self.slots ≡ length l.fn.self.slots;
  merged : (k : ℕ) → k < l.instance → get_or l.self.slots k 0 ≡ max (get_or l.fn.self.slots k 0) (get_or l.other.slots k 0);
  left : (k : ℕ) → l.instance ≤ k → get_or l.self.slots k 0 ≡ get_or l.fn.self.slots k 0;
}

-- Where the greatest byte so far is 0, those so far are all 0.
use Rattle.std.proofs.Common.{◌≡◌, ℕ, ◌<◌, get_or}
use Rattle.flow_filter.proofs.captured.is_zero.Given as goal

abbrev pub invariant-loop-byte : goal.invariant-loop-byte
invariant-loop-byte l = l.greatest ≡ 0 → (k : ℕ) → k < l.byte-index → get_or l.bytes k 0 ≡ 0

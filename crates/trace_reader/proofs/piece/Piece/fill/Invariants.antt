-- The records that stand in the piece so far, and those still to come.
use Rattle.std.proofs.Common.{◌≡◌, ◌≤◌, ◌+◌, ◌-◌, ◌*◌, ◌++◌, ℕ}
use Rattle.rand_core.specs.Steps.{first_words}
use Rattle.rand_xoshiro.specs.SplitMix64.{mix_u64}
use Rattle.trace_reader.specs.Generated.{records}
use Rattle.trace_reader.specs.Pieces.{piece_bytes}
use Rattle.trace_reader.proofs.piece.Piece.fill.Given as goal

abbrev pub invariant-loop-number : goal.invariant-loop-number
invariant-loop-number l = record {
  low : l.first ≤ l.number;
  high : l.number ≤ l.first + l.count;
  room : l.self.used ≤ 56 * (l.number - l.first);
  records : (more : ℕ) → records l.hosts l.first (first_words mix_u64 (l.count + more) l.fn.words)
      ≡ piece_bytes l.self ++ records l.hosts l.number (first_words mix_u64 (l.first + l.count - l.number + more) l.words);
}

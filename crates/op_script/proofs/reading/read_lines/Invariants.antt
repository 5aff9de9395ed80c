-- What the lines so far say, and the lines that are left.
use Rattle.op_script.proofs.Words.{◌≡◌, ◌+◌, ◌≤◌, option_map, slice_split, remaining_pieces, with_lines, start, bytes_left}
use Rattle.std.proofs.Common.{◌==◌}
use Rattle.op_script.proofs.reading.read_lines.Given as goal

-- what is left, from here on, gives what the whole script gives
abbrev pub invariant-loop-rest : goal.invariant-loop-rest
invariant-loop-rest l = record {
  same : with_lines l.kind l.names (l.line + 1) l.reader (remaining_pieces 10 (option_map (λ t. t.now) l.rest))
      ≡ with_lines l.kind l.names 1 start (slice_split (λ b. b == 10) l.bytes);
  room : l.line + bytes_left (option_map (λ t. t.now) l.rest) ≤ 1048577;
}

abbrev pub decreases-loop-rest : goal.decreases-loop-rest
decreases-loop-rest l = bytes_left (option_map (λ t. t.now) l.rest)

-- What stands in its place, what is late, and what the packets and lines that are left still give.
use Rattle.op_script.proofs.Words.{◌≡◌, ◌<◌, ◌++◌, ◌*◌, ◌^◌, map, take, drop, length, AreLinesFrom}
use Rattle.op_script.proofs.ItemsSoFar.{SoFar}
use Rattle.op_script.proofs.input.with_lines.Given as goal

-- what stands in its place, what is late and what comes after it give the whole, and the lines that are left are ahead
abbrev pub invariant-loop-place : goal.invariant-loop-place
invariant-loop-place l = record {
  many : length l.out.items ≡ l.count;
  short : length l.rest * 8 < 2 ^ 64;
  ahead : AreLinesFrom l.place (map (λ line. line.now) l.rest) l.lines;
  so_far : SoFar (record { packets = l.fn.packets; lines = l.lines }) l.place (drop l.place l.out.items) (take l.place l.out.items ++ l.late.items);
}

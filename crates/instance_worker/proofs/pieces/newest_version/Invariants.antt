-- The highest version so far and that of the chunks that are left are together that of all.
use Rattle.std.proofs.Common.{◌≡◌, ◌≤◌, max, drop}
use Rattle.instance_worker.specs.Pieces.{newest_version}
use Rattle.instance_worker.proofs.pieces.newest_version.Given as goal

abbrev pub invariant-loop-chunk : goal.invariant-loop-chunk
invariant-loop-chunk l = record {
  least : 1 ≤ l.newest;
  whole : max l.newest (newest_version (drop l.chunk-index l.chunks)) ≡ newest_version l.chunks;
}

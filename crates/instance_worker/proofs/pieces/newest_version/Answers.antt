-- The highest version is at least 1 at the start, and at the end no chunks are left.
use Rattle.std.proofs.Common.{ap, arith}
use Rattle.std.proofs.lemmas.List.{drop_all}
use Rattle.instance_worker.specs.Pieces.{newest_version}
use Rattle.instance_worker.proofs.PieceLemmas.{least_version}
use Rattle.instance_worker.proofs.pieces.newest_version.Goals as goal

pub loop-chunk-init : goal.loop-chunk-init
loop-chunk-init c = record { least = omega arith; whole = omega (arith, least_version c.args.chunks.now) }

pub returns : goal.returns
returns c =
    let none = ap newest_version (drop_all c.loop-chunk.chunk-index c.args.chunks.now (omega (arith, c.loop-chunk-test.false))) in
    omega (arith, c.loop-chunk.invariant.least, c.loop-chunk.invariant.whole, none)

-- What was found so far is what the source gave, and what may still be taken falls.
use Rattle.std.proofs.Common.{◌≡◌, ◌+◌, ◌≤◌, length}
use Rattle.std.specs.Io.KnownBytes.{Consumes}
use Rattle.nf_io.specs.Meaning.{StaysOpen, untouched}
use Rattle.nf_io.proofs.transfers.read_upto.Given as goal

abbrev pub invariant-loop-found : goal.invariant-loop-found
invariant-loop-found g l = record {
  found_so_far : length l.found.items + l.left ≡ l.most;
  taken : Consumes (g.S.Source.left l.initial.source) (g.S.Source.left l.source) l.found.items;
  later : g.S.Source.faults l.initial.source ≤ g.S.Source.faults l.source;
  stays : StaysOpen g.S.Source.IsOpen (untouched g.S.Source.loan g.S.Source.rest) l.initial.source l.source;
}

abbrev pub decreases-loop-found : goal.decreases-loop-found
decreases-loop-found g l = l.left

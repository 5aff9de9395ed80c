-- The records of the entries so far are found.
use Rattle.std.proofs.Common.{◌≡◌, map, take}
use Rattle.std.specs.List.{All}
use Rattle.std.specs.Option.{option_copied}
use Rattle.record_table.specs.Keeping.{all_found, IsNumbered, pairs_of}
use Rattle.record_table.proofs.ordered.all_found.Given as goal

abbrev pub invariant-loop-entry : goal.invariant-loop-entry
invariant-loop-entry g l = record {
  found : map (λ e. (e.0, e.1.now)) (pairs_of l.found.items) ≡ all_found (option_copied l.filter) (take l.entry-index l.entries);
  numbered : All IsNumbered l.found.items;
}

-- So many notes were moved from the front of the list to the log.
use Rattle.std.proofs.Common.{◌≡◌, ◌≤◌, ◌++◌, take, drop}
use Rattle.actor_threads.proofs.notes.give.Given as goal

abbrev pub invariant-loop : goal.invariant-loop
invariant-loop g l = record {
  within : l.counter ≤ l.count;
  rest : l.all.items ≡ drop l.counter l.fn.all.items;
  moved : l.log.items ≡ l.fn.log.items ++ take l.counter l.fn.all.items;
}

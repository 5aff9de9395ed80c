-- What was taken at first and what is in the room are all that was taken, and the room is large enough for all that is held.
use Rattle.std.proofs.Common.{◌≡◌, ◌≤◌, true, ◌++◌, vec_capacity}
use Rattle.crossbeam_queue.specs.Passes.{view, IsPassOf, ruled_capacity}
use Rattle.fifo_link.specs.Transfers.{taken_in}
use Rattle.fifo_link.proofs.ends.drain.Given as goal

abbrev pub invariant-loop : goal.invariant-loop
invariant-loop g l = record {
  pass : IsPassOf l.line l.hand;
  may : ((view l.hand).sends ≡ true) × ((view l.hand).takes ≡ true);
  sender : (view l.hand).sender ≡ (view l.fn.hand).sender;
  taken : taken_in (view l.hand).taker ≡ taken_in (view l.fn.hand).taker ++ l.room.items;
  room : ruled_capacity l.line ≤ vec_capacity l.room;
}

-- At each way out, what it has and what is still to come for it are what it had and what the step sent to its node.
use Rattle.std.proofs.Common.{◌≡◌, ◌<◌, ◌++◌, ℕ, length}
use Rattle.actor_threads.specs.Work.{out_at, put_for}
use Rattle.actor_threads.proofs.worker.put_all.Given as goal

abbrev pub invariant-loop-to : goal.invariant-loop-to
invariant-loop-to g l = record {
  count : length l.outs.items ≡ length l.fn.outs.items;
  link : (r : ℕ) → r < length l.fn.outs.items → (out_at l.outs.items r).link ≡ (out_at l.fn.outs.items r).link;
  all : (r : ℕ) → r < length l.fn.outs.items → (out_at l.outs.items r).all ++ put_for (length l.fn.outs.items) l.from r l.clock l.outbox.0
      ≡ (out_at l.fn.outs.items r).all ++ put_for (length l.fn.outs.items) l.from r l.clock l.fn.outbox.0;
}

abbrev pub decreases-loop-to : goal.decreases-loop-to
decreases-loop-to g l = length l.outbox.0

-- The parts so far, and those of the members that are left, are the parts of all members.
use Rattle.std.proofs.Common.{◌≡◌, ◌++◌, map, deque_len}
use Rattle.std.specs.List.{list_all}
use Rattle.actor_threads.specs.Groups.{has_run}
use Rattle.actor_threads.proofs.round.take_apart.Given as goal

abbrev pub invariant-loop-member : goal.invariant-loop-member
invariant-loop-member g l = record {
  done : list_all has_run l.fn.members.items ≡ list_all has_run l.members.items;
  nodes : l.round_parts.nodes.items ++ map (λ s. s.worker.node) l.members.items ≡ map (λ s. s.worker.node) l.fn.members.items;
  histories : l.round_parts.histories.items ++ map (λ s. record { node = s.worker.number; steps = s.worker.steps }) l.members.items
      ≡ map (λ s. record { node = s.worker.number; steps = s.worker.steps }) l.fn.members.items;
  notes : l.round_parts.notes.items ++ map (λ s. s.worker.notes) l.members.items ≡ map (λ s. s.worker.notes) l.fn.members.items;
  ins : map (λ v. v.items) l.round_parts.ins.items ++ map (λ s. s.worker.ins) l.members.items ≡ map (λ s. s.worker.ins) l.fn.members.items;
  outs : map (λ v. v.items) l.round_parts.outs.items ++ map (λ s. s.worker.outs) l.members.items ≡ map (λ s. s.worker.outs) l.fn.members.items;
}

abbrev pub decreases-loop-member : goal.decreases-loop-member
decreases-loop-member g l = deque_len l.members

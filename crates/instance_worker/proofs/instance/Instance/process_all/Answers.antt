-- One more packet is processed, or none is left.
use Rattle.instance_worker.proofs.HeldPackets.{one_packet, no_packet}
use Rattle.instance_worker.proofs.instance.Instance.process_all.Goals as goal

pub loop-cell-preserved : goal.loop-cell-preserved
loop-cell-preserved g c =
    one_packet g.F.Function.semantics _ _ _ c.in-Some.cell _ _ c.loop-cell.invariant c.in-Some.ensures.items c.in_ok-process_along.ensures.node
    c.in_ok-process_along.ensures.sends c.in_ok-process_along.ensures.notes

pub returns-clause-node : goal.returns-clause-node
returns-clause-node g c = (no_packet g.F.Function.semantics _ _ _ _ c.loop-cell.invariant c.in_default.ensures.items c.in_default.ensures.rest).node

pub returns-clause-sends : goal.returns-clause-sends
returns-clause-sends g c = (no_packet g.F.Function.semantics _ _ _ _ c.loop-cell.invariant c.in_default.ensures.items c.in_default.ensures.rest).sent

pub returns-clause-notes : goal.returns-clause-notes
returns-clause-notes g c = (no_packet g.F.Function.semantics _ _ _ _ c.loop-cell.invariant c.in_default.ensures.items c.in_default.ensures.rest).noted

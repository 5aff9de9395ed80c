-- With the packets that are left, the instance comes to the same end as with all.
use Rattle.std.proofs.Common.{◌++◌, length}
use Rattle.instance_worker.specs.Instance.{all_processed}
use Rattle.instance_worker.proofs.HeldPackets.{LeadsTo}
use Rattle.instance_worker.proofs.instance.Instance.process_all.Given as goal

abbrev pub invariant-loop-cell : goal.invariant-loop-cell
invariant-loop-cell g l =
    let all = all_processed g.F.Function.semantics l.initial.self l.initial.cells.items in
    LeadsTo g.F.Function.semantics (record { node = l.self; sent = l.out.0; noted = l.out.1 }) l.cells.items
    (record { node = all.node; sent = l.initial.out.0 ++ all.sends; noted = l.initial.out.1 ++ all.notes })

abbrev pub decreases-loop-cell : goal.decreases-loop-cell
decreases-loop-cell g l = length l.cells.items

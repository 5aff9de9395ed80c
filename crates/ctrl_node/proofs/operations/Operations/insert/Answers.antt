-- The table gains the operation at its place, and so does the map. A share was noted before.
use Rattle.std.proofs.Common.{refl, sym, subst}
use Rattle.indexmap.specs.IndexMap.{keys}
use Rattle.ctrl_node.specs.ShareIndex.{AreNoted}
use Rattle.ctrl_node.proofs.OperationLookUps.{inserted, rise_from_sorted, sorted_from_rise, view}
use Rattle.ctrl_node.proofs.LowestShares.{noted_with}
use Rattle.ctrl_node.proofs.operations.Operations.insert.Goals as goal

pub invariant_of-self-in-Ok : goal.invariant_of-self-in-Ok
invariant_of-self-in-Ok c =
    let done = c.in_ok-insert_sorted-in-Ok.ensures in let old = c.self.inside.by_number.entries in let gs = c.self.inside.shares in (
      rise_from_sorted (keys c.insert_sorted.new.self) (done.sorted (sorted_from_rise (keys c.self.inside.by_number) c.self.invariant.0)) done.unique,
      subst (AreNoted c.note_share.new.shares) (sym (inserted old c.insert_sorted.new.self.entries (view old) c.args.op c.args.operation refl done.updates.0))
          (noted_with gs c.note_share.new.shares (view old) c.args.op c.args.operation c.self.invariant.1 c.note_share.ensures.kept
          c.in-Ok.ensures.noted),
    )

pub returns-in_ok-insert_sorted-in-Ok-clause-opened : goal.returns-in_ok-insert_sorted-in-Ok-clause-opened
returns-in_ok-insert_sorted-in-Ok-clause-opened c =
    inserted c.self.inside.by_number.entries c.insert_sorted.new.self.entries c.args.self.now c.args.op c.args.operation c.self.view_is
    c.in_ok-insert_sorted-in-Ok.ensures.updates.0

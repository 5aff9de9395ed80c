-- The table loses the operation, and so does the map. The other shares are noted.
use Rattle.std.proofs.Common.{eqb, refl, sym, subst}
use Rattle.std.specs.Map.{keys_of}
use Rattle.ctrl_node.specs.ShareIndex.{AreNoted}
use Rattle.ctrl_node.proofs.OperationLookUps.{Rise, removed, rest_rise, view}
use Rattle.ctrl_node.proofs.LowestShares.{noted_without}
use Rattle.ctrl_node.proofs.operations.Operations.remove.Goals as goal

pub invariant_of-self : goal.invariant_of-self
invariant_of-self c =
    let old = c.self.inside.by_number.entries in let left = c.shift_remove.ensures in (
      subst (λ es. Rise (keys_of es)) (sym left.entries) (rest_rise (eqb c.args.op) old c.self.invariant.0),
      subst (AreNoted c.self.inside.shares) (sym (removed old c.shift_remove.new.self.entries (view old) c.args.op refl left.updates.0))
          (noted_without c.self.inside.shares (view old) c.args.op c.self.invariant.1),
    )

pub returns : goal.returns
returns c = removed c.self.inside.by_number.entries c.shift_remove.new.self.entries c.args.self.now c.args.op c.self.view_is
    c.shift_remove.ensures.updates.0

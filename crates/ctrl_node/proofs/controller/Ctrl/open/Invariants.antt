-- Of each name so far there is one instance that hasn't stopped.
use Rattle.std.proofs.Common.{◌≡◌, map, take, false}
use Rattle.ctrl_node.proofs.controller.Ctrl.open.Given as goal

abbrev pub invariant-loop-name : goal.invariant-loop-name
invariant-loop-name l = l.stopped.items ≡ map (λ name. false) (take l._name-index l._name-items)

-- Each name so far is that of an instance.
use Rattle.std.proofs.Common.{◌≡◌, drop, not, is_some}
use Rattle.std.specs.Prelude.{find}
use Rattle.flow_filter.specs.Name.{place_of}
use Rattle.ctrl_node.proofs.controller.Ctrl.unknown_among.Given as goal

-- what is found among those that are left is found among all
abbrev pub invariant-loop-name : goal.invariant-loop-name
invariant-loop-name l = find (λ name. not (is_some (place_of l.self.names name))) (drop l.name-index l.names)
    ≡ find (λ name. not (is_some (place_of l.self.names name))) l.names

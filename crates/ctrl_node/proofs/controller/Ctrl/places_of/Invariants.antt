-- The instances of the names so far.
use Rattle.std.proofs.Common.{◌≡◌, ◌<◌, take}
use Rattle.std.specs.List.{All, filter_map}
use Rattle.nf_msgs.specs.declared.nodes.TheConstants.{MOST_INSTANCES}
use Rattle.flow_filter.specs.Name.{place_of}
use Rattle.ctrl_node.proofs.controller.Ctrl.places_of.Given as goal

abbrev pub invariant-loop-name : goal.invariant-loop-name
invariant-loop-name l = (l.places.items ≡ filter_map (place_of l.self.names) (take l.name-index l.names)) × All (λ place. place < MOST_INSTANCES) l.places.items

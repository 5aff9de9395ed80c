-- The loop of `push_next`.
use Rattle.std.proofs.Common.{◌≡◌, ◌++◌, take}
use Rattle.std.specs.List.{flat_map}
use Rattle.asset_monitor.specs.WordRoom.{next_text}
use Rattle.asset_monitor.proofs.text.push_next.Given as goal

-- the services so far stand after the text
abbrev pub invariant-loop-service : goal.invariant-loop-service
invariant-loop-service l = l.text ≡ l.fn.text ++ flat_map next_text (take l.service-index l.services)

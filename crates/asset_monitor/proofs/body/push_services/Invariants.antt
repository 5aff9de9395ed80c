-- The loop of `push_services`.
use Rattle.std.proofs.Common.{◌≡◌, ◌++◌, take}
use Rattle.std.specs.List.{flat_map}
use Rattle.asset_monitor.specs.Body.{service_bytes}
use Rattle.asset_monitor.proofs.body.push_services.Given as goal

-- the services so far stand after the bytes
abbrev pub invariant-loop-service : goal.invariant-loop-service
invariant-loop-service l = l.bytes ≡ l.fn.bytes ++ flat_map service_bytes (take l.service-index l.services)

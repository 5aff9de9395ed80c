-- The loop of `services_in`.
use Rattle.std.proofs.Common.{◌-◌}
use Rattle.nf_function.specs.Stored.{first_items}
use Rattle.nf_function.proofs.StoredItems.{IsRead}
use Rattle.asset_monitor.specs.Body.{first_service}
use Rattle.asset_monitor.proofs.body.services_in.Given as goal

-- the services so far, and the bytes that are left
abbrev pub invariant-services : goal.invariant-services
invariant-services l = IsRead first_service (l.fn.count - l.counter) (l.services, l.rest) (first_items first_service l.fn.count l.fn.bytes)

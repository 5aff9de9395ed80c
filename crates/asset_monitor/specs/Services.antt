-- What the monitor keeps of a local host: its services, at most one for each protocol and port. This project's own.
use Rattle.std.specs.Prelude.{ℕ, ◌^◌, ◌&&◌, nat_le, nat_lt, Bool, true, List, [], ◌∷◌, ◌++◌, length, Option}
use Rattle.std.specs.List.{filter, find, list_all}
use Rattle.std.specs.Ordering.{nat_cmp, on, then_cmp, is_lt, is_eq, is_gt}
use Rattle.std.specs.declared.cmp.Ordering.{Ordering}
use Rattle.nf_function.specs.Units.{is_transport}
use Rattle.asset_monitor.specs.declared.service.Service.{Service}

-- the most services that are kept of a host
abbrev pub services_per_host : ℕ
services_per_host = 64

-- the order of services: by protocol, and then by port. The banner says nothing.
abbrev pub end_cmp : Service → Service → Ordering
end_cmp = then_cmp (on (λ s. s.proto) nat_cmp) (on (λ s. s.port) nat_cmp)

-- of TCP or UDP, its port within its type
abbrev pub is_service : Service → Bool
is_service s = is_transport s.proto && nat_lt s.port (2 ^ 16)

-- each service comes before all later ones
abbrev pub is_rising : List Service → Bool
is_rising [] = true
is_rising (s ∷ more) = list_all (λ later. is_lt (end_cmp s later)) more && is_rising more

-- the services that a host can have
abbrev pub are_services : List Service → Bool
are_services services = nat_le (length services) services_per_host && list_all is_service services && is_rising services

-- the service with the protocol and the port of another, if there is one
abbrev pub service_like : List Service → Service → Option Service
service_like services s = find (λ other. is_eq (end_cmp other s)) services

-- the services with this one at its protocol and port: those before it, it, and those after it
abbrev pub with_service : List Service → Service → List Service
with_service services s = filter (λ other. is_lt (end_cmp other s)) services ++ s ∷ filter (λ other. is_gt (end_cmp other s)) services

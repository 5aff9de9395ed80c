-- What the functions keep records for, and which filters take whole units. This project's own rules.
use Rattle.std.specs.Prelude.{◌≡◌, ℕ, ◌+◌, ◌*◌, ◌^◌, ◌==◌, nat_lt, Bool, true, false, not, ◌&&◌, ◌||◌, is_some}
use Rattle.std.specs.Hash.{HashWrites}
use Rattle.std.specs.Hash as fed
use Rattle.std.specs.Ordering.{nat_cmp}
use Rattle.std.specs.declared.cmp.Ordering.{Ordering}
use Rattle.std.specs.declared.cmp.Ordering.TheVariants.{Less, Greater}
use Rattle.flow_filter.specs.declared.filter.Filter.{Filter}
use Rattle.flow_filter.specs.declared.flow.Flow.{Flow}
use Rattle.flow_filter.specs.Filter.{matches, agrees, holds}
use Rattle.flow_filter.specs.Flow.{flow_cmp}
use Rattle.flow_filter.specs.FilterText.{Fields}
use Rattle.nf_function.specs.declared.kind.Kind.{Kind}
use Rattle.nf_function.specs.declared.kind.Kind.TheVariants.{Conntrack}
use Rattle.nf_function.specs.declared.unit.Unit as units
use Rattle.nf_function.specs.declared.unit.Unit.TheVariants.{Flow as OfFlow, Host as OfHost}
use Rattle.flow_filter.specs.Packet.{tcp, udp}

-- the function keeps its records for local hosts
abbrev pub has_hosts : Kind → Bool
has_hosts Conntrack = false
has_hosts _ = true

-- the function's records hold a time
abbrev pub has_times : Kind → Bool
has_times Conntrack = true
has_times _ = false

-- the unit that a flow belongs to: itself, or its local host
abbrev pub unit_of : Kind → Flow → units.Unit
unit_of Conntrack flow = OfFlow flow
unit_of _ flow = OfHost flow.local

abbrev pub is_tcp : ℕ → Bool
is_tcp proto = proto == tcp

abbrev pub is_udp : ℕ → Bool
is_udp proto = proto == udp

-- the functions work on TCP and UDP alone
abbrev pub is_transport : ℕ → Bool
is_transport proto = proto == tcp || proto == udp

-- a flow of TCP or UDP, each number within its type
abbrev pub is_transport_flow : Flow → Bool
is_transport_flow flow = is_transport flow.proto && nat_lt flow.local (2 ^ 32) && nat_lt flow.lport (2 ^ 16)
    && nat_lt flow.remote (2 ^ 32) && nat_lt flow.rport (2 ^ 16)

-- the unit is one that the function may have a record for
abbrev pub is_unit : Kind → units.Unit → Bool
is_unit kind (OfFlow flow) = not (has_hosts kind) && is_transport_flow flow
is_unit kind (OfHost host) = has_hosts kind && nat_lt host (2 ^ 32)

-- the order of units: flows in theirs, and hosts by their addresses
abbrev pub unit_cmp : units.Unit → units.Unit → Ordering
unit_cmp (OfFlow a) (OfFlow b) = flow_cmp a b
unit_cmp (OfFlow a) (OfHost b) = Less
unit_cmp (OfHost a) (OfFlow b) = Greater
unit_cmp (OfHost a) (OfHost b) = nat_cmp a b

-- what a unit is hashed as: one number
abbrev pub unit_hashed : units.Unit → HashWrites
unit_hashed (OfFlow f) = fed.u128 ((f.local * 2 ^ 32 + f.remote) * 2 ^ 64 + ((f.lport * 2 ^ 16 + f.rport) * 2 ^ 8 + f.proto))
unit_hashed (OfHost host) = fed.u128 host

-- the filter takes the unit: a flow that matches, or a host that `local` agrees with
abbrev pub takes : Filter → units.Unit → Bool
takes f (OfFlow flow) = matches f flow
takes f (OfHost host) = agrees holds f.local host

-- the filter may match some flows of a unit and not others: a field is given besides `local`, where units are hosts
abbrev pub splits : Kind → Fields → Bool
splits kind f = has_hosts kind && (is_some f.proto || is_some f.lport || is_some f.remote || is_some f.rport)

-- the filter takes the unit of a flow exactly where it matches the flow
abbrev pub TakesWhole : Kind → Filter → Type 0
TakesWhole kind f = (flow : Flow) → takes f (unit_of kind flow) ≡ matches f flow

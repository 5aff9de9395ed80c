-- The flow of a packet, seen from a site: which end is local, and which way the packet goes.
-- This project's own rule. The outside ports are those of the address translator.
use Rattle.std.specs.Prelude.{ℕ, ◌+◌, ◌-◌, ◌/◌, ◌%◌, ◌==◌, ◌&&◌, ◌||◌, nat_lt, nat_le, Bool, false, not, if◌then◌else◌}
use Rattle.std.specs.Option.{option_map_or}
use Rattle.std.specs.Ordering.{nat_cmp, on, then_cmp}
use Rattle.std.specs.declared.cmp.Ordering.{Ordering}
use Rattle.flow_filter.specs.declared.packet.Packet.{Packet}
use Rattle.flow_filter.specs.declared.site.Site.{Site}
use Rattle.flow_filter.specs.declared.flow.Flow.{Flow}
use Rattle.flow_filter.specs.declared.flow.Direction.{Direction}
use Rattle.flow_filter.specs.declared.flow.Direction.TheVariants.{Out, In}
use Rattle.flow_filter.specs.Prefixes.{in_prefix}

-- the flows are equal in every field
abbrev pub flow_eq : Flow → Flow → Bool
flow_eq a b = a.local == b.local && (a.remote == b.remote && (a.lport == b.lport && (a.rport == b.rport && a.proto == b.proto)))

-- the order of flows: by protocol, and then by the local and the remote end
abbrev pub flow_cmp : Flow → Flow → Ordering
flow_cmp =
    then_cmp (on (λ f. f.proto) nat_cmp) (then_cmp (on (λ f. f.local) nat_cmp)
    (then_cmp (on (λ f. f.lport) nat_cmp) (then_cmp (on (λ f. f.remote) nat_cmp) (on (λ f. f.rport) nat_cmp))))

-- the place of a flow among so many: by its two ports and the remote address
abbrev pub place_among : Flow → ℕ → ℕ
place_among flow many = (flow.lport + flow.rport + flow.remote) % many

-- the address is one of the site's
abbrev pub is_inside : Site → ℕ → Bool
is_inside site address = in_prefix site.inside.bits site.inside.len address

-- the flow whose local end is the packet's source
abbrev pub outward : Packet → Flow
outward p = record { proto = p.proto; local = p.src; lport = p.sport; remote = p.dst; rport = p.dport }

-- the flow whose local end is the packet's destination
abbrev pub inward : Packet → Flow
inward p = record { proto = p.proto; local = p.dst; lport = p.dport; remote = p.src; rport = p.sport }

-- the first port of the outside address that belongs to an inside host
abbrev pub first_port : ℕ
first_port = 1024

-- how many of these ports an inside host has
abbrev pub ports_per_host : ℕ
ports_per_host = 252

-- the packet goes to a port of the outside address that belongs to an inside host
abbrev pub is_mapped : Site → Packet → Bool
is_mapped site p = option_map_or (λ outside. p.dst == outside) site.outside false && nat_le first_port p.dport

-- the first case that applies: one end is inside; the packet goes to an outside port, which belongs to an inside host; the source is the smaller end by
-- address and then port, or the ends are equal
unfoldable pub flow_of : Site → Packet → Flow × Direction
flow_of site p =
    if is_inside site p.src && not (is_inside site p.dst) then (outward p, Out)
    else if is_inside site p.dst && not (is_inside site p.src) then (inward p, In)
    else if not (is_inside site p.src) && not (is_inside site p.dst) && is_mapped site p
    then (record (inward p) { local = site.inside.bits + (p.dport - first_port) / ports_per_host }, In)
    else if nat_lt p.src p.dst || (p.src == p.dst && nat_le p.sport p.dport) then (outward p, Out)
    else (inward p, In)

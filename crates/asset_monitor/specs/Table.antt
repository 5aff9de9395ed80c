-- The asset monitor's table. The flags are those of RFC 9293; the rest is this project's own. The codes of outputs are the places of their
-- texts: `quiet` 0, `new PROTO PORT` 1, `banner PROTO PORT NAME` 2, `full` 3.
use Rattle.std.specs.Prelude.{◌+◌, ◌*◌, ◌&&◌, ◌||◌, nat_lt, Bool, false, not, if◌then◌else◌, [], take, length, Option, unwrap_or, is_some}
use Rattle.std.specs.Option.{option_map_or}
use Rattle.flow_filter.specs.declared.packet.Packet.{Packet}
use Rattle.flow_filter.specs.declared.site.Site.{Site}
use Rattle.flow_filter.specs.declared.flow.Direction.{Direction}
use Rattle.flow_filter.specs.declared.flow.Direction.TheVariants.{Out, In}
use Rattle.flow_filter.specs.Flow.{flow_of}
use Rattle.nf_function.specs.Semantics.{Step, count}
use Rattle.nf_function.specs.Units.{is_tcp, is_udp, is_transport}
use Rattle.asset_monitor.specs.declared.banner.Banner.TheVariants.{Unseen}
use Rattle.asset_monitor.specs.declared.record.AssetRecord.{AssetRecord}
use Rattle.asset_monitor.specs.declared.service.Service.{Service}
use Rattle.asset_monitor.specs.Banners.{banner_in, is_unseen, banner_number}
use Rattle.asset_monitor.specs.Services.{service_like, with_service}
use Rattle.flow_filter.specs.Packet.{syn, rst, ack, has_flag}

-- the packet shows that its source serves: of TCP, it accepts a connection, by SYN and ACK without RST; of UDP, its port is below 1024, as those of servers
abbrev pub announces : Packet → Bool
announces p = (is_tcp p.proto && (has_flag p.flags syn && has_flag p.flags ack && not (has_flag p.flags rst)))
    || (is_udp p.proto && nat_lt p.sport 1024)

-- the host's services with this one
abbrev pub keeping : AssetRecord → Service → AssetRecord
keeping r s = record r { services = with_service r.services s }

-- the first row that applies to a packet that goes in this direction, where its host's record is this. A service is where the packet comes from.
-- A host has at most 64. The last row but one is for a service that is listed without a banner.
unfoldable pub watched : Direction → AssetRecord → Packet → Step AssetRecord
watched direction r p =
    let sent : Bool = elim direction [ Out ↦ is_transport p.proto | In ↦ false ] in
    let end : Service = record { proto = p.proto; port = p.sport; banner = Unseen } in
    let known = service_like r.services end in
    let greeting = record end { banner = banner_in (take p.held p.head) } in
    if sent && announces p && not (is_some known) && nat_lt (length r.services) 64
    then record { kept = keeping r end; output = record { code = 1; a = end.proto; b = end.port } }
    else if sent && announces p && not (is_some known) then record { kept = r; output = record { code = 3; a = 0; b = 0 } }
    else if sent && option_map_or (λ (s : Service). is_unseen s.banner) known false && not (is_unseen greeting.banner)
    then record { kept = keeping r greeting; output = record { code = 2; a = end.proto * 256 + banner_number greeting.banner; b = end.port } }
    else record { kept = r; output = record { code = 0; a = 0; b = 0 } }

-- the table: the step of a packet, where this is kept of its host
unfoldable pub step_of : Site → Option AssetRecord → Packet → Step AssetRecord
step_of site kept p = let r = unwrap_or kept (record { packets = 0; services = [] }) in watched (flow_of site p).1 (record r { packets = count r.packets 1 }) p

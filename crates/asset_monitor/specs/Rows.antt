-- Steps between code and definition, which nobody has to believe: the rows of the table by what is known of the packet's source.
use Rattle.std.specs.Prelude.{ℕ, Bool, false, not, ◌&&◌, take, List, nat_lt, if◌then◌else◌, length, Option, None, Some}
use Rattle.std.specs.Option.{option_map_or}
use Rattle.flow_filter.specs.Packet.{syn, rst, ack, has_flag}
use Rattle.flow_filter.specs.declared.packet.Packet.{Packet}
use Rattle.nf_function.specs.Semantics.{Step}
use Rattle.asset_monitor.specs.declared.record.AssetRecord.{AssetRecord}
use Rattle.asset_monitor.specs.declared.service.Service.{Service}
use Rattle.asset_monitor.specs.Banners.{banner_in, is_unseen}
use Rattle.asset_monitor.specs.Services.{services_per_host}
use Rattle.asset_monitor.specs.Table.{announces, keeping}
use Rattle.asset_monitor.specs.Outputs.{source, found, full, greeted, quiet}

-- the captured payload
abbrev pub payload : Packet → List ℕ
payload p = take p.held p.head

-- the flags of a TCP packet that accepts a connection: SYN and ACK without RST
abbrev pub accepts : ℕ → Bool
accepts flags = has_flag flags syn && has_flag flags ack && not (has_flag flags rst)

-- a service without a banner is listed
abbrev pub is_bare : Option Service → Bool
is_bare known = option_map_or (λ (s : Service). is_unseen s.banner) known false

-- nothing is seen
abbrev pub quiet_row : AssetRecord → Step AssetRecord
quiet_row r = record { kept = r; output = quiet }

-- a service that isn't listed is announced
unfoldable pub new_row : AssetRecord → Service → Step AssetRecord
new_row r s =
    if nat_lt (length r.services) services_per_host then record { kept = keeping r s; output = found s }
    else record { kept = r; output = full }

-- a service that is listed without a banner sends a packet with this one
unfoldable pub greeting_row : AssetRecord → Service → Step AssetRecord
greeting_row r s = if is_unseen s.banner then quiet_row r else record { kept = keeping r s; output = greeted s }

-- a packet that the host sends, where this is listed at its source
unfoldable pub sent_row : AssetRecord → Packet → Option Service → Step AssetRecord
sent_row r p None = if announces p then new_row r (source p) else quiet_row r
sent_row r p (Some s) = if is_unseen s.banner then greeting_row r (record (source p) { banner = banner_in (payload p) }) else quiet_row r

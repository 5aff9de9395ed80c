-- The address translator's table. A mapping serves every remote end, as RFC 4787 REQ-1 asks for UDP; the rest is this project's own. The codes of
-- outputs are the places of their texts: `pass` 0, `map` 1, `unmap` 2, `drop noport` 3, `drop nomap` 4, `drop direct` 5.
use Rattle.std.specs.Prelude.{ℕ, ◌+◌, ◌-◌, ◌*◌, ◌%◌, ◌==◌, ◌&&◌, nat_lt, not, if◌then◌else◌, [], ◌∷◌, ◌++◌, length, slice_get, Option, None, Some, unwrap_or}
use Rattle.std.specs.List.{position}
use Rattle.std.specs.Option.{option_map_or}
use Rattle.flow_filter.specs.declared.packet.Packet.{Packet}
use Rattle.flow_filter.specs.declared.site.Site.{Site}
use Rattle.flow_filter.specs.Flow.{flow_of, is_inside, is_mapped, ports_per_host, first_port}
use Rattle.nf_function.specs.declared.output.Output.{Output}
use Rattle.nf_function.specs.Semantics.{Step, count}
use Rattle.nf_function.specs.Units.{is_transport}
use Rattle.addr_translator.specs.declared.mapping.Mapping.{Mapping}
use Rattle.addr_translator.specs.Mappings.{Translation}

-- a dropped packet, with the code of the cause: 3 that no port is free, 4 that the port isn't given, 5 that it came to an inside address
abbrev pub drop_step : Translation → ℕ → Step Translation
drop_step r reason = record { kept = record r { drops = count r.drops 1 }; output = record { code = reason; a = 0; b = 0 } }

-- `map ADDR:PORT`: the outside port of a host's mapping with this number, by the last byte of the host's address
abbrev pub mapped : ℕ → ℕ → ℕ → Output
mapped outside host number = record { code = 1; a = outside; b = first_port + ports_per_host * (host % 256) + number }

-- a packet that leaves from an end: the port of that, or the next free one
abbrev pub left : ℕ → ℕ → Translation → Mapping → Option ℕ → Step Translation
left outside host r end (Some number) = record { kept = r; output = mapped outside host number }
left outside host r end None =
    if nat_lt (length r.mappings) ports_per_host
    then record { kept = record r { mappings = r.mappings ++ end ∷ [] }; output = mapped outside host (length r.mappings) }
    else drop_step r 3

-- `unmap ADDR:PORT`: a packet that returns to a port whose mapping is known or not
abbrev pub return_step : ℕ → Translation → Packet → Option Mapping → Step Translation
return_step host r p None = drop_step r 4
return_step host r p (Some m) = if m.proto == p.proto then record { kept = r; output = record { code = 2; a = host; b = m.port } } else drop_step r 4

-- the table: the step of a packet, where this is kept of its host, by how it passes the site's border. The first case that applies counts. An inside
-- host's packet leaves where the site has an outside address.
unfoldable pub step_of : Site → Option Translation → Packet → Step Translation
step_of site kept p =
    let before = unwrap_or kept (record { mappings = []; packets = 0; drops = 0 }) in
    let r = record before { packets = count before.packets 1 } in
    let host = (flow_of site p).0.local in
    let end : Mapping = record { proto = p.proto; port = p.sport } in
    let number = position (λ (m : Mapping). m.proto == end.proto && m.port == end.port) r.mappings in
    let pass : Step Translation = record { kept = r; output = record { code = 0; a = 0; b = 0 } } in
    if not (is_transport p.proto) then pass
    else if is_inside site p.src && not (is_inside site p.dst) then option_map_or (λ outside. left outside host r end number) site.outside pass
    else if is_inside site p.dst && not (is_inside site p.src) then drop_step r 5
    else if not (is_inside site p.src) && not (is_inside site p.dst) && is_mapped site p
    then return_step host r p (slice_get r.mappings ((p.dport - first_port) % ports_per_host))
    else pass

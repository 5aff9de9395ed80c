-- Steps between code and definition, which nobody has to believe: how a packet passes the site's border, and the step of one that passes so.
use Rattle.std.specs.Prelude.{ℕ, ◌-◌, ◌%◌, ◌&&◌, not, if◌then◌else◌, slice_get}
use Rattle.std.specs.List.{position}
use Rattle.std.specs.Option.{option_map_or}
use Rattle.flow_filter.specs.declared.packet.Packet.{Packet}
use Rattle.flow_filter.specs.declared.site.Site.{Site}
use Rattle.flow_filter.specs.Flow.{is_inside, is_mapped, ports_per_host, first_port}
use Rattle.nf_function.specs.Semantics.{Step}
use Rattle.nf_function.specs.Units.{is_transport}
use Rattle.addr_translator.specs.declared.mapping.Mapping.{Mapping}
use Rattle.addr_translator.specs.declared.passage.Passage.{Passage}
use Rattle.addr_translator.specs.declared.passage.Passage.TheVariants.{Leaves, Returns, Direct, Other}
use Rattle.addr_translator.specs.Mappings.{Translation, mapping_eq}
use Rattle.addr_translator.specs.Table.{drop_step, left, return_step}

-- how a packet passes the site's border. An inside host's packet leaves where the site has an outside address.
unfoldable pub passage_of : Site → Packet → Passage
passage_of site p =
    if not (is_transport p.proto) then Other
    else if is_inside site p.src && not (is_inside site p.dst) then option_map_or Leaves site.outside Other
    else if is_inside site p.dst && not (is_inside site p.src) then Direct
    else if not (is_inside site p.src) && not (is_inside site p.dst) && is_mapped site p then Returns
    else Other

-- the mapping of the packet's source
abbrev pub source : Packet → Mapping
source p = record { proto = p.proto; port = p.sport }

-- the step of a packet that passes so, where its host has had this
abbrev pub translated : Passage → ℕ → Translation → Packet → Step Translation
translated (Leaves outside) host r p = left outside host r (source p) (position (λ m. mapping_eq m (source p)) r.mappings)
translated Returns host r p = return_step host r p (slice_get r.mappings ((p.dport - first_port) % ports_per_host))
translated Direct host r p = drop_step r 5
translated Other host r p = record { kept = r; output = record { code = 0; a = 0; b = 0 } }

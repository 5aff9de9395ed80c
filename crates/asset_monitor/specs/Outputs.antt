-- Steps between code and definition, which nobody has to believe: the outputs, a record with one packet more, and the name of a banner.
use Rattle.std.specs.Prelude.{ℕ, ◌+◌, ◌*◌, List, []}
use Rattle.std.specs.List.{slice_index_or}
use Rattle.nf_function.specs.declared.output.Output.{Output}
use Rattle.nf_function.specs.Semantics.{count}
use Rattle.flow_filter.specs.declared.packet.Packet.{Packet}
use Rattle.asset_monitor.specs.declared.banner.Banner.{Banner}
use Rattle.asset_monitor.specs.declared.banner.Banner.TheVariants.{Unseen}
use Rattle.asset_monitor.specs.declared.record.AssetRecord.{AssetRecord}
use Rattle.asset_monitor.specs.declared.service.Service.{Service}
use Rattle.asset_monitor.specs.Banners.{banner_names, banner_number}

-- `new tcp PORT` or `new udp PORT`
abbrev pub found : Service → Output
found s = record { code = 1; a = s.proto; b = s.port }

-- `banner tcp PORT NAME` or `banner udp PORT NAME`
abbrev pub greeted : Service → Output
greeted s = record { code = 2; a = s.proto * 256 + banner_number s.banner; b = s.port }

-- `full`
abbrev pub full : Output
full = record { code = 3; a = 0; b = 0 }

-- `quiet`
abbrev pub quiet : Output
quiet = record { code = 0; a = 0; b = 0 }

-- one packet more
abbrev pub counted : AssetRecord → AssetRecord
counted r = record r { packets = count r.packets 1 }

abbrev pub name_of : Banner → List ℕ
name_of banner = slice_index_or banner_names (banner_number banner) []

-- the service at the packet's source, its banner not seen
abbrev pub source : Packet → Service
source p = record { proto = p.proto; port = p.sport; banner = Unseen }

-- nothing is kept yet
abbrev pub nothing : AssetRecord
nothing = record { packets = 0; services = [] }

-- What the asset monitor answers and prints. This project's own words.
use Rattle.std.specs.Prelude.{ℕ, ◌/◌, ◌%◌, ◌++◌, List, [], ◌∷◌, codes, decimal}
use Rattle.std.specs.List.{join_by, slice_index_or}
use Rattle.flow_filter.specs.FilterText.{protocol_text}
use Rattle.nf_function.specs.declared.output.Output.{Output}
use Rattle.asset_monitor.specs.declared.record.AssetRecord.{AssetRecord}
use Rattle.asset_monitor.specs.declared.service.Service.{Service}
use Rattle.asset_monitor.specs.Banners.{banner_names, banner_number}

-- `new tcp PORT` or `new udp PORT`
unfoldable pub found_text : Output → List ℕ
found_text output = codes "new " ++ protocol_text output.a ++ codes " " ++ decimal output.b

-- `banner tcp PORT NAME` or `banner udp PORT NAME`. The protocol and the banner stand in one number.
unfoldable pub greeted_text : Output → List ℕ
greeted_text output =
    codes "banner " ++ protocol_text (output.a / 256) ++ codes " " ++ decimal output.b ++ codes " " ++ slice_index_or banner_names (output.a % 256) []

-- the text of an output, by its code
abbrev pub output_text : Output → List ℕ
output_text output = slice_index_or (codes "quiet" ∷ found_text output ∷ greeted_text output ∷ codes "full" ∷ []) output.code []

-- `PROTO/PORT/NAME`
unfoldable pub service_text : Service → List ℕ
service_text s = protocol_text s.proto ++ codes "/" ++ decimal s.port ++ codes "/" ++ slice_index_or banner_names (banner_number s.banner) []

-- the services with commas between them, or `none`
abbrev pub services_text : List Service → List ℕ
services_text [] = codes "none"
services_text services = join_by service_text (codes ",") services

-- `packets P services LIST`
unfoldable pub record_text : AssetRecord → List ℕ
record_text r = codes "packets " ++ decimal r.packets ++ codes " services " ++ services_text r.services

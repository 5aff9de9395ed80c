-- Steps between code and definition, which nobody has to believe: the text of a service after others, and how many bytes the
-- words in the texts of the monitor take at most.
use Rattle.std.specs.Prelude.{ℕ, ◌++◌, List, codes}
use Rattle.asset_monitor.specs.declared.service.Service.{Service}
use Rattle.asset_monitor.specs.Text.{service_text}

-- the name of a banner
abbrev pub banner_room : ℕ
banner_room = 8

-- the word of a protocol
abbrev pub protocol_room : ℕ
protocol_room = 3

-- a service after others
abbrev pub next_text : Service → List ℕ
next_text s = codes "," ++ service_text s

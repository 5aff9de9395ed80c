-- Records that are stepped on packets which go by their numbers. This project's own.
use Rattle.std.specs.Prelude.{ℕ, ◌==◌, List, find, unwrap_or}
use Rattle.std.specs.List.{fold}
use Rattle.flow_filter.specs.declared.packet.Packet.{Packet}
use Rattle.flow_filter.specs.declared.site.Site.{Site}
use Rattle.nf_function.specs.Semantics.{Semantics}
use Rattle.record_table.specs.Table.{Records, after_packet}
use Rattle.net_world.specs.Input.{no_packet}

-- the packet with a number among some
abbrev pub packet_among : List Packet → ℕ → Packet
packet_among ps number = unwrap_or (find (λ p. p.number == number) ps) no_packet

-- records after packets stepped them, one after another
abbrev pub after_packets : {R : Type 0} → Semantics R → Site → Records R → List Packet → Records R
after_packets f site = fold (after_packet f site)

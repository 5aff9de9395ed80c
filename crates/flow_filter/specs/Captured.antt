-- Steps between code and definition, which nobody has to believe: a packet as it stands while it waits for its turn.
use Rattle.std.specs.Prelude.{replicate}
use Rattle.flow_filter.specs.declared.packet.Packet.{Packet}
use Rattle.flow_filter.specs.declared.captured.Header.{Header}
use Rattle.flow_filter.specs.declared.captured.CapturedForm.{CapturedForm}
use Rattle.flow_filter.specs.declared.captured.CapturedForm.TheVariants.{Bare, Whole}
use Rattle.flow_filter.specs.Packet.{most_held}

-- what a packet has beside its payload
abbrev pub header_of : Packet → Header
header_of p = record {
  nanos = p.nanos;
  number = p.number;
  src = p.src;
  dst = p.dst;
  length = p.length;
  sport = p.sport;
  dport = p.dport;
  proto = p.proto;
  flags = p.flags;
  held = p.held;
}

-- the packet of which no payload was captured
abbrev pub bare_packet : Header → Packet
bare_packet h = record {
  nanos = h.nanos;
  number = h.number;
  src = h.src;
  dst = h.dst;
  length = h.length;
  sport = h.sport;
  dport = h.dport;
  proto = h.proto;
  flags = h.flags;
  held = h.held;
  head = replicate most_held 0;
}

-- the packet that waits so
abbrev pub packet_in : CapturedForm → Packet
packet_in (Bare header) = bare_packet header
packet_in (Whole packet) = packet

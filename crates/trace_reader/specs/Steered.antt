-- Which records of a capture are steered, and the packet of each: frames of Ethernet (IEEE 802.3) with at most one VLAN tag (IEEE 802.1Q), or none, around
-- IPv4 (RFC 791) with TCP (RFC 9293) or UDP (RFC 768). Only first fragments are steered, and no checksum is looked at. Each definition takes how
-- many bytes the record has, and its bytes, of which only the first 202 count.
use Rattle.std.specs.Prelude.{◌≡◌, ◌≤◌, max, ℕ, ◌+◌, ◌-◌, ◌*◌, ◌/◌, ◌%◌, ◌^◌, ◌==◌, ◌&&◌, ◌||◌, Bool, true, nat_le, min, List}
use Rattle.std.specs.Prelude.{◌++◌, slice_index, take, drop, replicate, Option, Some, None, option_map, if◌then◌else◌}
use Rattle.basics.specs.Options.{◌>>=◌}
use Rattle.flow_filter.specs.declared.packet.Packet.{Packet}
use Rattle.trace_reader.specs.declared.form.Fraction.TheVariants.{Micros, Nanos}
use Rattle.trace_reader.specs.declared.form.LinkType.{LinkType}
use Rattle.trace_reader.specs.declared.form.LinkType.TheVariants.{Ethernet, Raw}
use Rattle.trace_reader.specs.declared.form.Form.{Form}
use Rattle.trace_reader.specs.declared.steer.Parts.{Parts}
use Rattle.trace_reader.specs.Numbers.{number_in, u16_at, u32_at}
use Rattle.flow_filter.specs.Packet.{tcp, udp, most_held}
use Rattle.trace_reader.specs.Layout.{tagged_size, ipv4_size, udp_size, tcp_size, longest_header}

-- where the IPv4 header starts: by its EtherType, at once or after one tag, which has the EtherType of what it tags two bytes after its own. Ethernet's
-- header has 14 bytes, and 18 with a tag.
abbrev pub start_of : LinkType → ℕ → List ℕ → Option ℕ
start_of Raw len f = Some 0
start_of Ethernet len f =
    let ipv4 : ℕ = 0x0800 in let tag : ℕ = 0x8100 in
    if nat_le 14 len && (u16_at f 12 == ipv4) then Some 14
    else if nat_le 18 len && (u16_at f 12 == tag) && (u16_at f 16 == ipv4) then Some 18
    else None

-- how long the IPv4 header at s is, in words of four bytes by its first byte: of version 4, no shorter than one can be, 20 bytes, and all of it captured
abbrev pub header_length : ℕ → List ℕ → ℕ → Option ℕ
header_length len f s =
    let h = 4 * (slice_index f s % 16) in
    if nat_le (s + 20) len && (slice_index f s / 16 == 4) && nat_le 20 h && nat_le (s + h) len then Some h else None

-- whether packets of this protocol are steered: those of TCP and of UDP
abbrev pub is_steered_proto : ℕ → Bool
is_steered_proto proto = proto == tcp || proto == udp

-- how long the header at q of this protocol is: always 8 bytes for UDP, at least its fixed part of 20 for TCP; that part is captured
abbrev pub transport_length : ℕ → List ℕ → ℕ → ℕ → Option ℕ
transport_length len f proto q =
    if proto == udp then (if nat_le (q + 8) len then Some 8 else None)
    else if proto == tcp then (let d = 4 * (slice_index f (q + 12) / 16) in if nat_le (q + 20) len && nat_le 20 d then Some d else None)
    else None

-- how long the datagram at s says it is, or else is: 0 stands for all that was captured
abbrev pub total_length : ℕ → List ℕ → ℕ → ℕ
total_length len f s = let says = u16_at f (s + 2) in if says == 0 then len - s else says

-- the lengths of a steered record, None for one that is skipped: the datagram is whole or a first fragment, whose offset, the low 13 bits at 6, is 0
unfoldable pub parts_of : LinkType → ℕ → List ℕ → Option Parts
parts_of link_type len f = do
  s ← start_of link_type len f
  h ← header_length len f s
  d ← transport_length len f (slice_index f (s + 9)) (s + h)
  if u16_at f (s + 6) % 2 ^ 13 == 0 && nat_le (h + d) (total_length len f s)
      then Some (record { start = s; header = h; transport = d; total = total_length len f s }) else None

-- these lengths stand in the record's own bytes, its ports and flags are captured, and its protocol is steered
pub record HasParts (len : ℕ) (f : List ℕ) (parts : Parts) : Type 0 where
  pub start : parts.start ≤ tagged_size
  pub header : parts.header ≤ longest_header
  pub transport : parts.transport ≤ longest_header
  pub total : parts.total ≤ max len (2 ^ 16)
  pub payload : parts.header + parts.transport ≤ parts.total
  pub ip : parts.start + ipv4_size ≤ len
  pub ports : parts.start + parts.header + udp_size ≤ len
  pub flags : slice_index f (parts.start + 9) ≡ tcp → parts.start + parts.header + tcp_size ≤ len
  pub proto : is_steered_proto (slice_index f (parts.start + 9)) ≡ true

-- the time stamp at the head of a record, in nanoseconds: seconds, and the fraction of a second in its unit
abbrev pub nanos_of : Form → List ℕ → ℕ
nanos_of form head =
    number_in form.magic.endian 4 head * 10 ^ 9 + number_in form.magic.endian 4 (drop 4 head) * elim form.magic.fraction [ Micros ↦ 1000 | Nanos ↦ 1 ]

-- the packet of a steered record with these lengths, with the number k: each field by its place in the IPv4 header, or in that of UDP or TCP at q. So many
-- of the payload's bytes are held as are captured and kept.
abbrev pub packet_with : ℕ → ℕ → ℕ → List ℕ → Parts → Packet
packet_with k nanos len f parts =
    let q = parts.start + parts.header in
    let held = min most_held (min len (parts.start + parts.total) - (q + parts.transport)) in
    record {
      number = k;
      nanos = nanos;
      proto = slice_index f (parts.start + 9);
      src = u32_at f (parts.start + 12);
      sport = u16_at f q;
      dst = u32_at f (parts.start + 16);
      dport = u16_at f (q + 2);
      flags = if slice_index f (parts.start + 9) == tcp then slice_index f (q + 13) else 0;
      length = parts.total - parts.header - parts.transport;
      held = held;
      head = take held (drop (q + parts.transport) f) ++ replicate (most_held - held) 0;
    }

-- the packet of a record with this head and these bytes, if it is steered, with the number k
unfoldable pub packet_of : Form → ℕ → List ℕ → ℕ → List ℕ → Option Packet
packet_of form k head len f = option_map (packet_with k (nanos_of form head) len f) (parts_of form.link_type len f)

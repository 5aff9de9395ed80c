-- The captures that are generated, this project's own: a pcap file (draft-ietf-opsawg-pcap) of IPv4 packets (RFC 791) with UDP (RFC 768)
-- or TCP (RFC 9293), each drawn from a word of the generator SplitMix64 (Steele, Lea and Flood), whose state is the number itself.
use Rattle.std.specs.Prelude.{ℕ, ◌+◌, ◌*◌, ◌/◌, ◌%◌, ◌^◌, ◌==◌, List, [], ◌∷◌, ◌++◌, replicate, if◌then◌else◌}
use Rattle.std.specs.List.{flat_map, enumerate_from}
use Rattle.byteorder.specs.Endian.{big_bytes, little_bytes}
use Rattle.rand_core.specs.Steps.{first_words}
use Rattle.rand_xoshiro.specs.SplitMix64.{mix_u64}
use Rattle.flow_filter.specs.declared.flow.Direction.{Direction}
use Rattle.flow_filter.specs.declared.flow.Direction.TheVariants.{Out, In}
use Rattle.trace_reader.specs.declared.drawn.Drawn.{Drawn}
use Rattle.trace_reader.specs.declared.drawn.End.{End}
use Rattle.trace_reader.specs.declared.drawn.Transport.{Transport}
use Rattle.trace_reader.specs.declared.drawn.Transport.TheVariants.{Udp, Tcp}
use Rattle.flow_filter.specs.Packet.{tcp, udp, fin, syn, ack}
use Rattle.trace_reader.specs.Layout.{micros_magic, major_version, minor_version, raw_link, ipv4_size, udp_size, tcp_size}

-- a word chooses among so many peers, and among so many lengths of a payload
abbrev pub peers : ℕ
peers = 64

abbrev pub payload_lengths : ℕ
payload_lengths = 512

-- the ports of names by UDP and of HTTPS, and where a host's own ports begin
abbrev pub names_port : ℕ
names_port = 53

abbrev pub https_port : ℕ
https_port = 443

abbrev pub own_udp_ports : ℕ
own_udp_ports = 50000

abbrev pub own_tcp_ports : ℕ
own_tcp_ports = 40000

-- the parts of a second
abbrev pub millis_per_second : ℕ
millis_per_second = 1000

abbrev pub micros_per_milli : ℕ
micros_per_milli = 1000

-- version 4 and a header of five words; a time to live; a header of five words
abbrev pub version_and_words : ℕ
version_and_words = 0x45

abbrev pub time_to_live : ℕ
time_to_live = 64

abbrev pub five_words : ℕ
five_words = 0x50

-- the most bytes of a packet that the file's header allows
abbrev pub snap_length : ℕ
snap_length = 65535

-- the flags that two bits choose
abbrev pub flags_by : ℕ → ℕ
flags_by bits = if bits == 0 then syn else if bits == 3 then fin + ack else ack

-- what the word w chooses of a packet, with so many hosts inside
unfoldable pub drawn_by : ℕ → ℕ → Drawn
drawn_by hosts w = record {
  host = w % hosts;
  peer = w / 2 ^ 16 % peers;
  direction = if w / 2 ^ 32 % 4 == 0 then In else Out;
  transport = if w / 2 ^ 40 % 2 == 0 then Udp else Tcp (flags_by (w / 2 ^ 41 % 4));
  payload = w / 2 ^ 48 % payload_lengths;
}

-- the ports of the host and of its peer
abbrev pub local_port : Transport → ℕ → ℕ
local_port Udp peer = own_udp_ports + peer
local_port (Tcp flags) peer = own_tcp_ports + peer

abbrev pub remote_port : Transport → ℕ
remote_port Udp = names_port
remote_port (Tcp flags) = https_port

-- the host, 10.0.0.HOST, and its peer, 192.0.2.PEER
abbrev pub local_end : Drawn → End
local_end d = record { address = 10 ∷ 0 ∷ 0 ∷ d.host ∷ []; port = local_port d.transport d.peer }

abbrev pub remote_end : Drawn → End
remote_end d = record { address = 192 ∷ 0 ∷ 2 ∷ d.peer ∷ []; port = remote_port d.transport }

-- which of two ends a packet of this direction leaves, where it leaves the first on its way out
abbrev pub left_end : Direction → End → End → End
left_end Out first second = first
left_end In first second = second

unfoldable pub source : Drawn → End
source d = left_end d.direction (local_end d) (remote_end d)

unfoldable pub target : Drawn → End
target d = left_end d.direction (remote_end d) (local_end d)

-- how many bytes the transport's header has, how many are captured, and how many the datagram has
abbrev pub transport_size : Transport → ℕ
transport_size Udp = udp_size
transport_size (Tcp flags) = tcp_size

abbrev pub captured_size : Drawn → ℕ
captured_size d = ipv4_size + transport_size d.transport

abbrev pub total_size : Drawn → ℕ
total_size d = captured_size d + d.payload

-- the head of the record of packet j, which comes j milliseconds after the start of 1970
unfoldable pub record_head : ℕ → Drawn → List ℕ
record_head j d =
    little_bytes 4 (j / millis_per_second) ++ little_bytes 4 (j % millis_per_second * micros_per_milli) ++ little_bytes 4 (captured_size d)
    ++ little_bytes 4 (total_size d)

-- version 4 and a header of five words, the total length, a time to live, the protocol, and the two addresses
unfoldable pub ipv4_header : ℕ → Drawn → List ℕ
ipv4_header proto d =
    (version_and_words ∷ 0 ∷ []) ++ big_bytes 2 (total_size d) ++ replicate 4 0 ++ (time_to_live ∷ proto ∷ 0 ∷ 0 ∷ []) ++ (source d).address
    ++ (target d).address

-- the ports, the length, and no checksum
unfoldable pub udp_header : Drawn → List ℕ
udp_header d = big_bytes 2 (source d).port ++ big_bytes 2 (target d).port ++ big_bytes 2 (udp_size + d.payload) ++ replicate 2 0

-- the ports, a header of five words, and the flags
unfoldable pub tcp_header : Drawn → ℕ → List ℕ
tcp_header d flags = big_bytes 2 (source d).port ++ big_bytes 2 (target d).port ++ replicate 8 0 ++ (five_words ∷ flags ∷ []) ++ replicate 6 0

-- the datagram as far as it is captured: its headers
abbrev pub datagram : Drawn → Transport → List ℕ
datagram d Udp = ipv4_header udp d ++ udp_header d
datagram d (Tcp flags) = ipv4_header tcp d ++ tcp_header d flags

-- the record of packet j
abbrev pub record_bytes : ℕ → Drawn → List ℕ
record_bytes j d = record_head j d ++ datagram d d.transport

-- the header of the file: little-endian with microseconds, version 2.4, at most so many bytes of a packet, and the link type of raw IP
unfoldable pub file_header : List ℕ
file_header =
    little_bytes 4 micros_magic ++ little_bytes 2 major_version ++ little_bytes 2 minor_version ++ replicate 8 0 ++ little_bytes 4 snap_length
    ++ little_bytes 4 raw_link

-- the records of the packets from number j on, one for each word
abbrev pub records : ℕ → ℕ → List ℕ → List ℕ
records hosts j words = flat_map (λ e. record_bytes e.0 (drawn_by hosts e.1)) (enumerate_from j words)

-- the capture of so many packets, drawn from the words that this number gives
unfoldable pub capture : ℕ → ℕ → ℕ → List ℕ
capture number packets hosts = file_header ++ records hosts 1 (first_words mix_u64 packets number)

-- How long the headers of a capture are, where those of their numbers stand that several definitions name, as bytes from the start of each header, and which
-- numbers stand there: the pcap format (draft-ietf-opsawg-pcap), Ethernet (IEEE 802.3), its VLAN tag (IEEE 802.1Q), IPv4 (RFC 791),
-- UDP (RFC 768) and TCP (RFC 9293).
use Rattle.std.specs.Prelude.{ℕ}

-- the head of a capture: where the first of the version's two numbers and the link type stand
abbrev pub major_place : ℕ
major_place = 4

abbrev pub link_type_place : ℕ
link_type_place = 20

-- the magic number of a capture with microseconds, in network order
abbrev pub micros_magic : ℕ
micros_magic = 0xA1B2_C3D4

-- the version
abbrev pub major_version : ℕ
major_version = 2

abbrev pub minor_version : ℕ
minor_version = 4

-- the link type LINKTYPE_RAW
abbrev pub raw_link : ℕ
raw_link = 101

-- the header of Ethernet with a tag
abbrev pub tagged_size : ℕ
tagged_size = 18

-- the least length of IPv4's header
abbrev pub ipv4_size : ℕ
ipv4_size = 20

-- the length of UDP's header, and the least one of TCP's
abbrev pub udp_size : ℕ
udp_size = 8

abbrev pub tcp_size : ℕ
tcp_size = 20

-- no header of IPv4 or TCP is longer: fifteen words
abbrev pub longest_header : ℕ
longest_header = 60

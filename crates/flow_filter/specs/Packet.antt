-- What the numbers in a packet stand for: protocols as IPv4's header has them (IANA's list of protocol numbers), the flags of TCP (RFC 9293), and
-- how much of a payload is kept, which is this project's own.
use Rattle.std.specs.Prelude.{ℕ, ◌==◌, ◌<◌, ◌^◌, Bool, not, bit_and}
use Rattle.flow_filter.specs.declared.packet.Packet.{Packet}

abbrev pub tcp : ℕ
tcp = 6

abbrev pub udp : ℕ
udp = 17

abbrev pub fin : ℕ
fin = 0x01

abbrev pub syn : ℕ
syn = 0x02

abbrev pub rst : ℕ
rst = 0x04

abbrev pub ack : ℕ
ack = 0x10

-- a flag of the header is set
abbrev pub has_flag : ℕ → ℕ → Bool
has_flag flags flag = not (bit_and flags flag == 0)

-- the greatest number of a port
abbrev pub most_port : ℕ
most_port = 65535

-- the most bytes of a payload that a packet keeps
abbrev pub most_held : ℕ
most_held = 64

-- the numbers of the packet that make its flow, its time and its length are within their types
pub record IsInRange (p : Packet) : Type 0 where
  pub nanos : p.nanos < 2 ^ 64
  pub length : p.length < 2 ^ 32
  pub src : p.src < 2 ^ 32
  pub sport : p.sport < 2 ^ 16
  pub dst : p.dst < 2 ^ 32
  pub dport : p.dport < 2 ^ 16
  pub proto : p.proto < 2 ^ 8

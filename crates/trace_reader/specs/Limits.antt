-- The sizes in a capture, by the pcap format (draft-ietf-opsawg-pcap), and this project's own limits.
use Rattle.std.specs.Prelude.{ℕ, ◌^◌}

-- the bytes at the head of a capture
abbrev pub header_size : ℕ
header_size = 24

-- the bytes at the head of a record
abbrev pub head_size : ℕ
head_size = 16

-- the bytes of a record that can matter: those in front of the longest headers that are steered, and 64 bytes of payload
abbrev pub front_size : ℕ
front_size = 202

-- the most bytes of a packet that a record may have
abbrev pub most_captured : ℕ
most_captured = 262144

-- the most bytes that a capture may have
abbrev pub most_bytes : ℕ
most_bytes = 2 ^ 32

-- Numbers in the bytes of a capture: those of pcap in the order of bytes that the file states, those of IP, TCP and UDP in network order.
use Rattle.std.specs.Prelude.{ℕ, List, drop}
use Rattle.byteorder.specs.Endian.{big_number, little_number}
use Rattle.trace_reader.specs.declared.form.Endian.{Endian}
use Rattle.trace_reader.specs.declared.form.Endian.TheVariants.{Big, Little}

-- the number in the first n bytes, in this byte order
abbrev pub number_in : Endian → ℕ → List ℕ → ℕ
number_in = elim [ Big ↦ big_number | Little ↦ little_number ]

-- the number in the two bytes from a place, in network order
abbrev pub u16_at : List ℕ → ℕ → ℕ
u16_at bytes at = big_number 2 (drop at bytes)

-- the number in the four bytes from a place, in network order
abbrev pub u32_at : List ℕ → ℕ → ℕ
u32_at bytes at = big_number 4 (drop at bytes)

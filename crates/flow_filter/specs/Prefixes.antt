-- Prefixes of IPv4 addresses, as CIDR has them (RFC 4632).
use Rattle.std.specs.Prelude.{ℕ, ◌-◌, ◌/◌, ◌^◌, ◌==◌, Bool}

-- the bits of an address
abbrev pub address_bits : ℕ
address_bits = 32

-- the length of the prefix inside, where a site translates
abbrev pub translated_bits : ℕ
translated_bits = 24

-- whether an address and `bits` agree in their first `len` bits
abbrev pub in_prefix : ℕ → ℕ → ℕ → Bool
in_prefix bits len address = address / 2 ^ (address_bits - len) == bits / 2 ^ (address_bits - len)

-- IPv4 addresses and prefixes in text: RFC 4632's `A.B.C.D/L`, with numbers as this project writes them, and no bit past a
-- prefix's length set.
use Rattle.std.specs.Prelude.{ℕ, ◌-◌, ◌%◌, ◌^◌, ◌==◌, if◌then◌else◌, List, [], ◌∷◌, Option, None, Some, option_map}
use Rattle.std.specs.Int.{w32, from_be_bytes}
use Rattle.std.specs.Option.{option_map_or}
use Rattle.basics.specs.Options.{◌>>=◌}
use Rattle.basics.specs.Parsing.{parse_number, split_once}
use Rattle.flow_filter.specs.declared.prefix.Prefix.{Prefix}
use Prim.Native.Char.{code}
use Rattle.flow_filter.specs.Prefixes.{address_bits}

-- `A.B.C.D`, each up to 255, as the number of the four bytes
unfoldable pub address_of : List ℕ → Option ℕ
address_of text = do
  first ← split_once (code ".") text
  second ← split_once (code ".") first.1
  third ← split_once (code ".") second.1
  a ← parse_number 255 first.0
  b ← parse_number 255 second.0
  c ← parse_number 255 third.0
  d ← parse_number 255 third.1
  Some (from_be_bytes w32 (a ∷ b ∷ c ∷ d ∷ []))

-- `A.B.C.D/L` with L up to 32, where no bit past the length is set
abbrev pub with_length : List ℕ → List ℕ → Option (ℕ × ℕ)
with_length address len = do
  bits ← address_of address
  most ← parse_number address_bits len
  if bits % 2 ^ (address_bits - most) == 0 then Some (bits, most) else None

-- `A.B.C.D/L`, or `A.B.C.D`, which means `/32`
unfoldable pub prefix_of : List ℕ → Option (ℕ × ℕ)
prefix_of text =
    option_map_or (λ halves. with_length halves.0 halves.1) (split_once (code "/") text) (option_map (λ bits. (bits, address_bits)) (address_of text))

-- the two numbers of a prefix
abbrev pub prefix_numbers : Prefix → ℕ × ℕ
prefix_numbers p = (p.bits, p.len)

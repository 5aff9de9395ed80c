-- The dotted text of an IPv4 address (RFC 791 addresses, written as everywhere).
use Rattle.std.specs.Prelude.{ℕ, ◌/◌, ◌%◌, ◌^◌, ◌++◌, List, codes, decimal}

-- `A.B.C.D`, each byte as a decimal number
unfoldable pub address_text : ℕ → List ℕ
address_text address = let byte : ℕ → List ℕ = λ shift. decimal (address / 2 ^ shift % 256) in
    byte 24 ++ codes "." ++ byte 16 ++ codes "." ++ byte 8 ++ codes "." ++ byte 0

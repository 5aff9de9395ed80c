-- What the ghost field of a site says, where the site translates.
use Rattle.std.proofs.Common.{◌≡◌, ℕ, ◌+◌, ◌-◌, ◌%◌, ◌^◌, ◌<◌, Bool, true, ◌&&◌, Option, None, Some, arith, refl}
use Rattle.std.specs.Option.{ForSome}
use Rattle.flow_filter.specs.FieldSteps.{is_outside_address}

-- a site that maps some packet is a /24
pub is_24 : (outside : Option ℕ) (address len : ℕ) (test : Bool) (Q : ℕ → Type 0)
    → ForSome outside (λ a. (len ≡ 24) × Q a) → (is_outside_address outside address && test) ≡ true → len ≡ 24
is_24 None address len test Q given mapped = cc
is_24 (Some a) address len test Q given mapped = (given a refl).0

-- a byte fits after 24 aligned bits
pub last_byte_fits : (bits len host : ℕ) → len ≡ 24 → bits < 2 ^ 32 → bits % 2 ^ (32 - len) ≡ 0 → host < 256 → bits + host < 2 ^ 32
last_byte_fits bits len host is_len small aligned below =
    let aligned' : bits % 256 ≡ 0 = rw is_len at aligned in omega arith

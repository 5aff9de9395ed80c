-- The work on one packet: rounds that mix the bits of a number. This is the project's own.
use Rattle.std.specs.Prelude.{◌*◌, ◌/◌, ◌%◌, ◌^◌, ℕ, zero, suc, bit_xor}
use Rattle.speed_core.specs.declared.work.TheConstants.{UPPER, FACTOR}

-- so many rounds of work: each mixes the upper half of the bits into the lower, and multiplies
unfoldable pub scrambled : ℕ → ℕ → ℕ
scrambled zero value = value
scrambled (suc rounds) value =
    bit_xor (scrambled rounds value) (scrambled rounds value / UPPER) * FACTOR % 2 ^ 64

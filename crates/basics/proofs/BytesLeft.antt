-- The bytes that are left to parse, as the measure of a loop over pieces.
use Rattle.std.proofs.Common.{ℕ, ◌+◌, List, length, Option, None, Some}

-- the bytes that are left, and one for a text that is there
abbrev pub bytes_left : Option (List ℕ) → ℕ
bytes_left None = 0
bytes_left (Some text) = length text + 1

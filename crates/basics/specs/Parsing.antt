-- Numbers in text, and texts in pieces. This project's own grammar: numbers are decimal without leading zeros.
use Rattle.std.specs.Prelude.{ℕ, ◌&&◌, ◌==◌, nat_le, if◌then◌else◌, List, [], ◌∷◌, Option, None, Some, option_map}
use Rattle.std.specs.List.{slice_split}
use Rattle.std.specs.Str.{bytes_eq}
use Rattle.std.specs.Str.Parse.{digits_value}
use Rattle.std.specs.Fmt.{decimal}

-- a decimal number without leading zeros, up to `most`
unfoldable pub parse_number : ℕ → List ℕ → Option ℕ
parse_number most text = let n = digits_value 10 text in if bytes_eq text (decimal n) && nat_le n most then Some n else None

-- what stands before the first separator, and what stands after it
abbrev pub split_once : ℕ → List ℕ → Option (List ℕ × List ℕ)
split_once separator [] = None
split_once separator (byte ∷ more) = if byte == separator then Some ([], more) else option_map (λ p. (byte ∷ p.0, p.1)) (split_once separator more)

-- the pieces of a text between the marks, or none where nothing is left
abbrev pub remaining_pieces : ℕ → Option (List ℕ) → List (List ℕ)
remaining_pieces separator None = []
remaining_pieces separator (Some text) = slice_split (λ b. b == separator) text

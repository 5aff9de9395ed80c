-- Numbers in stored bytes: big-endian, each of a fixed number of bytes. The formats of this project are made of them; they are its own.
use Rattle.std.specs.Prelude.{ℕ, zero, suc, ◌<◌, nat_le, nat_lt, if◌then◌else◌, List, [], ◌∷◌, length, drop, slice_index, Option, None, Some}
use Rattle.basics.specs.Options.{◌>>=◌}
use Rattle.byteorder.specs.Endian.{big_bytes, big_number}

-- the list is of bytes
abbrev pub IsBytes : List ℕ → Type 0
IsBytes bytes = (i : ℕ) → slice_index bytes i < 256

-- the version of a record's bytes, and that of one that holds a time
abbrev pub plain_version : ℕ
plain_version = 1

abbrev pub timed_version : ℕ
timed_version = 2

-- a number in n bytes
unfoldable pub number_bytes : ℕ → ℕ → List ℕ
number_bytes n x = big_bytes n x

-- the first byte, and those after it
abbrev pub first_byte : List ℕ → Option (ℕ × List ℕ)
first_byte [] = None
first_byte (byte ∷ more) = Some (byte, more)

-- the number in the first n bytes, and the bytes after them
unfoldable pub first_number : ℕ → List ℕ → Option (ℕ × List ℕ)
first_number n bytes = if nat_lt (length bytes) n then None else Some (big_number n bytes, drop n bytes)

-- a number that was read, where it is no more than that
abbrev pub at_most : ℕ → ℕ × List ℕ → Option (ℕ × List ℕ)
at_most most read = if nat_le read.0 most then Some read else None

-- as many items, each as `first` reads it, and the bytes after them
unfoldable pub first_items : {X : Type 0} → (List ℕ → Option (X × List ℕ)) → ℕ → List ℕ → Option (List X × List ℕ)
first_items first zero bytes = Some ([], bytes)
first_items first (suc n) bytes = do
  item ← first bytes
  more ← first_items first n item.1
  Some (item.0 ∷ more.0, more.1)

-- what was read, where no bytes come after it
abbrev pub at_end : {X : Type 0} → X × List ℕ → Option X
at_end (x, []) = Some x
at_end (x, byte ∷ more) = None

-- Steps between code and definition, which nobody has to believe: what is taken from a source in several reads. Each definition speaks
-- where the bytes are told. This project's own.
use Rattle.std.specs.Prelude.{◌≡◌, ℕ, min, nat_le, Bool, true, false, List, [], length, take, drop, Option, Some}
use Rattle.std.specs.Option.{ForSome}

-- the front of a buffer holds the next n bytes, as many as fit or as are left
abbrev pub Fills : Option (List ℕ) → Option (List ℕ) → List ℕ → ℕ → Type 0
Fills old new buf n =
    ForSome old (λ bytes. (n ≡ min (length buf) (length bytes)) × (take n buf ≡ take n bytes) × (new ≡ Some (drop n bytes)))

-- the next n bytes are gone, as many as were asked for or as were left
abbrev pub Skips : Option (List ℕ) → Option (List ℕ) → ℕ → ℕ → Type 0
Skips old new count n = ForSome old (λ bytes. (n ≡ min count (length bytes)) × (new ≡ Some (drop n bytes)))

-- how many bytes a record has, and the first of them
pub record Body : Type 0 where
  pub front : List ℕ
  pub len : ℕ

abbrev pub body : List ℕ → ℕ → Body
body front len = record { front = front; len = len }

-- a body was there and is gone, and its front is in a buffer; or nothing is left
abbrev pub BodyTaken : List ℕ → Option (List ℕ) → Body → Bool → Type 0
BodyTaken bytes new b true = (b.front ≡ take (length b.front) bytes) × (new ≡ Some (drop b.len bytes))
BodyTaken bytes new b false = new ≡ Some []

-- a body was taken exactly where there were as many bytes
abbrev pub TakesBody : Option (List ℕ) → Option (List ℕ) → Body → Bool → Type 0
TakesBody old new b whole = ForSome old (λ bytes. (whole ≡ nat_le b.len (length bytes)) × BodyTaken bytes new b whole)

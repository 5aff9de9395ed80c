-- Stores of parcels: for each operation the list of its parcels, in the order in which they came.
-- This project's own.
use Rattle.std.specs.Prelude.{ℕ, List, [], ◌∷◌, Option, None, Some, unwrap_or}
use Rattle.std.specs.Ordering.{nat_cmp}
use Rattle.std.specs.FinMap as map

module _ {P : Type 0} where
  -- the parcels of an operation: none where it isn't noted
  abbrev pub stored_of : map.FinMap nat_cmp (List P) → ℕ → List P
  stored_of store op = unwrap_or (map.get store op) []

  -- the store with these parcels for an operation, which isn't noted where there are none
  abbrev pub with_parcels : map.FinMap nat_cmp (List P) → ℕ → List P → map.FinMap nat_cmp (List P)
  with_parcels store op [] = map.remove store op
  with_parcels store op (parcel ∷ parcels) = map.insert store op (parcel ∷ parcels)

  -- a store in which the parcels of an operation change, or stay
  abbrev pub store_after : map.FinMap nat_cmp (List P) → ℕ → Option (List P) → map.FinMap nat_cmp (List P)
  store_after store op None = store
  store_after store op (Some parcels) = with_parcels store op parcels

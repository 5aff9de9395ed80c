-- Steps between code and definition, which nobody has to believe: the queues that a store keeps in memory.
use Rattle.std.specs.Prelude.{ℕ, List, [], ◌∷◌, unwrap_or}
use Rattle.std.specs.Ordering.{nat_cmp}
use Rattle.std.specs.FinMap as map
use Rattle.std.specs.BTreeMap.{BTreeMap, get}
use Rattle.event_store.specs.Store.{with_parcels}

module _ {P : Type 0} where
  -- the parcels in an operation's queue: none where it has no queue
  abbrev pub queued : BTreeMap ℕ (List P) → ℕ → List P
  queued queues op = unwrap_or (get nat_cmp queues op) []

  -- the store of a list of queues
  abbrev pub store_of : List (ℕ × List P) → map.FinMap nat_cmp (List P)
  store_of [] = map.empty
  store_of (queue ∷ queues) = with_parcels (store_of queues) queue.0 queue.1

-- Each slot so far is taken, and no number that stands in one for the key's hash is that of an entry with the key.
use Rattle.std.proofs.Common.{◌≡◌, ℕ, false, ◌<◌}
use Rattle.unit_map.specs.Notes.{probed_slot, slot_of, has_key}
use Rattle.unit_map.proofs.index.Index.find_by_hash.Given as goal

abbrev pub invariant-loop-step : goal.invariant-loop-step
invariant-loop-step g l = record {
  taken : (m : ℕ) → m < l.step → 0 < (probed_slot l.self l.hash m).number;
  others : (m n : ℕ) → m < l.step → probed_slot l.self l.hash m ≡ slot_of l.hash n → has_key g.K.PartialEq.eq l.entries n l.key ≡ false;
}

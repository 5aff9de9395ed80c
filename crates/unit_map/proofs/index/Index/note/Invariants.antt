-- Nothing is noted yet, and each slot so far is taken.
use Rattle.std.proofs.Common.{◌≡◌, ℕ, ◌<◌}
use Rattle.unit_map.specs.Notes.{probed_slot}
use Rattle.unit_map.proofs.index.Index.note.Given as goal

abbrev pub invariant-loop-step : goal.invariant-loop-step
invariant-loop-step g l = record {
  slots : l.self.slots ≡ l.fn.self.slots;
  spill : l.self.spill ≡ l.fn.self.spill;
  taken : (m : ℕ) → m < l.step → 0 < (probed_slot l.fn.self l.hash m).number;
}

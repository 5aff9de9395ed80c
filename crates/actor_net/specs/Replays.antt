-- How choices are replayed, and what the first choice that isn't enabled means. This is the project's own.
use Rattle.std.specs.Prelude.{◌≡◌, ℕ, Bool, false, Option, None, Some, Result, Ok, Err, List, slice_get, take}
use Rattle.actor_net.specs.declared.choice.Choice.{Choice}
use Rattle.actor_net.specs.declared.replays.ReplayFault.{ReplayFault}
use Rattle.actor_net.specs.declared.replays.ReplayFault.TheVariants.{NotEnabled}
use Rattle.actor_net.specs.Network.{Network, Stepped, is_enabled, run, IsRun, fault_from}

-- the world, or the place of the choice that isn't enabled
abbrev pub world_or_fault : {A M N : Type 0} → Option ℕ → Network A M N → Result (Network A M N) ReplayFault
world_or_fault None w = Ok w
world_or_fault (Some index) w = Err (NotEnabled index)

-- what a replay gives: the world after the choices, or the place of the first of them that isn't enabled in its turn
abbrev pub replay_of : {A M N : Type 0} → (A → M → Bool) → (A → ℕ → M → Stepped A M N) → List Choice → Network A M N → Result (Network A M N) ReplayFault
replay_of ready step cs w = world_or_fault (fault_from ready step 0 cs w) (run step cs w)

-- a place among choices, from 0
pub record ChoicePlace : Type 0 where
  pub choices : List Choice
  pub index : ℕ

-- the choice at a place is the first that isn't enabled in its turn: those before it are a run, and it isn't enabled after them
pub record FirstFault {A M N : Type 0} (ready : A → M → Bool) (step : A → ℕ → M → Stepped A M N) (at : ChoicePlace) (w : Network A M N) : Type 0 where
  pub choice : Choice
  pub there : slice_get at.choices at.index ≡ Some choice
  pub is_run : IsRun ready step (take at.index at.choices) w
  pub refused : is_enabled ready (run step (take at.index at.choices) w) choice ≡ false

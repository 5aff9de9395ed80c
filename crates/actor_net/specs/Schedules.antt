-- Schedules: which of the enabled choices is taken next. The words of a numbered schedule are those of the generator
-- SplitMix64 (Steele, Lea and Flood), whose state is the number itself. The rest is the project's own.
use Rattle.std.specs.Prelude.{◌≡◌, ◌⊎◌, ℕ, zero, suc, ◌-◌, ◌%◌, Bool, false, if◌then◌else◌, Option, None, Some, List, [], ◌∷◌, ◌++◌, length, slice_get}
use Rattle.rand_xoshiro.specs.SplitMix64.{mix_u64, next_state}
use Rattle.actor_net.specs.declared.choice.Choice.{Choice}
use Rattle.actor_net.specs.declared.schedule.TheConstants.{MOST_CHOICES}
use Rattle.actor_net.specs.declared.schedule.Schedule.{Schedule}
use Rattle.actor_net.specs.declared.schedule.Schedule.TheVariants.{First, Last, Number}
use Rattle.actor_net.specs.declared.schedule.Picker.{Picker}
use Rattle.actor_net.specs.declared.schedule.Picker.TheVariants.{First as First', Last as Last', Word}
use Rattle.actor_net.specs.Network.{Network, Stepped, is_enabled, world_next, is_done}

-- the enabled ones of a node's ports below p, in order
abbrev pub ports_below : {A M N : Type 0} → (A → M → Bool) → Network A M N → ℕ → ℕ → List Choice
ports_below ready w node zero = []
ports_below ready w node (suc p) =
    ports_below ready w node p
    ++ (if is_enabled ready w (record { node = node; port = p }) then record { node = node; port = p } ∷ [] else [])

-- the enabled choices of the nodes below k, in order of (node, port)
abbrev pub nodes_below : {A M N : Type 0} → (A → M → Bool) → Network A M N → ℕ → List Choice
nodes_below ready w zero = []
nodes_below ready w (suc k) = nodes_below ready w k ++ ports_below ready w k (length w.nodes)

-- the enabled choices of a world, in order of (node, port)
abbrev pub enabled_choices : {A M N : Type 0} → (A → M → Bool) → Network A M N → List Choice
enabled_choices ready w = nodes_below ready w (length w.nodes)

-- the place, from 0, of the choice that a schedule takes of so many
abbrev pub place_in : Schedule → ℕ → ℕ
place_in First count = 0
place_in Last count = count - 1
place_in (Number state) count = (mix_u64 state).0 % count

-- the schedule from the next step on: a numbered one has drawn a word
abbrev pub later : Schedule → Schedule
later First = First
later Last = Last
later (Number state) = Number (next_state state)

-- the choice that a schedule takes in a world
abbrev pub pick_of : {A M N : Type 0} → (A → M → Bool) → Schedule → Network A M N → Option Choice
pick_of ready schedule w =
    slice_get (enabled_choices ready w) (place_in schedule (length (enabled_choices ready w)))

-- a choice and those after it, or none
abbrev pub taken_then : Option Choice → (Choice → List Choice) → List Choice
taken_then None rest = []
taken_then (Some c) rest = c ∷ rest c

-- the choices that a schedule takes from a world: until it is complete, no choice is enabled, or so many are taken
unfoldable pub scheduled : {A M N : Type 0} → (A → M → Bool) → (A → Bool) → (A → ℕ → M → Stepped A M N) → ℕ → Schedule → Network A M N → List Choice
scheduled ready ended step zero schedule w = []
scheduled ready ended step (suc most) schedule w =
    if is_done ended w
    then []
    else taken_then (pick_of ready schedule w) (λ c. scheduled ready ended step most (later schedule) (world_next step w c))

-- a schedule that stops short after so many choices: the world there isn't complete, and no choice is enabled or no more may
-- be taken
pub record StopsShort {A M N : Type 0} (ready : A → M → Bool) (ended : A → Bool) (w : Network A M N) (count : ℕ) : Type 0 where
  pub incomplete : is_done ended w ≡ false
  pub stuck : (enabled_choices ready w ≡ []) ⊎ (count ≡ MOST_CHOICES)

-- the schedule that a running one stands for
abbrev pub schedule_of : Picker → Schedule
schedule_of First' = First
schedule_of Last' = Last
schedule_of (Word state) = Number state

-- The world in which an instance fails after the first so many of some choices, and why there is none. This project's own.
use Rattle.std.specs.Prelude.{◌≡◌, ◌⊎◌, ◌+◌, ◌≤◌, ◌<◌, ℕ, List, length, take}
use Rattle.nf_function.specs.Semantics.{Semantics}
use Rattle.nf_msgs.specs.declared.msg.Msg.{Msg}
use Rattle.nf_msgs.specs.declared.note.Note.{Note}
use Rattle.actor_net.specs.declared.choice.Choice.{Choice}
use Rattle.actor_net.specs.Network.{Network, IsRun, run}
use Rattle.net_world.specs.declared.node.Node.{Node}
use Rattle.net_world.specs.Nodes.{node_step, node_ready}
use Rattle.nf_net.specs.Courses.{IsRefusedAt}

-- the first so many of some choices
pub record FirstChoices : Type 0 where
  pub all : List Choice
  pub count : ℕ

abbrev pub first_of : List Choice → ℕ → FirstChoices
first_of choices count = record { all = choices; count = count }

abbrev pub taken_among : FirstChoices → List Choice
taken_among first = take first.count first.all

module _ {F R : Type 0} (f : Semantics R) (start : Network (Node F R) Msg Note) (first : FirstChoices) where
  -- the world after them
  abbrev pub world_after : Network (Node F R) Msg Note
  world_after = run (node_step f) (taken_among first) start

  -- so many there are, and they are a run
  pub record IsReached : Type 0 where
    pub enough : first.count ≤ length first.all
    pub is_run : IsRun node_ready (node_step f) (taken_among first) start

  -- there are fewer: all choices are a run, and this would be the step after the last
  pub record AreTooFew (step : ℕ) : Type 0 where
    pub is_run : IsRun node_ready (node_step f) first.all start
    pub few : length first.all < first.count
    pub counted : step ≡ length first.all + 1

  -- why they lead to no world
  abbrev pub IsFailCause : ℕ → Type 0
  IsFailCause step = IsRefusedAt f start (taken_among first) step ⊎ AreTooFew step

-- What the switch and the controller of a two-phase update hold. This project's own.
use Rattle.std.specs.Prelude.{ℕ, Bool, List, Option}
use Rattle.flow_filter.specs.declared.filter.Filter.{Filter}
use Rattle.flow_filter.specs.declared.site.Site.{Site}
use Rattle.nf_function.specs.declared.chunk.Chunk.{Chunk}
use Rattle.switch_rules.specs.Rules.{Rule}
use Rattle.packet_pool.specs.Pool.{FullCell}
use Rattle.packet_window.specs.Window.{WindowState}
use Rattle.two_phase.specs.declared.phase.Phase.{Phase}

-- the switch: its rules, its window, and the filter of the update
pub record SwitchState : Type 0 where
  pub rules : List Rule
  pub window : WindowState
  pub site : Site
  pub filter : Filter

-- the controller: the packets that it stores, and the chunks on their way from the source to the destination; the numbers of the last packet
-- that was copied and of the latest that was seen; whether the input has ended, whether the source is to stop, and whether the destination has
pub record ControllerState : Type 0 where
  pub phase : Phase
  pub filter : Filter
  pub store : List FullCell
  pub kept : List Chunk
  pub last : Option ℕ
  pub seen : Option ℕ
  pub ended : Bool
  pub finished : Bool
  pub stopped : Bool

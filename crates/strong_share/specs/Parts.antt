-- What the nodes of strong sharing hold. This project's own.
use Rattle.std.specs.Prelude.{ℕ, List}
use Rattle.flow_filter.specs.declared.filter.Filter.{Filter}
use Rattle.flow_filter.specs.declared.site.Site.{Site}
use Rattle.packet_window.specs.Window.{WindowState}
use Rattle.strong_share.specs.declared.queued_packet.QueuedPacket.{QueuedPacket}
use Rattle.strong_share.specs.declared.serving.Serving.{Serving}

-- the switch: its window, and the members that share the units of the filter
pub record SwitchState : Type 0 where
  pub window : WindowState
  pub site : Site
  pub filter : Filter
  pub members : ℕ

-- the controller: the packets that wait, each with the member that raised it; where the one that is served is; and how many members have stopped
pub record ControllerState : Type 0 where
  pub members : ℕ
  pub queue : List QueuedPacket
  pub serving : Serving
  pub finals : ℕ

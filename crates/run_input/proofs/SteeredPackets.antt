-- Packets of TCP and UDP whose numbers are in range are steered.
use Rattle.std.proofs.Common.{◌≡◌, ◌<◌, ◌^◌, true, List}
use Rattle.std.specs.Prelude.{All}
use Rattle.flow_filter.specs.declared.packet.Packet.{Packet}
use Rattle.flow_filter.specs.declared.site.Site.{Site}
use Rattle.nf_function.specs.Units.{is_transport}
use Rattle.flow_filter.specs.Packet.{IsInRange}
use Rattle.op_script.proofs.RangedPackets.{fits_site, flow_fits}
use Rattle.net_world.specs.Input.{IsSteered}

pub are_steered : (site : Site) (ps : List Packet) → site.inside.bits < 2 ^ 32
    → All (λ (p : Packet). is_transport p.proto ≡ true) ps → All IsInRange ps → All (IsSteered site) ps
are_steered site ps inside transport ranges i d below = record {
  fits = fits_site site _ inside (transport i d below) (ranges i d below);
  flow = flow_fits site _ inside (ranges i d below);
}

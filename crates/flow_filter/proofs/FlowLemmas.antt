-- What holds of every flow.
use Rattle.std.proofs.Common.{◌≡◌, ℕ, Bool, true, false, cond}
use Rattle.flow_filter.specs.declared.packet.Packet.{Packet}
use Rattle.flow_filter.specs.declared.site.Site.{Site}
use Rattle.flow_filter.specs.declared.flow.Flow.{Flow}
use Rattle.flow_filter.specs.declared.flow.Direction.{Direction}
use Rattle.flow_filter.specs.Flow.{flow_of}

-- whichever of two flows is chosen, it has the protocol of both
pub proto-cond : (test : Bool) (a b : Flow × Direction) (proto : ℕ) → a.0.proto ≡ proto → b.0.proto ≡ proto → (cond test a b).0.proto ≡ proto
proto-cond true a b proto first second = first
proto-cond false a b proto first second = second

-- a packet's flow has the packet's protocol
pub proto-flow_of : (site : Site) (p : Packet) → (flow_of site p).0.proto ≡ p.proto
unfolding flow_of
proto-flow_of site p = search proto-cond

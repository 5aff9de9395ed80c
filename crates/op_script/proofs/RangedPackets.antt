-- What is known of a packet whose numbers are in range: at a site it fits its types, and so does its flow.
use Rattle.op_script.proofs.Words.{◌≡◌, ◌-◌, ◌<◌, ◌^◌, Bool, true, false, not, ◌&&◌, cond, leb, refl, arith, and_parts, Packet, IsInRange}
use Rattle.std.proofs.Common.{◌/◌}
use Rattle.flow_filter.specs.declared.site.Site.{Site}
use Rattle.flow_filter.specs.declared.flow.Flow.{Flow}
use Rattle.flow_filter.specs.declared.flow.Direction.{Direction}
use Rattle.flow_filter.specs.Filter.{IsFlow}
use Rattle.flow_filter.specs.declared.flow.Direction.TheVariants.{Out, In}
use Rattle.flow_filter.specs.Flow.{flow_of, inward, is_inside, is_mapped, outward}
use Rattle.flow_filter.specs.FieldSteps.{is_source_first, owner_of_port}
use Rattle.flow_filter.proofs.SiteLemmas.{is_24, last_byte_fits}
use Rattle.nf_function.specs.Records.{Fits}
use Rattle.nf_function.specs.Units.{is_transport}

pub fits_site : (site : Site) (p : Packet) → site.inside.bits < 2 ^ 32 → is_transport p.proto ≡ true → IsInRange p → Fits site p
fits_site site p inside transport ranges = record {
  transport = transport;
  nanos = ranges.nanos;
  length = ranges.length;
  src = ranges.src;
  sport = ranges.sport;
  dst = ranges.dst;
  dport = ranges.dport;
  inside = inside;
}

-- whichever of two flows is chosen
chosen : (test : Bool) (a b : Flow × Direction) → (test ≡ true → IsFlow a.0) → IsFlow b.0 → IsFlow (cond test a b).0
chosen true a b first second = first refl
chosen false a b first second = second

outward_fits : (p : Packet) → IsInRange p → IsFlow (outward p)
outward_fits p ranges = record { proto = ranges.proto; local = ranges.src; lport = ranges.sport; remote = ranges.dst; rport = ranges.dport }

inward_fits : (p : Packet) → IsInRange p → IsFlow (inward p)
inward_fits p ranges = record { proto = ranges.proto; local = ranges.dst; lport = ranges.dport; remote = ranges.src; rport = ranges.sport }

-- an inside host that owns the packet's destination port
abbrev mapped_flow : Site → Packet → Flow
mapped_flow site p = record (inward p) { local = owner_of_port site p.dport }

abbrev is_from_outside : Site → Packet → Bool
is_from_outside site p = not (is_inside site p.src) && not (is_inside site p.dst)

mapped_fits : (site : Site) (p : Packet) → site.inside.bits < 2 ^ 32 → IsInRange p → (is_from_outside site p && is_mapped site p) ≡ true
    → IsFlow (mapped_flow site p)
mapped_fits site p inside ranges mapped =
    let here = (and_parts (is_from_outside site p) (is_mapped site p) mapped).1 in
    let is_len : site.inside.len ≡ 24 = is_24 site.outside p.dst site.inside.len (leb 1024 p.dport) _ site.translates here in
    let port = ranges.dport in
    record {
      proto = ranges.proto;
      local = last_byte_fits site.inside.bits site.inside.len ((p.dport - 1024) / 252) is_len inside site.inside.aligned (omega arith);
      lport = ranges.dport;
      remote = ranges.src;
      rport = ranges.sport;
    }

-- the cases of a packet's flow, from the last on
abbrev by_source : Packet → Flow × Direction
by_source p = cond (is_source_first p) (outward p, Out) (inward p, In)

abbrev by_port : Site → Packet → Flow × Direction
by_port site p = cond (is_from_outside site p && is_mapped site p) (mapped_flow site p, In) (by_source p)

abbrev by_destination : Site → Packet → Flow × Direction
by_destination site p = cond (is_inside site p.dst && not (is_inside site p.src)) (inward p, In) (by_port site p)

-- the packet's flow
pub flow_fits : (site : Site) (p : Packet) → site.inside.bits < 2 ^ 32 → IsInRange p → IsFlow (flow_of site p).0
unfolding flow_of
flow_fits site p inside ranges =
    let out = outward_fits p ranges in
    let back = inward_fits p ranges in
    chosen (is_inside site p.src && not (is_inside site p.dst)) (outward p, Out) (by_destination site p) (λ _. out)
    (chosen (is_inside site p.dst && not (is_inside site p.src)) (inward p, In) (by_port site p) (λ _. back)
    (chosen (is_from_outside site p && is_mapped site p) (mapped_flow site p, In) (by_source p) (mapped_fits site p inside ranges)
    (chosen (is_source_first p) (outward p, Out) (inward p, In) (λ _. out) back)))

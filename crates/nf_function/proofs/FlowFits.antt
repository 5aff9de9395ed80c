-- The flow of a packet whose numbers are within their types is one that functions may have records for.
use Rattle.std.proofs.Common.{◌≡◌, ◌<◌, ◌-◌, ◌/◌, ◌^◌, ◌&&◌, Bool, true, false, cond, not, nat_lt, nat_le, refl, arith}
use Rattle.std.proofs.lemmas.Bool.Decides.{nat_tests}
use Rattle.std.proofs.lemmas.Bool.{and_parts}
use Rattle.flow_filter.specs.declared.packet.Packet.{Packet}
use Rattle.flow_filter.specs.declared.site.Site.{Site}
use Rattle.flow_filter.specs.declared.flow.Flow.{Flow}
use Rattle.flow_filter.specs.declared.flow.Direction.{Direction}
use Rattle.flow_filter.specs.declared.flow.Direction.TheVariants.{Out, In}
use Rattle.flow_filter.specs.Filter.{IsFlow}
use Rattle.flow_filter.specs.Flow.{flow_of, is_inside, is_mapped, inward, outward}
use Rattle.flow_filter.specs.FieldSteps.{is_source_first, owner_of_port}
use Rattle.flow_filter.proofs.FieldTests.{FieldTests, all_from}
use Rattle.flow_filter.proofs.FlowLemmas.{proto-flow_of}
use Rattle.flow_filter.proofs.SiteLemmas.{is_24, last_byte_fits}
use Rattle.nf_function.specs.Units.{is_transport, is_transport_flow}
use Rattle.nf_function.specs.Records.{Fits}

IsFlow-cond : (test : Bool) (a b : Flow × Direction) → (test ≡ true → IsFlow a.0) → IsFlow b.0 → IsFlow (cond test a b).0
IsFlow-cond true a b first second = first refl
IsFlow-cond false a b first second = second

module _ (site : Site) (p : Packet) (fits : Fits site p) where
  proto_fits : p.proto < 2 ^ 8
  proto_fits = let known = fits.transport in grind (arith, nat_tests)

  outward_fits : IsFlow (outward p)
  outward_fits = record { proto = proto_fits; local = fits.src; lport = fits.sport; remote = fits.dst; rport = fits.dport }

  inward_fits : IsFlow (inward p)
  inward_fits = record { proto = proto_fits; local = fits.dst; lport = fits.dport; remote = fits.src; rport = fits.sport }

  owner_fits : is_mapped site p ≡ true → owner_of_port site p.dport < 2 ^ 32
  owner_fits mapped =
      let is_len = is_24 site.outside p.dst site.inside.len (nat_le 1024 p.dport) _ site.translates mapped in
      let port : p.dport < 2 ^ 16 = fits.dport in
      last_byte_fits site.inside.bits site.inside.len ((p.dport - 1024) / 252) is_len fits.inside site.inside.aligned (omega arith)

  mapped_fits : is_mapped site p ≡ true → IsFlow (record (inward p) { local = owner_of_port site p.dport })
  mapped_fits mapped = record { proto = proto_fits; local = owner_fits mapped; lport = fits.dport; remote = fits.src; rport = fits.sport }

  pub flow_fits : IsFlow (flow_of site p).0
  unfolding flow_of
  flow_fits =
      IsFlow-cond (is_inside site p.src && not (is_inside site p.dst)) (outward p, Out) _ (λ _. outward_fits)
      (IsFlow-cond (is_inside site p.dst && not (is_inside site p.src)) (inward p, In) _ (λ _. inward_fits)
      (IsFlow-cond (not (is_inside site p.src) && not (is_inside site p.dst) && is_mapped site p)
      (record (inward p) { local = owner_of_port site p.dport }, In) _
      (λ h. mapped_fits (and_parts (not (is_inside site p.src) && not (is_inside site p.dst)) (is_mapped site p) h).1)
      (IsFlow-cond (is_source_first p) (outward p, Out) (inward p, In) (λ _. outward_fits) inward_fits)))

-- the tests of a flow of TCP or UDP, field by field
abbrev pub transport_tests : Flow → FieldTests
transport_tests flow = record {
  proto = is_transport flow.proto;
  local = nat_lt flow.local (2 ^ 32);
  lport = nat_lt flow.lport (2 ^ 16);
  remote = nat_lt flow.remote (2 ^ 32);
  rport = nat_lt flow.rport (2 ^ 16);
}

-- a flow of TCP or UDP whose numbers are within their types
pub is_transport_flow-from : (flow : Flow) → is_transport flow.proto ≡ true → IsFlow flow → is_transport_flow flow ≡ true
is_transport_flow-from flow transport fits = all_from (transport_tests flow) (record {
  proto = transport;
  local = let h = fits.local in grind (arith, nat_tests);
  lport = let h = fits.lport in grind (arith, nat_tests);
  remote = let h = fits.remote in grind (arith, nat_tests);
  rport = let h = fits.rport in grind (arith, nat_tests);
})

-- the flow of a packet of TCP or UDP is of that protocol, and each of its numbers is within its type
pub transport_flow : (site : Site) (p : Packet) → Fits site p → is_transport_flow (flow_of site p).0 ≡ true
transport_flow site p fits =
    let proto = proto-flow_of site p in
    is_transport_flow-from (flow_of site p).0 (rw proto fits.transport) (flow_fits site p fits)

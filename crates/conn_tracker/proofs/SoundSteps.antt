-- What the code knows of a record that it makes is what makes it valid for its flow.
use Rattle.std.proofs.Common.{◌≡◌, ◌≤◌, ◌^◌, ℕ, Bool, true, false, not, cond, refl, nat_le, nat_lt, arith}
use Rattle.std.proofs.lemmas.Bool.Decides.{nat_tests}
use Rattle.std.proofs.lemmas.Bool.{and_from}
use Rattle.flow_filter.specs.declared.flow.Flow.{Flow}
use Rattle.nf_function.specs.declared.unit.Unit.TheVariants.{Flow as OfFlow}
use Rattle.nf_function.specs.Units.{is_tcp, is_transport, is_transport_flow}
use Rattle.conn_tracker.specs.declared.record.TrackRecord.{TrackRecord}
use Rattle.conn_tracker.specs.Table.{is_udp_state, IsTrackRecord}
use Rattle.conn_tracker.specs.Body.{is_valid, is_within, suits}
use Rattle.conn_tracker.specs.BodyLemmas.{valid_facts}

suits_from : (tcp udp : Bool) → udp ≡ not tcp → cond tcp (not udp) udp ≡ true
suits_from true udp h = rw h refl
suits_from false udp h = h

suits_to : (tcp udp : Bool) → cond tcp (not udp) udp ≡ true → udp ≡ not tcp
suits_to true true h = cc
suits_to true false h = refl
suits_to false udp h = h

-- the numbers of a flow are within their types
pub known_flow : (f : Flow) → is_transport f.proto ≡ true → nat_lt f.local (2 ^ 32) ≡ true → nat_lt f.lport (2 ^ 16) ≡ true
    → nat_lt f.remote (2 ^ 32) ≡ true → nat_lt f.rport (2 ^ 16) ≡ true → is_transport_flow f ≡ true
known_flow f proto local lport remote rport =
    and_from _ _ (and_from _ _ (and_from _ _ (and_from _ _ proto local) lport) remote) rport

pub valid_record : (f : Flow) (proto : ℕ) (r : TrackRecord) → is_transport_flow f ≡ true → f.proto ≡ proto → IsTrackRecord proto r → is_within r ≡ true
    → is_valid (OfFlow f) r ≡ true
valid_record f proto r flow same fits within =
    let counted : 1 ≤ r.packets = fits.counted in
    let one : nat_le 1 r.packets ≡ true = grind (arith, nat_tests) in
    let suited : suits f.proto r.state ≡ true = rw same (suits_from (is_tcp proto) (is_udp_state r.state) fits.fits) in
    and_from _ _ (and_from _ _ (and_from _ _ flow one) suited) within

pub record_fits : (f : Flow) (proto : ℕ) (r : TrackRecord) → is_valid (OfFlow f) r ≡ true → f.proto ≡ proto → IsTrackRecord proto r
record_fits f proto r valid same =
    let facts = valid_facts f r valid in
    let suited : suits proto r.state ≡ true = rw (← same) facts.fits in
    record { counted = facts.counted; fits = suits_to (is_tcp proto) (is_udp_state r.state) suited }

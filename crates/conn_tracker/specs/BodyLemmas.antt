-- Steps between code and definition, which nobody has to believe: what a tracker's record is stored as is read again, and only that. It
-- stands in specs/ since the laws of a trait may cite nothing else.
use Rattle.std.proofs.Common.{◌≡◌, ◌∙◌, ◌<◌, ◌≤◌, ◌^◌, ◌&&◌, ℕ, true, List, [], ◌∷◌, length, Some, refl, ap, arith, nat_lt, nat_le}
use Rattle.std.proofs.lemmas.Option.{option_and_then_some, same_Some}
use Rattle.std.proofs.lemmas.Bool.{and_parts, and_from, ltb-true, lt-ltb, leb-true, le-leb}
use Rattle.flow_filter.specs.declared.flow.Flow.{Flow}
use Rattle.flow_filter.specs.declared.flow.Direction.{Direction}
use Rattle.flow_filter.specs.declared.flow.Direction.TheVariants.{Out, In}
use Rattle.nf_function.specs.declared.short.ShortBody.{ShortBody}
use Rattle.nf_function.specs.declared.unit.Unit as units
use Rattle.nf_function.specs.declared.unit.Unit.TheVariants.{Flow as OfFlow, Host as OfHost}
use Rattle.nf_function.specs.Short.{short_bytes, short_in}
use Rattle.nf_function.specs.Stored.{IsBytes}
use Rattle.nf_function.specs.declared.kind.Kind.TheVariants.{Conntrack}
use Rattle.nf_function.specs.Units.{is_unit, is_transport_flow}
use Rattle.nf_function.proofs.ShortLemmas.{IsWithin, short_in-short_bytes, short_bytes-short_in, length-short_bytes}
use Rattle.nf_function.proofs.StoredRecords.{IsStored, number_at}
use Rattle.conn_tracker.specs.declared.record.TrackRecord.{TrackRecord}
use Rattle.conn_tracker.specs.declared.state.State.{State}
use Rattle.conn_tracker.specs.declared.state.State.TheVariants.{Opening}
use Rattle.conn_tracker.specs.Table.{state_number}
use Rattle.conn_tracker.specs.States.{all_states, state_of}
use Rattle.conn_tracker.specs.Body.{direction_number, direction_of, suits, is_within, is_valid, numbers_of, body_of, record_named, spelled}
use Rattle.conn_tracker.specs.Conntrack.{conntrack}

-- what is true of a record that is valid for a flow
pub record IsValid (f : Flow) (r : TrackRecord) : Type 0 where
  pub flow : is_transport_flow f ≡ true
  pub counted : 1 ≤ r.packets
  pub fits : suits f.proto r.state ≡ true
  pub packets : r.packets < 2 ^ 64
  pub bytes : r.bytes < 2 ^ 64
  pub seen : r.seen < 2 ^ 64

pub valid_facts : (flow : Flow) (r : TrackRecord) → is_valid (OfFlow flow) r ≡ true → IsValid flow r
valid_facts flow r h =
    let four = and_parts (is_transport_flow flow && nat_le 1 r.packets && suits flow.proto r.state) (is_within r) h in
    let three = and_parts (is_transport_flow flow && nat_le 1 r.packets) (suits flow.proto r.state) four.0 in
    let two = and_parts (is_transport_flow flow) (nat_le 1 r.packets) three.0 in
    let numbers = and_parts (nat_lt r.packets (2 ^ 64) && nat_lt r.bytes (2 ^ 64)) (nat_lt r.seen (2 ^ 64)) four.1 in
    let counts = and_parts (nat_lt r.packets (2 ^ 64)) (nat_lt r.bytes (2 ^ 64)) numbers.0 in
    record {
      flow = two.0;
      counted = leb-true 1 r.packets two.1;
      fits = three.1;
      packets = ltb-true r.packets (2 ^ 64) counts.0;
      bytes = ltb-true r.bytes (2 ^ 64) counts.1;
      seen = ltb-true r.seen (2 ^ 64) numbers.1;
    }

pub valid_from : (flow : Flow) (r : TrackRecord) → IsValid flow r → is_valid (OfFlow flow) r ≡ true
valid_from flow r v =
    and_from _ _
    (and_from _ _ (and_from _ _ v.flow (le-leb 1 r.packets v.counted)) v.fits)
    (and_from _ _ (and_from _ _ (lt-ltb r.packets (2 ^ 64) v.packets) (lt-ltb r.bytes (2 ^ 64) v.bytes)) (lt-ltb r.seen (2 ^ 64) v.seen))

-- the numbers of a valid record are within their types
within : (u : units.Unit) (r : TrackRecord) → is_valid u r ≡ true → IsWithin (numbers_of r)
within (OfFlow flow) r h = let v = valid_facts flow r h in record { third = v.packets; fourth = v.bytes; last = v.seen }
within (OfHost host) r h = cc

valid_unit : (u : units.Unit) (r : TrackRecord) → is_valid u r ≡ true → is_unit Conntrack u ≡ true
valid_unit (OfFlow flow) r h = (valid_facts flow r h).flow
valid_unit (OfHost host) r h = cc

-- states and directions are known by their numbers
state_of-state_number : (s : State) → state_of (state_number s) ≡ Some s
state_of-state_number Opening = refl
state_of-state_number s = refl

direction_of-direction_number : (direction : Direction) → direction_of (direction_number direction) ≡ Some direction
direction_of-direction_number Out = refl
direction_of-direction_number In = refl

-- a record is named by its numbers
record_named-numbers_of : (r : TrackRecord) → record_named (numbers_of r) ≡ Some r
record_named-numbers_of r = rw (state_of-state_number r.state, direction_of-direction_number r.opener) refl

-- what numbers name has these numbers
numbers_of-record_named : (b : ShortBody) (r : TrackRecord) → record_named b ≡ Some r → numbers_of r ≡ b
numbers_of-record_named b r h =
    option_and_then_some _ (state_of b.first) r h (λ state is_state h1.
    option_and_then_some _ (direction_of b.second) r h1 (λ opener is_way last.
    rw (
      ← same_Some (record { packets = b.third; bytes = b.fourth; seen = b.last; state = state; opener = opener }) r last,
      number_at state_number all_states b.first state refl is_state,
      number_at direction_number (Out ∷ In ∷ []) b.second opener refl is_way,
    ) refl))

-- a record is read again
spelled-body_of : (r : TrackRecord) → IsWithin (numbers_of r) → spelled (body_of r) ≡ Some r
unfolding body_of
spelled-body_of r w = rw (short_in-short_bytes (numbers_of r) w) (record_named-numbers_of r)

-- the bytes that a record was read from are those that it is stored as
body_of-spelled : (bytes : List ℕ) (r : TrackRecord) → IsBytes bytes → spelled bytes ≡ Some r → body_of r ≡ bytes
unfolding body_of
body_of-spelled bytes r are h =
    option_and_then_some record_named (short_in bytes) r h (λ b read named.
    ap short_bytes (numbers_of-record_named b r named) ∙ short_bytes-short_in bytes b are read)

-- a body is short
length-body_of : (u : units.Unit) (r : TrackRecord) → is_valid u r ≡ true → length (body_of r) < 2 ^ 16
unfolding body_of
length-body_of u r h = let most : length (short_bytes (numbers_of r)) ≤ 26 = length-short_bytes (numbers_of r) in omega arith

pub conntrack_stored : IsStored conntrack
conntrack_stored = record {
  unit = valid_unit;
  again = λ u r h. spelled-body_of r (within u r h);
  own = body_of-spelled;
  short = length-body_of;
}

-- Steps between code and definition, which nobody has to believe: what a step of the tracker keeps of a record, and all laws of the tracker
-- together. It stands in specs/ since the laws of a trait may cite nothing else.
use Rattle.std.proofs.Common.{◌≡◌, ◌<◌, ◌≤◌, ◌^◌, ◌||◌, ℕ, Bool, true, false, cond, not, max, Option, None, Some, refl, sym, ap, subst, arith, nat_le}
use Rattle.std.proofs.lemmas.Bool.Decides.{nat_tests}
use Rattle.std.proofs.lemmas.Bool.{not-true}
use Rattle.std.proofs.Math.Bool.{or-false}
use Rattle.flow_filter.specs.declared.packet.Packet.{Packet}
use Rattle.flow_filter.specs.declared.site.Site.{Site}
use Rattle.flow_filter.specs.declared.flow.Flow.{Flow}
use Rattle.flow_filter.specs.declared.flow.Direction.{Direction}
use Rattle.flow_filter.specs.Flow.{flow_of}
use Rattle.flow_filter.proofs.FlowLemmas.{proto-flow_of}
use Rattle.nf_function.specs.declared.kind.Kind.TheVariants.{Conntrack}
use Rattle.nf_function.specs.declared.unit.Unit.TheVariants.{Flow as OfFlow}
use Rattle.nf_function.specs.Units.{is_tcp, is_transport_flow}
use Rattle.nf_function.specs.Semantics.{count, is_sound, packets_in, unit_at}
use Rattle.nf_function.specs.Records.{Fits, Laws, is_timed_kept}
use Rattle.nf_function.proofs.FlowFits.{transport_flow}
use Rattle.nf_function.proofs.StoredRecords.{laws_of}
use Rattle.conn_tracker.specs.declared.record.TrackRecord.{TrackRecord}
use Rattle.conn_tracker.specs.declared.class.Class.{Class}
use Rattle.conn_tracker.specs.declared.class.Class.TheVariants.{Rst, SynAck, Syn, Fin, Other}
use Rattle.conn_tracker.specs.declared.state.State.{State}
use Rattle.conn_tracker.specs.declared.state.State.TheVariants.{Opening, Answered, FinFwd, FinRev, Closed, Reset, Loose, Single, Both}
use Rattle.conn_tracker.specs.Table.{next_tcp, class_of, first_tcp, first_record, next_udp, next_record, is_same_direction, is_udp_state, step_of}
use Rattle.conn_tracker.specs.States.{state_of_first, first_opener, first_state, opener_of_first, is_idle, next_state, next_opener}
use Rattle.conn_tracker.specs.Body.{is_valid, suits}
use Rattle.conn_tracker.specs.Conntrack.{conntrack}
use Rattle.conn_tracker.specs.BodyLemmas.{valid_facts, valid_from, conntrack_stored}

-- the state and the opener of a first packet, apart
first_parts : (tcp : Bool) (c : Class) (direction : Direction)
    → cond {A = State × Direction} tcp (first_tcp c direction) (Single, direction)
    ≡ (cond tcp (state_of_first c) Single, cond tcp (first_opener c direction) direction)
first_parts false c direction = refl
first_parts true Rst direction = refl
first_parts true c direction = refl

-- a first record and a further one, field by field
abbrev pub first_apart : Packet → Direction → TrackRecord
first_apart p direction = record { packets = 1; bytes = p.length; seen = p.nanos; state = first_state p; opener = opener_of_first p direction }

abbrev pub next_apart : TrackRecord → Packet → Direction → TrackRecord
next_apart r p direction = record {
  packets = count r.packets 1;
  bytes = count r.bytes p.length;
  seen = max r.seen p.nanos;
  state = cond (is_idle r p) (first_state p) (next_state r p direction);
  opener = cond (is_idle r p) (opener_of_first p direction) (next_opener r p direction);
}

pub first_is : (p : Packet) (direction : Direction) → first_record p direction ≡ first_apart p direction
first_is p direction =
    ap (λ (first : State × Direction). record { packets = 1; bytes = p.length; seen = p.nanos; state = first.0; opener = first.1 })
    (first_parts (is_tcp p.proto) (class_of p.flags) direction)

pub next_is : (r : TrackRecord) (p : Packet) (direction : Direction) → next_record r p direction ≡ next_apart r p direction
next_is r p direction =
    ap
    (λ (first : State × Direction). record {
      packets = count r.packets 1;
      bytes = count r.bytes p.length;
      seen = max r.seen p.nanos;
      state = cond (is_idle r p) first.0 (next_state r p direction);
      opener = cond (is_idle r p) first.1 (next_opener r p direction);
    })
    (first_parts (is_tcp p.proto) (class_of p.flags) direction)

-- a packet of TCP leaves a state of TCP, by each row
tcp_next : (s : State) (c : Class) (forward : Bool) → is_udp_state s ≡ false → is_udp_state (next_tcp s c forward) ≡ false
tcp_next Single c forward h = cc
tcp_next Both c forward h = cc
tcp_next Closed Syn forward h = refl
tcp_next Reset Syn forward h = refl
tcp_next Closed c forward h = refl
tcp_next Reset c forward h = refl
tcp_next s Rst forward h = refl
tcp_next Opening SynAck false h = refl
tcp_next Answered Other true h = refl
tcp_next Loose Other false h = refl
tcp_next FinFwd Fin false h = refl
tcp_next FinRev Fin true h = refl
tcp_next FinFwd c forward h = refl
tcp_next FinRev c forward h = refl
tcp_next s Fin true h = refl
tcp_next s Fin false h = refl
tcp_next s c forward h = refl

tcp_first : (c : Class) → is_udp_state (state_of_first c) ≡ false
tcp_first Rst = refl
tcp_first c = refl

udp_next : (s : State) (forward : Bool) → is_udp_state s ≡ true → is_udp_state (next_udp s forward) ≡ true
udp_next Single true h = refl
udp_next Single false h = refl
udp_next Both forward h = refl
udp_next s forward h = cc

-- a state that the flow's own table leaves suits the flow's protocol
suits_first : (tcp : Bool) (c : Class)
    → cond tcp (not (is_udp_state (cond tcp (state_of_first c) Single))) (is_udp_state (cond tcp (state_of_first c) Single)) ≡ true
suits_first true c = ap not (tcp_first c)
suits_first false c = refl

suits_next : (tcp : Bool) (c : Class) (forward : Bool) (s : State) → cond tcp (not (is_udp_state s)) (is_udp_state s) ≡ true
    → cond tcp (not (is_udp_state (cond tcp (next_tcp s c forward) (next_udp s forward))))
    (is_udp_state (cond tcp (next_tcp s c forward) (next_udp s forward))) ≡ true
suits_next true c forward s h = ap not (tcp_next s c forward (not-true (is_udp_state s) h))
suits_next false c forward s h = udp_next s forward h

suits_cond : (proto : ℕ) (test : Bool) (s t : State) → suits proto s ≡ true → suits proto t ≡ true → suits proto (cond test s t) ≡ true
suits_cond proto true s t first second = first
suits_cond proto false s t first second = second

-- the flow is the packet's, and the packet's numbers are within their types
record IsOf (f : Flow) (p : Packet) : Type 0 where
  flow : is_transport_flow f ≡ true
  proto : f.proto ≡ p.proto
  nanos : p.nanos < 2 ^ 64
  length : p.length < 2 ^ 32

-- the first packet of a flow leaves a valid record
first_valid : (f : Flow) (p : Packet) (direction : Direction) → IsOf f p → is_valid (OfFlow f) (first_record p direction) ≡ true
first_valid f p direction of =
    let time : p.nanos < 2 ^ 64 = of.nanos in
    let long : p.length < 2 ^ 32 = of.length in
    let proto : f.proto ≡ p.proto = of.proto in
    subst (λ (r : TrackRecord). is_valid (OfFlow f) r ≡ true) (sym (first_is p direction)) (valid_from f (first_apart p direction) (record {
      flow = of.flow;
      counted = omega arith;
      fits = rw proto (suits_first (is_tcp p.proto) (class_of p.flags));
      packets = omega arith;
      bytes = omega arith;
      seen = time;
    }))

-- a further packet leaves a valid record
next_valid : (f : Flow) (r : TrackRecord) (p : Packet) (direction : Direction) → IsOf f p → is_valid (OfFlow f) r ≡ true
    → is_valid (OfFlow f) (next_record r p direction) ≡ true
next_valid f r p direction of h =
    let v = valid_facts f r h in
    let time : p.nanos < 2 ^ 64 = of.nanos in
    let proto : f.proto ≡ p.proto = of.proto in
    let one : 1 ≤ r.packets = v.counted in
    let seen : r.seen < 2 ^ 64 = v.seen in
    let suited : suits p.proto r.state ≡ true = rw (← proto) v.fits in
    subst (λ (r : TrackRecord). is_valid (OfFlow f) r ≡ true) (sym (next_is r p direction)) (valid_from f (next_apart r p direction) (record {
      flow = of.flow;
      counted = omega arith;
      fits = rw proto (suits_cond p.proto (is_idle r p) (first_state p) (next_state r p direction) (suits_first (is_tcp p.proto) (class_of p.flags))
          (suits_next (is_tcp p.proto) (class_of p.flags) (is_same_direction direction r.opener) r.state suited));
      packets = omega arith;
      bytes = omega arith;
      seen = omega arith;
    }))

fitting : (site : Site) (p : Packet) → Fits site p → IsOf (flow_of site p).0 p
fitting site p fits = record { flow = transport_flow site p fits; proto = proto-flow_of site p; nanos = fits.nanos; length = fits.length }

stays_valid : (site : Site) (kept : Option TrackRecord) (p : Packet) → Fits site p → is_sound conntrack (unit_at Conntrack site p) kept ≡ true
    → is_valid (unit_at Conntrack site p) (step_of site kept p) ≡ true
unfolding step_of
stays_valid site None p fits h = first_valid (flow_of site p).0 p (flow_of site p).1 (fitting site p fits)
stays_valid site (Some r) p fits h = next_valid (flow_of site p).0 r p (flow_of site p).1 (fitting site p fits) h

counts_one : (site : Site) (kept : Option TrackRecord) (p : Packet) → (step_of site kept p).packets ≡ count (packets_in conntrack kept) 1
unfolding step_of
counts_one site None p = refl
counts_one site (Some r) p = refl

-- a time is known from the first packet on whose time isn't 0
max_known : (a b : ℕ) → nat_le 1 (max a b) ≡ (nat_le 1 b || nat_le 1 a)
max_known a b = grind (arith, nat_tests)

times_known : (site : Site) (kept : Option TrackRecord) (p : Packet)
    → nat_le 1 (step_of site kept p).seen ≡ (nat_le 1 p.nanos || is_timed_kept conntrack kept)
unfolding step_of
times_known site None p = sym (or-false (nat_le 1 p.nanos))
times_known site (Some r) p = max_known r.seen p.nanos

pub conntrack_laws : Laws conntrack
conntrack_laws = laws_of conntrack conntrack_stored (record { stays = stays_valid; counts = counts_one; tells = λ r h. refl; times = times_known })

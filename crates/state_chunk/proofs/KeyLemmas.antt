-- The key of a chunk is read again, and has one spelling.
use Rattle.std.proofs.Common.{◌≡◌, ◌∙◌, ◌^◌, ℕ, true, List, ◌∷◌, ◌++◌, Some, refl, ap, nat_lt}
use Rattle.std.proofs.lemmas.List.{append_assoc}
use Rattle.std.proofs.lemmas.Option.{option_and_then_some, same_Some}
use Rattle.std.proofs.lemmas.Bool.{ltb-true}
use Rattle.flow_filter.proofs.FieldTests.{each_passes}
use Rattle.flow_filter.specs.declared.flow.Flow.{Flow}
use Rattle.nf_function.specs.declared.kind.Kind.{Kind}
use Rattle.nf_function.specs.declared.kind.Kind.TheVariants.{Conntrack, Nat, Monitor}
use Rattle.nf_function.specs.declared.unit.Unit as units
use Rattle.nf_function.specs.declared.unit.Unit.TheVariants.{Flow as OfFlow, Host as OfHost}
use Rattle.nf_function.specs.Stored.{IsBytes, number_bytes, first_byte, first_number}
use Rattle.nf_function.specs.Units.{is_unit, is_transport_flow}
use Rattle.nf_function.proofs.FlowFits.{transport_tests}
use Rattle.nf_function.proofs.StoredFronts.{IsFront, first_byte-some, then_front}
use Rattle.nf_function.proofs.StoredNumbers.{first_number-number_bytes, first_number-some}
use Rattle.state_chunk.specs.Format.{key_bytes}
use Rattle.state_chunk.specs.Reading.{first_key, first_flow, first_host, is_known}

-- a flow's key, number by number
key_and_rest : (f : Flow) (rest : List ℕ)
    → key_bytes (OfFlow f) ++ rest
    ≡ f.proto ∷ (number_bytes 4 f.local ++ (number_bytes 2 f.lport ++ (number_bytes 4 f.remote ++ (number_bytes 2 f.rport ++ rest))))
unfolding key_bytes
key_and_rest f rest =
    ap (λ (more : List ℕ). f.proto ∷ more) (regrouped (number_bytes 4 f.local) (number_bytes 2 f.lport) (number_bytes 4 f.remote) (number_bytes 2 f.rport) rest)
  where
    regrouped : (a b c d e : List ℕ) → (((a ++ b) ++ c) ++ d) ++ e ≡ a ++ (b ++ (c ++ (d ++ e)))
    regrouped a b c d e = simp append_assoc

-- a flow's key is read again
first_flow-key_bytes : (f : Flow) (rest : List ℕ) → is_transport_flow f ≡ true → first_flow (key_bytes (OfFlow f) ++ rest) ≡ Some (OfFlow f, rest)
unfolding first_flow
first_flow-key_bytes f rest h =
    let fits = each_passes (transport_tests f) h in
    ap first_flow (key_and_rest f rest)
    ∙ rw (
      first_number-number_bytes 4 f.local (number_bytes 2 f.lport ++ (number_bytes 4 f.remote ++ (number_bytes 2 f.rport ++ rest)))
          (ltb-true f.local (2 ^ 32) fits.local),
      first_number-number_bytes 2 f.lport (number_bytes 4 f.remote ++ (number_bytes 2 f.rport ++ rest)) (ltb-true f.lport (2 ^ 16) fits.lport),
      first_number-number_bytes 4 f.remote (number_bytes 2 f.rport ++ rest) (ltb-true f.remote (2 ^ 32) fits.remote),
      first_number-number_bytes 2 f.rport rest (ltb-true f.rport (2 ^ 16) fits.rport),
    ) refl

-- a host's key is read again
first_host-key_bytes : (host : ℕ) (rest : List ℕ) → nat_lt host (2 ^ 32) ≡ true → first_host (key_bytes (OfHost host) ++ rest) ≡ Some (OfHost host, rest)
unfolding first_host key_bytes
first_host-key_bytes host rest h = rw (first_number-number_bytes 4 host rest (ltb-true host (2 ^ 32) h)) refl

pub first_key-key_bytes : (kind : Kind) (u : units.Unit) (rest : List ℕ) → is_unit kind u ≡ true → first_key kind (key_bytes u ++ rest) ≡ Some (u, rest)
first_key-key_bytes Conntrack (OfFlow f) rest h = first_flow-key_bytes f rest h
first_key-key_bytes Conntrack (OfHost host) rest h = cc
first_key-key_bytes Nat (OfFlow f) rest h = cc
first_key-key_bytes Nat (OfHost host) rest h = first_host-key_bytes host rest h
first_key-key_bytes Monitor (OfFlow f) rest h = cc
first_key-key_bytes Monitor (OfHost host) rest h = first_host-key_bytes host rest h

-- a unit of the function has a key of TCP or UDP, or of a host
pub known_unit : (kind : Kind) (u : units.Unit) → is_unit kind u ≡ true → is_known u ≡ true
known_unit Conntrack (OfFlow f) h = (each_passes (transport_tests f) h).proto
known_unit Nat (OfFlow f) h = cc
known_unit Monitor (OfFlow f) h = cc
known_unit kind (OfHost host) h = refl

first_flow-some : (bytes : List ℕ) (read : units.Unit × List ℕ) → IsBytes bytes → first_flow bytes ≡ Some read → IsFront (key_bytes read.0) bytes read.1
unfolding first_flow key_bytes
first_flow-some bytes read are h =
    option_and_then_some _ (first_byte bytes) read h (λ proto o h1.
    option_and_then_some _ (first_number 4 proto.1) read h1 (λ local p h2.
    option_and_then_some _ (first_number 2 local.1) read h2 (λ lport q h3.
    option_and_then_some _ (first_number 4 lport.1) read h3 (λ remote r h4.
    option_and_then_some _ (first_number 2 remote.1) read h4 (λ rport s last.
    let first = first_byte-some bytes proto are o in
    let second = first_number-some 4 proto.1 local first.rest_bytes p in
    let third = first_number-some 2 local.1 lport second.rest_bytes q in
    let fourth = first_number-some 4 lport.1 remote third.rest_bytes r in
    let fifth = first_number-some 2 remote.1 rport fourth.rest_bytes s in
    rw (← same_Some (OfFlow (record { local = local.0; remote = remote.0; lport = lport.0; rport = rport.0; proto = proto.0 }), rport.1) read last)
    (then_front (then_front (then_front (then_front first second) third) fourth) fifth))))))

first_host-some : (bytes : List ℕ) (read : units.Unit × List ℕ) → IsBytes bytes → first_host bytes ≡ Some read → IsFront (key_bytes read.0) bytes read.1
unfolding first_host key_bytes
first_host-some bytes read are h =
    option_and_then_some _ (first_number 4 bytes) read h (λ host p last.
    rw (← same_Some (OfHost host.0, host.1) read last) (first_number-some 4 bytes host are p))

-- a key that was read has its bytes in front
pub first_key-some : (kind : Kind) (bytes : List ℕ) (read : units.Unit × List ℕ) → IsBytes bytes → first_key kind bytes ≡ Some read
    → IsFront (key_bytes read.0) bytes read.1
first_key-some Conntrack bytes read are h = first_flow-some bytes read are h
first_key-some Nat bytes read are h = first_host-some bytes read are h
first_key-some Monitor bytes read are h = first_host-some bytes read are h

-- What the reader finds in the headers of a generated packet.
use Rattle.std.proofs.Common.{◌≡◌, ◌≤◌, ◌<◌, ℕ, ◌+◌, Bool, true, List, length, None, Some, refl, ap, sym, ◌∙◌, arith}
use Rattle.std.specs.Prelude.{if◌then◌else◌, ◌&&◌, ◌==◌, ◌-◌, nat_le, option_and_then}
use Rattle.std.proofs.lemmas.Bool.{le-leb}
use Rattle.std.proofs.lemmas.Bool.Decides.{nat_tests}
use Rattle.flow_filter.specs.declared.flow.Direction.{Direction}
use Rattle.flow_filter.specs.declared.flow.Direction.TheVariants.{Out, In}
use Rattle.trace_reader.specs.declared.drawn.Drawn.{Drawn}
use Rattle.trace_reader.specs.declared.drawn.Transport.{Transport}
use Rattle.trace_reader.specs.declared.drawn.Transport.TheVariants.{Udp, Tcp}
use Rattle.trace_reader.specs.declared.form.LinkType.TheVariants.{Raw}
use Rattle.trace_reader.specs.declared.steer.Parts.{Parts}
use Rattle.trace_reader.specs.Numbers.{u16_at}
use Rattle.trace_reader.specs.Steered.{header_length, transport_length, total_length, parts_of}
use Rattle.trace_reader.specs.Opened.{byte_at, is_first, parts_at}
use Rattle.trace_reader.specs.Generated.{source, target, ipv4_header, udp_header, tcp_header, transport_size, captured_size, total_size, datagram}

-- the headers say how long they are, and how long the datagram is
pub record HasHeaders (len transport total : ℕ) (f : List ℕ) : Type 0 where
  pub size : length f ≡ len
  pub ip : header_length len f 0 ≡ Some 20
  pub segment : transport_length len f (byte_at f 9) 20 ≡ Some transport
  pub first : is_first f 0 ≡ true
  pub says : u16_at f 2 ≡ total

abbrev packet : ℕ → ℕ → Direction → Transport → ℕ → Drawn
packet host peer direction transport payload = record { host = host; peer = peer; direction = direction; transport = transport; payload = payload }

headers_by : (host peer : ℕ) (direction : Direction) (transport : Transport) (payload : ℕ) → payload < 512
    → HasHeaders (20 + transport_size transport) (transport_size transport) (20 + transport_size transport + payload)
    (datagram (packet host peer direction transport payload) transport)
unfolding source target ipv4_header udp_header tcp_header
headers_by host peer Out Udp payload small = record { size = refl; ip = refl; segment = refl; first = refl; says = omega arith }
headers_by host peer In Udp payload small = record { size = refl; ip = refl; segment = refl; first = refl; says = omega arith }
headers_by host peer Out (Tcp flags) payload small = record { size = refl; ip = refl; segment = refl; first = refl; says = omega arith }
headers_by host peer In (Tcp flags) payload small = record { size = refl; ip = refl; segment = refl; first = refl; says = omega arith }

pub headers_of : (d : Drawn) → d.payload < 512 → HasHeaders (captured_size d) (transport_size d.transport) (total_size d) (datagram d d.transport)
headers_of d small = headers_by d.host d.peer d.direction d.transport d.payload small

-- both tests hold
chosen : {X : Type 0} (first there : Bool) (x : X) → first ≡ true → there ≡ true → (if first && there then Some x else None) ≡ Some x
chosen first there x is fits = rw (is, fits) refl

-- such a packet is steered
pub parts_there : (len transport total : ℕ) (f : List ℕ) → HasHeaders len transport total f → len ≡ 20 + transport → len ≤ total
    → (parts : Parts) × (parts_of Raw len f ≡ Some parts)
unfolding parts_of
parts_there len transport total f has sum fits =
    let within : 20 + transport ≤ total_length len f 0 = long (u16_at f 2) (sym has.says) in (
      record { start = 0; header = 20; transport = transport; total = total_length len f 0 },
      ap (option_and_then (λ h. parts_at len f 0 h)) has.ip
          ∙ ap (option_and_then (λ d. if is_first f 0 && nat_le (20 + d) (total_length len f 0)
          then Some (record { start = 0; header = 20; transport = d; total = total_length len f 0 }) else None)) has.segment
          ∙ chosen (is_first f 0) (nat_le (20 + transport) (total_length len f 0)) _ has.first (le-leb (20 + transport) (total_length len f 0) within),
    )
  where
    long : (said : ℕ) → total ≡ said → 20 + transport ≤ (if said == 0 then len - 0 else said)
    long said is = grind (arith, nat_tests)

-- How long the parts of generated records are.
use Rattle.std.proofs.Common.{◌≡◌, ℕ, length, refl, arith}
use Rattle.std.proofs.lemmas.List.{length-append}
use Rattle.flow_filter.specs.declared.flow.Direction.{Direction}
use Rattle.flow_filter.specs.declared.flow.Direction.TheVariants.{Out, In}
use Rattle.trace_reader.specs.declared.drawn.Drawn.{Drawn}
use Rattle.trace_reader.specs.declared.drawn.End.{End}
use Rattle.trace_reader.specs.Generated.{local_end, remote_end, left_end, source, target, record_head, ipv4_header, udp_header, tcp_header}

-- an address has four bytes, whichever end it is of
address_of-left : (d : Direction) (a b : End) → length a.address ≡ 4 → length b.address ≡ 4 → length (left_end d a b).address ≡ 4
address_of-left Out a b first second = first
address_of-left In a b first second = second

pub source-size : (d : Drawn) → length (source d).address ≡ 4
unfolding source
source-size d = address_of-left d.direction (local_end d) (remote_end d) refl refl

pub target-size : (d : Drawn) → length (target d).address ≡ 4
unfolding target
target-size d = address_of-left d.direction (remote_end d) (local_end d) refl refl

pub record_head-size : (j : ℕ) (d : Drawn) → length (record_head j d) ≡ 16
unfolding record_head
record_head-size j d = refl

pub ipv4_header-size : (proto : ℕ) (d : Drawn) → length (ipv4_header proto d) ≡ 20
unfolding ipv4_header
ipv4_header-size proto d =
    let both = length-append (source d).address (target d).address in
    let first = source-size d in
    let second = target-size d in omega (arith, both, first, second)

pub udp_header-size : (d : Drawn) → length (udp_header d) ≡ 8
unfolding udp_header
udp_header-size d = refl

pub tcp_header-size : (d : Drawn) (flags : ℕ) → length (tcp_header d flags) ≡ 20
unfolding tcp_header
tcp_header-size d flags = refl

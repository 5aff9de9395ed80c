-- The head, the IPv4 header and that of the transport stand one after the other.
use Rattle.std.proofs.Common.{◌≡◌, ◌++◌, ◌∙◌, ap, drop, length, refl, sym}
use Rattle.trace_reader.specs.declared.drawn.Transport.{Transport}
use Rattle.trace_reader.specs.Generated.{record_head, ipv4_header, udp_header, tcp_header, datagram}
use Rattle.trace_reader.proofs.GeneratedSizes.{record_head-size, ipv4_header-size}
use Rattle.counted_lines.proofs.PlacedBytes.{put_two}
use Rattle.trace_reader.proofs.encode.write_record.Goals as goal

pub returns-in-Udp-clause-bytes : goal.returns-in-Udp-clause-bytes
returns-in-Udp-clause-bytes c =
    let d = c.args.drawn.now in
    let head : c.copy_from_slice.new.self ≡ record_head c.args.number d = c.copy_from_slice.ensures.after ∙ c.record_head.ensures in
    let ip : c.copy_from_slice-in-Udp.new.self ≡ ipv4_header 17 d = c.copy_from_slice-in-Udp.ensures.after ∙ c.ipv4_header.ensures in
    let udp : c.copy_from_slice-in-Udp-2.new.self ≡ udp_header d = c.copy_from_slice-in-Udp-2.ensures.after ∙ c.udp_header.ensures in
    put_two _ _ _ c.args.place.now 16 20 36 8 (ap length head ∙ record_head-size c.args.number d) (ap length ip ∙ ipv4_header-size 17 d) refl
    ∙ rw (head, ip, udp) (ap (λ (t : Transport). (record_head c.args.number d ++ datagram d t) ++ drop 44 c.args.place.now) (sym c.in-Udp.is))

pub returns-in-Tcp-clause-bytes : goal.returns-in-Tcp-clause-bytes
returns-in-Tcp-clause-bytes c =
    let d = c.args.drawn.now in
    let head : c.copy_from_slice.new.self ≡ record_head c.args.number d = c.copy_from_slice.ensures.after ∙ c.record_head.ensures in
    let ip : c.copy_from_slice-in-Tcp.new.self ≡ ipv4_header 6 d = c.copy_from_slice-in-Tcp.ensures.after ∙ c.ipv4_header-in-Tcp.ensures in
    let tcp : c.copy_from_slice-in-Tcp-2.new.self ≡ tcp_header d c.in-Tcp.flags = c.copy_from_slice-in-Tcp-2.ensures.after ∙ c.tcp_header.ensures in
    put_two _ _ _ c.args.place.now 16 20 36 20 (ap length head ∙ record_head-size c.args.number d) (ap length ip ∙ ipv4_header-size 6 d) refl
    ∙ rw (head, ip, tcp) (ap (λ (t : Transport). (record_head c.args.number d ++ datagram d t) ++ drop 56 c.args.place.now) (sym c.in-Tcp.is))

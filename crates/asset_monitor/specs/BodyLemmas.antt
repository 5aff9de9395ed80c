-- Steps between code and definition, which nobody has to believe: what a monitor's record is stored as is read again, and only that. It
-- stands in specs/ since the laws of a trait may cite nothing else.
use Rattle.std.proofs.Common.{◌≡◌, ◌∙◌, ◌<◌, ◌≤◌, ◌+◌, ◌*◌, ◌^◌, ◌&&◌, ℕ, true, List, [], ◌∷◌, ◌++◌}
use Rattle.std.proofs.Common.{length, Some, option_and_then, refl, sym, ap, arith, nat_lt, nat_le, append-nil, length-append}
use Rattle.std.specs.List.{flat_map}
use Rattle.std.proofs.lemmas.Bool.{ltb-true, lt-ltb, leb-true, le-leb, and_parts, and_from}
use Rattle.std.proofs.lemmas.List.{append_assoc}
use Rattle.std.proofs.lemmas.Option.{option_and_then_some, same_Some}
use Rattle.nf_function.specs.declared.unit.Unit as units
use Rattle.nf_function.specs.declared.kind.Kind.TheVariants as kinds
use Rattle.nf_function.specs.Stored.{IsBytes, number_bytes, first_byte, first_number, first_items, at_most, at_end}
use Rattle.nf_function.specs.Units.{is_transport, is_unit}
use Rattle.nf_function.proofs.StoredFronts.{IsFront, then_front, whole_front, first_byte-some, at_most-some, at_end-some}
use Rattle.nf_function.proofs.StoredItems.{items_again, items_some, length-items}
use Rattle.nf_function.proofs.StoredNumbers.{first_number-number_bytes, first_number-some, length-number_bytes}
use Rattle.nf_function.proofs.StoredRecords.{IsStored, number_at}
use Rattle.asset_monitor.specs.declared.banner.Banner.{Banner}
use Rattle.asset_monitor.specs.declared.banner.Banner.TheVariants.{Unseen}
use Rattle.asset_monitor.specs.declared.record.AssetRecord.{AssetRecord}
use Rattle.asset_monitor.specs.declared.service.Service.{Service}
use Rattle.asset_monitor.specs.Banners.{banner_number}
use Rattle.asset_monitor.specs.BannerNumbers.{all_banners, banner_of}
use Rattle.asset_monitor.specs.Services.{are_services, is_service, services_per_host}
use Rattle.asset_monitor.specs.ServiceLemmas.{all_services, few_services}
use Rattle.asset_monitor.specs.Body.{body_of, first_service, is_kept, is_valid, service_bytes, services_in, spelled}
use Rattle.asset_monitor.specs.Monitor.{monitor}

-- what is true of a record that is kept of a host
pub record IsKept (r : AssetRecord) : Type 0 where
  pub services : are_services r.services ≡ true
  pub counted : 1 ≤ r.packets
  pub packets : r.packets < 2 ^ 64

pub valid_kept : (u : units.Unit) (r : AssetRecord) → is_valid u r ≡ true → IsKept r
valid_kept u r h =
    let all = and_parts (is_unit kinds.Monitor u) (is_kept r) h in
    let two = and_parts (are_services r.services && nat_le 1 r.packets) (nat_lt r.packets (2 ^ 64)) all.1 in
    let one = and_parts (are_services r.services) (nat_le 1 r.packets) two.0 in
    record { services = one.0; counted = leb-true 1 r.packets one.1; packets = ltb-true r.packets (2 ^ 64) two.1 }

pub valid_from : (u : units.Unit) (r : AssetRecord) → is_unit kinds.Monitor u ≡ true → IsKept r → is_valid u r ≡ true
valid_from u r unit v =
    and_from _ _ unit (and_from _ _ (and_from _ _ v.services (le-leb 1 r.packets v.counted)) (lt-ltb r.packets (2 ^ 64) v.packets))

-- banners are known by their numbers
banner_of-banner_number : (banner : Banner) → banner_of (banner_number banner) ≡ Some banner
banner_of-banner_number Unseen = refl
banner_of-banner_number banner = refl

-- a service is read again, whatever follows
first_service-service_bytes : (s : Service) (rest : List ℕ) → is_service s ≡ true → first_service (service_bytes s ++ rest) ≡ Some (s, rest)
unfolding first_service
first_service-service_bytes s rest h =
    let port = ltb-true s.port (2 ^ 16) (and_parts (is_transport s.proto) (nat_lt s.port (2 ^ 16)) h).1 in
    rw (
      append_assoc (number_bytes 2 s.port) (banner_number s.banner ∷ []) rest,
      first_number-number_bytes 2 s.port (banner_number s.banner ∷ rest) port,
      banner_of-banner_number s.banner,
    ) refl

-- a record is read again
spelled-body_of : (r : AssetRecord) → IsKept r → spelled (body_of r) ≡ Some r
unfolding spelled body_of
spelled-body_of r v =
    let all : first_items first_service (length r.services) (flat_map service_bytes r.services) ≡ Some (r.services, []) =
    ap (first_items first_service (length r.services)) (sym (append-nil (flat_map service_bytes r.services)))
    ∙ items_again first_service service_bytes is_service first_service-service_bytes r.services [] (all_services r.services v.services) in
    rw (
      first_number-number_bytes 8 r.packets (length r.services ∷ flat_map service_bytes r.services) v.packets,
      le-leb (length r.services) services_per_host (few_services r.services v.services),
      all,
    ) refl

-- a service that was read has its bytes in front
first_service-some : (bytes : List ℕ) (read : Service × List ℕ) → IsBytes bytes → first_service bytes ≡ Some read
    → IsFront (service_bytes read.0) bytes read.1
unfolding first_service
first_service-some bytes read are h =
    option_and_then_some _ (first_byte bytes) read h (λ proto p h1.
    option_and_then_some _ (first_number 2 proto.1) read h1 (λ port q h2.
    option_and_then_some _ (first_byte port.1) read h2 (λ number s h3.
    option_and_then_some _ (banner_of number.0) read h3 (λ banner named last.
    let first = first_byte-some bytes proto are p in
    let second = first_number-some 2 proto.1 port first.rest_bytes q in
    let third = first_byte-some port.1 number second.rest_bytes s in
    rw (
      ← same_Some (record { proto = proto.0; port = port.0; banner = banner }, number.1) read last,
      number_at banner_number all_banners number.0 banner refl named,
    ) (then_front first (then_front second third))))))

-- the bytes that a record was read from are those that it is stored as
body_of-spelled : (bytes : List ℕ) (r : AssetRecord) → IsBytes bytes → spelled bytes ≡ Some r → body_of r ≡ bytes
unfolding spelled body_of
body_of-spelled bytes r are h =
    option_and_then_some _ (first_number 8 bytes) r h (λ packets p h1.
    option_and_then_some _ (option_and_then (at_most services_per_host) (first_byte packets.1)) r h1 (λ counted q h2.
    option_and_then_some _ (services_in counted.0 counted.1) r h2 (λ services s last.
    option_and_then_some at_end (first_items first_service counted.0 counted.1) services s (λ read t ends.
    let first = first_number-some 8 bytes packets are p in
    let second = first_byte-some packets.1 counted first.rest_bytes (at_most-some services_per_host (first_byte packets.1) counted q) in
    let third = items_some first_service service_bytes first_service-some counted.0 counted.1 read second.rest_bytes t in
    let whole = at_end-some read.0 services read.1 ends in
    rw (← same_Some (record { packets = packets.0; services = services }) r last, ← whole.1, third.1)
    (whole_front (then_front first (then_front second third.0)) whole.0)))))

-- a body is short
length-service : (s : Service) → length (service_bytes s) ≡ 4
length-service s =
    let port = length-number_bytes 2 s.port in let whole = length-append (number_bytes 2 s.port) (banner_number s.banner ∷ []) in omega (arith, port, whole)

pub length-body : (r : AssetRecord) → length (body_of r) ≡ 9 + 4 * length r.services
unfolding body_of
length-body r =
    rw (
      length-append (number_bytes 8 r.packets) (length r.services ∷ flat_map service_bytes r.services),
      length-number_bytes 8 r.packets,
      length-items service_bytes 4 length-service r.services,
    ) (omega arith)

pub monitor_stored : IsStored monitor
monitor_stored = record {
  unit = λ u r h. (and_parts (is_unit kinds.Monitor u) (is_kept r) h).0;
  again = λ u r h. spelled-body_of r (valid_kept u r h);
  own = body_of-spelled;
  short = λ u r h.
      let short : length r.services ≤ services_per_host = few_services r.services (valid_kept u r h).services in rw (length-body r) (omega arith);
}

-- The bytes that a monitor's record is stored as. This project's own format: packets (8 bytes), how many services (1), each service
-- as its protocol (1), port (2) and banner (1).
use Rattle.std.specs.Prelude.{ℕ, ◌^◌, ◌&&◌, nat_le, nat_lt, Bool, List, [], ◌∷◌, ◌++◌, length, Option, Some}
use Rattle.std.specs.List.{flat_map}
use Rattle.basics.specs.Options.{◌>>=◌}
use Rattle.nf_function.specs.declared.unit.Unit as units
use Rattle.nf_function.specs.declared.kind.Kind.TheVariants as kinds
use Rattle.nf_function.specs.Stored.{number_bytes, first_byte, first_number, first_items, at_most, at_end}
use Rattle.nf_function.specs.Units.{is_unit}
use Rattle.asset_monitor.specs.declared.record.AssetRecord.{AssetRecord}
use Rattle.asset_monitor.specs.declared.service.Service.{Service}
use Rattle.asset_monitor.specs.Banners.{banner_number}
use Rattle.asset_monitor.specs.BannerNumbers.{banner_of}
use Rattle.asset_monitor.specs.Services.{are_services, services_per_host}

-- it has counted a packet, and its services are ones that a host can have
abbrev pub is_kept : AssetRecord → Bool
is_kept r = are_services r.services && nat_le 1 r.packets && nat_lt r.packets (2 ^ 64)

-- a record of the host
abbrev pub is_valid : units.Unit → AssetRecord → Bool
is_valid unit r = is_unit kinds.Monitor unit && is_kept r

abbrev pub service_bytes : Service → List ℕ
service_bytes s = s.proto ∷ (number_bytes 2 s.port ++ banner_number s.banner ∷ [])

unfoldable pub body_of : AssetRecord → List ℕ
body_of r = number_bytes 8 r.packets ++ length r.services ∷ flat_map service_bytes r.services

-- a service, and the bytes after it
unfoldable pub first_service : List ℕ → Option (Service × List ℕ)
first_service bytes = do
  proto ← first_byte bytes
  port ← first_number 2 proto.1
  number ← first_byte port.1
  banner ← banner_of number.0
  Some (record { proto = proto.0; port = port.0; banner = banner }, number.1)

-- as many services, and nothing after them
abbrev pub services_in : ℕ → List ℕ → Option (List Service)
services_in n bytes = first_items first_service n bytes >>= at_end

-- the record that bytes spell
unfoldable pub spelled : List ℕ → Option AssetRecord
spelled body = do
  packets ← first_number 8 body
  counted ← first_byte packets.1 >>= at_most services_per_host
  services ← services_in counted.0 counted.1
  Some (record { packets = packets.0; services = services })

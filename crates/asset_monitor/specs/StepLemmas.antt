-- Steps between code and definition, which nobody has to believe: what a step of the monitor keeps of a record, and all its laws together.
-- It stands in specs/ since the laws of a trait may cite nothing else.
use Rattle.std.proofs.Common.{◌≡◌, ◌<◌, ◌≤◌, ◌^◌, ℕ, Bool, true, false, cond, is_some, length, Option, None, Some, unwrap_or, refl, ap, arith, nat_lt}
use Rattle.std.proofs.lemmas.Bool.{ltb-true, lt-ltb, and_from}
use Rattle.flow_filter.specs.declared.packet.Packet.{Packet}
use Rattle.flow_filter.specs.declared.site.Site.{Site}
use Rattle.flow_filter.specs.declared.flow.Direction.{Direction}
use Rattle.flow_filter.specs.declared.flow.Direction.TheVariants.{Out, In}
use Rattle.flow_filter.specs.Flow.{flow_of}
use Rattle.nf_function.specs.declared.kind.Kind.TheVariants as kinds
use Rattle.nf_function.specs.declared.unit.Unit as units
use Rattle.nf_function.specs.Units.{is_unit, is_transport}
use Rattle.nf_function.specs.Semantics.{Step, count, is_sound, packets_in, unit_at}
use Rattle.nf_function.specs.Records.{Fits, Laws}
use Rattle.nf_function.proofs.FlowFits.{flow_fits}
use Rattle.nf_function.proofs.StoredRecords.{laws_of, either_way}
use Rattle.asset_monitor.specs.declared.record.AssetRecord.{AssetRecord}
use Rattle.asset_monitor.specs.declared.service.Service.{Service}
use Rattle.asset_monitor.specs.Banners.{is_unseen}
use Rattle.asset_monitor.specs.Services.{is_service, service_like, services_per_host, with_service}
use Rattle.asset_monitor.specs.ServiceLemmas.{are_services-with, few_services, length-with}
use Rattle.asset_monitor.specs.Table.{announces, keeping, step_of, watched}
use Rattle.asset_monitor.specs.Outputs.{nothing, source, counted, found, full, greeted}
use Rattle.asset_monitor.specs.Rows.{new_row, sent_row, greeting_row, quiet_row}
use Rattle.asset_monitor.specs.RowLemmas.{greeting_of, watched_in, watched_sent}
use Rattle.asset_monitor.specs.Body.{is_valid}
use Rattle.asset_monitor.specs.Monitor.{monitor}
use Rattle.asset_monitor.specs.BodyLemmas.{IsKept, valid_kept, valid_from, monitor_stored}

-- a record with one more service, where there is room for it
module _ (r : AssetRecord) (kept : IsKept r) where
  keeping_kept : (s : Service) → is_service s ≡ true → length (with_service r.services s) ≤ services_per_host → IsKept (keeping r s)
  keeping_kept s is few =
      record { services = are_services-with r.services s kept.services is few; counted = kept.counted; packets = kept.packets }

  new_row_kept : (s : Service) → is_service s ≡ true → IsKept (new_row r s).kept
  unfolding new_row
  new_row_kept s is = by_room (nat_lt (length r.services) services_per_host) refl
    where
      by_room : (room : Bool) → nat_lt (length r.services) services_per_host ≡ room
          → IsKept (cond {A = Step AssetRecord} room (record { kept = keeping r s; output = found s }) (record { kept = r; output = full })).kept
      by_room true h =
          let free : length r.services < services_per_host = ltb-true (length r.services) services_per_host h in
          keeping_kept s is (omega (arith, length-with r.services s))
      by_room false h = kept

  greeting_row_kept : (s : Service) → is_service s ≡ true → is_some (service_like r.services s) ≡ true → IsKept (greeting_row r s).kept
  unfolding greeting_row
  greeting_row_kept s is known =
      let few = few_services r.services kept.services in
      let one = rw known at (length-with r.services s) in
      either_way (is_unseen s.banner) IsKept (quiet_row r) (record { kept = keeping r s; output = greeted s }) kept (keeping_kept s is (omega arith))

  sent_row_kept : (p : Packet) (known : Option Service) → is_service (source p) ≡ true → service_like r.services (source p) ≡ known
      → IsKept (sent_row r p known).kept
  unfolding sent_row
  sent_row_kept p None is h = either_way (announces p) IsKept (new_row r (source p)) (quiet_row r) (new_row_kept (source p) is) kept
  sent_row_kept p (Some s) is h =
      either_way (is_unseen s.banner) IsKept (greeting_row r (greeting_of p)) (quiet_row r) (greeting_row_kept (greeting_of p) is (ap is_some h)) kept

  -- whichever row applies, what it leaves is kept
  watched_kept : (direction : Direction) (p : Packet) → is_transport p.proto ≡ true → p.sport < 2 ^ 16 → IsKept (watched direction r p).kept
  watched_kept In p transport port = rw (watched_in r p) kept
  watched_kept Out p transport port =
      let is : is_service (source p) ≡ true = and_from _ _ transport (lt-ltb p.sport (2 ^ 16) port) in
      rw (watched_sent r p transport) (sent_row_kept p (service_like r.services (source p)) is refl)

-- a record that was valid, or none, is kept with one packet more
counted_kept : (u : units.Unit) (kept : Option AssetRecord) → is_sound monitor u kept ≡ true → IsKept (counted (unwrap_or kept nothing))
counted_kept u None h = record { services = refl; counted = omega arith; packets = omega arith }
counted_kept u (Some r) h =
    let v = valid_kept u r h in
    let counted : 1 ≤ r.packets = v.counted in
    record { services = v.services; counted = omega arith; packets = omega arith }

-- a step keeps what is valid for the packet's host, and so does a packet that may be none of TCP or UDP
pub kept_sound : (direction : Direction) (u : units.Unit) (kept : Option AssetRecord) (p : Packet) → is_unit kinds.Monitor u ≡ true → p.sport < 2 ^ 16
    → is_sound monitor u kept ≡ true
    → is_sound monitor u (cond (is_transport p.proto) (Some (watched direction (counted (unwrap_or kept nothing)) p).kept) kept) ≡ true
kept_sound direction u kept p unit port h = by_proto (is_transport p.proto) refl
  where
    by_proto : (transport : Bool) → is_transport p.proto ≡ transport
        → is_sound monitor u (cond transport (Some (watched direction (counted (unwrap_or kept nothing)) p).kept) kept) ≡ true
    by_proto true e = valid_from u _ unit (watched_kept _ (counted_kept u kept h) direction p e port)
    by_proto false e = h

stays_valid : (site : Site) (kept : Option AssetRecord) (p : Packet) → Fits site p → is_sound monitor (unit_at kinds.Monitor site p) kept ≡ true
    → is_valid (unit_at kinds.Monitor site p) (step_of site kept p).kept ≡ true
unfolding step_of
stays_valid site kept p fits h =
    let unit : is_unit kinds.Monitor (unit_at kinds.Monitor site p) ≡ true = lt-ltb (flow_of site p).0.local (2 ^ 32) (flow_fits site p fits).local in
    valid_from (unit_at kinds.Monitor site p) _ unit
    (watched_kept _ (counted_kept (unit_at kinds.Monitor site p) kept h) (flow_of site p).1 p fits.transport fits.sport)

-- each step counts one packet, whichever row applies
packets-cond : (test : Bool) (x y : Step AssetRecord) (n : ℕ) → x.kept.packets ≡ n → y.kept.packets ≡ n → (cond test x y).kept.packets ≡ n
packets-cond true x y n first second = first
packets-cond false x y n first second = second

packets-watched : (direction : Direction) (r : AssetRecord) (p : Packet) → (watched direction r p).kept.packets ≡ r.packets
unfolding watched
packets-watched direction r p = search packets-cond

counts_one : (site : Site) (kept : Option AssetRecord) (p : Packet) → (step_of site kept p).kept.packets ≡ count (packets_in monitor kept) 1
unfolding step_of
counts_one site kept p = rw (packets-watched _ (counted (unwrap_or kept nothing)) p) (by_kept kept)
  where
    by_kept : (kept : Option AssetRecord) → count (unwrap_or kept nothing).packets 1 ≡ count (packets_in monitor kept) 1
    by_kept None = refl
    by_kept (Some r) = refl

pub monitor_laws : Laws monitor
monitor_laws = laws_of monitor monitor_stored (record { stays = stays_valid; counts = counts_one; tells = λ r h. cc; times = λ site kept p. refl })

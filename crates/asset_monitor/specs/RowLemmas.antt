-- Steps between code and definition, which nobody has to believe: the rows of the table by what is known of the packet's source, and what
-- they keep.
use Rattle.std.proofs.Common.{◌≡◌, ◌∙◌, ◌&&◌, ℕ, Bool, true, false, cond, not, is_some, List, length, get_or, nat_lt, Option, None, Some, refl}
use Rattle.flow_filter.specs.declared.packet.Packet.{Packet}
use Rattle.flow_filter.specs.declared.flow.Direction.{Direction}
use Rattle.flow_filter.specs.declared.flow.Direction.TheVariants.{Out, In}
use Rattle.nf_function.specs.Semantics.{Step}
use Rattle.nf_function.specs.Units.{is_transport}
use Rattle.asset_monitor.specs.declared.record.AssetRecord.{AssetRecord}
use Rattle.asset_monitor.specs.declared.service.Service.{Service}
use Rattle.asset_monitor.specs.Banners.{banner_in, is_unseen}
use Rattle.asset_monitor.specs.Places.{IsAt, IsGap}
use Rattle.asset_monitor.specs.Rows.{new_row, sent_row, greeting_row, quiet_row, is_bare, payload}
use Rattle.asset_monitor.specs.ServiceLemmas.{listed_at, listed_gap}
use Rattle.asset_monitor.specs.Services.{service_like, services_per_host}
use Rattle.asset_monitor.specs.Table.{announces, keeping, watched}
use Rattle.asset_monitor.specs.Outputs.{source, counted, found, full, greeted}

-- the rows by the three that change something and by what decides between them
module _ (new filled greeting still : Step AssetRecord) where
  abbrev by_known : Bool → Bool → Bool → Option Service → Step AssetRecord
  by_known announced room unseen None = cond announced (cond room new filled) still
  by_known announced room unseen (Some s) = cond (is_unseen s.banner) (cond unseen still greeting) still

  greets : (bare unseen : Bool) → cond (bare && not unseen) greeting still ≡ cond bare (cond unseen still greeting) still
  greets true true = refl
  greets true false = refl
  greets false unseen = refl

  rows_of : (announced room unseen : Bool) (known : Option Service)
      → cond (announced && not (is_some known) && room) new (cond (announced && not (is_some known)) filled (cond (is_bare known && not unseen) greeting still))
      ≡ by_known announced room unseen known
  rows_of true true unseen None = refl
  rows_of true false unseen None = refl
  rows_of false room unseen None = refl
  rows_of true room unseen (Some s) = greets (is_unseen s.banner) unseen
  rows_of false room unseen (Some s) = greets (is_unseen s.banner) unseen

-- a packet that the host doesn't send
pub watched_in : (r : AssetRecord) (p : Packet) → watched In r p ≡ quiet_row r
unfolding watched
watched_in r p = refl

pub watched_other : (direction : Direction) (r : AssetRecord) (p : Packet) → is_transport p.proto ≡ false → watched direction r p ≡ quiet_row r
unfolding watched
watched_other In r p h = refl
watched_other Out r p h = rw h refl

-- the service of a packet's source, with the banner that the packet has
abbrev pub greeting_of : Packet → Service
greeting_of p = record (source p) { banner = banner_in (payload p) }

-- one packet more
abbrev pub one_more : Step AssetRecord → Step AssetRecord
one_more step = record { kept = counted step.kept; output = step.output }

one_more-cond : (test : Bool) (x y : Step AssetRecord) → cond test (one_more x) (one_more y) ≡ one_more (cond test x y)
one_more-cond true x y = refl
one_more-cond false x y = refl

new_row-counted : (r : AssetRecord) (s : Service) → new_row (counted r) s ≡ one_more (new_row r s)
unfolding new_row
new_row-counted r s =
    one_more-cond (nat_lt (length r.services) services_per_host) (record { kept = keeping r s; output = found s }) (record { kept = r; output = full })

greeting_row-counted : (r : AssetRecord) (s : Service) → greeting_row (counted r) s ≡ one_more (greeting_row r s)
unfolding greeting_row
greeting_row-counted r s = one_more-cond (is_unseen s.banner) (quiet_row r) (record { kept = keeping r s; output = greeted s })

sent_row-counted : (r : AssetRecord) (p : Packet) (known : Option Service) → sent_row (counted r) p known ≡ one_more (sent_row r p known)
unfolding sent_row
sent_row-counted r p None = rw (new_row-counted r (source p)) (one_more-cond (announces p) (new_row r (source p)) (quiet_row r))
sent_row-counted r p (Some s) =
    rw (greeting_row-counted r (greeting_of p)) (one_more-cond (is_unseen s.banner) (greeting_row r (greeting_of p)) (quiet_row r))

sent_row_by_known : (r : AssetRecord) (p : Packet) (known : Option Service)
    → by_known (record { kept = keeping r (source p); output = found (source p) }) (record { kept = r; output = full })
    (record { kept = keeping r (greeting_of p); output = greeted (greeting_of p) }) (quiet_row r)
    (announces p) (nat_lt (length r.services) services_per_host) (is_unseen (banner_in (payload p))) known
    ≡ sent_row r p known
unfolding sent_row new_row greeting_row
sent_row_by_known r p None = refl
sent_row_by_known r p (Some s) = refl

-- a packet that it sends
pub watched_sent : (r : AssetRecord) (p : Packet) → is_transport p.proto ≡ true → watched Out r p ≡ sent_row r p (service_like r.services (source p))
unfolding watched
watched_sent r p h =
    rw h
    (rows_of (record { kept = keeping r (source p); output = found (source p) }) (record { kept = r; output = full })
    (record { kept = keeping r (greeting_of p); output = greeted (greeting_of p) }) (quiet_row r)
    (announces p) (nat_lt (length r.services) services_per_host) (is_unseen (banner_in (payload p))) (service_like r.services (source p))
    ∙ sent_row_by_known r p (service_like r.services (source p)))

pub watched_out : (r : AssetRecord) (p : Packet) → is_transport p.proto ≡ true
    → watched Out (counted r) p ≡ one_more (sent_row r p (service_like r.services (source p)))
watched_out r p h = watched_sent (counted r) p h ∙ sent_row-counted r p (service_like r.services (source p))

-- what a search for the packet's source tells
module _ (r : AssetRecord) (p : Packet) (s : Service) (is : s ≡ source p) (i : ℕ) where
  pub sent_new : IsGap r.services s i → true ≡ announces p → sent_row r p (service_like r.services s) ≡ new_row r s
  unfolding sent_row
  sent_new gap h = rw (listed_gap r.services s i gap, ← h, is) refl

  pub sent_unannounced : IsGap r.services s i → false ≡ announces p → sent_row r p (service_like r.services s) ≡ quiet_row r
  unfolding sent_row
  sent_unannounced gap h = rw (listed_gap r.services s i gap, ← h) refl

  module _ (xs : List Service) (are : xs ≡ r.services) (d : Service) (at : IsAt r.services s i) where
    pub sent_bare : true ≡ is_unseen (get_or xs i d).banner
        → sent_row r p (service_like r.services s) ≡ greeting_row r (record s { banner = banner_in (payload p) })
    unfolding sent_row
    sent_bare h = let bare = rw are at h in rw (listed_at r.services s i at d, ← bare, is) refl

    pub sent_greeted : false ≡ is_unseen (get_or xs i d).banner → sent_row r p (service_like r.services s) ≡ quiet_row r
    unfolding sent_row
    sent_greeted h = let seen = rw are at h in rw (listed_at r.services s i at d, ← seen) refl

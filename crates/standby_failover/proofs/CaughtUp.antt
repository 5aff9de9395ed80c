-- Records that are stepped on the lost packets, as they were processed, and then on those that came and weren't are those of all packets that came.
use Rattle.standby_failover.proofs.Words.{◌≡◌, ℕ, Bool, true, false, Option, Some, None, List, [], ◌∷◌, ◌++◌, map, take, drop, filter, append_assoc, refl, sym}
use Rattle.standby_failover.proofs.Words.{ap, ◌∙◌, subst, if◌then◌else◌, ◌&&◌, not, is_some, true≢false, and_parts, map-append, take-append-drop, Packet}
use Rattle.standby_failover.proofs.Words.{Semantics, kept_after, Records, TableView, same_unit, same_unit_equiv, same_unit-true, arrived_of, fold, is_of}
use Rattle.standby_failover.proofs.Words.{packet_numbered, packets, arrivals_in, unit_in, live_at, input_fits, Promoted, Failover, record_kept, lost_in_order}
use Rattle.standby_failover.proofs.Words.{open_packets, numbers_done, processed_of, reflected_by, standing, is_affected, is_in, is_lost, is_open, IsLeft}
use Rattle.standby_failover.proofs.Words.{IsPromoted, after_packets, packet_among}
use Rattle.std.specs.FinMap as finite
use Rattle.flow_filter.specs.declared.site.Site.{Site}
use Rattle.nf_function.specs.declared.unit.Unit as units
use Rattle.record_table.specs.Table.{after_packet}
use Rattle.record_table.proofs.RecordLookUps.{get-after_packet}
use Rattle.net_world.specs.Records.{HasOneRecord, Has_none, Is_given, Is_live, Is_on_way}
use Rattle.net_world.specs.Seen.{HasRecord, HasSeen, Lacks_last, Sees_all}
use Rattle.standby_failover.specs.Failover.{open_of, HasCaughtUp}
use Rattle.standby_failover.proofs.ListLemmas.{IsOnce, those_filter, in_filter, filter_same, filter_none, later_kept, once_those, front_and_others}
use Rattle.standby_failover.proofs.Reflected.{processed_those, once_done}

module _ {F R : Type 0} (x : Failover F R) where
  open x.job use {function as f, config as c, items}

  abbrev of_unit : units.Unit → ℕ → Bool
  of_unit u = is_of f c items u

  -- records after packets of the input, by their numbers
  abbrev pub stepped : Records R → List ℕ → Records R
  stepped records ns = after_packets f c.site records (map (packet_numbered items) ns)

  module _ (v : units.Unit) where
    -- what the unit has after a packet that is of it, or that isn't; and its packets, with such a one before them
    abbrev next_kept : Option R → ℕ → Bool → Option R
    next_kept r p b = if b then kept_after f c.site r (packet_numbered items p) else r

    abbrev next_those : ℕ → List ℕ → Bool → List ℕ
    next_those p ns b = if b then p ∷ filter (of_unit v) ns else filter (of_unit v) ns

    fold_next : (r : Option R) (p : ℕ) (ns : List ℕ) (b : Bool)
        → fold f c items (next_kept r p b) (filter (of_unit v) ns) ≡ fold f c items r (next_those p ns b)
    fold_next r p ns true = refl
    fold_next r p ns false = refl

    -- so it has what is kept after its own packets
    pub get_stepped : (records : Records R) (ns : List ℕ) → finite.get (stepped records ns) v ≡ fold f c items (finite.get records v) (filter (of_unit v) ns)
    get_stepped records [] = refl
    get_stepped records (p ∷ ns) =
        let r = finite.get records v in
        get_stepped (after_packet f c.site records (packet_numbered items p)) ns
        ∙ ap (λ o. fold f c items o (filter (of_unit v) ns)) (get-after_packet f c.site records (packet_numbered items p) v)
        ∙ fold_next r p ns (same_unit v (unit_in x.job p))
        ∙ ap (λ b. fold f c items r (next_those p ns b)) (same_unit_equiv.symm v (unit_in x.job p))

  pub stepped-append : (records : Records R) (ns ms : List ℕ) → stepped records (ns ++ ms) ≡ stepped (stepped records ns) ms
  stepped-append records [] ms = refl
  stepped-append records (n ∷ ns) ms = stepped-append (after_packet f c.site records (packet_numbered items n)) ns ms

  fold-append : (r : Option R) (xs ys : List ℕ) → fold f c items r (xs ++ ys) ≡ fold f c items (fold f c items r xs) ys
  fold-append r [] ys = refl
  fold-append r (p ∷ xs) ys = fold-append (kept_after f c.site r (packet_numbered items p)) xs ys

  module _ (left : IsLeft x) where
    -- packets leave a record
    still_some : (r : Option R) (ns : List ℕ) → is_some r ≡ true → is_some (fold f c items r ns) ≡ true
    still_some r [] some = some
    still_some r (p ∷ ns) some =
        let next : Option R = Some (f.stepped c.site r (packet_numbered items p)).kept in
        let rest = still_some next ns refl in
        rw ((input_fits c items left.is_input p).transport) rest

    -- and an affected unit has a processed packet
    some_of : (ns : List ℕ) → is_some (record_kept x ns) ≡ true → (ms : List ℕ) → is_some (record_kept x (ns ++ ms)) ≡ true
    some_of ns some ms = ap is_some (fold-append None ns ms) ∙ still_some (record_kept x ns) ms some

    one_is : (u : units.Unit) → is_affected x u ≡ true → (o : Option R) → HasOneRecord f x.world u o → is_some o ≡ true
    one_is u on o (Has_none none nowhere rest) = absurd (true≢false (sym on ∙ ap is_some (nowhere x.failed)))
    one_is u on o (Is_live i r is live rest) = ap is_some is
    one_is u on o (Is_on_way r is nowhere rest) = ap is_some is
    one_is u on o (Is_given i r is live rest remove) = ap is_some is

    has_some : (u : units.Unit) → is_affected x u ≡ true → (ms : List ℕ) → is_some (record_kept x (processed_of x u ++ ms)) ≡ true
    has_some u on ms = by_seen stands.seen (one_is u on (record_kept x stands.seen) stands.one) stands.has_seen
      where
        stands : HasRecord x.job x.world u
        stands = left.promises.record_stands u

        by_seen : (seen : List ℕ) → is_some (record_kept x seen) ≡ true → HasSeen x.job x.world u seen → is_some (record_kept x (processed_of x u ++ ms)) ≡ true
        by_seen seen some (Sees_all all) = ap (λ ns. is_some (record_kept x (ns ++ ms))) (sym all) ∙ some_of seen some ms
        by_seen seen some (Lacks_last ahead) =
            ap (λ ns. is_some (record_kept x (ns ++ ms))) ahead.went_is ∙ ap (λ ns. is_some (record_kept x ns)) (append_assoc seen (ahead.last ∷ []) ms)
            ∙ some_of seen some (ahead.last ∷ ms)

    -- the unit of what is picked out for one
    its_unit : (u : units.Unit) (p : ℕ) (ns : List ℕ) → is_in p (filter (of_unit u) ns) ≡ true → (unit_in x.job p ≡ u) × (is_in p ns ≡ true)
    its_unit u p ns e =
        let both = and_parts (of_unit u p) (is_in p ns) (sym (in_filter p (of_unit u) ns) ∙ e) in
        (same_unit-true (unit_in x.job p) u both.0, both.1)

    -- of an affected unit those after the first are lost
    lost_of : (u : units.Unit) → is_affected x u ≡ true → filter (of_unit u) (lost_in_order x) ≡ drop (reflected_by x u) (processed_of x u)
    lost_of u on =
        those_filter (of_unit u) (is_lost x) (numbers_done x.world.log)
        ∙ filter_same (is_lost x) (λ p. is_in p (drop (reflected_by x u) (processed_of x u))) (filter (of_unit u) (numbers_done x.world.log)) same
        ∙ ap (filter (λ p. is_in p (drop (reflected_by x u) (processed_of x u)))) (sym (processed_those x u))
        ∙ later_kept (reflected_by x u) (processed_of x u)
        (subst IsOnce (sym (processed_those x u)) (once_those (of_unit u) (numbers_done x.world.log) (once_done x left.is_input left.promises)))
      where
        same : (p : ℕ) → is_in p (filter (of_unit u) (numbers_done x.world.log)) ≡ true → is_lost x p ≡ is_in p (drop (reflected_by x u) (processed_of x u))
        same p e =
            let it = (its_unit u p (numbers_done x.world.log) e).0 in
            ap (λ v. is_affected x v && is_in p (drop (reflected_by x v) (processed_of x v))) it
            ∙ ap (λ b. b && is_in p (drop (reflected_by x u) (processed_of x u))) on

    -- and of another none
    lost_of_other : (u : units.Unit) → is_affected x u ≡ false → filter (of_unit u) (lost_in_order x) ≡ []
    lost_of_other u off =
        those_filter (of_unit u) (is_lost x) (numbers_done x.world.log)
        ∙ filter_none (is_lost x) (filter (of_unit u) (numbers_done x.world.log)) (λ p e.
        ap (λ v. is_affected x v && is_in p (drop (reflected_by x v) (processed_of x v))) (its_unit u p (numbers_done x.world.log) e).0
        ∙ ap (λ b. b && is_in p (drop (reflected_by x u) (processed_of x u))) off)

    open_of_other : (u : units.Unit) → is_affected x u ≡ false → filter (of_unit u) (open_packets x) ≡ []
    open_of_other u off =
        those_filter (of_unit u) (is_open x) (arrivals_in x.world.log)
        ∙ filter_none (is_open x) (filter (of_unit u) (arrivals_in x.world.log)) (λ p e.
        ap (λ v. is_affected x v && not (is_in p (numbers_done x.world.log))) (its_unit u p (arrivals_in x.world.log) e).0
        ∙ ap (λ b. b && not (is_in p (numbers_done x.world.log))) off)

    -- of an affected unit the open packets are those that came and weren't processed
    open_is : (u : units.Unit) → is_affected x u ≡ true → filter (of_unit u) (open_packets x)
        ≡ filter (λ p. not (is_in p (processed_of x u))) (arrived_of f c items u x.world.log)
    open_is u on =
        those_filter (of_unit u) (is_open x) (arrivals_in x.world.log)
        ∙ filter_same (is_open x) (λ p. not (is_in p (processed_of x u))) (filter (of_unit u) (arrivals_in x.world.log)) same
      where
        same : (p : ℕ) → is_in p (filter (of_unit u) (arrivals_in x.world.log)) ≡ true → is_open x p ≡ not (is_in p (processed_of x u))
        same p e =
            let it = (its_unit u p (arrivals_in x.world.log) e).0 in
            let own : of_unit u p ≡ true = (and_parts (of_unit u p) (is_in p (arrivals_in x.world.log)) (sym (in_filter p (of_unit u) (arrivals_in x.world.log))
            ∙ e)).0 in
            let among : is_in p (processed_of x u) ≡ is_in p (numbers_done x.world.log) = ap (is_in p) (processed_those x u)
            ∙ in_filter p (of_unit u) (numbers_done x.world.log) ∙ ap (λ b. b && is_in p (numbers_done x.world.log)) own in
            ap (λ v. is_affected x v && not (is_in p (numbers_done x.world.log))) it
            ∙ ap (λ b. b && not (is_in p (numbers_done x.world.log))) on
            ∙ ap not (sym among)

    module _ (p : Promoted F R) (h : IsPromoted x p) (after : TableView R) (live_is : after.live ≡ stepped (stepped p.table.live p.order) p.pending)
        (standby_is : after.standby ≡ p.table.standby) where
      got : (u : units.Unit) → finite.get after.live u
          ≡ fold f c items (fold f c items (finite.get p.table.live u) (filter (of_unit u) (lost_in_order x))) (filter (of_unit u) (open_packets x))
      got u =
          ap (λ m. finite.get m u) live_is
          ∙ get_stepped u (stepped p.table.live p.order) p.pending
          ∙ ap (λ r. fold f c items r (filter (of_unit u) p.pending)) (get_stepped u p.table.live p.order)
          ∙ ap (λ ns. fold f c items (fold f c items (finite.get p.table.live u) (filter (of_unit u) ns)) (filter (of_unit u) p.pending)) h.order
          ∙ ap (λ ns. fold f c items (fold f c items (finite.get p.table.live u) (filter (of_unit u) (lost_in_order x))) (filter (of_unit u) ns)) h.pending

      all_of : (u : units.Unit) → is_affected x u ≡ true → finite.get after.live u ≡ record_kept x (processed_of x u ++ filter (of_unit u) (open_packets x))
      all_of u on =
          got u
          ∙ ap (λ ns. fold f c items (fold f c items (finite.get p.table.live u) ns) (filter (of_unit u) (open_packets x))) (lost_of u on)
          ∙ ap (λ r. fold f c items (fold f c items r (drop (reflected_by x u) (processed_of x u))) (filter (of_unit u) (open_packets x)))
          (h.live u ∙ ap (λ b. if b then standing x u else live_at x.world x.to u) on ∙ sym (left.reflects u).is.folds)
          ∙ ap (λ r. fold f c items r (filter (of_unit u) (open_packets x)))
          (sym (fold-append None (take (reflected_by x u) (processed_of x u)) (drop (reflected_by x u) (processed_of x u)))
          ∙ ap (record_kept x) (take-append-drop (reflected_by x u) (processed_of x u)))
          ∙ sym (fold-append None (processed_of x u) (filter (of_unit u) (open_packets x)))

      pub caught_up : HasCaughtUp x after
      caught_up = record {
        affected = all_of;
        each = λ u on. (ap is_some (all_of u on) ∙ has_some u on (open_of x u));
        in_order = λ u on tight. (all_of u on ∙ ap (record_kept x)
            (ap (λ ns. processed_of x u ++ ns) (open_is u on)
            ∙ front_and_others (processed_of x u) (arrived_of f c items u x.world.log) (left.promises.in_order u tight)
            (once_those (of_unit u) (arrivals_in x.world.log) left.promises.came_once)));
        others = λ u off. (got u
            ∙ ap (λ ns. fold f c items (fold f c items (finite.get p.table.live u) ns) (filter (of_unit u) (open_packets x))) (lost_of_other u off)
            ∙ ap (λ ns. fold f c items (finite.get p.table.live u) ns) (open_of_other u off)
            ∙ h.live u ∙ ap (λ b. if b then standing x u else live_at x.world x.to u) off);
        standby = standby_is ∙ h.standby;
      }

-- the same of packets that are found by their numbers among those of the input
pub caught_after : {F R : Type 0} (x : Failover F R) → IsLeft x → (p : Promoted F R) → IsPromoted x p → (after : TableView R) (trace : List Packet)
    → packets x.job.items ≡ trace
    → after.live ≡ after_packets x.job.function x.job.config.site p.table.live (map (packet_among trace) (p.order ++ p.pending))
    → after.standby ≡ p.table.standby → HasCaughtUp x after
caught_after x left p h after trace same live standby =
    caught_up x left p h after
    (live ∙ ap (λ ps. after_packets x.job.function x.job.config.site p.table.live (map (packet_among ps) (p.order ++ p.pending))) (sym same)
    ∙ stepped-append x p.table.live p.order p.pending)
    standby

-- packets in two parts
pub after_both : {R : Type 0} (f : Semantics R) (site : Site) (records : Records R) (ps qs : List Packet)
    → after_packets f site records (ps ++ qs) ≡ after_packets f site (after_packets f site records ps) qs
after_both f site records [] qs = refl
after_both f site records (p ∷ ps) qs = after_both f site (after_packet f site records p) ps qs

-- steps on one list and then on another, as one clause
pub joined_live : {R : Type 0} (f : Semantics R) (site : Site) (trace : List Packet) (first second : List ℕ) (before mid after : Records R)
    → mid ≡ after_packets f site before (map (packet_among trace) first) → after ≡ after_packets f site mid (map (packet_among trace) second)
    → after ≡ after_packets f site before (map (packet_among trace) (first ++ second))
joined_live f site trace first second before mid after a b =
    b ∙ ap (λ m. after_packets f site m (map (packet_among trace) second)) a
    ∙ sym (ap (after_packets f site before) (map-append (packet_among trace) first second)
    ∙ after_both f site before (map (packet_among trace) first) (map (packet_among trace) second))

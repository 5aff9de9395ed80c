-- The unit of the packet with any number is one that packets may have; and what an instance notes as processed is among what ran.
use Rattle.nf_net.proofs.Words.{◌≡◌, ℕ, Bool, true, false, Option, Some, None, List, [], ◌∷◌, ◌++◌, refl, ap, if◌then◌else◌, ◌&&◌, ◌==◌, not, find, unwrap_or}
use Rattle.nf_net.proofs.Words.{cons_option, filter_map, Packet, Site, Flow, Output, Note, Each, packet_numbered, unit_numbered, flow_fits, unit_fits, all_each}
use Rattle.nf_net.proofs.Words.{ran_in, unit_is_fit, flow_of, split, Setting}
use Rattle.flow_filter.specs.declared.flow.Direction.{Direction}
use Rattle.flow_filter.specs.declared.flow.Direction.TheVariants.{Out, In}
use Rattle.flow_filter.specs.Flow.{is_inside, outward, inward}
use Rattle.flow_filter.specs.FieldSteps.{is_outside_address, owner_of_port}
use Rattle.net_world.specs.Input.{packets, no_packet, IsSteered}
use Rattle.proof_outlines.proofs.joined.InputLemmas.{fits_flow}

-- the flow of the packet of zeros, whatever is inside
zeros_fit : (site : Site) (a b : Bool)
    → flow_fits (let flow : Flow × Direction = (if a && not a then (outward no_packet, Out) else if a && not a then (inward no_packet, In)
    else if not a && not a && (b && false) then (record (inward no_packet) { local = owner_of_port site 0 }, In) else (outward no_packet, Out)) in
    flow.0) ≡ true
zeros_fit site true b = refl
zeros_fit site false true = refl
zeros_fit site false false = refl

no_packet_fits : (site : Site) → flow_fits (flow_of site no_packet).0 ≡ true
unfolding flow_of
no_packet_fits site = zeros_fit site (is_inside site 0) (is_outside_address site.outside 0)

module _ {F R : Type 0} (setting : Setting F R) where
  open setting use {function as f, config as c, items, is_input as is}

  flow_found : (k : ℕ) (ps : List Packet) → Each (IsSteered c.site) ps
      → flow_fits (flow_of c.site (unwrap_or (find (λ p. p.number == k) ps) no_packet)).0 ≡ true
  flow_found k [] h = no_packet_fits c.site
  flow_found k (p ∷ ps) h =
      split (p.number == k) (λ b. flow_fits (flow_of c.site (unwrap_or (if b then Some p else find (λ q. q.number == k) ps) no_packet)).0 ≡ true)
      (λ _. fits_flow (flow_of c.site p).0 h.0.flow) (λ _. flow_found k ps h.1)

  pub units_fit : (k : ℕ) → unit_fits f.kind (unit_numbered c items f.kind k) ≡ true
  units_fit k = unit_is_fit f.kind (flow_of c.site (packet_numbered items k)).0
      (flow_found k (packets items) (all_each (IsSteered c.site) (packets items) is.steered))

-- where a packet that was noted stands among those that ran
pub record RanThere (ran : List ℕ) (k : ℕ) : Type 0 where
  pub front : List ℕ
  pub back : List ℕ
  pub whole : ran ≡ front ++ k ∷ back

pub ran_there : (front : List Note) (k instance : ℕ) (output : Output) (back : List Note)
    → RanThere (filter_map ran_in (front ++ Note.Processed k instance output ∷ back)) k
ran_there [] k instance output back = record { front = []; back = filter_map ran_in back; whole = refl }
ran_there (n ∷ front) k instance output back = by_note (ran_in n) (ran_there front k instance output back)
  where
    by_note : (o : Option ℕ) → RanThere (filter_map ran_in (front ++ Note.Processed k instance output ∷ back)) k
        → RanThere (cons_option o (filter_map ran_in (front ++ Note.Processed k instance output ∷ back))) k
    by_note None r = r
    by_note (Some q) r = record { front = q ∷ r.front; back = r.back; whole = ap (λ v. q ∷ v) r.whole }

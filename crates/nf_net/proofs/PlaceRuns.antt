-- In every run packets are processed at places of their units.
use Rattle.nf_net.proofs.Words.{◌≡◌, ℕ, zero, suc, true, false, List, [], ◌∷◌, ◌++◌, refl, sym, subst, Output, switch_step, controller_step, Msg, Note, Choice}
use Rattle.nf_net.proofs.Words.{Network, Node, job_of, node_step, IsPlace, ArePlaces, Given, IsTaken, node_of, scene, Wants, node_leads, Stands, In_first}
use Rattle.nf_net.proofs.Words.{In_second, stands, each_there, AreUnprocessed, switch_unprocessed, controller_uninstalled, uninstalled_unprocessed, Runs, given}
use Rattle.nf_net.proofs.Words.{all_fit, length, ◌+◌, Setting, IsCourse, world_of}
use Rattle.proof_outlines.proofs.joined.PlaceNotes.{is_unprocessed}
use Rattle.nf_net.proofs.RunWords.{Busy, run_busy, Installs, run_installs, AreUnderWay, moves_under_way, log_keeps}
use Rattle.nf_net.proofs.InstalledShares.{SaysOfShares, says_of_shares}
use Rattle.nf_net.proofs.PlaceSteps.{processed_place}

pub processed_off : (front back : List Note) (number i : ℕ) (output : Output) (notes : List Note) → AreUnprocessed notes
    → notes ≡ front ++ Note.Processed number i output ∷ back → ⊥
processed_off front back number i output notes h e =
    let never : false ≡ true = each_there (λ n. is_unprocessed n ≡ true) front (Note.Processed number i output) back (subst AreUnprocessed e h) in cc

module _ {F R : Type 0} (setting : Setting F R) where
  open setting use {function as f, laws, config as c, items}

  -- notes of what was processed at places
  abbrev AtPlaces : List Note → List Note → Type 0
  AtPlaces log notes = (front back : List Note) (number i : ℕ) (output : Output) → notes ≡ front ++ Note.Processed number i output ∷ back
      → IsPlace (job_of f c items) number (log ++ front) i

  places_more : (log notes : List Note) → ArePlaces (job_of f c items) log → AtPlaces log notes → ArePlaces (job_of f c items) (log ++ notes)
  places_more log notes old new before after number i output e = by_place (stands log notes before (Note.Processed number i output) after e)
    where
      by_place : Stands log notes (record { before = before; item = Note.Processed number i output; after = after })
          → IsPlace (job_of f c items) number before i
      by_place (In_first cs here) = old before cs number i output here
      by_place (In_second cs from there) = subst (λ b. IsPlace (job_of f c items) number b i) (sym from) (new cs after number i output there)

  module _ (w : Network (Node F R) Msg Note) (r : Runs setting w) (b : Busy (given setting) w) (h : Installs (given setting) w)
      (busy : AreUnderWay setting (length c.names + 2) w r.joined) (says : SaysOfShares f c items w.log) where
    at_places : (k p : ℕ) (m : Msg) → IsTaken f (given setting) (length c.names + 2)
        (scene f (given setting) (length c.names + 2) refl (Wants f (given setting))
        (node_leads f laws (given setting) (all_fit setting) (length c.names + 2)) w r.joined) (record { node = k; port = p; message = m })
        → AtPlaces w.log (node_step f (node_of r.joined.nodes k) p m).notes
    at_places zero p m it front back number i output e =
        absurd (processed_off front back number i output (switch_step r.joined.nodes.switch m).notes (switch_unprocessed r.joined.nodes.switch m) e)
    at_places (suc zero) p m it front back number i output e = absurd (processed_off front back number i output
        (controller_step r.joined.nodes.controller p m).notes (uninstalled_unprocessed _ (controller_uninstalled r.joined.nodes.controller p m)) e)
    at_places (suc (suc y)) p m it front back number i output e =
        processed_place setting (length c.names + 2) refl w r.joined r.beside.kept.apart b h busy says y p m it front back number i output e

  none_at_start : ArePlaces (job_of f c items) []
  none_at_start [] after number i output e = cc
  none_at_start (x ∷ before) after number i output e = cc

  -- every run keeps it
  pub places : (cs : List Choice) → IsCourse setting cs → ArePlaces (job_of f c items) (world_of setting cs).log
  places = log_keeps setting (ArePlaces (job_of f c items)) none_at_start (λ ds ok d s old. places_more (world_of setting ds).log _ old
      (at_places (world_of setting ds) s.runs (run_busy setting ds ok).1 (run_installs setting ds ok)
      (moves_under_way setting ds ok s.runs.joined) (says_of_shares setting ds ok) d.node d.port s.taking.message
      s.taken))

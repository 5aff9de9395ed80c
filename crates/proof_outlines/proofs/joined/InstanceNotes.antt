-- What an instance notes: packets that it processed, and neither arrivals nor changes of the rules; what was done is what ran at its node.
use Rattle.proof_outlines.proofs.Words.{◌≡◌, ℕ, None, List, [], ◌∷◌, refl, ap, ◌∙◌, subst, filter_map, Semantics, Note, instance_node, Each, at_node}
use Rattle.proof_outlines.proofs.Words.{arrival_in, arrivals_in, dones_in, installs_in, none_picked}
use Rattle.proof_outlines.proofs.joined.Words.{ran_in, Given, by_node}
use Rattle.proof_outlines.proofs.joined.OwnerLemmas.{installed_quiet}
use Rattle.proof_outlines.proofs.joined.PlaceNotes.{IsQuiet}

-- notes of the instance at node k
abbrev pub AreOwn : ℕ → List Note → Type 0
AreOwn k notes = (i : ℕ) × (instance_node i ≡ k) × Each (IsQuiet i) notes

pub quiet_arrival : (i : ℕ) (n : Note) → IsQuiet i n → arrival_in n ≡ None
quiet_arrival i (Note.Arrived number) h = absurd h
quiet_arrival i n h = refl

pub none_arrived : (k : ℕ) (notes : List Note) → AreOwn k notes → arrivals_in notes ≡ []
none_arrived k notes h = none_picked arrival_in (IsQuiet h.0) (quiet_arrival h.0) notes h.2

pub none_installed : (k : ℕ) (notes : List Note) → AreOwn k notes → installs_in notes ≡ []
none_installed k notes h = installed_quiet h.0 notes h.2

module _ {R : Type 0} (f : Semantics R) (g : Given) where
  done_by : (i : ℕ) (notes : List Note) → Each (IsQuiet i) notes → by_node f g (dones_in notes) ≡ at_node (instance_node i) (filter_map ran_in notes)
  done_by i [] h = refl
  done_by i (Note.Arrived number ∷ notes) h = absurd h.0
  done_by i (Note.Installed op ∷ notes) h = absurd h.0
  done_by i (Note.Processed number instance output ∷ notes) h =
      ap (λ y. (number, instance_node y) ∷ by_node f g (dones_in notes)) h.0 ∙ ap (λ ds. (number, instance_node i) ∷ ds) (done_by i notes h.1)
  done_by i (n ∷ notes) h = done_by i notes h.1

  -- what was done is what ran at the node
  pub done_own : (k : ℕ) (notes : List Note) → AreOwn k notes → by_node f g (dones_in notes) ≡ at_node k (filter_map ran_in notes)
  done_own k notes h = subst (λ y. by_node f g (dones_in notes) ≡ at_node y (filter_map ran_in notes)) h.1 (done_by h.0 notes h.2)

-- What is read off a log that goes on.
use Rattle.strong_share.proofs.Words.{◌≡◌, ℕ, None, Bool, true, false, List, [], ◌∷◌, ◌++◌, map, refl, sym, ap, ◌∙◌, append-nil, if◌then◌else◌, ◌==◌, filter}
use Rattle.strong_share.proofs.Words.{map-append, filter-append, Semantics, StrongNote, Queued, StrongJob, inner_notes, entries, queue_order, events_of}
use Rattle.strong_share.proofs.Words.{arrivals_in, dones_in, done_numbers, is_of, outputs_of, processed_of, outputs}
use Rattle.std.proofs.lemmas.List.Elements.{filter_map-append}
use Rattle.nf_function.specs.declared.unit.Unit as units
use Rattle.net_world.specs.Log as log
use Rattle.net_world.proofs.LogLemmas as log_lemmas
use Rattle.strong_share.specs.Words.{inner_note, entry_in}

-- the packets in entries, and those that a member raised
abbrev pub entry_numbers : List (ℕ × ℕ) → List ℕ
entry_numbers es = map (λ e. e.0) es

abbrev pub member_numbers : ℕ → List (ℕ × ℕ) → List ℕ
member_numbers k es = map (λ e. e.0) (filter (λ e. e.1 == k) es)

pub entries-append : (xs ys : List StrongNote) → entries (xs ++ ys) ≡ entries xs ++ entries ys
entries-append xs ys = filter_map-append entry_in xs ys

pub queue_order-append : (xs ys : List StrongNote) → queue_order (xs ++ ys) ≡ queue_order xs ++ queue_order ys
queue_order-append xs ys = ap entry_numbers (entries-append xs ys) ∙ map-append (λ (e : ℕ × ℕ). e.0) (entries xs) (entries ys)

pub events_of-queued : (k p j : ℕ) (xs : List StrongNote) → events_of k (xs ++ Queued p j ∷ []) ≡ events_of k xs ++ (if j == k then p ∷ [] else [])
events_of-queued k p j xs =
    ap (member_numbers k) (entries-append xs (Queued p j ∷ []))
    ∙ ap entry_numbers (filter-append (λ (e : ℕ × ℕ). e.1 == k) (entries xs) ((p, j) ∷ []))
    ∙ map-append (λ (e : ℕ × ℕ). e.0) (filter (λ e. e.1 == k) (entries xs)) (if j == k then (p, j) ∷ [] else [])
    ∙ ap (λ z. events_of k xs ++ z) (one (j == k))
  where
    one : (b : Bool) → entry_numbers (if b then (p, j) ∷ [] else []) ≡ (if b then p ∷ [] else [])
    one true = refl
    one false = refl

pub arrived-append : (xs ys : List StrongNote) → arrivals_in (xs ++ ys) ≡ arrivals_in xs ++ arrivals_in ys
arrived-append xs ys = ap log.arrivals_in (filter_map-append inner_note xs ys) ∙ log_lemmas.arrived-append (inner_notes xs) (inner_notes ys)

pub done-append : (xs ys : List StrongNote) → dones_in (xs ++ ys) ≡ dones_in xs ++ dones_in ys
done-append xs ys = ap log.dones_in (filter_map-append inner_note xs ys) ∙ log_lemmas.done-append (inner_notes xs) (inner_notes ys)

pub done_numbers-append : (xs ys : List StrongNote) → done_numbers (xs ++ ys) ≡ done_numbers xs ++ done_numbers ys
done_numbers-append xs ys = ap (map (λ d. d.number)) (done-append xs ys) ∙ map-append (λ (d : log.Done). d.number) (dones_in xs) (dones_in ys)

-- notes of which nothing is read but what arrived
pub record IsQuiet (old new : List StrongNote) : Type 0 where
  pub entries_stay : entries new ≡ entries old
  pub done_stays : dones_in new ≡ dones_in old

pub quiet_log : (old more : List StrongNote) → entries more ≡ [] → dones_in more ≡ [] → IsQuiet old (old ++ more)
quiet_log old more none undone = record {
  entries_stay = entries-append old more ∙ ap (λ z. entries old ++ z) none ∙ append-nil (entries old);
  done_stays = done-append old more ∙ ap (λ z. dones_in old ++ z) undone ∙ append-nil (dones_in old);
}

module _ {R : Type 0} (f : Semantics R) (job : StrongJob) where
  -- outputs stay as they are where nothing is processed
  pub answered_same : (old new : List StrongNote) → IsQuiet old new → ((u : units.Unit)
      → outputs_of f job u old ≡ outputs f job None (processed_of f job u old))
      → (u : units.Unit) → outputs_of f job u new ≡ outputs f job None (processed_of f job u new)
  answered_same old new q h u =
      ap (λ ds. map (λ d. d.output) (filter (λ d. is_of f job u d.number) ds)) q.done_stays ∙ h u
      ∙ ap (λ ds. outputs f job None (filter (is_of f job u) (map (λ d. d.number) ds))) (sym q.done_stays)

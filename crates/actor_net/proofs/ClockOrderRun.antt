-- Steps that stand in the order of their clocks are a run, and what the run does is what the histories say.
use Rattle.std.proofs.Common.{◌≡◌, ℕ, ◌<◌, Bool, true, false, List, [], ◌∷◌, ◌++◌, length, refl, sym, ap, ◌∙◌, append_assoc, append-nil}
use Rattle.std.specs.Prelude.{if◌then◌else◌, ◌==◌}
use Rattle.actor_net.specs.declared.choice.Choice.{Choice}
use Rattle.actor_net.specs.declared.stamped.Stamped.{Stamped}
use Rattle.actor_net.specs.Network.{Network, Stepped, world_next, reaches}
use Rattle.actor_net.specs.Histories.{NodeStep, messages, does, node_after, notes_of, without_first_list, first_list, notes_of_choices}
use Rattle.actor_net.proofs.EnabledChoices.{at}
use Rattle.actor_net.proofs.LinkLemmas.{neither}
use Rattle.actor_net.proofs.ClockOrder.{SentBefore, with_history, at_history, same_test, other_test, choices_of, InClockOrder, node_of, FitsWorld, RunLeaves}
use Rattle.actor_net.proofs.ClockOrderStep.{NextStep, enabled, outcome_by, node_own, node_other, fits_on, past_on, holds'}

-- the notes of equal queues are dealt alike
pub dealt_same : {N : Type 0} (q r : ℕ → List (List N)) (cs : List Choice) → ((j : ℕ) → q j ≡ r j) → notes_of_choices q cs ≡ notes_of_choices r cs
dealt_same q r [] same = refl
dealt_same q r (c ∷ cs) same =
    let here = same c.node in
    rw here (ap (λ xs. first_list (r c.node) ++ xs)
    (dealt_same (λ j. if j == c.node then without_first_list (q j) else q j) (λ j. if j == c.node then without_first_list (r j) else r j) cs (λ j.
    elim (j == c.node) as (λ b. (if b then without_first_list (q j) else q j) ≡ (if b then without_first_list (r j) else r j)) [
      | true ↦ ap without_first_list (same j)
      | false ↦ same j
    ])))

module _ {A M N : Type 0} (ready : A → M → Bool) (step : A → ℕ → M → Stepped A M N) (d : A) where
  -- with no step left, what is left is what the links hold
  nothing_more : (w : Network A M N) (hs : ℕ → List (NodeStep M)) (holds left : ℕ → ℕ → List (Stamped M)) → ((k : ℕ) → hs k ≡ [])
      → FitsWorld ready step d w hs holds left → (s r : ℕ) → s < length w.nodes → r < length w.nodes → holds s r ≡ left s r
  nothing_more w hs holds left ends fits s r hs' hr =
      let none_taken = ends r in
      let none_sent = ends s in
      let whole : left s r ≡ holds s r ++ (if reaches (length w.nodes) s r then [] else []) = rw (none_taken, none_sent) at (fits.whole s r hs' hr) in
      sym (whole ∙ ap (λ xs. holds s r ++ xs) (neither (reaches (length w.nodes) s r)) ∙ append-nil (holds s r))

  pub followed : (ms : List (ℕ × NodeStep M)) (w : Network A M N) (hs : ℕ → List (NodeStep M)) (holds left : ℕ → ℕ → List (Stamped M)) → InClockOrder hs ms
      → ((j : ℕ) → SentBefore (hs j)) → FitsWorld ready step d w hs holds left → RunLeaves ready step d w hs left (choices_of ms)
  followed [] w hs holds left ends past fits = record {
    is_run = tt;
    count = refl;
    nodes = λ j. let none = ends j in rw none refl;
    waits = λ s r hs' hr. fits.shows s r hs' hr ∙ ap messages (nothing_more w hs holds left ends fits s r hs' hr);
    log = sym (append-nil w.log);
    links = refl;
    loop = refl;
  }
  followed (m ∷ ms) w hs holds left follows past fits =
      let es = follows.0 in
      let h : NextStep ready step d w hs holds left m.0 m.1 es = record { fits = fits; past = past; over = follows.2; is = follows.1 } in
      let w' = world_next step w (at m.0 m.1.port) in
      let rest = followed ms w' (with_history hs m.0 es) (holds' ready step d w hs holds left m.0 m.1 es) left follows.3
      (past_on ready step d w hs holds left m.0 m.1 es h) (fits_on ready step d w hs holds left m.0 m.1 es h) in
      let l = outcome_by ready step d w hs holds left m.0 m.1 es h in
      let did = does step (node_of ready step d w m.0) m.1 in
      let is = follows.1 in
      let own = node_own ready step d w hs holds left m.0 m.1 es h in
      let other = node_other ready step d w hs holds left m.0 m.1 es h in
      let count = l.count in
      let after = λ (j : ℕ). notes_of step (node_of ready step d w' j) (with_history hs m.0 es j) in
      let before = λ (j : ℕ). notes_of step (node_of ready step d w j) (hs j) in
      let queues : (j : ℕ) → after j ≡ (if j == m.0 then without_first_list (before j) else before j) = λ j.
      at_history hs m.0 es (λ y xs. notes_of step (node_of ready step d w' y) xs ≡ (if y == m.0 then without_first_list (before y) else before y)) j
      (let same = same_test m.0 in rw (own, same, is) refl)
      (λ no. let off = other_test j m.0 no in let node = other j no in rw (off, node) refl) in
      let first : first_list (before m.0) ≡ did.notes = rw is refl in
      let notes : did.notes ++ notes_of_choices after (choices_of ms) ≡ notes_of_choices before (choices_of (m ∷ ms)) =
      ap (λ xs. did.notes ++ xs) (dealt_same after (λ j. if j == m.0 then without_first_list (before j) else before j) (choices_of ms) queues)
      ∙ ap (λ xs. xs ++ notes_of_choices (λ j. if j == m.0 then without_first_list (before j) else before j) (choices_of ms)) (sym first) in
      record {
        is_run = (enabled ready step d w hs holds left m.0 m.1 es h, rest.is_run);
        count = rest.count ∙ count;
        nodes = λ j. rest.nodes j ∙ at_history hs m.0 es (λ y xs. node_after step (node_of ready step d w' y) xs
            ≡ node_after step (node_of ready step d w y) (hs y)) j (rw (own, is) refl) (λ no. let node = other j no in rw node refl);
        waits = λ s r hs' hr. rest.waits s r (rw count hs') (rw count hr);
        log = rest.log
            ∙ ap (λ xs. xs ++ notes_of_choices (λ j. notes_of step (node_of ready step d w' j) (with_history hs m.0 es j)) (choices_of ms)) l.log
            ∙ append_assoc w.log did.notes _
            ∙ ap (λ xs. w.log ++ xs) notes;
        links = rest.links ∙ l.links ∙ sym fits.square;
        loop = rest.loop ∙ l.loop;
      }

-- What the steps of the nodes note: an instance what it processed, gave and took, and the others nothing that was processed.
use Rattle.proof_outlines.proofs.Words.{◌≡◌, ℕ, Bool, true, false, Option, Some, None, List, [], ◌∷◌, refl, ◌∙◌, subst, Semantics, Mark, FullCell, Answer, Msg}
use Rattle.proof_outlines.proofs.Words.{Note, SwitchState, switch_step, ControllerState, controller_step, Turn, turn_of, Instance, and_then, instance_step}
use Rattle.proof_outlines.proofs.Words.{Each, each-append, dones_in, done_in, none_picked}
use Rattle.std.specs.FinMap as finite
use Rattle.proof_outlines.proofs.joined.Words.{row_fits, step_fits, instance_fits}
use Rattle.ctrl_node.specs.Controller as controllers
use Rattle.instance_worker.specs.Instance.{Step, process_step}

-- a note of instance k, of nothing but packets and records
abbrev pub IsQuiet : ℕ → Note → Type 0
IsQuiet k (Note.Processed number instance output) = instance ≡ k
IsQuiet k (Note.Exported instance op us) = Unit {0}
IsQuiet k (Note.Imported instance op us) = Unit {0}
IsQuiet k (Note.Kept instance op us) = Unit {0}
IsQuiet k n = ⊥

-- a note of nothing that was processed
abbrev pub is_unprocessed : Note → Bool
is_unprocessed (Note.Processed number instance output) = false
is_unprocessed n = true

abbrev pub AreUnprocessed : List Note → Type 0
AreUnprocessed notes = Each (λ n. is_unprocessed n ≡ true) notes

unprocessed_done : (n : Note) → is_unprocessed n ≡ true → done_in n ≡ None
unprocessed_done (Note.Processed number instance output) h = cc
unprocessed_done n h = refl

pub none_done : (notes : List Note) → AreUnprocessed notes → dones_in notes ≡ []
none_done notes h = none_picked done_in (λ n. is_unprocessed n ≡ true) unprocessed_done notes h

-- and nothing came or was installed
abbrev pub is_uninstalled : Note → Bool
is_uninstalled (Note.Processed number instance output) = false
is_uninstalled (Note.Arrived number) = false
is_uninstalled (Note.Installed op) = false
is_uninstalled n = true

pub uninstalled_unprocessed : (notes : List Note) → Each (λ n. is_uninstalled n ≡ true) notes → AreUnprocessed notes
uninstalled_unprocessed [] h = tt
uninstalled_unprocessed (Note.Processed number i output ∷ ns) h = let never = h.0 in cc
uninstalled_unprocessed (Note.Arrived number ∷ ns) h = let never = h.0 in cc
uninstalled_unprocessed (Note.Installed op ∷ ns) h = let never = h.0 in cc
uninstalled_unprocessed (n ∷ ns) h = (refl, uninstalled_unprocessed ns h.1)

-- An instance.
module _ {F R : Type 0} (f : Semantics R) where
  abbrev Quiet : Instance F R → Step F R → Type 0
  Quiet i did = (did.node.index ≡ i.index) × Each (IsQuiet i.index) did.notes

  processed_quiet : (i : Instance F R) (m : Mark) (cell : FullCell) → Quiet i (process_step f i m cell)
  unfolding process_step
  processed_quiet i m cell = (refl, (refl, tt))

  both_quiet : (i : Instance F R) (did : Step F R) (next : Instance F R → Step F R) → Quiet i did → Quiet did.node (next did.node)
      → Quiet i (and_then did next)
  both_quiet i did next a b = (
    b.0 ∙ a.0,
    each-append (IsQuiet i.index) did.notes (next did.node).notes a.1 (subst (λ k. Each (IsQuiet k) (next did.node).notes) a.0 b.1),
  )

  pub instance_same : (i : Instance F R) (m : Msg) → Quiet i (instance_step f i m)
  instance_same = instance_fits f (λ j _ did. Quiet j did) (record {
    still = λ j m. (refl, tt);
    held = λ j mk cell op. (refl, tt);
    processed = λ j mk cell. processed_quiet j mk cell;
    released = λ j op cell. processed_quiet j Mark.Plain cell;
    both = λ j m did next w a b. both_quiet j did next a b;
    unruled = λ j op did h. h;
    seen = λ j mk cell op. (refl, tt);
    event = λ j mk cell op. (refl, tt);
    fenced = λ j op. (refl, tt);
    stopped = λ j. (refl, tt);
    enabled = λ j op filter action. (refl, tt);
    given = λ j op filter. (refl, (tt, tt));
    streamed = λ j op filter. (refl, (tt, tt));
    all_given = λ j op. (refl, tt);
    deleted = λ j op gone. (refl, tt);
    refused = λ j op piece first why is. (refl, tt);
    taken = λ j op piece first is. (refl, (tt, tt));
    restored = λ j op chunks. (refl, (tt, tt));
    stood_by = λ j op chunks. (refl, (tt, tt));
    synced = λ j home op chunks. (refl, (tt, tt));
    merged = λ j op chunk slots is. (refl, tt);
  })

  pub instance_quiet : (i : Instance F R) (m : Msg) → Each (IsQuiet i.index) (instance_step f i m).notes
  instance_quiet i m = (instance_same i m).1

-- The switch.
pub switch_unprocessed : (s : SwitchState) (m : Msg) → AreUnprocessed (switch_step s m).notes
switch_unprocessed s m = step_fits s (λ _ did. AreUnprocessed did.notes) (record {
  still = λ k. tt;
  to_controller = λ p. (refl, tt);
  to_instance = λ p i. (refl, tt);
  command = λ c. tt;
  ended = tt;
  forward = λ to k cell. tt;
  install = λ op filter from to. (refl, tt);
  fence = λ op to. tt;
  answered = λ op. tt;
  finish = tt;
  credit = λ cell. tt;
}) m

-- The controller.
abbrev AreUninstalled : List Note → Type 0
AreUninstalled notes = Each (λ n. is_uninstalled n ≡ true) notes

turn_quiet : (s : ControllerState) (op : ℕ) (turn : Turn) (o : Option Answer) → AreUninstalled (controllers.after_turn s op turn o).notes
turn_quiet s op turn None = tt
turn_quiet s op turn (Some answer) = (refl, tt)

handed_quiet : (s : ControllerState) (op port : ℕ) (m : Msg) → AreUninstalled (controllers.hand_step s op port m).notes
handed_quiet s op port m = turn_quiet s op (turn_of (finite.get s.operations op) s.store port m) (turn_of (finite.get s.operations op) s.store port m).answer

pub controller_uninstalled : (s : ControllerState) (port : ℕ) (m : Msg) → Each (λ n. is_uninstalled n ≡ true) (controller_step s port m).notes
controller_uninstalled s port m = row_fits s (λ _ did. AreUninstalled did.notes) (record {
  still = λ k. tt;
  ended = tt;
  stopped = λ i. tt;
  returned = λ op i cell. tt;
  handed = handed_quiet s;
  queued = λ op cell. tt;
  answers = λ k op answer. (refl, tt);
  begins = record {
    moves = λ k op from to filter keep. (refl, tt);
    copies = λ k op from to filter. (refl, tt);
    shares = λ k op filter home others. (refl, tt);
  };
}) port m

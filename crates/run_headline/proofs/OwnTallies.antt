-- A step of an instance that takes no tally and gives none adds to its own count in its tally what it notes as processed, and changes no other count.
use Rattle.run_headline.proofs.Words.{◌≡◌, ℕ, zero, suc, ◌+◌, ◌-◌, ◌<◌, Bool, true, false, ◌||◌, Option, Some, None, List, [], ◌∷◌, ◌++◌, length, map}
use Rattle.run_headline.proofs.Words.{slice_index, refl, sym, ap, ◌∙◌, subst, arith, ◌==◌, filter, filter_map, if◌then◌else◌, min, Decides-eqb, nat_tests}
use Rattle.run_headline.proofs.Words.{Chunk, Semantics, unit_at, FullCell, Msg, Note, Step, instance_step, done_in}
use Rattle.std.proofs.Common.{◌^◌}
use Rattle.std.specs.Prelude.{slice_set}
use Rattle.std.proofs.lemmas.List.{get_or-set_other, get_or-set_same, length-set}
use Rattle.nf_function.specs.declared.unit.Unit as units
use Rattle.nf_function.specs.Semantics.{count}
use Rattle.event_filter.specs.declared.mark.Mark.{Mark}
use Rattle.event_filter.specs.declared.mark.Mark.TheVariants as mark
use Rattle.nf_msgs.specs.declared.msg.Piece.{Piece}
use Rattle.nf_msgs.specs.declared.msg.Msg.TheVariants as msg
use Rattle.nf_msgs.specs.declared.note.Note.TheVariants as note
use Rattle.instance_worker.specs.declared.instance.Instance.{Instance}
use Rattle.instance_worker.specs.Pieces.{pieces}
use Rattle.instance_worker.specs.Instance.{to_controller, chunk_told, share_message, still, and_then, selected_chunks, process_step}
use Rattle.run_report.specs.proof_machines.proofs.unit.Labels.{Each, each-append}
use Rattle.run_report.specs.proof_outlines.proofs.joined.PlaceNotes.{AreUnprocessed}
use Rattle.run_report.specs.proof_outlines.proofs.outline.InstanceWays.{instance_fits}

-- how many packets an instance has processed, by the notes
abbrev pub done_at : ℕ → List Note → ℕ
done_at j log = length (filter (λ d. d.1 == j) (filter_map done_in log))

pub done_append : (j : ℕ) (xs ys : List Note) → done_at j (xs ++ ys) ≡ done_at j xs + done_at j ys
done_append j [] ys = omega arith
done_append j (note.Processed number k output ∷ xs) ys = elim (k == j) as (λ b.
    length (if b then (number, k) ∷ filter (λ d. d.1 == j) (filter_map done_in (xs ++ ys)) else filter (λ d. d.1 == j) (filter_map done_in (xs ++ ys)))
    ≡ length (if b then (number, k) ∷ filter (λ d. d.1 == j) (filter_map done_in xs) else filter (λ d. d.1 == j) (filter_map done_in xs)) + done_at j ys) [
      | true ↦ (let rest = done_append j xs ys in omega (arith, rest))
      | false ↦ done_append j xs ys
    ]
done_append j (n ∷ xs) ys = done_append j xs ys

pub none_done : (j : ℕ) (notes : List Note) → AreUnprocessed notes → done_at j notes ≡ 0
none_done j [] h = refl
none_done j (note.Processed number k output ∷ ns) h = let never : false ≡ true = h.0 in cc
none_done j (n ∷ ns) h = none_done j ns h.1

-- the greatest count
abbrev pub most : ℕ
most = 2 ^ 64 - 1

-- no tally is sent
abbrev pub NoTally : Msg → Type 0
NoTally (msg.AllChunk op chunk) = ⊥
NoTally (msg.PutAll op chunk) = ⊥
NoTally m = Unit {0}

abbrev pub NoTallies : List (ℕ × Msg) → Type 0
NoTallies sends = Each (λ x. NoTally x.1) sends

chunk_none : (op : ℕ) (o : Option Chunk) (behind : List (ℕ × Msg)) → NoTallies behind → NoTallies (to_controller (chunk_told op o) ++ behind)
chunk_none op None behind h = h
chunk_none op (Some chunk) behind h = (tt, h)

pieces_none : (op : ℕ) (ps : List Piece) → NoTallies (to_controller (map (msg.Piece op) ps))
pieces_none op [] = tt
pieces_none op (p ∷ ps) = (tt, pieces_none op ps)

-- whether a message is of a tally
abbrev pub is_of_tally : Msg → Bool
is_of_tally (msg.GetAll op) = true
is_of_tally (msg.PutAll op chunk) = true
is_of_tally m = false

module _ {F R : Type 0} (f : Semantics R) where
  -- an instance's own count is that of so many packets, or the greatest
  pub record HasCount (n : ℕ) (i : Instance F R) : Type 0 where
    pub low : i.index < length i.tally.slots
    pub own : slice_index i.tally.slots i.index ≡ min n most

  -- a step that counts what it notes
  pub record Counted (n : ℕ) (i : Instance F R) (did : Step F R) : Type 0 where
    pub index : did.node.index ≡ i.index
    pub long : length did.node.tally.slots ≡ length i.tally.slots
    pub own : slice_index did.node.tally.slots i.index ≡ min (n + done_at i.index did.notes) most
    pub others : (j : ℕ) → (j == i.index) ≡ false → slice_index did.node.tally.slots j ≡ slice_index i.tally.slots j
    pub notes : (j : ℕ) → (j == i.index) ≡ false → done_at j did.notes ≡ 0
    pub sends : NoTallies did.sends

  -- where nothing is processed
  abbrev Unchanged : Instance F R → Step F R → Type 0
  Unchanged i did = (did.node.index ≡ i.index) × (did.node.tally.slots ≡ i.tally.slots)

  unprocessed : (n : ℕ) (i : Instance F R) (did : Step F R) → HasCount n i → Unchanged i did → AreUnprocessed did.notes → NoTallies did.sends → Counted n i did
  unprocessed n i did h same notes sends = record {
    index = same.0;
    long = ap length same.1;
    own = ap (λ s. slice_index s i.index) same.1 ∙ (let own = h.own in let none = none_done i.index did.notes notes in omega (arith, own, none));
    others = λ j off. ap (λ s. slice_index s j) same.1;
    notes = λ j off. none_done j did.notes notes;
    sends = sends;
  }

  quiet : (n : ℕ) (i : Instance F R) (did : Step F R) → HasCount n i → Unchanged i did → did.notes ≡ [] → NoTallies did.sends → Counted n i did
  quiet n i did h same none sends = unprocessed n i did h same (subst AreUnprocessed (sym none) tt) sends

  -- one step and then another
  then_counted : (n : ℕ) (i : Instance F R) (step : Step F R) (next : Instance F R → Step F R) → HasCount n i → (first : Counted n i step)
      → (HasCount (n + done_at i.index step.notes) step.node → Counted (n + done_at i.index step.notes) step.node (next step.node))
      → Counted n i (and_then step next)
  then_counted n i step next h first behind =
      let low = h.low in
      let index = first.index in
      let long = first.long in
      let second = behind (record { low = omega (arith, low, index, long); own = ap (slice_index step.node.tally.slots) index ∙ first.own }) in
      let did = next step.node in
      let own : slice_index did.node.tally.slots i.index ≡ min ((n + done_at i.index step.notes) + done_at i.index did.notes) most =
      subst (λ k. slice_index did.node.tally.slots k ≡ min ((n + done_at i.index step.notes) + done_at k did.notes) most) index second.own in
      record {
        index = second.index ∙ index;
        long = second.long ∙ long;
        own = (let all = done_append i.index step.notes did.notes in omega (arith, own, all));
        others = λ j off. second.others j (ap (λ k. j == k) index ∙ off) ∙ first.others j off;
        notes = λ j off. (let a = first.notes j off in let b = second.notes j (ap (λ k. j == k) index ∙ off) in let all = done_append j step.notes did.notes in
            omega (arith, a, b, all));
        sends = each-append (λ x. NoTally x.1) step.sends did.sends first.sends second.sends;
      }

  shared_none : (i : Instance F R) (m : Mark) (u : units.Unit) (behind : List (ℕ × Msg)) → NoTallies behind
      → NoTallies (to_controller (share_message f i m u) ++ behind)
  shared_none i mark.Plain u behind h = h
  shared_none i (mark.Pass op) u behind h = h
  shared_none i (mark.Shared op home) u behind h = chunk_none op _ behind h

  one_counted : (n : ℕ) (i : Instance F R) (m : Mark) (cell : FullCell) → HasCount n i → Counted n i (process_step f i m cell)
  unfolding process_step
  one_counted n i m cell h = record {
    index = refl;
    long = length-set i.tally.slots i.index (count (slice_index i.tally.slots i.index) 1);
    own = get_or-set_same i.tally.slots i.index (count (slice_index i.tally.slots i.index) 1) 0 h.low ∙ counts;
    others = λ j off. get_or-set_other i.tally.slots i.index j (count (slice_index i.tally.slots i.index) 1) 0
        (λ same. let on = (Decides-eqb j i.index).1 same in let never : true ≡ false = sym on ∙ off in cc);
    notes = λ j off. (let turned : (i.index == j) ≡ false = grind (arith, nat_tests, off) in rw turned refl);
    sends = shared_none (process_step f i m cell).node m (unit_at f.kind i.site cell.packet) ((0, msg.Credit cell) ∷ []) (tt, tt);
  }
    where
      counts : count (slice_index i.tally.slots i.index) 1 ≡ min (n + done_at i.index (process_step f i m cell).notes) most
      counts = let is = h.own in let own : (i.index == i.index) ≡ true = grind (arith, nat_tests) in rw own (omega (arith, is))

  pub instance_counted : (n : ℕ) (i : Instance F R) (m : Msg) → is_of_tally m ≡ false → HasCount n i → Counted n i (instance_step f i m)
  instance_counted n i m off h = instance_fits f (λ j w did. is_of_tally w ≡ false → (k : ℕ) → HasCount k j → Counted k j did) (record {
    still = λ j w e k has. quiet k j (still j) has (refl, refl) refl tt;
    held = λ j mk cell op e k has. quiet k j _ has (refl, refl) refl tt;
    processed = λ j mk cell e k has. one_counted k j mk cell has;
    released = λ j op cell e k has. one_counted k j mark.Plain cell has;
    both = λ j w did next may a b e k has. then_counted k j did next has (a e k has) (λ more. b e (k + done_at j.index did.notes) more);
    unruled = λ j op did a e k has. (let it = a e k (record { low = has.low; own = has.own }) in
        record { index = it.index; long = it.long; own = it.own; others = it.others; notes = it.notes; sends = it.sends });
    seen = λ j mk cell op e k has. quiet k j _ has (refl, refl) refl (tt, tt);
    event = λ j mk cell op e k has. quiet k j _ has (refl, refl) refl (tt, tt);
    fenced = λ j op e k has. quiet k j _ has (refl, refl) refl (tt, tt);
    stopped = λ j e k has. quiet k j _ has (refl, refl) refl (tt, tt);
    enabled = λ j op filter action e k has. quiet k j _ has (refl, refl) refl (tt, tt);
    given = λ j op filter e k has. unprocessed k j _ has (refl, refl) (refl, tt) (tt, tt);
    streamed = λ j op filter e k has. unprocessed k j _ has (refl, refl) (refl, tt) (pieces_none op (pieces (selected_chunks f j filter)));
    all_given = λ j op e k has. cc;
    deleted = λ j op gone e k has. quiet k j _ has (refl, refl) refl (tt, tt);
    refused = λ j op piece first why is e k has. quiet k j _ has (refl, refl) refl (tt, tt);
    taken = λ j op piece first is e k has. unprocessed k j _ has (refl, refl) (refl, tt) (elim (first || piece.last)
        as (λ b. NoTallies (to_controller (if b then msg.PutOk op ∷ [] else []))) [ true ↦ (tt, tt) | false ↦ tt ]);
    restored = λ j op chunks e k has. unprocessed k j _ has (refl, refl) (refl, tt) (tt, tt);
    stood_by = λ j op chunks e k has. unprocessed k j _ has (refl, refl) (refl, tt) (tt, tt);
    synced = λ j home op chunks e k has. unprocessed k j _ has (refl, refl) (refl, tt) (tt, tt);
    merged = λ j op chunk slots is e k has. cc;
  }) i m off n h

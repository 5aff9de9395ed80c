-- Tallies on their way, and those that instances hold, are such: so what an instance is to merge can be read. And an instance ends where it is told to
-- stop, and not otherwise.
use Rattle.nf_net.proofs.Words.{◌≡◌, ℕ, zero, suc, ◌^◌, ◌<◌, Bool, true, false, Option, Some, None, Ok, List, [], ◌∷◌, ◌++◌, map, length, refl, sym, ap, ◌∙◌}
use Rattle.nf_net.proofs.Words.{subst, arith, if◌then◌else◌, ◌||◌, slice_set, length-set, Chunk, Semantics, unit_at, IsTally, tally_read, Mark, FullCell, Piece}
use Rattle.nf_net.proofs.Words.{Msg, Note, pieces, to_controller, chunk_told, share_message, tell_step, tells_and_notes, and_then, selected_chunks}
use Rattle.nf_net.proofs.Words.{instance_step, Each, each-append, instance_fits, Unit}
use Rattle.std.proofs.Common.{slice_index}
use Rattle.nf_function.specs.Semantics.{count}
use Rattle.nf_function.specs.Tally.{with_packet_counted, merged}
use Rattle.nf_function.proofs.MergeLemmas.{merge_laws}
use Rattle.state_chunk.specs.Format.{tally_bytes}
use Rattle.state_chunk.proofs.TallyLemmas.{tally_read-tally_bytes}
use Rattle.event_filter.specs.Rules as rules
use Rattle.instance_worker.specs.declared.instance.Instance.{Instance}
use Rattle.instance_worker.specs.Instance.{Step, still, process_step}

-- one count changed
set_low : (slots : List ℕ) (i v : ℕ) → v < 2 ^ 64 → ((j : ℕ) → slice_index slots j < 2 ^ 64) → (j : ℕ) → slice_index (slice_set slots i v) j < 2 ^ 64
set_low [] i v low h j = h j
set_low (x ∷ xs) zero v low h zero = low
set_low (x ∷ xs) zero v low h (suc j) = h (suc j)
set_low (x ∷ xs) (suc i) v low h zero = h zero
set_low (x ∷ xs) (suc i) v low h (suc j) = set_low xs i v low (λ q. h (suc q)) j

counted_is : (slots : List ℕ) (i : ℕ) → IsTally slots → IsTally (with_packet_counted slots i)
counted_is slots i is = record {
  size = length-set slots i (count (slice_index slots i) 1) ∙ is.size;
  each = set_low slots i (count (slice_index slots i) 1) (omega arith) is.each;
}

merged_is : (a b : List ℕ) → IsTally a → IsTally b → IsTally (merged a b)
merged_is a b x y =
    let same : length a ≡ length b = x.size ∙ sym y.size in
    record {
      size = merge_laws.slots a b same ∙ x.size;
      each = λ i. (let is = merge_laws.greater a b same i in let first = x.each i in let second = y.each i in omega (arith, is, first, second));
    }

-- whether an instance has ended behind a message
abbrev pub over_by : Msg → Bool → Bool
over_by Msg.Stop over = true
over_by m over = over

module _ {R : Type 0} (f : Semantics R) where
  -- a chunk of a tally
  pub record IsTallyChunk (chunk : Chunk) : Type 0 where
    pub slots : List ℕ
    pub bytes : chunk.bytes ≡ tally_bytes f.kind slots
    pub tally : IsTally slots

  pub reads : (chunk : Chunk) (is : IsTallyChunk chunk) → tally_read f.kind chunk.bytes ≡ Ok is.slots
  reads chunk is = ap (tally_read f.kind) is.bytes ∙ tally_read-tally_bytes f.kind is.slots is.tally

  -- what an instance gives of its tally
  abbrev pub GivesTally : Msg → Type 0
  GivesTally (Msg.AllChunk op chunk) = IsTallyChunk chunk
  GivesTally m = Prim.Unit {0}

  abbrev pub MergesTally : Msg → Type 0
  MergesTally (Msg.PutAll op chunk) = IsTallyChunk chunk
  MergesTally m = Prim.Unit {0}

  abbrev AllGiveTally : List (ℕ × Msg) → Type 0
  AllGiveTally sends = Each (λ x. GivesTally x.1) sends

  chunk_gives : (op : ℕ) (o : Option Chunk) (behind : List (ℕ × Msg)) → AllGiveTally behind → AllGiveTally (to_controller (chunk_told op o) ++ behind)
  chunk_gives op None behind h = h
  chunk_gives op (Some chunk) behind h = (tt, h)

  pieces_give : (op : ℕ) (ps : List Piece) → AllGiveTally (to_controller (map (Msg.Piece op) ps))
  pieces_give op [] = tt
  pieces_give op (p ∷ ps) = (tt, pieces_give op ps)

abbrev is_stop : Msg → Bool
is_stop Msg.Stop = true
is_stop m = false

module _ {F R : Type 0} (f : Semantics R) where
  -- a step that leaves a tally, and gives none but such; and whether the instance has then ended
  pub record StepLeaves (over : Bool) (did : Step F R) : Type 0 where
    pub ended : did.node.ended ≡ over
    pub tally : IsTally did.node.tally.slots
    pub sends : Each (λ x. GivesTally f x.1) did.sends

  abbrev Has : Instance F R → Type 0
  Has i = IsTally i.tally.slots

  still_leaves : (i : Instance F R) → Has i → StepLeaves i.ended (still i)
  still_leaves i h = record { ended = refl; tally = h; sends = tt }

  tells_leaves : (i : Instance F R) (m : Msg) → Has i → GivesTally f m → StepLeaves i.ended (tell_step i m)
  tells_leaves i m h own = record { ended = refl; tally = h; sends = (own, tt) }

  notes_leaves : (i : Instance F R) (m : Msg) (a : Note) → Has i → GivesTally f m → StepLeaves i.ended (tells_and_notes i m a)
  notes_leaves i m a h own = record { ended = refl; tally = h; sends = (own, tt) }

  then_leaves : (over : Bool) (step : Step F R) (next : Instance F R → Step F R) → StepLeaves over step → StepLeaves step.node.ended (next step.node)
      → StepLeaves over (and_then step next)
  then_leaves over step next a b =
      record { ended = b.ended ∙ a.ended; tally = b.tally; sends = each-append (λ x. GivesTally f x.1) step.sends (next step.node).sends a.sends b.sends }

  shared_gives : (i : Instance F R) (m : Mark) (u : Unit) (behind : List (ℕ × Msg)) → AllGiveTally f behind
      → AllGiveTally f (to_controller (share_message f i m u) ++ behind)
  shared_gives i Mark.Plain u behind h = h
  shared_gives i (Mark.Pass op) u behind h = h
  shared_gives i (Mark.Shared op home) u behind h = chunk_gives f op _ behind h

  processed_leaves : (i : Instance F R) (m : Mark) (cell : FullCell) → Has i → StepLeaves i.ended (process_step f i m cell)
  unfolding process_step
  processed_leaves i m cell h = record {
    ended = refl;
    tally = counted_is i.tally.slots i.index h;
    sends = shared_gives (process_step f i m cell).node m (unit_at f.kind i.site cell.packet) ((0, Msg.Credit cell) ∷ []) (tt, tt);
  }

  -- what it does where it isn't told to stop
  goes_on : (i : Instance F R) (m : Msg) → is_stop m ≡ false → Has i → MergesTally f m → StepLeaves i.ended (instance_step f i m)
  goes_on = instance_fits f (λ i m did. is_stop m ≡ false → Has i → MergesTally f m → StepLeaves i.ended did) (record {
    still = λ i m e h its. still_leaves i h;
    held = λ i mk cell op e h its. still_leaves (record i { rules = rules.with_held i.rules op cell }) h;
    processed = λ i mk cell e h its. processed_leaves i mk cell h;
    released = λ i op cell e h its. processed_leaves i Mark.Plain cell h;
    both = λ i m did next w a b e h its. (let first = a e h its in then_leaves i.ended did next first (b e first.tally its));
    unruled = λ i op did a. a;
    seen = λ i mk cell op e h its. tells_leaves i (Msg.Seen op cell.packet) h tt;
    event = λ i mk cell op e h its. tells_leaves i (Msg.Event op cell) h tt;
    fenced = λ i op e h its. tells_leaves i (Msg.Fenced op) h tt;
    stopped = λ i e h its. cc;
    enabled = λ i op filter action e h its. tells_leaves _ (Msg.Enabled op) h tt;
    given = λ i op filter e h its. notes_leaves i (Msg.Chunks op (selected_chunks f i filter)) _ h tt;
    streamed = λ i op filter e h its. record { ended = refl; tally = h; sends = pieces_give f op (pieces (selected_chunks f i filter)) };
    all_given = λ i op e h its. tells_leaves i (Msg.AllChunk op _) h (record { slots = i.tally.slots; bytes = refl; tally = h });
    deleted = λ i op gone e h its. tells_leaves _ (Msg.Deleted op) h tt;
    refused = λ i op piece first why is e h its. tells_leaves i (Msg.PutNo op (record { why = why; chunks = piece.chunks })) h tt;
    taken = λ i op piece first is e h its. record {
      ended = refl;
      tally = h;
      sends = elim (first || piece.last) as (λ b. AllGiveTally f (to_controller (if b then Msg.PutOk op ∷ [] else []))) [ true ↦ (tt, tt) | false ↦ tt ];
    };
    restored = λ i op chunks e h its. notes_leaves _ (Msg.Restored op) _ h tt;
    stood_by = λ i op chunks e h its. notes_leaves _ (Msg.Kept op) _ h tt;
    synced = λ i home op chunks e h its. notes_leaves _ (Msg.Synced op) _ h tt;
    merged = λ i op chunk slots is e h its. (let both = sym (reads f chunk its) ∙ is in let same : its.slots ≡ slots = cc in
        tells_leaves _ (Msg.Kept op) (merged_is i.tally.slots slots h (subst IsTally same its.tally)) tt);
  })

  pub instance_leaves : (i : Instance F R) (m : Msg) → Has i → MergesTally f m → StepLeaves (over_by m i.ended) (instance_step f i m)
  instance_leaves i Msg.Stop h is = tells_leaves (record i { ended = true }) Msg.Final h tt
  instance_leaves i m h is = goes_on i m refl h is

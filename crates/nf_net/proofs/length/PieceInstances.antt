-- What an instance sends as it takes a message: pieces where it is asked for a move's chunks, as many as these make, and nothing else that counts.
use Rattle.nf_net.proofs.Words.{◌≡◌, ℕ, zero, suc, ◌+◌, ◌*◌, ◌<◌, ◌≤◌, Bool, true, false, Option, None, Some, List, [], ◌∷◌, map, length, drop, take, refl}
use Rattle.nf_net.proofs.Words.{arith, if◌then◌else◌, ◌||◌, nat_le, option_map, ◌/◌, nat_tests, Filter, Chunk, Semantics, unit_at, record_chunk, part, Mark}
use Rattle.nf_net.proofs.Words.{FullCell, Piece, Msg, switch_node, WholePieces, piece_of, pieces, whole_of, to_controller, chunk_told, share_message, and_then}
use Rattle.nf_net.proofs.Words.{selected_chunks, instance_step, weigh-append, pieces_among, instance_fits, Unit, split}
use Rattle.std.proofs.Common.{length-drop}
use Rattle.std.specs.FinMap as finite
use Rattle.std.proofs.lemmas.Nat.{le-div}
use Rattle.instance_worker.specs.declared.instance.Instance.{Instance}
use Rattle.instance_worker.specs.Pieces.{pieces_from}
use Rattle.instance_worker.specs.Instance.{Step, process_step, on_stream}
use Rattle.nf_net.proofs.length.Chances.{chance, spent, spent-append, spent_parts, arrival, uses}

more_than : (x : ℕ) → nat_le x 64 ≡ false → 64 < x
more_than x h = grind (arith, nat_tests)

-- pieces of up to 64 chunks
few_cut : (whole : WholePieces) (n : ℕ) (chunks : List Chunk) → length chunks ≤ n → 64 * length (pieces_from whole n chunks) ≤ length chunks + 64
unfolding pieces_from
few_cut whole zero chunks enough = omega arith
few_cut whole (suc n) chunks enough =
    split (nat_le (length chunks) 64)
    (λ b. 64 * length (if b then piece_of whole true chunks ∷ [] else piece_of whole false (take 64 chunks) ∷ pieces_from whole n
    (drop 64 chunks)) ≤ length chunks + 64)
    (λ _. omega arith)
    (λ more.
    let long = more_than (length chunks) more in
    let dropped = length-drop 64 chunks in
    omega (arith, long, dropped, few_cut whole n (drop 64 chunks) (omega (arith, long, dropped, enough))))

-- so many pieces
pub few_pieces : (chunks : List Chunk) (most : ℕ) → length chunks ≤ most → length (pieces chunks) ≤ most / 64 + 1
few_pieces chunks most few =
    let all = few_cut (whole_of chunks) (length chunks) chunks (omega arith) in
    by_count (length (pieces chunks)) all
  where
    by_count : (n : ℕ) → 64 * n ≤ length chunks + 64 → n ≤ most / 64 + 1
    by_count zero e = omega arith
    by_count (suc n) e = let less = le-div n most 64 (omega arith) (omega (arith, e, few)) in omega (arith, less)

module _ (a k op : ℕ) where
  -- what a share is told
  chunk_none : (x : Option Chunk) → spent a k (to_controller (chunk_told op x)) ≡ 0
  chunk_none None = omega arith
  chunk_none (Some chunk) = omega arith

  -- pieces, and how many
  told_pieces : (ps : List Piece)
      → (spent a k (to_controller (map (Msg.Piece op) ps)) ≡ length ps) × (pieces_among (to_controller (map (Msg.Piece op) ps)) ≡ length ps)
  told_pieces [] = (omega arith, omega arith)
  told_pieces (p ∷ ps) = let rest = told_pieces ps in let all = rest.0 in let its = rest.1 in (omega (arith, all), omega (arith, its))

abbrev is_stream : Msg → Bool
is_stream (Msg.Stream op filter) = true
is_stream m = false

-- as many pieces as an instance is asked for
abbrev pub streamed : {F R : Type 0} → Semantics R → Instance F R → Msg → ℕ
streamed f i (Msg.Stream op filter) = length (pieces (selected_chunks f i filter))
streamed f i m = 0

module _ (a k : ℕ) {F R : Type 0} (f : Semantics R) where
  abbrev UsesNone : Step F R → Type 0
  UsesNone step = uses a k step ≡ 0

  -- one step and then another
  then_none : (one : Step F R) (next : Instance F R → Step F R) → UsesNone one → UsesNone (next one.node) → UsesNone (and_then one next)
  then_none one next first second =
      omega (arith, first, second, spent-append a k one.sends (next one.node).sends, weigh-append (arrival a k) one.notes (next one.node).notes)

  -- a packet
  shared_none : (i : Instance F R) (mk : Mark) (u : Unit) → spent a k (to_controller (share_message f i mk u)) ≡ 0
  shared_none i Mark.Plain u = omega arith
  shared_none i (Mark.Pass op) u = omega arith
  shared_none i (Mark.Shared op home) u = chunk_none a k op (option_map (record_chunk f u) (finite.get (part i.table home) u))

  processed_none : (i : Instance F R) (mk : Mark) (cell : FullCell) → UsesNone (process_step f i mk cell)
  unfolding process_step
  processed_none i mk cell =
      let after = (process_step f i mk cell).node in
      let u = unit_at f.kind i.site cell.packet in
      let both = spent-append a k (to_controller (share_message f after mk u)) ((switch_node, Msg.Credit cell) ∷ []) in
      omega (arith, both, shared_none after mk u)

  -- a step of another message
  none_used : (i : Instance F R) (m : Msg) → is_stream m ≡ false → UsesNone (instance_step f i m)
  none_used = instance_fits f (λ _ m did. is_stream m ≡ false → UsesNone did) (record {
    still = λ i m e. omega arith;
    held = λ i mk cell op e. omega arith;
    processed = λ i mk cell e. processed_none i mk cell;
    released = λ i op cell e. processed_none i Mark.Plain cell;
    both = λ i m did next w first second e. then_none did next (first e) (second e);
    unruled = λ i op did h. h;
    seen = λ i mk cell op e. omega arith;
    event = λ i mk cell op e. omega arith;
    fenced = λ i op e. omega arith;
    stopped = λ i e. omega arith;
    enabled = λ i op filter action e. omega arith;
    given = λ i op filter e. omega arith;
    streamed = λ i op filter e. cc;
    all_given = λ i op e. omega arith;
    deleted = λ i op gone e. omega arith;
    refused = λ i op piece first why is e. omega arith;
    taken = λ i op piece first is e. elim (first || piece.last)
        as (λ b. spent a k (to_controller (if b then Msg.PutOk op ∷ [] else [])) + 0 ≡ 0) [ true ↦ omega arith | false ↦ omega arith ];
    restored = λ i op chunks e. omega arith;
    stood_by = λ i op chunks e. omega arith;
    synced = λ i home op chunks e. omega arith;
    merged = λ i op chunk slots is e. omega arith;
  })

  abbrev pub Streams : Instance F R → Msg → Step F R → Type 0
  Streams i m step = (uses a k step ≡ streamed f i m) × (pieces_among step.sends ≡ streamed f i m)

  stream_uses : (i : Instance F R) (op : ℕ) (filter : Filter) → Streams i (Msg.Stream op filter) (on_stream f i op filter)
  unfolding on_stream
  stream_uses i op filter = let both = told_pieces a k op (pieces (selected_chunks f i filter)) in let all = both.0 in (omega (arith, all), both.1)

  no_pieces : (step : Step F R) → UsesNone step → (uses a k step ≡ 0) × (pieces_among step.sends ≡ 0)
  no_pieces step none = let parts = spent_parts a k step.sends in (none, omega (arith, none, parts))

  -- each step of an instance
  pub instance_uses : (i : Instance F R) (m : Msg) → Streams i m (instance_step f i m)
  instance_uses i (Msg.Stream op filter) = stream_uses i op filter
  instance_uses i m = no_pieces (instance_step f i m) (none_used i m refl)

  -- a message allows them, where the instance has few records
  pub streamed_few : (i : Instance F R) → ((filter : Filter) → length (pieces (selected_chunks f i filter)) ≤ k) → (m : Msg) → streamed f i m ≤ chance a k m
  streamed_few i few (Msg.Stream op filter) = few filter
  streamed_few i few m = omega arith

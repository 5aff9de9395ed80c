-- How many cells a step sends home, and how many packets it notes: an instance sends one home for each packet that it processes.
use Rattle.nf_net.proofs.Words.{◌≡◌, ℕ, ◌<◌, ◌≤◌, true, false, Option, Some, None, List, [], ◌∷◌, map, length, length-append, refl, ap, arith, if◌then◌else◌}
use Rattle.nf_net.proofs.Words.{◌||◌, cond-same, Chunk, Semantics, unit_at, Mark, FullCell, Msg, pieces, to_controller, chunk_told, share_message, and_then}
use Rattle.nf_net.proofs.Words.{selected_chunks, instance_step, reaches, EachSent, sent_weight, dones_in, done-append, instance_fits, Given, Label, Unit}
use Rattle.instance_worker.specs.declared.instance.Instance.{Instance}
use Rattle.state_chunk.specs.Format.{tally_chunk}
use Rattle.instance_worker.specs.Instance.{Step, process_step}
use Rattle.net_world.proofs.SentMessages.{sent_weight-append}
use Rattle.nf_net.proofs.WeightlessMessages.{sends_nothing}

-- a cell that goes home counts, and nothing else
abbrev pub credit : Msg → ℕ
credit (Msg.Credit cell) = 1
credit m = 0

-- the switch and the controller send no cell home
module _ {R : Type 0} (f : Semantics R) (g : Given) where
  pub no_credit_from : (k r : ℕ) (m : Msg) → k < 2 → Label f g k r m → credit m ≡ 0
  no_credit_from k r (Msg.Credit cell) few label = let two = label.0 in absurd (omega (arith, few, two))
  no_credit_from k r m few label = refl

  -- and none goes to another node than the switch
  pub no_credit_to : (p k : ℕ) (m : Msg) → 1 ≤ k → Label f g p k m → credit m ≡ 0
  no_credit_to p k (Msg.Credit cell) some label = let none = label.1 in absurd (omega (arith, some, none))
  no_credit_to p k m some label = refl

  pub none_sent : (n k : ℕ) (sends : List (ℕ × Msg)) → k < 2 → EachSent (Label f g) k sends → sent_weight credit n k sends ≡ 0
  none_sent n k sends few = sends_nothing (Label f g) credit k (λ r m. no_credit_from k r m few) n sends

module _ (n k : ℕ) where
  told_none : (m : Msg) → credit m ≡ 0 → sent_weight credit n k (to_controller (m ∷ [])) ≡ 0
  told_none m none = rw (none, cond-same {X = ℕ} (reaches n k 1) 0) refl

  all_told : {X : Type 0} (make : X → Msg) → ((x : X) → credit (make x) ≡ 0) → (xs : List X) → sent_weight credit n k (to_controller (map make xs)) ≡ 0
  all_told make none [] = refl
  all_told make none (x ∷ xs) = let own = none x in let rest = all_told make none xs in rw (own, rest, cond-same {X = ℕ} (reaches n k 1) 0) refl

  chunk_none : (op : ℕ) (o : Option Chunk) → sent_weight credit n k (to_controller (chunk_told op o)) ≡ 0
  chunk_none op None = refl
  chunk_none op (Some chunk) = told_none (Msg.Shared op chunk) refl

module _ {F R : Type 0} (f : Semantics R) (n k : ℕ) (reach : reaches n k 0 ≡ true) where
  -- a step that sends as many cells home as it notes packets that are processed
  abbrev IsEven : Step F R → Type 0
  IsEven step = sent_weight credit n k step.sends ≡ length (dones_in step.notes)

  both_are : (step : Step F R) (next : Instance F R → Step F R) → IsEven step → IsEven (next step.node) → IsEven (and_then step next)
  both_are step next a b =
      let sends = sent_weight-append credit n k step.sends (next step.node).sends in
      let notes = ap length (done-append step.notes (next step.node).notes) in
      let long = length-append (dones_in step.notes) (dones_in (next step.node).notes) in
      omega (arith, sends, notes, long, a, b)

  shared_none : (i : Instance F R) (m : Mark) (u : Unit) → sent_weight credit n k (to_controller (share_message f i m u)) ≡ 0
  shared_none i Mark.Plain u = refl
  shared_none i (Mark.Pass op) u = refl
  shared_none i (Mark.Shared op home) u = chunk_none n k op _

  processed_is : (i : Instance F R) (m : Mark) (cell : FullCell) → IsEven (process_step f i m cell)
  unfolding process_step
  processed_is i m cell =
      let after = (process_step f i m cell).node in
      let both = sent_weight-append credit n k (to_controller (share_message f after m (unit_at f.kind i.site cell.packet))) ((0, Msg.Credit cell) ∷ []) in
      let home : sent_weight credit n k ((0, Msg.Credit cell) ∷ []) ≡ 1 = rw reach refl in
      omega (arith, both, shared_none after m (unit_at f.kind i.site cell.packet), home)

  -- what an instance does with any message
  pub instance_is : (i : Instance F R) (m : Msg) → IsEven (instance_step f i m)
  instance_is = instance_fits f (λ _ _ did. IsEven did) (record {
    still = λ i m. refl;
    held = λ i mk cell op. refl;
    processed = λ i mk cell. processed_is i mk cell;
    released = λ i op cell. processed_is i Mark.Plain cell;
    both = λ i m did next w a b. both_are did next a b;
    unruled = λ i op did h. h;
    seen = λ i mk cell op. told_none n k (Msg.Seen op cell.packet) refl;
    event = λ i mk cell op. told_none n k (Msg.Event op cell) refl;
    fenced = λ i op. told_none n k (Msg.Fenced op) refl;
    stopped = λ i. told_none n k Msg.Final refl;
    enabled = λ i op filter action. told_none n k (Msg.Enabled op) refl;
    given = λ i op filter. told_none n k (Msg.Chunks op (selected_chunks f i filter)) refl;
    streamed = λ i op filter. all_told n k (Msg.Piece op) (λ p. refl) (pieces (selected_chunks f i filter));
    all_given = λ i op. told_none n k (Msg.AllChunk op (tally_chunk f.kind i.tally.slots)) refl;
    deleted = λ i op gone. told_none n k (Msg.Deleted op) refl;
    refused = λ i op piece first why is. told_none n k (Msg.PutNo op (record { why = why; chunks = piece.chunks })) refl;
    taken = λ i op piece first is. elim (first || piece.last) as (λ b. sent_weight credit n k (to_controller (if b then Msg.PutOk op ∷ [] else [])) ≡ 0)
        [ true ↦ told_none n k (Msg.PutOk op) refl | false ↦ refl ];
    restored = λ i op chunks. told_none n k (Msg.Restored op) refl;
    stood_by = λ i op chunks. told_none n k (Msg.Kept op) refl;
    synced = λ i home op chunks. told_none n k (Msg.Synced op) refl;
    merged = λ i op chunk slots is. told_none n k (Msg.Kept op) refl;
  })

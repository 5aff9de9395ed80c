-- A share asks once for the state of its units, when the fence has come to its home; nothing else that it sends is sent once for a command.
use Rattle.nf_net.proofs.Words.{◌≡◌, ℕ, ◌+◌, ◌≤◌, Bool, true, false, Option, Some, None, List, [], ◌∷◌, map, refl, ap, subst, arith, ◌==◌, ◌-◌, if◌then◌else◌}
use Rattle.nf_net.proofs.Words.{nat_tests, Chunk, FullCell, Answer, Msg, switch_node, instance_node, SharePhase, SharePlan, ShareRow, home, others, syncs}
use Rattle.nf_net.proofs.Words.{setting, syncing, on_fenced, on_chunks, on_shared, on_synced, service_if_idle, sent_weight, OpenAt, answered, ShareLeaves, Done}
use Rattle.nf_net.proofs.Words.{split}
use Rattle.std.specs.Prelude.{length}
use Rattle.event_filter.specs.declared.mark.Mark.TheVariants.{Shared}
use Rattle.copy_share.specs.Share.{next_phase, row, member_of}
use Rattle.ctrl_node.specs.Controller.{Step}
use Rattle.net_world.proofs.SentMessages.{sent_weight-append}
use Rattle.nf_net.proofs.answers.MoveOnce.{once, NoneOnce, no_more, no_one, at_most, few_counts}

-- how often a share has asked in this phase
abbrev pub asked : SharePhase → ℕ
asked SharePhase.Fencing = 0
asked ph = 1

pub asked_few : (ph : SharePhase) → asked ph ≤ 1
asked_few SharePhase.Fencing = omega arith
asked_few ph = omega arith

module _ (n : ℕ) (first : Bool) (plan : SharePlan) where
  -- what a share in a phase sends, and what it goes to
  pub record Asks (ph : SharePhase) (r : ShareRow) : Type 0 where
    pub own : sent_weight (once first plan.op) n 1 r.sends + asked ph ≤ asked r.phase
    pub other : (op : ℕ) → (plan.op == op) ≡ false → sent_weight (once first op) n 1 r.sends ≡ 0

  asks_none : (ph : SharePhase) (r : ShareRow) → asked ph ≤ asked r.phase → NoneOnce n 1 first r.sends → Asks ph r
  asks_none ph r more none = record { own = (let own = none plan.op in omega (arith, more, own)); other = λ op off. none op }

  stays : (ph : SharePhase) → Asks ph (next_phase ph [])
  stays ph = asks_none ph (next_phase ph []) (omega arith) (λ op. refl)

  syncs_none : (chunks : List Chunk) (ms : List ℕ)
      → NoneOnce n 1 first (map (λ member. (instance_node member, Msg.Sync (member == home plan) plan.op chunks)) ms)
  syncs_none chunks [] = λ op. refl
  syncs_none chunks (m ∷ ms) = no_more n 1 first (instance_node m) (Msg.Sync (m == home plan) plan.op chunks) (λ op. refl)
      (map (λ member. (instance_node member, Msg.Sync (member == home plan) plan.op chunks)) ms) (syncs_none chunks ms)

  setting_asks : (ph : SharePhase) (left : ℕ) (sends : List (ℕ × Msg)) → NoneOnce n 1 first sends → Asks ph (setting left sends)
  setting_asks ph left sends none = split (left == 0)
      (λ b. Asks ph (if b then record { phase = SharePhase.Idle; sends = sends; answer = Some Done } else next_phase (SharePhase.Setting left) sends))
      (λ _. asks_none ph _ (asked_few ph) none) (λ _. asks_none ph _ (asked_few ph) none)

  syncing_asks : (ph : SharePhase) (left : ℕ) (sends : List (ℕ × Msg)) → NoneOnce n 1 first sends → Asks ph (syncing left sends)
  syncing_asks ph left sends none = split (left == 0) (λ b. Asks ph (next_phase (if b then SharePhase.Idle else SharePhase.Syncing left) sends))
      (λ _. asks_none ph _ (asked_few ph) none) (λ _. asks_none ph _ (asked_few ph) none)

  get_other : (b : Bool) (op : ℕ) → (plan.op == op) ≡ false → once b op (Msg.Get plan.op plan.filter) ≡ 0
  get_other true op off = refl
  get_other false op off = rw off refl

  fenced_asks : (ph : SharePhase) → Asks ph (on_fenced plan ph)
  fenced_asks SharePhase.Fencing = record {
    own = (let weighs = at_most n 1 first (instance_node (home plan)) (Msg.Get plan.op plan.filter) plan.op in
        let few = few_counts (Msg.Get plan.op plan.filter) first plan.op in omega (arith, weighs, few));
    other = λ op off. (let weighs = at_most n 1 first (instance_node (home plan)) (Msg.Get plan.op plan.filter) op in
        let none = get_other first op off in omega (arith, none, weighs));
  }
  fenced_asks ph = stays ph

  chunks_asks : (ph : SharePhase) (chunks : List Chunk) → Asks ph (on_chunks plan ph chunks)
  chunks_asks SharePhase.Getting chunks =
      setting_asks SharePhase.Getting (length (others plan (home plan))) (syncs plan (home plan) chunks) (syncs_none chunks (others plan (home plan)))
  chunks_asks ph chunks = stays ph

  shared_asks : (ph : SharePhase) (sender : ℕ) (chunk : Chunk) → Asks ph (on_shared plan ph sender chunk)
  shared_asks (SharePhase.Out member) sender chunk = split (sender == instance_node member)
      (λ b. Asks (SharePhase.Out member)
      (if b then syncing (length (others plan member)) (syncs plan member (chunk ∷ [])) else next_phase (SharePhase.Out member) []))
      (λ _. syncing_asks (SharePhase.Out member) (length (others plan member)) (syncs plan member (chunk ∷ []))
      (syncs_none (chunk ∷ []) (others plan member))) (λ _. stays (SharePhase.Out member))
  shared_asks ph sender chunk = stays ph

  synced_asks : (ph : SharePhase) → Asks ph (on_synced ph)
  synced_asks (SharePhase.Setting left) = setting_asks (SharePhase.Setting left) (left - 1) [] (λ op. refl)
  synced_asks (SharePhase.Syncing left) = syncing_asks (SharePhase.Syncing left) (left - 1) [] (λ op. refl)
  synced_asks ph = stays ph

  either_asks : (b : Bool) (r : ShareRow) (ph : SharePhase) → Asks ph r → Asks ph (if b then r else next_phase ph [])
  either_asks true r ph h = h
  either_asks false r ph h = stays ph

  pub row_asks : (ph : SharePhase) (sender : ℕ) (m : Msg) → Asks ph (row (record { plan = plan; phase = ph }) sender m)
  row_asks ph sender (Msg.Fenced op) = either_asks (sender == instance_node (home plan)) (on_fenced plan ph) ph (fenced_asks ph)
  row_asks ph sender (Msg.Chunks op chunks) = either_asks (sender == instance_node (home plan)) (on_chunks plan ph chunks) ph (chunks_asks ph chunks)
  row_asks ph sender (Msg.Shared op chunk) = shared_asks ph sender chunk
  row_asks ph sender (Msg.Synced op) = synced_asks ph
  row_asks ph sender m = stays ph

  pub none_asked : (ph : SharePhase) → Asks ph (next_phase ph [])
  none_asked = stays

  -- what is served counts for nothing
  served_same : (ph : SharePhase) (cells : List FullCell) → asked (service_if_idle plan ph cells).phase ≡ asked ph
  served_same SharePhase.Idle (cell ∷ cells) = refl
  served_same ph cells = refl

  served_none : (ph : SharePhase) (cells : List FullCell) → NoneOnce n 1 first (service_if_idle plan ph cells).sends
  served_none SharePhase.Idle (cell ∷ cells) =
      no_one n 1 first switch_node (Msg.Forward (member_of plan cell) (Shared plan.op (member_of plan cell == home plan)) cell) (λ op. refl)
  served_none ph cells = λ op. refl

-- A row of an open share, behind which it serves what it may.
module _ (n : ℕ) (first : Bool) (x : OpenAt) (op_is : x.share.plan.op ≡ x.num) (r : ShareRow) (did : Step) (l : ShareLeaves x r did)
    (a : Asks n first x.share.plan x.share.phase r) where
  answered_same : (op k : ℕ) (o : Option Answer) → sent_weight (once first k) n 1 (answered op o r.sends) ≡ sent_weight (once first k) n 1 r.sends
  answered_same op k None = refl
  answered_same op k (Some why) =
      let none = no_one n 1 first switch_node (Msg.Answered op) (λ y. refl) k in
      omega (arith, sent_weight-append (once first k) n 1 r.sends ((switch_node, Msg.Answered op) ∷ []), none)

  weight : (k : ℕ) → sent_weight (once first k) n 1 did.sends ≡ sent_weight (once first k) n 1 r.sends
  weight k =
      let both = sent_weight-append (once first k) n 1 (answered x.num r.answer r.sends) (service_if_idle x.share.plan r.phase x.cells).sends in
      omega (arith, ap (sent_weight (once first k) n 1) l.sends, both, answered_same x.num k r.answer, served_none n first x.share.plan r.phase x.cells k)

  -- what it sends for its own command, and for another
  pub leaves_own : sent_weight (once first x.num) n 1 did.sends + asked x.share.phase ≤ asked (service_if_idle x.share.plan r.phase x.cells).phase
  leaves_own =
      let own = subst (λ k. sent_weight (once first k) n 1 r.sends + asked x.share.phase ≤ asked r.phase) op_is a.own in
      omega (arith, weight x.num, own, served_same n first x.share.plan r.phase x.cells)

  pub leaves_other : (k : ℕ) → (k == x.num) ≡ false → sent_weight (once first k) n 1 did.sends ≡ 0
  leaves_other k off =
      let apart : (x.share.plan.op == k) ≡ false = grind (arith, nat_tests, off, op_is) in
      omega (arith, weight k, a.other k apart)

-- What a copy's row and a share's row send and leave to do weighs less than the message that they take and what there was to do.
use Rattle.nf_net.proofs.Words.{◌≡◌, ℕ, ◌+◌, ◌*◌, ◌≤◌, true, false, Some, List, [], ◌∷◌, map, length, refl, arith, if◌then◌else◌, ◌-◌, ◌==◌, is_some, unwrap_or}
use Rattle.nf_net.proofs.Words.{Chunk, FullCell, Msg, instance_node, CopyPhase, SharePhase, CopyPlan, CopyRow, SharePlan, ShareRow, home, others, syncs}
use Rattle.nf_net.proofs.Words.{syncing, on_fenced, on_chunks, on_shared, on_synced, service_if_idle, Done, split}
use Rattle.copy_share.specs.Copy as copy
use Rattle.copy_share.specs.Share as share
use Rattle.nf_net.proofs.length.Weights.{one_if, of_copy, of_share, kept, weight, some, cost}

-- The rows of a copy.
module _ (o : ℕ) (plan : CopyPlan) where
  abbrev CopyFalls : CopyPhase → Msg → CopyRow → Type 0
  CopyFalls ph m r = cost o r.sends + of_copy r.phase + 1 ≤ of_copy ph + weight o m

  copy_stays : (ph : CopyPhase) (m : Msg) → CopyFalls ph m (copy.next_phase ph [])
  copy_stays ph m = let one = some o m in omega (arith, one)

  copy_source_falls : (ph : CopyPhase) (m : Msg) → CopyFalls ph m (copy.from_source plan ph m)
  copy_source_falls CopyPhase.Getting (Msg.Chunks op chunks) = omega arith
  copy_source_falls CopyPhase.Getting (Msg.AllChunk op chunk) = omega arith
  copy_source_falls ph m = copy_stays ph m

  copy_destination_falls : (ph : CopyPhase) (m : Msg) → CopyFalls ph m (copy.from_destination plan ph m)
  copy_destination_falls CopyPhase.Keeping (Msg.Kept op) = omega arith
  copy_destination_falls ph m = copy_stays ph m

  -- each row of a copy
  pub copy_falls : (ph : CopyPhase) (port : ℕ) (m : Msg) → CopyFalls ph m (copy.row (record { plan = plan; phase = ph }) port m)
  copy_falls ph port m =
      split (port == instance_node plan.from)
      (λ a. CopyFalls ph m (if a then copy.from_source plan ph m else if port == instance_node plan.to then copy.from_destination plan ph m
      else copy.next_phase ph []))
      (λ _. copy_source_falls ph m)
      (λ _. elim (port == instance_node plan.to) as (λ b. CopyFalls ph m (if b then copy.from_destination plan ph m else copy.next_phase ph []))
      [ true ↦ copy_destination_falls ph m | false ↦ copy_stays ph m ])

-- The rows of a share, whose members but for the home, or for the one that has the packet, are few.
module _ (o : ℕ) (plan : SharePlan) where
  abbrev pub ShareFalls : SharePhase → Msg → ShareRow → Type 0
  ShareFalls ph m r = cost o r.sends + of_share o r.phase + one_if (is_some r.answer) + 1 ≤ of_share o ph + weight o m

  share_stays : (ph : SharePhase) (m : Msg) → ShareFalls ph m (share.next_phase ph [])
  share_stays ph m = let one = some o m in omega (arith, one)

  told : (home_is : ℕ) (chunks : List Chunk) (members : List ℕ)
      → cost o (map (λ member. (instance_node member, Msg.Sync (member == home_is) plan.op chunks)) members) ≡ 2 * length members
  told home_is chunks [] = omega arith
  told home_is chunks (member ∷ members) = let rest = told home_is chunks members in omega (arith, rest)

  sync_costs : (one : ℕ) (chunks : List Chunk) → cost o (syncs plan one chunks) ≡ 2 * length (others plan one)
  sync_costs one chunks = told (home plan) chunks (others plan one)

  fenced_falls : (ph : SharePhase) (op : ℕ) → ShareFalls ph (Msg.Fenced op) (on_fenced plan ph)
  fenced_falls SharePhase.Fencing op = omega arith
  fenced_falls ph op = omega arith

  chunks_falls : length (others plan (home plan)) ≤ o → (ph : SharePhase) (op : ℕ) (chunks : List Chunk)
      → ShareFalls ph (Msg.Chunks op chunks) (on_chunks plan ph chunks)
  chunks_falls few SharePhase.Getting op chunks =
      let sends = syncs plan (home plan) chunks in
      let all = sync_costs (home plan) chunks in
      split (length (others plan (home plan)) == 0)
      (λ b. ShareFalls SharePhase.Getting (Msg.Chunks op chunks)
      (if b then record { phase = SharePhase.Idle; sends = sends; answer = Some Done } else share.next_phase
      (SharePhase.Setting (length (others plan (home plan)))) sends))
      (λ _. omega (arith, all, few)) (λ _. omega (arith, all, few))
  chunks_falls few ph op chunks = omega arith

  shared_falls : (ph : SharePhase) → ((member : ℕ) → ph ≡ SharePhase.Out member → length (others plan member) ≤ o) → (port op : ℕ) (chunk : Chunk)
      → ShareFalls ph (Msg.Shared op chunk) (on_shared plan ph port chunk)
  shared_falls (SharePhase.Out member) few port op chunk =
      let less = few member refl in
      let sends = syncs plan member (chunk ∷ []) in
      let all = sync_costs member (chunk ∷ []) in
      split (port == instance_node member)
      (λ b. ShareFalls (SharePhase.Out member) (Msg.Shared op chunk)
      (if b then syncing (length (others plan member)) sends else share.next_phase (SharePhase.Out member) []))
      (λ _. elim (length (others plan member) == 0)
      as (λ b. cost o sends + of_share o (if b then SharePhase.Idle else SharePhase.Syncing (length (others plan member))) + 0 + 1 ≤ 0 + (1 + 2 * o))
      [ true ↦ omega (arith, all, less) | false ↦ omega (arith, all, less) ]) (λ _. omega arith)
  shared_falls ph few port op chunk = omega arith

  synced_falls : (ph : SharePhase) (op : ℕ) → ShareFalls ph (Msg.Synced op) (on_synced ph)
  synced_falls (SharePhase.Setting left) op =
      elim (left - 1 == 0) as (λ b. ShareFalls (SharePhase.Setting left) (Msg.Synced op)
      (if b then record { phase = SharePhase.Idle; sends = []; answer = Some Done } else share.next_phase (SharePhase.Setting (left - 1)) []))
      [ true ↦ omega arith | false ↦ omega arith ]
  synced_falls (SharePhase.Syncing left) op =
      elim (left - 1 == 0) as (λ b. 0 + of_share o (if b then SharePhase.Idle else SharePhase.Syncing (left - 1)) + 0 + 1 ≤ 0 + 1)
      [ true ↦ omega arith | false ↦ omega arith ]
  synced_falls ph op = omega arith

  -- each row of a share
  pub share_falls : length (others plan (home plan)) ≤ o → (ph : SharePhase) → ((member : ℕ) → ph ≡ SharePhase.Out member → length (others plan member) ≤ o)
      → (port : ℕ) (m : Msg) → ShareFalls ph m (share.row (record { plan = plan; phase = ph }) port m)
  share_falls few ph out port (Msg.Fenced op) =
      elim (port == instance_node (home plan)) as (λ b. ShareFalls ph (Msg.Fenced op) (if b then on_fenced plan ph else share.next_phase ph []))
      [ true ↦ fenced_falls ph op | false ↦ share_stays ph (Msg.Fenced op) ]
  share_falls few ph out port (Msg.Chunks op chunks) = elim (port == instance_node (home plan))
      as (λ b. ShareFalls ph (Msg.Chunks op chunks) (if b then on_chunks plan ph chunks else share.next_phase ph []))
      [ true ↦ chunks_falls few ph op chunks | false ↦ share_stays ph (Msg.Chunks op chunks) ]
  share_falls few ph out port (Msg.Shared op chunk) = shared_falls ph out port op chunk
  share_falls few ph out port (Msg.Synced op) = synced_falls ph op
  share_falls few ph out port m = share_stays ph m

  -- what a share serves was kept before
  pub served_costs : (ph : SharePhase) (cells : List FullCell) → cost o (service_if_idle plan ph cells).sends
      + of_share o (service_if_idle plan ph cells).phase + kept o (unwrap_or (service_if_idle plan ph cells).stored cells) ≤ of_share o ph + kept o cells
  served_costs SharePhase.Idle (cell ∷ cells) = omega arith
  served_costs SharePhase.Idle [] = omega arith
  served_costs ph cells = omega arith

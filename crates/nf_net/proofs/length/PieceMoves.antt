-- What the rows of operations send: a move asks its source for the chunks once, as it leaves its first phase, and nothing else makes pieces.
use Rattle.nf_net.proofs.Words.{◌≡◌, ℕ, ◌+◌, ◌≤◌, true, false, Some, List, [], ◌∷◌, ◌++◌, map, length, arith, if◌then◌else◌, ◌-◌, ◌==◌, Chunk, FullCell, Piece}
use Rattle.nf_net.proofs.Words.{Msg, switch_node, instance_node, Phase, Put, Release, Give_back, MovePlan, MoveRow, messages_of, put_to, forward_to, CopyPhase}
use Rattle.nf_net.proofs.Words.{SharePhase, CopyPlan, CopyRow, SharePlan, ShareRow, home, others, syncs, setting, syncing, on_fenced, on_chunks, on_shared}
use Rattle.nf_net.proofs.Words.{on_synced, service_if_idle, Done, split}
use Rattle.switch_rules.specs.declared.target.Target.TheVariants.{Instance}
use Rattle.move_op.specs.Table.{Said, Stream}
use Rattle.move_op.specs.Move.{row}
use Rattle.nf_net.proofs.MoveWays.{Goes, Pushed, Puts, Way, Is_removed, Is_taken, Is_refused, move_fits}
use Rattle.copy_share.specs.Copy as copy
use Rattle.copy_share.specs.Share as share
use Rattle.nf_net.proofs.length.Chances.{spent, of_phase}

module _ (a k : ℕ) (plan : MovePlan) where
  -- a row sends no more than its phase had
  abbrev pub UsesNoMore : Phase → MoveRow → Type 0
  UsesNoMore ph r = spent a k r.next.sends + of_phase a k r.next.phase ≤ of_phase a k ph

  puts_none : (ps : List Piece) → spent a k (map (put_to plan false) ps) ≡ 0
  puts_none [] = omega arith
  puts_none (p ∷ ps) = let rest = puts_none ps in omega (arith, rest)

  forwards_none : (i : ℕ) (cells : List FullCell) (behind : List (ℕ × Msg)) → spent a k (map (forward_to plan i) cells ++ behind) ≡ spent a k behind
  forwards_none i [] behind = omega arith
  forwards_none i (c ∷ cells) behind = let rest = forwards_none i cells behind in omega (arith, rest)

  -- what is said counts where the source is asked for its state
  abbrev asks : Said FullCell Piece → ℕ
  asks Stream = k
  asks says = 0

  said_asks : (says : Said FullCell Piece) → spent a k (messages_of plan says) ≡ asks says
  said_asks (Put ps) = puts_none ps
  said_asks (Release cells) =
      let sent = forwards_none plan.to cells ((switch_node, Msg.Install plan.op plan.filter plan.from (Instance plan.to)) ∷ []) in omega (arith, sent)
  said_asks (Give_back cells) = let sent = forwards_none plan.from cells ((switch_node, Msg.FenceTo plan.op plan.from) ∷ []) in omega (arith, sent)
  said_asks says = omega arith

  push_uses : {ph to : Phase} {says : Said FullCell Piece} → Pushed ph to says → asks says + of_phase a k to ≤ of_phase a k ph
  push_uses Puts = omega arith
  push_uses push = omega arith

  module _ (events : List FullCell) where
    way_uses : {ph : Phase} {m : Msg} {x : Goes} → Way events ph m x → asks x.says + of_phase a k x.to ≤ of_phase a k ph
    way_uses (Is_removed push) = push_uses push
    way_uses (Is_taken push) = push_uses push
    way_uses (Is_refused push) = push_uses push
    way_uses way = omega arith

    -- each row of a move
    pub move_falls : (ph : Phase) (port : ℕ) (m : Msg) → UsesNoMore ph (row (record { plan = plan; phase = ph }) events port m)
    move_falls = move_fits plan events (λ ph m r. UsesNoMore ph r)
        (λ ph m x way. let sent = said_asks x.says in let less = way_uses way in omega (arith, sent, less))

-- The rows of a copy.
module _ (a k : ℕ) (plan : CopyPlan) where
  abbrev CopyNone : CopyRow → Type 0
  CopyNone r = spent a k r.sends ≡ 0

  copy_source_none : (ph : CopyPhase) (m : Msg) → CopyNone (copy.from_source plan ph m)
  copy_source_none CopyPhase.Getting (Msg.Chunks op chunks) = omega arith
  copy_source_none CopyPhase.Getting (Msg.AllChunk op chunk) = omega arith
  copy_source_none ph m = omega arith

  copy_destination_none : (ph : CopyPhase) (m : Msg) → CopyNone (copy.from_destination plan ph m)
  copy_destination_none CopyPhase.Keeping (Msg.Kept op) = omega arith
  copy_destination_none ph m = omega arith

  pub copy_none : (ph : CopyPhase) (port : ℕ) (m : Msg) → CopyNone (copy.row (record { plan = plan; phase = ph }) port m)
  copy_none ph port m =
      split (port == instance_node plan.from)
      (λ x. CopyNone (if x then copy.from_source plan ph m else if port == instance_node plan.to then copy.from_destination plan ph m
      else copy.next_phase ph []))
      (λ _. copy_source_none ph m)
      (λ _. elim (port == instance_node plan.to) as (λ b. CopyNone (if b then copy.from_destination plan ph m else copy.next_phase ph []))
      [ true ↦ copy_destination_none ph m | false ↦ omega arith ])

-- The rows of a share.
module _ (a k : ℕ) (plan : SharePlan) where
  abbrev ShareNone : ShareRow → Type 0
  ShareNone r = spent a k r.sends ≡ 0

  told_none : (home_is : ℕ) (chunks : List Chunk) (members : List ℕ)
      → spent a k (map (λ member. (instance_node member, Msg.Sync (member == home_is) plan.op chunks)) members) ≡ 0
  told_none home_is chunks [] = omega arith
  told_none home_is chunks (member ∷ members) = let rest = told_none home_is chunks members in omega (arith, rest)

  syncs_none : (one : ℕ) (chunks : List Chunk) → spent a k (syncs plan one chunks) ≡ 0
  syncs_none one chunks = told_none (home plan) chunks (others plan one)

  fenced_none : (ph : SharePhase) → ShareNone (on_fenced plan ph)
  fenced_none SharePhase.Fencing = omega arith
  fenced_none ph = omega arith

  setting_none : (left : ℕ) (sends : List (ℕ × Msg)) → spent a k sends ≡ 0 → ShareNone (setting left sends)
  setting_none left sends none = elim (left == 0)
      as (λ b. ShareNone (if b then record { phase = SharePhase.Idle; sends = sends; answer = Some Done } else share.next_phase
      (SharePhase.Setting left) sends))
      [ true ↦ none | false ↦ none ]

  chunks_none : (ph : SharePhase) (chunks : List Chunk) → ShareNone (on_chunks plan ph chunks)
  chunks_none SharePhase.Getting chunks = setting_none (length (others plan (home plan))) (syncs plan (home plan) chunks) (syncs_none (home plan) chunks)
  chunks_none ph chunks = omega arith

  shared_none : (ph : SharePhase) (port : ℕ) (chunk : Chunk) → ShareNone (on_shared plan ph port chunk)
  shared_none (SharePhase.Out member) port chunk = split (port == instance_node member)
      (λ b. ShareNone (if b then syncing (length (others plan member)) (syncs plan member (chunk ∷ [])) else share.next_phase (SharePhase.Out member) []))
      (λ _. syncs_none member (chunk ∷ [])) (λ _. omega arith)
  shared_none ph port chunk = omega arith

  synced_none : (ph : SharePhase) → ShareNone (on_synced ph)
  synced_none (SharePhase.Setting left) = setting_none (left - 1) [] (omega arith)
  synced_none (SharePhase.Syncing left) = omega arith
  synced_none ph = omega arith

  pub share_none : (ph : SharePhase) (port : ℕ) (m : Msg) → ShareNone (share.row (record { plan = plan; phase = ph }) port m)
  share_none ph port (Msg.Fenced op) = elim (port == instance_node (home plan))
      as (λ b. ShareNone (if b then on_fenced plan ph else share.next_phase ph [])) [ true ↦ fenced_none ph | false ↦ omega arith ]
  share_none ph port (Msg.Chunks op chunks) = elim (port == instance_node (home plan))
      as (λ b. ShareNone (if b then on_chunks plan ph chunks else share.next_phase ph [])) [ true ↦ chunks_none ph chunks | false ↦ omega arith ]
  share_none ph port (Msg.Shared op chunk) = shared_none ph port chunk
  share_none ph port (Msg.Synced op) = synced_none ph
  share_none ph port m = omega arith

  -- what a share serves
  pub served_none : (ph : SharePhase) (cells : List FullCell) → spent a k (service_if_idle plan ph cells).sends ≡ 0
  served_none SharePhase.Idle (cell ∷ cells) = omega arith
  served_none SharePhase.Idle [] = omega arith
  served_none ph cells = omega arith

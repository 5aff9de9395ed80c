-- A copy's and a share's row send what their next phase waits for, or stay as they are on a message that they don't wait for.
use Rattle.nf_net.proofs.Words.{◌≡◌, ◌≢◌, ℕ, zero, suc, ◌+◌, ◌≤◌, true, false, Option, Some, None, List, [], ◌∷◌, ◌++◌, map, length, refl, ap, ◌∙◌, arith}
use Rattle.nf_net.proofs.Words.{if◌then◌else◌, ◌&&◌, ◌==◌, not, nat_tests, Decides-eqb, Chunk, FullCell, Msg, instance_node, CopyPhase, SharePhase, CopyPlan}
use Rattle.nf_net.proofs.Words.{CopyRow, SharePlan, ShareRow, home, others, syncs, Operation, Copy, Share, reaches, Each, Mark, Done, split}
use Rattle.std.proofs.Common.{◌-◌}
use Rattle.copy_share.specs.Copy as copy
use Rattle.copy_share.specs.Share as share
use Rattle.nf_net.proofs.answers.EndTables.{flag, flag_most}
use Rattle.nf_net.proofs.ends.LinkWeights.{sends_weigh, sends_weigh-append}
use Rattle.nf_net.proofs.ends.Tokens.{Leg, Gets, Alls, Keeps, Syncs, Serves, Token, token, token_of, at_instance, in_copy, in_share, awaits, counts, weight}
use Rattle.nf_net.proofs.ends.Tokens.{some_left, wanted}

-- of n nodes, what the controller's step on a message from node p does to the operation of number k: it sends what is waited for from now on, or the
-- operation waits on, for what is still there
module _ (n k p : ℕ) (m : Msg) where
  pub data Grants (before after : Option Operation) (sends : List (ℕ × Msg)) : Type 0 where
    Fresh : wanted after ≤ sends_weigh (weight k after) n 1 sends → Grants before after sends
    Waits : ((leg : Leg) (node : ℕ) → awaits after leg node ≡ awaits before leg node)
        → wanted after + weight k after p 1 m ≤ wanted before + sends_weigh (weight k after) n 1 sends → Grants before after sends

  pub grants_more : (a b : Option Operation) (xs ys : List (ℕ × Msg)) → Grants a b xs → Grants a b (xs ++ ys)
  grants_more a b xs ys (Fresh h) = let both = sends_weigh-append (weight k b) n 1 xs ys in Fresh (omega (arith, both, h))
  grants_more a b xs ys (Waits same h) = let both = sends_weigh-append (weight k b) n 1 xs ys in Waits same (omega (arith, both, h))

-- A copy's row
module _ (n k p : ℕ) (plan : CopyPlan) (own : plan.op ≡ k) (to_there : reaches n 1 (instance_node plan.to) ≡ true) (other : plan.from ≢ plan.to) where
  abbrev copy_at : CopyPhase → Option Operation
  copy_at ph = Some (Copy (record { plan = plan; phase = ph }))

  abbrev CopyGrants : CopyPhase → Msg → CopyRow → Type 0
  CopyGrants ph m r = Grants n k p m (copy_at ph) (copy_at r.phase) r.sends

  still_copy : (ph : CopyPhase) (m : Msg) → weight k (copy_at ph) p 1 m ≡ 0 → CopyGrants ph m (copy.next_phase ph [])
  still_copy ph m none = Waits (λ leg node. refl) (omega (arith, none))

  hands_on : (m a : Msg) → token_of 1 (instance_node plan.to) a ≡ token Keeps plan.op (instance_node plan.to)
      → CopyGrants CopyPhase.Getting m (copy.next_phase CopyPhase.Keeping ((instance_node plan.to, a) ∷ []))
  hands_on m a same =
      let self : (instance_node plan.to == instance_node plan.to) ≡ true = grind (arith, nat_tests) in
      let its : (plan.op == k) ≡ true = (Decides-eqb plan.op k).1 own in
      let one : weight k (copy_at CopyPhase.Keeping) 1 (instance_node plan.to) a ≡ 1 = ap (counts k (copy_at CopyPhase.Keeping)) same
      ∙ ap (λ b. flag (b && (plan.op == k))) self ∙ ap flag its in
      let all : (if reaches n 1 (instance_node plan.to) then weight k (copy_at CopyPhase.Keeping) 1 (instance_node plan.to) a else 0) ≡ 1 =
      ap (λ b. if b then weight k (copy_at CopyPhase.Keeping) 1 (instance_node plan.to) a else 0) to_there ∙ one in
      Fresh (omega (arith, all))

  -- where a message comes from
  by_sender : (ph : CopyPhase) (m : Msg) → ((p == instance_node plan.from) ≡ true → CopyGrants ph m (copy.from_source plan ph m))
      → ((p == instance_node plan.from) ≡ false → (p == instance_node plan.to) ≡ true → CopyGrants ph m (copy.from_destination plan ph m))
      → ((p == instance_node plan.from) ≡ false → (p == instance_node plan.to) ≡ false → CopyGrants ph m (copy.next_phase ph []))
      → CopyGrants ph m (copy.row (record { plan = plan; phase = ph }) p m)
  by_sender ph m source destination neither = split (p == instance_node plan.from)
      (λ a. CopyGrants ph m
      (if a then copy.from_source plan ph m else if p == instance_node plan.to then copy.from_destination plan ph m else copy.next_phase ph []))
      (λ on. source on)
      (λ off. split (p == instance_node plan.to) (λ b. CopyGrants ph m (if b then copy.from_destination plan ph m else copy.next_phase ph []))
      (λ on. destination off on) (λ off_to. neither off off_to))

  over_none : (t : Option Token) → counts k (copy_at CopyPhase.Over) t ≡ 0
  over_none None = refl
  over_none (Some t) = ap (λ b. flag (b && (t.op == k))) (none t.leg)
    where
      none : (leg : Leg) → in_copy plan leg CopyPhase.Over t.node ≡ false
      none Gets = refl
      none Alls = refl
      none Keeps = refl
      none leg = refl

  pub copy_row : (ph : CopyPhase) (m : Msg) → CopyGrants ph m (copy.row (record { plan = plan; phase = ph }) p m)
  copy_row CopyPhase.Getting (Msg.Chunks op chunks) =
      let none : (p == instance_node plan.from) ≡ false → weight k (copy_at CopyPhase.Getting) p 1 (Msg.Chunks op chunks) ≡ 0 =
      (λ off. ap (λ b. flag (b && (op == k))) off) in
      by_sender CopyPhase.Getting (Msg.Chunks op chunks)
      (λ on. hands_on (Msg.Chunks op chunks) (Msg.Standby plan.op chunks) (at_instance Keeps plan.op plan.to))
      (λ off on. still_copy CopyPhase.Getting (Msg.Chunks op chunks) (none off)) (λ off off_to. still_copy CopyPhase.Getting (Msg.Chunks op chunks) (none off))
  copy_row CopyPhase.Getting (Msg.AllChunk op chunk) =
      let none : (p == instance_node plan.from) ≡ false → weight k (copy_at CopyPhase.Getting) p 1 (Msg.AllChunk op chunk) ≡ 0 =
      (λ off. ap (λ b. flag (b && (op == k))) off) in
      by_sender CopyPhase.Getting (Msg.AllChunk op chunk)
      (λ on. hands_on (Msg.AllChunk op chunk) (Msg.PutAll plan.op chunk) (at_instance Keeps plan.op plan.to))
      (λ off on. still_copy CopyPhase.Getting (Msg.AllChunk op chunk) (none off))
      (λ off off_to. still_copy CopyPhase.Getting (Msg.AllChunk op chunk) (none off))
  copy_row CopyPhase.Keeping (Msg.Kept op) =
      let none : (p == instance_node plan.to) ≡ false → weight k (copy_at CopyPhase.Keeping) p 1 (Msg.Kept op) ≡ 0 =
      (λ off. ap (λ b. flag (b && (op == k))) off) in
      by_sender CopyPhase.Keeping (Msg.Kept op) (λ on. still_copy CopyPhase.Keeping (Msg.Kept op) (none (apart on))) (λ off on. Fresh (omega arith))
      (λ off off_to. still_copy CopyPhase.Keeping (Msg.Kept op) (none off_to))
    where
      apart : (p == instance_node plan.from) ≡ true → (p == instance_node plan.to) ≡ false
      apart on = grind (arith, nat_tests, on, other)
  copy_row CopyPhase.Over m = by_sender CopyPhase.Over m (λ on. still_copy CopyPhase.Over m (over_none (token_of p 1 m)))
      (λ off on. still_copy CopyPhase.Over m (over_none (token_of p 1 m))) (λ off off_to. still_copy CopyPhase.Over m (over_none (token_of p 1 m)))
  copy_row ph m = by_sender ph m (λ on. still_copy ph m refl) (λ off on. still_copy ph m refl) (λ off off_to. still_copy ph m refl)

some_is : (left : ℕ) → (left == 0) ≡ false → some_left left ≡ left
some_is zero off = cc
some_is (suc left) off = refl

-- A share's row
module _ (n k p : ℕ) (plan : SharePlan) (own : plan.op ≡ k) (few : Each (λ member. reaches n 1 (instance_node member) ≡ true) plan.members)
    (home_there : reaches n 1 (instance_node (home plan)) ≡ true) (switch_there : reaches n 1 0 ≡ true) where
  abbrev pub share_at : SharePhase → Option Operation
  share_at ph = Some (Share (record { plan = plan; phase = ph }))

  abbrev ShareGrants : SharePhase → Msg → ShareRow → Type 0
  ShareGrants ph m r = Grants n k p m (share_at ph) (share_at r.phase) r.sends

  its : (plan.op == k) ≡ true
  its = (Decides-eqb plan.op k).1 own

  still_share : (ph : SharePhase) (m : Msg) → weight k (share_at ph) p 1 m ≡ 0 → ShareGrants ph m (share.next_phase ph [])
  still_share ph m none = Waits (λ leg node. refl) (omega (arith, none))

  -- a message of a leg that the phase waits for at that node
  one_sent : (ph : SharePhase) (leg : Leg) (node to : ℕ) (a : Msg) → reaches n 1 to ≡ true → token_of 1 to a ≡ token leg plan.op node
      → in_share plan leg ph node ≡ true → sends_weigh (weight k (share_at ph)) n 1 ((to, a) ∷ []) ≡ 1
  one_sent ph leg node to a there same waits =
      let one : weight k (share_at ph) 1 to a ≡ 1 = ap (counts k (share_at ph)) same ∙ ap (λ b. flag (b && (plan.op == k))) waits ∙ ap flag its in
      let all : (if reaches n 1 to then weight k (share_at ph) 1 to a else 0) ≡ 1 = ap (λ b. if b then weight k (share_at ph) 1 to a else 0) there ∙ one in
      omega (arith, all)

  syncs_weigh : (ph : SharePhase) → ((node : ℕ) → in_share plan Syncs ph node ≡ true) → (chunks : List Chunk) (members : List ℕ)
      → Each (λ member. reaches n 1 (instance_node member) ≡ true) members → sends_weigh (weight k (share_at ph)) n 1
      (map (λ member. (instance_node member, Msg.Sync (member == home plan) plan.op chunks)) members) ≡ length members
  syncs_weigh ph waits chunks [] h = refl
  syncs_weigh ph waits chunks (member ∷ members) h =
      let one = one_sent ph Syncs (instance_node member) (instance_node member) (Msg.Sync (member == home plan) plan.op chunks) h.0
      (at_instance Syncs plan.op member) (waits (instance_node member)) in
      omega (arith, one, syncs_weigh ph waits chunks members h.1)

  few_others : (one : ℕ) (members : List ℕ) → Each (λ member. reaches n 1 (instance_node member) ≡ true) members
      → Each (λ member. reaches n 1 (instance_node member) ≡ true) (others (record plan { members = members }) one)
  few_others one [] h = tt
  few_others one (member ∷ members) h = split (member == one)
      (λ b. Each (λ x. reaches n 1 (instance_node x) ≡ true)
      (if not b then member ∷ others (record plan { members = members }) one else others (record plan { members = members }) one))
      (λ _. few_others one members h.1) (λ _. (h.0, few_others one members h.1))

  sync_all : (ph : SharePhase) → ((node : ℕ) → in_share plan Syncs ph node ≡ true) → (one : ℕ) (chunks : List Chunk)
      → sends_weigh (weight k (share_at ph)) n 1 (syncs plan one chunks) ≡ length (others plan one)
  sync_all ph waits one chunks = syncs_weigh ph waits chunks (others plan one) (few_others one plan.members few)

  setting_grants : (ph : SharePhase) (m : Msg) (left : ℕ) (sends : List (ℕ × Msg))
      → left ≤ sends_weigh (weight k (share_at (SharePhase.Setting left))) n 1 sends → ShareGrants ph m (share.setting left sends)
  setting_grants ph m left sends h = split (left == 0)
      (λ b. ShareGrants ph m
      (if b then record { phase = SharePhase.Idle; sends = sends; answer = Some Done } else share.next_phase (SharePhase.Setting left) sends))
      (λ on. Fresh (omega arith)) (λ off. (let is = some_is left off in Fresh (omega (arith, is, h))))

  syncing_grants : (ph : SharePhase) (m : Msg) (left : ℕ) (sends : List (ℕ × Msg))
      → left ≤ sends_weigh (weight k (share_at (SharePhase.Syncing left))) n 1 sends → ShareGrants ph m (share.syncing left sends)
  syncing_grants ph m left sends h =
      split (left == 0) (λ b. ShareGrants ph m (share.next_phase (if b then SharePhase.Idle else SharePhase.Syncing left) sends)) (λ on. Fresh (omega arith))
      (λ off. (let is = some_is left off in Fresh (omega (arith, is, h))))

  fenced_row : (ph : SharePhase) (op : ℕ) → ShareGrants ph (Msg.Fenced op) (share.row (record { plan = plan; phase = ph }) p (Msg.Fenced op))
  fenced_row SharePhase.Fencing op = split (p == instance_node (home plan))
      (λ b. ShareGrants SharePhase.Fencing (Msg.Fenced op) (if b then share.on_fenced plan SharePhase.Fencing else share.next_phase SharePhase.Fencing []))
      (λ on.
      let self : (instance_node (home plan) == instance_node (home plan)) ≡ true = grind (arith, nat_tests) in
      let one = one_sent SharePhase.Getting Gets (instance_node (home plan)) (instance_node (home plan)) (Msg.Get plan.op plan.filter) home_there
      (at_instance Gets plan.op (home plan)) self in
      Fresh (omega (arith, one))) (λ off. still_share SharePhase.Fencing (Msg.Fenced op) (ap (λ b. flag (b && (op == k))) off))
  fenced_row ph op =
      elim (p == instance_node (home plan)) as (λ b. ShareGrants ph (Msg.Fenced op) (if b then share.on_fenced plan ph else share.next_phase ph []))
      [ true ↦ still_share ph (Msg.Fenced op) refl | false ↦ still_share ph (Msg.Fenced op) refl ]

  chunks_row : (ph : SharePhase) (op : ℕ) (chunks : List Chunk)
      → ShareGrants ph (Msg.Chunks op chunks) (share.row (record { plan = plan; phase = ph }) p (Msg.Chunks op chunks))
  chunks_row SharePhase.Getting op chunks = split (p == instance_node (home plan))
      (λ b. ShareGrants SharePhase.Getting (Msg.Chunks op chunks)
      (if b then share.on_chunks plan SharePhase.Getting chunks else share.next_phase SharePhase.Getting []))
      (λ on. (let left = length (others plan (home plan)) in
      let all = sync_all (SharePhase.Setting left) (λ node. refl) (home plan) chunks in
      setting_grants SharePhase.Getting (Msg.Chunks op chunks) left (syncs plan (home plan) chunks) (omega (arith, all))))
      (λ off. still_share SharePhase.Getting (Msg.Chunks op chunks) (ap (λ b. flag (b && (op == k))) off))
  chunks_row ph op chunks = elim (p == instance_node (home plan))
      as (λ b. ShareGrants ph (Msg.Chunks op chunks) (if b then share.on_chunks plan ph chunks else share.next_phase ph []))
      [ true ↦ still_share ph (Msg.Chunks op chunks) refl | false ↦ still_share ph (Msg.Chunks op chunks) refl ]

  shared_row : (ph : SharePhase) (op : ℕ) (chunk : Chunk)
      → ShareGrants ph (Msg.Shared op chunk) (share.row (record { plan = plan; phase = ph }) p (Msg.Shared op chunk))
  shared_row (SharePhase.Out member) op chunk =
      split (p == instance_node member)
      (λ b. ShareGrants (SharePhase.Out member) (Msg.Shared op chunk)
      (if b then share.syncing (length (others plan member)) (syncs plan member (chunk ∷ [])) else share.next_phase (SharePhase.Out member) []))
      (λ on. (let left = length (others plan member) in
      let all = sync_all (SharePhase.Syncing left) (λ node. refl) member (chunk ∷ []) in
      syncing_grants (SharePhase.Out member) (Msg.Shared op chunk) left (syncs plan member (chunk ∷ [])) (omega (arith, all))))
      (λ off. still_share (SharePhase.Out member) (Msg.Shared op chunk) (ap (λ b. flag (b && (op == k))) off))
  shared_row ph op chunk = still_share ph (Msg.Shared op chunk) refl

  same_setting : (leg : Leg) (a b node : ℕ) → in_share plan leg (SharePhase.Setting a) node ≡ in_share plan leg (SharePhase.Setting b) node
  same_setting Syncs a b node = refl
  same_setting leg a b node = refl

  same_syncing : (leg : Leg) (a b node : ℕ) → in_share plan leg (SharePhase.Syncing a) node ≡ in_share plan leg (SharePhase.Syncing b) node
  same_syncing Syncs a b node = refl
  same_syncing leg a b node = refl

  one_less : (left : ℕ) → (left - 1 == 0) ≡ false → some_left (left - 1) + 1 ≤ some_left left
  one_less left off =
      let more : (left == 0) ≡ false = grind (arith, nat_tests, off) in
      let some : 1 ≤ left = grind (arith, nat_tests, more) in
      omega (arith, some_is (left - 1) off, some_is left more, some)

  synced_row : (ph : SharePhase) (op : ℕ) → ShareGrants ph (Msg.Synced op) (share.row (record { plan = plan; phase = ph }) p (Msg.Synced op))
  synced_row (SharePhase.Setting left) op = split (left - 1 == 0)
      (λ b. ShareGrants (SharePhase.Setting left) (Msg.Synced op)
      (if b then record { phase = SharePhase.Idle; sends = []; answer = Some Done } else share.next_phase (SharePhase.Setting (left - 1)) []))
      (λ on. Fresh (omega arith))
      (λ off. (let less = one_less left off in
      let most = flag_most (true && (op == k)) in Waits (λ leg node. same_setting leg (left - 1) left node) (omega (arith, less, most))))
  synced_row (SharePhase.Syncing left) op = split (left - 1 == 0)
      (λ b. ShareGrants (SharePhase.Syncing left) (Msg.Synced op) (share.next_phase (if b then SharePhase.Idle else SharePhase.Syncing (left - 1)) []))
      (λ on. Fresh (omega arith))
      (λ off. (let less = one_less left off in
      let most = flag_most (true && (op == k)) in Waits (λ leg node. same_syncing leg (left - 1) left node) (omega (arith, less, most))))
  synced_row ph op = still_share ph (Msg.Synced op) refl

  pub share_row : (ph : SharePhase) (m : Msg) → ShareGrants ph m (share.row (record { plan = plan; phase = ph }) p m)
  share_row ph (Msg.Fenced op) = fenced_row ph op
  share_row ph (Msg.Chunks op chunks) = chunks_row ph op chunks
  share_row ph (Msg.Shared op chunk) = shared_row ph op chunk
  share_row ph (Msg.Synced op) = synced_row ph op
  share_row ph m = still_share ph m refl

  -- what is then served
  pub served_grants : (was ph : SharePhase) (m : Msg) (cells : List FullCell) (first : List (ℕ × Msg)) → Grants n k p m (share_at was) (share_at ph) first
      → Grants n k p m (share_at was) (share_at (share.service_if_idle plan ph cells).phase) (first ++ (share.service_if_idle plan ph cells).sends)
  served_grants was SharePhase.Idle m (cell ∷ cells) first h =
      let member = share.member_of plan cell in
      let self : (instance_node member == instance_node member) ≡ true = grind (arith, nat_tests) in
      let one = one_sent (SharePhase.Out member) Serves (instance_node member) 0 (Msg.Forward member (Mark.Shared plan.op (member == home plan)) cell)
      switch_there refl self in
      let both = sends_weigh-append (weight k (share_at (SharePhase.Out member))) n 1 first
      ((0, Msg.Forward member (Mark.Shared plan.op (member == home plan)) cell) ∷ []) in
      Fresh (omega (arith, one, both))
  served_grants was SharePhase.Idle m [] first h = grants_more n k p m (share_at was) (share_at SharePhase.Idle) first [] h
  served_grants was ph m cells first h = grants_more n k p m (share_at was) (share_at ph) first [] h

-- What messages weigh: a run can't be longer than what it weighs at first; and how many cells and stopped members there are.
use Rattle.strong_share.proofs.Words.{◌≡◌, ℕ, zero, suc, ◌+◌, ◌*◌, ◌<◌, ◌≤◌, Bool, true, false, List, [], ◌∷◌, length, refl, ap, subst, ◌∙◌, arith}
use Rattle.strong_share.proofs.Words.{if◌then◌else◌, ◌==◌, ◌&&◌, not, nat_lt, nat_tests, Decides-eqb, Decides-ltb, Chunk, Msg, InPacket, InEnd, End, Finish}
use Rattle.strong_share.proofs.Words.{Carry, Stop, Event, Shared, Sync, Synced, Final, Credit, instance_node, InstanceState, reaches, Each, weigh}
use Rattle.strong_share.proofs.Words.{weigh-append, sent_weight, Serving, Idle, QueuedPacket, ControllerState, serve_row, serve_step, syncs, is_home}
use Rattle.strong_share.proofs.Words.{the_share, sync_to, stop_messages}
use Rattle.event_filter.specs.declared.mark.Mark.TheVariants as mark
use Rattle.net_world.proofs.SentMessages.{sent_weight-append}
use Rattle.strong_share.proofs.Lists.{put, two_zero}
use Rattle.strong_share.proofs.MemberLists.{sync_of, syncs_more}
use Rattle.strong_share.proofs.ServedPackets.{count_below, one_if}
use Rattle.strong_share.proofs.Turns.{count_put}

-- each choice that a message leads to, itself included, where there are so many members beside one
abbrev pub weight : ℕ → Msg → ℕ
weight o (InPacket p) = 2 * o + 6
weight o InEnd = 2 * o + 5
weight o End = 2 * o + 4
weight o Finish = 2 * o + 3
weight o (Carry mark.Plain c) = 2 * o + 5
weight o (Carry (mark.Shared op home) c) = 2 * o + 3
weight o Stop = 2
weight o (Event op c) = 2 * o + 4
weight o (Shared op chunk) = 2 * o + 1
weight o (Sync home op chunks) = 2
weight o (Synced op) = 1
weight o Final = 1
weight o (Credit c) = 1
weight o m = 0

-- and one that is queued
abbrev pub queue_weight : ℕ → List QueuedPacket → ℕ
queue_weight o q = weigh (λ r. 2 * o + 3) q

-- a cell, and that a member has stopped
abbrev pub cell : Msg → ℕ
cell (Carry mark c) = 1
cell (Event op c) = 1
cell (Credit c) = 1
cell m = 0

abbrev pub final_in : Msg → ℕ
final_in Final = 1
final_in m = 0

-- what is sent weighs
abbrev pub cost : ℕ → List (ℕ × Msg) → ℕ
cost o sends = weigh (λ s. weight o s.1) sends

pub few_sent : (o n k : ℕ) (sends : List (ℕ × Msg)) → sent_weight (weight o) n k sends ≤ cost o sends
few_sent o n k [] = omega arith
few_sent o n k (s ∷ sends) = let one = arrives (reaches n k s.0) (weight o s.1) in let rest = few_sent o n k sends in omega (arith, one, rest)
  where
    arrives : (b : Bool) (a : ℕ) → (if b then a else 0) ≤ a
    arrives true a = omega arith
    arrives false a = omega arith

if_zero : (b : Bool) (a : ℕ) → a ≡ 0 → (if b then a else 0) ≡ 0
if_zero true a e = e
if_zero false a e = refl

pub none_sent : (g : Msg → ℕ) (n k i : ℕ) (m : Msg) → g m ≡ 0 → sent_weight g n k ((i, m) ∷ []) ≡ 0
none_sent g n k i m e = let one = if_zero (reaches n k i) (g m) e in omega (arith, one)

pub all_sent : (g : Msg → ℕ) (n k i : ℕ) (m : Msg) → reaches n k i ≡ true → sent_weight g n k ((i, m) ∷ []) ≡ g m
all_sent g n k i m e = let one = ap (λ b. if b then g m else 0) e in omega (arith, one)

pub reaches_member : (n k i : ℕ) → i < n → reaches (n + 2) k (i + 2) ≡ true
reaches_member n k i there =
    let low = (Decides-ltb (i + 2) (n + 2)).1 (omega (arith, there)) in
    let far : (i + 2 == 0) ≡ false = two_zero i in
    elim (k == 0) as (λ b. nat_lt (i + 2) (n + 2) && not (b && (i + 2 == 0)) ≡ true) [ true ↦ rw (low, far) refl | false ↦ rw low refl ]

pub reaches_low : (n j r : ℕ) → r < n + 2 → reaches (n + 2) (j + 2) r ≡ true
reaches_low n j r there =
    let far : (j + 2 == 0) ≡ false = two_zero j in
    rw ((Decides-ltb r (n + 2)).1 there, far) refl

-- the stops
pub stops_cost : (o n : ℕ) → cost o (stop_messages n) ≡ 2 * n
stops_cost o zero = omega arith
stops_cost o (suc n) = let rest = stops_cost o n in let both = weigh-append (λ (s : ℕ × Msg). weight o s.1) (stop_messages n) ((instance_node n, Stop) ∷ []) in
    omega (arith, rest, both)

pub stops_none : (g : Msg → ℕ) (n k i : ℕ) → g Stop ≡ 0 → sent_weight g n k (stop_messages i) ≡ 0
stops_none g n k zero e = omega arith
stops_none g n k (suc i) e = let rest = stops_none g n k i e in let one = none_sent g n k (instance_node i) Stop e in
    let both = sent_weight-append g n k (stop_messages i) ((instance_node i, Stop) ∷ []) in omega (arith, rest, one, both)

-- the chunks that go round
sync_cost : (o m i : ℕ) (chunk : Chunk) → cost o (sync_of m chunk i) ≡ (if i == m then 0 else 2)
sync_cost o m i chunk = elim (i == m) as (λ b. cost o (if b then [] else sync_to chunk i ∷ []) ≡ (if b then 0 else 2)) [ true ↦ refl | false ↦ omega arith ]

more_cost : (o m k : ℕ) (chunk : Chunk) → cost o (syncs (suc k) m chunk) ≡ cost o (syncs k m chunk) + (if k == m then 0 else 2)
more_cost o m k chunk =
    ap (cost o) (syncs_more k m chunk)
    ∙ weigh-append (λ (s : ℕ × Msg). weight o s.1) (syncs k m chunk) (sync_of m chunk k)
    ∙ ap (λ c. cost o (syncs k m chunk) + c) (sync_cost o m k chunk)

syncs_over : (o m n : ℕ) (chunk : Chunk) → n ≤ m → cost o (syncs n m chunk) ≡ 2 * n
syncs_over o m zero chunk over = omega arith
syncs_over o m (suc k) chunk over =
    let other : (k == m) ≡ false = grind (arith, nat_tests, over) in
    let one = more_cost o m k chunk ∙ ap (λ b. cost o (syncs k m chunk) + (if b then 0 else 2)) other in
    omega (arith, syncs_over o m k chunk (omega (arith, over)), one)

pub syncs_cost : (o m n : ℕ) (chunk : Chunk) → m < n → cost o (syncs n m chunk) + 2 ≡ 2 * n
syncs_cost o m zero chunk there = absurd (omega arith)
syncs_cost o m (suc k) chunk there =
    let more = more_cost o m k chunk in
    elim (k == m) as (λ b. (k == m) ≡ b → cost o (syncs (suc k) m chunk) + 2 ≡ 2 * suc k) [
      | true ↦ λ on.
          let same : k ≡ m = (Decides-eqb k m).0 on in
          let one = ap {B = ℕ} (λ b. if b then 0 else 2) on in
          omega (arith, syncs_over o m k chunk (omega (arith, same)), more, one)
      | false ↦ λ off.
          let less : m < k = grind (arith, nat_tests, there, off) in
          let one = ap {B = ℕ} (λ b. if b then 0 else 2) off in
          omega (arith, syncs_cost o m k chunk less, more, one)
    ] refl

pub syncs_none : (g : Msg → ℕ) (n k m i : ℕ) (chunk : Chunk) → ((home : Bool) → g (Sync home the_share (chunk ∷ [])) ≡ 0)
    → sent_weight g n k (syncs i m chunk) ≡ 0
syncs_none g n k m zero chunk e = omega arith
syncs_none g n k m (suc i) chunk e =
    let both = ap (sent_weight g n k) (syncs_more i m chunk) ∙ sent_weight-append g n k (syncs i m chunk) (sync_of m chunk i) in
    omega (arith, syncs_none g n k m i chunk e, to_one (i == m), both)
  where
    to_one : (b : Bool) → sent_weight g n k (if b then [] else sync_to chunk i ∷ []) ≡ 0
    to_one true = refl
    to_one false = none_sent g n k (instance_node i) (Sync (is_home i) the_share (chunk ∷ [])) (e (is_home i))

-- what is served leaves the queue
pub serve_cost : (o : ℕ) (c : ControllerState) → cost o (serve_step c).sends + queue_weight o (serve_step c).node.queue ≡ queue_weight o c.queue
serve_cost o c = by c.serving c.queue refl
  where
    by : (s : Serving) (q : List QueuedPacket) → c.queue ≡ q → cost o (serve_row c s q).sends + queue_weight o (serve_row c s q).node.queue
        ≡ queue_weight o c.queue
    by Idle (r ∷ rest) e = let all = ap (queue_weight o) e in omega (arith, all)
    by s q e = omega arith

pub serve_cells : (n : ℕ) (c : ControllerState) → Each (λ r. r.member < n) c.queue
    → sent_weight cell (n + 2) 1 (serve_step c).sends + length (serve_step c).node.queue ≡ length c.queue
serve_cells n c there = by c.serving c.queue refl
  where
    by : (s : Serving) (q : List QueuedPacket) → c.queue ≡ q → sent_weight cell (n + 2) 1 (serve_row c s q).sends + length (serve_row c s q).node.queue
        ≡ length c.queue
    by Idle (r ∷ rest) e =
        let first : Each (λ (z : QueuedPacket). z.member < n) (r ∷ rest) = subst (Each (λ (z : QueuedPacket). z.member < n)) e there in
        let one = all_sent cell (n + 2) 1 (instance_node r.member) (Carry (mark.Shared the_share (is_home r.member)) r.cell)
        (reaches_member n 1 r.member first.0) in
        let all : length c.queue ≡ suc (length rest) = ap length e in
        omega (arith, one, all)
    by s q e = omega arith

pub serve_finals : (n : ℕ) (c : ControllerState) → (sent_weight final_in n 1 (serve_step c).sends ≡ 0) × ((serve_step c).node.finals ≡ c.finals)
serve_finals n c = by c.serving c.queue
  where
    by : (s : Serving) (q : List QueuedPacket) → (sent_weight final_in n 1 (serve_row c s q).sends ≡ 0) × ((serve_row c s q).node.finals ≡ c.finals)
    by Idle (r ∷ rest) = (none_sent final_in n 1 (instance_node r.member) (Carry (mark.Shared the_share (is_home r.member)) r.cell) refl, refl)
    by s q = (refl, refl)

-- how many of the first members have ended
module _ {F R : Type 0} where
  abbrev pub ended_below : (ℕ → InstanceState F R) → ℕ → ℕ
  ended_below g n = count_below (λ k. (g k).ended) n

  pub ended_put : (g : ℕ → InstanceState F R) (j n : ℕ) (y : InstanceState F R) → j < n
      → ended_below (put g j y) n + one_if (g j).ended ≡ ended_below g n + one_if y.ended
  ended_put g j n y there = count_put (λ (i : InstanceState F R). i.ended) g j y n there

  pub ended_few : (g : ℕ → InstanceState F R) (n : ℕ) → ended_below g n ≤ n
  ended_few g zero = omega arith
  ended_few g (suc k) = let rest = ended_few g k in let one = few (g k).ended in omega (arith, rest, one)
    where
      few : (b : Bool) → one_if b ≤ 1
      few true = omega arith
      few false = omega arith

  pub ended_all : (g : ℕ → InstanceState F R) (n : ℕ) → ((k : ℕ) → k < n → (g k).ended ≡ true) → ended_below g n ≡ n
  ended_all g zero all = refl
  ended_all g (suc k) all = let rest = ended_all g k (λ i i_in. all i (omega (arith, i_in))) in let one = ap one_if (all k (omega arith)) in
      omega (arith, rest, one)

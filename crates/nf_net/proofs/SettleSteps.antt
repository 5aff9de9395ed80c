-- Each choice of a run keeps that the switch counts the commands that wait for their answer, and so that what stands before a settle that
-- it has taken is answered.
use Rattle.nf_net.proofs.Words.{◌≡◌, ◌≢◌, ℕ, suc, ◌+◌, ◌^◌, ◌<◌, ◌≤◌, true, false, List, [], ◌∷◌, ◌++◌, length, length-append, get_or, refl, ap, ◌∙◌, arith}
use Rattle.nf_net.proofs.Words.{if◌then◌else◌, ◌&&◌, ◌||◌, ◌==◌, not, nat_lt, Decides-ltb, Semantics, Msg, Note, Target, rules_redirected, Packet}
use Rattle.nf_net.proofs.Words.{instance_node, MOST_WAITING, SwitchState, switch_step, takes_in, Network, queue_at, at, EachSent, weigh, total, sent_weight}
use Rattle.nf_net.proofs.Words.{Each, each_map, Rising, Node, Switch, is_begun, has_answered, commands, Given, Label, Mark}
use Rattle.std.proofs.Common.{◌-◌}
use Rattle.std.specs.Prelude.{min}
use Rattle.packet_pool.specs.Pool.{one_more as one_more_cell}
use Rattle.switch_node.specs.Switch as switches
use Rattle.nf_net.proofs.RunWords.{answering, is_noted, or_off, weighs_nothing, sends_nothing}
use Rattle.nf_net.proofs.answers.BusyController.{told_in}
use Rattle.nf_net.proofs.answers.BusyRuns.{Busy, waits_of}
use Rattle.nf_net.proofs.answers.LinePicks.{picked}
use Rattle.nf_net.proofs.SettleCounts.{answered_in, AllAnswered, answered_in-append, answered_most, all_answered, none_answered_in, low_commands}
use Rattle.nf_net.proofs.SettleCounts.{commands-append}

abbrev pub switch_in : {F R : Type 0} → SwitchState → Node F R → SwitchState
switch_in s (Switch t) = t
switch_in s d = s

-- a command of the input counts
abbrev pub asking : Msg → ℕ
asking (Msg.InCommand c) = 1
asking m = 0

module _ {R : Type 0} (f : Semantics R) (g : Given) where
  -- answers go from the controller to the switch
  no_answer_from : (k r : ℕ) (m : Msg) → k ≢ 1 → Label f g k r m → answering m ≡ 0
  no_answer_from k r (Msg.Answered op) other label = absurd (other label.0)
  no_answer_from k r m other _ = refl

  pub no_answer_to : (p k : ℕ) (m : Msg) → 1 ≤ k → Label f g p k m → answering m ≡ 0
  no_answer_to p k (Msg.Answered op) some label = let none = label.1 in absurd (omega (arith, some, none))
  no_answer_to p k m some label = refl

  pub none_sent : (n k : ℕ) (sends : List (ℕ × Msg)) → k ≢ 1 → EachSent (Label f g) k sends → sent_weight answering n k sends ≡ 0
  none_sent n k sends other = sends_nothing (Label f g) answering k (λ r m. no_answer_from k r m other) n sends

  pub items_none : (items : List Msg) → Each (Label f g 0 0) items → weigh answering items ≡ 0
  items_none = weighs_nothing (Label f g 0 0) answering (λ m. no_answer_from 0 0 m (λ never. cc))

  -- a command comes from the input
  pub asked_there : (p k : ℕ) (m : Msg) → Label f g p k m → 1 ≤ asking m → (p ≡ 0) × (k ≡ 0)
  asked_there p k (Msg.InCommand c) label h = label.0
  asked_there p k m label h = absurd (omega (arith, h))

  -- the switch counts a command more, or one less where an answer comes
  abbrev Counts : SwitchState → ℕ → ℕ → switches.Step → Type 0
  Counts s less more did = did.node.waiting + less ≡ s.waiting + more

  goes_counts : (s : SwitchState) (q : Packet) (t : Target) → Counts s 0 0 (switches.goes_to s q t)
  goes_counts s q Target.Controller = refl
  goes_counts s q (Target.Instance i) = elim (nat_lt i s.instances)
      as (λ b. Counts s 0 0 (if b then switches.arrival_step s q (instance_node i) (Msg.Carry Mark.Plain) else switches.still s)) [ true ↦ refl | false ↦ refl ]

  sends_counts : (s : SwitchState) (i : ℕ) (m : Msg) → Counts s 0 0 (switches.sends_to_instance s i m)
  sends_counts s i m = elim (nat_lt i s.instances) as (λ b. Counts s 0 0 (if b then switches.sends_on s (instance_node i) m else switches.still s))
      [ true ↦ refl | false ↦ refl ]

  one_more : (k : ℕ) → nat_lt k MOST_WAITING ≡ true → min (k + 1) (2 ^ 32 - 1) + 0 ≡ k + 1
  one_more k less = let few : k < MOST_WAITING = (Decides-ltb k MOST_WAITING).0 less in omega (arith, few)

  pub switch_counts : (s : SwitchState) (m : Msg) → (1 ≤ asking m → takes_in s m ≡ true) → answering m ≤ s.waiting
      → Counts s (answering m) (asking m) (switch_step s m)
  switch_counts s (Msg.InPacket q) ready some = elim (switches.has_room s) as (λ b. Counts s 0 0
      (if b then switches.goes_to s q (switches.target_of s q) else switches.still s)) [ true ↦ goes_counts s q (switches.target_of s q) | false ↦ refl ]
  switch_counts s (Msg.InCommand c) ready some = one_more s.waiting (ready (omega arith))
  switch_counts s (Msg.Forward to k cell) ready some = sends_counts s to (Msg.Carry k cell)
  switch_counts s (Msg.Install op filter from to) ready some =
      elim (nat_lt from s.instances && switches.is_there s to) as (λ b. Counts s 0 0 (if b then record {
        node = record s { rules = rules_redirected (record { filter = filter; from = Target.Instance from; to = to }) s.rules };
        sends = (instance_node from, Msg.Fence op) ∷ [];
        notes = Note.Installed op ∷ [];
      } else switches.still s)) [ true ↦ refl | false ↦ refl ]
  switch_counts s (Msg.FenceTo op to) ready some = sends_counts s to (Msg.Fence op)
  switch_counts s (Msg.Answered op) ready some = omega (arith, some)
  switch_counts s (Msg.Credit cell) ready some = elim ((s.flying == 0) || not (cell.pool == s.pool.name)) as (λ b. Counts s 0 0
      (if b then switches.still s else record { node = record s { pool = one_more_cell s.pool; flying = s.flying - 1 }; sends = []; notes = [] }))
      [ true ↦ refl | false ↦ refl ]
  switch_counts s m ready some = refl

-- what holds of a world of a run of this input
pub record Counted (items : List Msg) {F R : Type 0} (w : Network (Node F R) Msg Note) : Type 0 where
  pub switch : SwitchState
  pub switch_is : (d : Node F R) → get_or w.nodes 0 d ≡ Switch switch
  -- what the switch took of the input is a front of it
  pub took : List Msg
  pub whole : items ≡ took ++ queue_at w (at 0 0)
  -- the commands that wait for their answer, and those in the input, are those that aren't answered
  pub balance : switch.waiting + answered_in (commands items) w.log + length (commands (queue_at w (at 0 0))) ≡ length (commands items) + total answering w
  -- what stands before a settle that was taken is answered
  pub settled : (front behind : List Msg) → items ≡ front ++ Msg.InSettle ∷ behind → length (queue_at w (at 0 0)) ≤ length behind
      → AllAnswered (commands front) w.log

-- numbers that rise are none below the first bound
rising_each : (least b : ℕ) (ks : List ℕ) → least ≤ b → Rising b ks → Each (λ k. least ≤ k) ks
rising_each least b [] low h = tt
rising_each least b (k ∷ ks) low h = let first = h.0 in (omega (arith, low, first), rising_each least (suc k) ks (omega (arith, low, first)) h.1)

each_behind : {X : Type 0} (P : X → Type 0) (xs ys : List X) → Each P (xs ++ ys) → Each P ys
each_behind P [] ys h = h
each_behind P (x ∷ xs) ys h = each_behind P xs ys h.1

module _ {F R : Type 0} (g : Given) (w : Network (Node F R) Msg Note) (b : Busy g w) where
  -- of what waits in the input nothing is noted
  pub unnoted_waits : Each (λ c. is_noted c.op w.log ≡ false) (commands (queue_at w (at 0 0)))
  unnoted_waits = low_commands (λ k. is_noted k w.log ≡ false) (queue_at w (at 0 0))
      (each_map {P = (λ k. b.is.next ≤ k)} {Q = (λ k. is_noted k w.log ≡ false)} (λ k low. b.is.unnoted k low) (picked told_in (queue_at w (at 0 0)))
      (each_behind (λ k. b.is.next ≤ k) (picked told_in (queue_at w (at 1 0))) (picked told_in (queue_at w (at 0 0)))
      (rising_each b.is.next b.is.next (waits_of w) (omega arith) b.is.rising)))

  -- so it isn't answered
  unanswered : Each (λ c. has_answered c.op w.log ≡ false) (commands (queue_at w (at 0 0)))
  unanswered = each_map {P = (λ c. is_noted c.op w.log ≡ false)} {Q = (λ c. has_answered c.op w.log ≡ false)}
      (λ c off. (or_off (is_begun c.op w.log) (has_answered c.op w.log) off).1) (commands (queue_at w (at 0 0))) unnoted_waits

  module _ (items : List Msg) (h : Counted items w) where
    abbrev pub left : List Msg
    left = queue_at w (at 0 0)

    commands_are : commands items ≡ commands h.took ++ commands left
    commands_are = ap commands h.whole ∙ commands-append h.took left

    -- those that were taken are all that may be answered
    lengths : length (commands items) ≡ length (commands h.took) + length (commands left)
    lengths = ap length commands_are ∙ length-append (commands h.took) (commands left)

    answered_are : answered_in (commands items) w.log ≡ answered_in (commands h.took) w.log
    answered_are =
        let parts = ap (λ cs. answered_in cs w.log) commands_are ∙ answered_in-append (commands h.took) (commands left) w.log in
        omega (arith, parts, none_answered_in (commands left) w.log unanswered)

    pub few : answered_in (commands items) w.log + length (commands left) ≤ length (commands items)
    few = let all = lengths in let same = answered_are in let most = answered_most (commands h.took) w.log in omega (arith, all, same, most)

    -- where the switch counts none, all that was taken is answered
    pub none_waits : h.switch.waiting ≡ 0 → AllAnswered (commands h.took) w.log
    none_waits none = all_answered (commands h.took) w.log (omega (arith, lengths, answered_are, h.balance, none))

-- what a step does to the input
pub data InputGoes (m : Msg) (before after : List Msg) (ready : Type 0) : Type 0 where
  Stays : after ≡ before → asking m ≡ 0 → InputGoes m before after ready
  Loses : before ≡ m ∷ after → ready → InputGoes m before after ready

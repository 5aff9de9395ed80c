-- Of every run: where a command has begun, the packets that stand before it in the input have come.
use Rattle.nf_net.proofs.Words.{◌≡◌, ℕ, ◌+◌, ◌<◌, ◌≤◌, true, false, List, [], ◌∷◌, ◌++◌, length, length-append, sym, ap, ◌∙◌, subst, arith, nat_lt, nat_tests}
use Rattle.nf_net.proofs.Words.{length-map, Command, Msg, Note, Choice, Network, queue_at, at, Each, Node, is_begun, has_answered, commands, arrivals_in, given}
use Rattle.nf_net.proofs.Words.{split, Setting, IsCourse, world_of}
use Rattle.net_world.specs.Input.{packets}
use Rattle.nf_net.proofs.answers.ArrivalLemmas.{numbers, runs_joined}
use Rattle.nf_net.proofs.RunWords.{is_noted, or_off, run_busy}
use Rattle.nf_net.proofs.SettleCounts.{commands-append, longer_end, packets-append}
use Rattle.nf_net.proofs.SettleKeeps.{run_settles}
use Rattle.nf_net.proofs.SettleSteps.{Counted, unnoted_waits}

each_there : {X : Type 0} (P : X → Type 0) (xs : List X) (x : X) (ys : List X) → Each P (xs ++ x ∷ ys) → P x
each_there P [] x ys h = h.0
each_there P (z ∷ xs) x ys h = each_there P xs x ys h.1

module _ {F R : Type 0} (setting : Setting F R) (cs : List Choice) (run_is : IsCourse setting cs) where
  open setting use {items}

  abbrev w : Network (Node F R) Msg Note
  w = world_of setting cs

  abbrev left : List Msg
  left = queue_at w (at 0 0)

  counts : (xs ys : List Msg) → length (packets (xs ++ ys)) ≡ length (packets xs) + length (packets ys)
  counts xs ys = ap length (packets-append xs ys) ∙ length-append (packets xs) (packets ys)

  -- all packets that have come, and those that are left
  turn : length (arrivals_in w.log) + length (packets left) ≡ length (packets items)
  turn =
      let h = runs_joined setting cs run_is in
      let some = length-map (packets left) (λ p. p.number) in
      let all = length-map (packets items) (λ p. p.number) in
      omega (arith, length-append (arrivals_in w.log) (numbers left), ap length h.in_turn, some, all)

  -- what waits in the input hasn't begun
  waits_on : (ms behind : List Msg) (command : Command) → left ≡ ms ++ Msg.InCommand command ∷ behind → is_begun command.op w.log ≡ false
  waits_on ms behind command e =
      let b = (run_busy setting cs run_is).1 in
      let none = each_there (λ x. is_noted x.op w.log ≡ false) (commands ms) command (commands behind) (subst (λ xs. Each (λ x. is_noted x.op w.log ≡ false)
      xs) (ap commands e ∙ commands-append ms (Msg.InCommand command ∷ behind)) (unnoted_waits (given setting) w b)) in
      (or_off (is_begun command.op w.log) (has_answered command.op w.log) none).0

  pub came_before : (op : ℕ) → is_begun op w.log ≡ true → (front behind : List Msg) (command : Command) → items ≡ front ++ Msg.InCommand command ∷ behind
      → command.op ≡ op → length (packets front) ≤ length (arrivals_in w.log)
  came_before op begun front behind command whole same =
      split (nat_lt (length behind) (length left)) (λ _. length (packets front) ≤ length (arrivals_in w.log))
      (λ on.
      let more : length behind < length left = grind (arith, nat_tests, on) in
      let ends = longer_end counted.took left front (Msg.InCommand command ∷ behind) (sym counted.whole ∙ whole) (omega (arith, more)) in
      let never : true ≡ false = sym begun ∙ ap (λ k. is_begun k w.log) (sym same) ∙ waits_on ends.0 behind command ends.1 in
      cc)
      (λ off.
      let few : length left ≤ length behind = grind (arith, nat_tests, off) in
      let ends = longer_end front (Msg.InCommand command ∷ behind) counted.took left (sym whole ∙ counted.whole) (omega (arith, few)) in
      let all : length (packets items) ≡ length (packets front) + (length (packets ends.0) + length (packets left)) =
      ap (λ xs. length (packets xs)) (whole ∙ ap (λ xs. front ++ xs) ends.1) ∙ counts front (ends.0 ++ left)
      ∙ ap (λ k. length (packets front) + k) (counts ends.0 left) in
      omega (arith, all, turn))
    where
      counted : Counted items w
      counted = (run_settles setting cs run_is).counted

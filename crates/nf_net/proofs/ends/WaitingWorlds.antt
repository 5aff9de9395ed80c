-- Where no message is on a link no command waits for its answer at the switch: each that was taken is answered.
use Rattle.nf_net.proofs.Words.{◌≡◌, ℕ, suc, ◌+◌, ◌<◌, ◌≤◌, true, false, Option, Some, None, List, [], ◌∷◌, ◌++◌, map, length, length-append, refl, sym, ap}
use Rattle.nf_net.proofs.Words.{◌∙◌, subst, arith, if◌then◌else◌, ◌&&◌, ◌==◌, is_some, nat_tests, Command, Msg, Note, Operation, Share, Network, IsWorld}
use Rattle.nf_net.proofs.Words.{queue_at, at, weigh, weigh-append, total, Each, each_map, Node, Switch, is_begun, has_answered, is_share, keeps_off, answers_of}
use Rattle.nf_net.proofs.Words.{IsRising, is_item, commands, all_each, Given, Label, Joined, given, silent_total, Setting}
use Rattle.std.specs.FinMap as finite
use Rattle.net_world.specs.Log as log
use Rattle.nf_net.proofs.RunWords.{answering, is_noted, Busy, keeps_is, told_is, flag}
use Rattle.nf_net.proofs.answers.ToldCommands.{told, Told, closed_answered}
use Rattle.nf_net.proofs.SettleCounts.{answered_in, AllAnswered, answered_in-append, commands-append}
use Rattle.nf_net.proofs.SettleSteps.{Counted, items_none}
use Rattle.net_world.proofs.PickedLists.{kept_some}
use Rattle.nf_net.proofs.ends.TokenRuns.{HasEnough}
use Rattle.nf_net.proofs.ends.AllEnded.{settled_share}

-- A command among items whose numbers rise.
low_told : (op least : ℕ) (ms : List Msg) → Each (λ item. is_item item ≡ true) ms → IsRising least (map (λ k. k.op) (commands ms)) → op < least
    → weigh (told op) ms ≡ 0
low_told op least [] ok up low = refl
low_told op least (Msg.InCommand k ∷ ms) ok up low =
    let first = up.0 in
    let off : (k.op == op) ≡ false = grind (arith, nat_tests, first, low) in
    let none : ◌≡◌ {A = ℕ} (if k.op == op then 1 else 0) 0 = ap (λ b. if b then 1 else 0) off in
    omega (arith, none, low_told op (suc k.op) ms ok.1 up.1 (omega (arith, first, low)))
low_told op least (Msg.InPacket p ∷ ms) ok up low = let rest = low_told op least ms ok.1 up low in omega (arith, rest)
low_told op least (Msg.InSettle ∷ ms) ok up low = let rest = low_told op least ms ok.1 up low in omega (arith, rest)
low_told op least (Msg.InEnd ∷ ms) ok up low = let rest = low_told op least ms ok.1 up low in omega (arith, rest)
low_told op least (m ∷ ms) ok up low = let never : false ≡ true = ok.0 in cc

-- it isn't among those that are left, and is among all
record IsTaken (left whole : List Msg) (k : Command) : Type 0 where
  gone : weigh (told k.op) left ≡ 0
  there : 1 ≤ weigh (told k.op) whole

taken_each : (left whole : List Msg) (least : ℕ) (ms : List Msg) → Each (λ item. is_item item ≡ true) (ms ++ left)
    → IsRising least (map (λ k. k.op) (commands (ms ++ left))) → ((op : ℕ) → weigh (told op) (ms ++ left) ≤ weigh (told op) whole)
    → Each (IsTaken left whole) (commands ms)
taken_each left whole least [] ok up more = tt
taken_each left whole least (Msg.InCommand k ∷ ms) ok up more =
    let parts = weigh-append (told k.op) ms left in
    let self : (k.op == k.op) ≡ true = grind (arith, nat_tests) in
    let one : ◌≡◌ {A = ℕ} (if k.op == k.op then 1 else 0) 1 = ap (λ b. if b then 1 else 0) self in
    let all = more k.op in (
      record { gone = omega (arith, low_told k.op (suc k.op) (ms ++ left) ok.1 up.1 (omega arith), parts); there = omega (arith, one, all) },
      taken_each left whole (suc k.op) ms ok.1 up.1 (λ op. (let whole_so = more op in omega (arith, whole_so))),
    )
taken_each left whole least (Msg.InPacket p ∷ ms) ok up more = taken_each left whole least ms ok.1 up (λ op. (let all = more op in omega (arith, all)))
taken_each left whole least (Msg.InSettle ∷ ms) ok up more = taken_each left whole least ms ok.1 up (λ op. (let all = more op in omega (arith, all)))
taken_each left whole least (Msg.InEnd ∷ ms) ok up more = taken_each left whole least ms ok.1 up (λ op. (let all = more op in omega (arith, all)))
taken_each left whole least (m ∷ ms) ok up more = let never : false ≡ true = ok.0 in cc

-- an answer that stands in the log
has_some : (op : ℕ) (log : List Note) → 1 ≤ length (answers_of op log) → has_answered op log ≡ true
has_some op notes h = kept_some (λ one. one.0 == op) (λ one. one.1) (log.answers_in notes) h

all_counted : (ks : List Command) (log : List Note) → AllAnswered ks log → answered_in ks log ≡ length ks
all_counted [] log h = refl
all_counted (k ∷ ks) log h = let own = ap flag h.0 in let rest = all_counted ks log h.1 in omega (arith, own, rest)

module _ {F R : Type 0} (setting : Setting F R) (n : ℕ) (count_is : n ≡ length setting.config.names + 2) (w : Network (Node F R) Msg Note) (world : IsWorld w)
    (nodes : length w.nodes ≡ n) (j : Joined setting.function (given setting) n w) (b : Busy (given setting) w) (enough : HasEnough setting.function n w)
    (counted : Counted setting.items w) (waits : Told setting.items w) (silent : (s r : ℕ) → (r == 0) && (s == 0) ≡ false → queue_at w (at r s) ≡ []) where
  open setting use {function as f, items, is_input as is}

  abbrev g : Given
  g = given setting

  abbrev left : List Msg
  left = queue_at w (at 0 0)

  taken_all : Each (IsTaken left items) (commands counted.took)
  taken_all =
      let only = all_each (λ item. is_item item ≡ true) items is.only_items in
      taken_each left items 0 counted.took (subst (λ xs. Each (λ item. is_item item ≡ true) xs) counted.whole only)
      (subst (λ xs. IsRising 0 (map (λ k. k.op) (commands xs))) counted.whole is.ops)
      (λ op. (let same = ap (weigh (told op)) counted.whole in omega (arith, same)))

  -- what was taken of the input is noted, and so answered
  answered : (k : Command) → IsTaken left items k → has_answered k.op w.log ≡ true
  answered k t = by_got (finite.get j.nodes.controller.operations k.op) refl
    where
      noted : 1 ≤ flag (is_noted k.op w.log)
      noted =
          let input : total (told k.op) w ≡ weigh (told k.op) left = silent_total w world silent (told k.op) in
          omega (arith, waits k.op t.there, input, t.gone)

      by_got : (o : Option Operation) → finite.get j.nodes.controller.operations k.op ≡ o → has_answered k.op w.log ≡ true
      by_got None there =
          let off : keeps_off g.names g.orders k.op w.log ≡ false = sym (keeps_is f g n count_is w j b k.op) ∙ ap is_some there in
          closed_answered (is_begun k.op w.log) (is_share (g.orders k.op)) (has_answered k.op w.log) off noted
      by_got (Some o) there =
          let open_so = settled_share f g n count_is w world nodes j enough silent k.op o there in
          let same : finite.get j.nodes.controller.operations k.op ≡ Some (Share open_so.0) = there ∙ ap Some open_so.1.0 in
          let told_so = told_is f g n count_is w j b k.op (Share open_so.0) same in
          let one : length (answers_of k.op w.log) ≡ 1 = ap length told_so ∙ rw open_so.1.1 refl in
          has_some k.op w.log (omega (arith, one))

  all_answered : AllAnswered (commands counted.took) w.log
  all_answered = each_map {P = (IsTaken left items)} {Q = (λ k. has_answered k.op w.log ≡ true)} answered (commands counted.took) taken_all

  -- so none waits
  pub none_waits : j.nodes.switch.waiting ≡ 0
  none_waits =
      let is_switch : ◌≡◌ {A = Node F R} (Switch counted.switch) (Switch j.nodes.switch) = sym (counted.switch_is (Switch counted.switch))
      ∙ j.nodes_are 0 (omega (arith, count_is)) (Switch counted.switch) in
      let same : counted.switch ≡ j.nodes.switch = cc in
      let parts = ap commands counted.whole ∙ commands-append counted.took left in
      let long = ap length parts ∙ length-append (commands counted.took) (commands left) in
      let both = ap (λ ks. answered_in ks w.log) parts ∙ answered_in-append (commands counted.took) (commands left) w.log in
      let answers = silent_total w world silent answering in
      let input_label : Each (Label f g 0 0) left = j.labels 0 0 (omega (arith, nodes, count_is)) (omega (arith, nodes, count_is)) in
      let none : weigh answering w.input ≡ 0 = items_none f g left input_label in
      sym (ap (λ s. s.waiting) same) ∙ omega (arith, long, both, all_counted (commands counted.took) w.log all_answered, counted.balance, answers, none)

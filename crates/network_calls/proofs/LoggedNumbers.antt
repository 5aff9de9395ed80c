-- At the end of a run each packet of the input has one output in the log, and each command one answer.
use Rattle.network_calls.proofs.Words.{◌≡◌, ℕ, ◌+◌, true, false, Option, Some, None, List, [], ◌∷◌, map, length, refl, sym, ap, ◌∙◌, arith, if◌then◌else◌}
use Rattle.network_calls.proofs.Words.{find, option_map, nat_tests, Semantics, Msg, Note, Kind, Network, Config, Node, IsInput, commands, packets, answer_in}
use Rattle.network_calls.proofs.Words.{Completed, Promises, by_number, output_in}
use Rattle.std.proofs.Common.{suc}
use Rattle.std.specs.Prelude.{◌==◌, is_some, filter}
use Rattle.std.specs.List.{filter_map}
use Rattle.std.proofs.lemmas.List.{length-map}
use Rattle.nf_msgs.specs.declared.command.Command.{Command}
use Rattle.nf_msgs.specs.declared.command.Order.{Order}
use Rattle.net_world.specs.Commands.{answers_of}
use Rattle.net_world.specs.Fold.{times}
use Rattle.net_world.specs.Input.{IsRising, ends_last, order_numbered}
use Rattle.net_world.specs.Log.{answers_in}
use Rattle.net_world.proofs.NumberCounts.{numbered_times}
use Rattle.run_headline.specs.nf_net.proofs.PacketCounts.{all_done}
use Rattle.run_headline.proofs.others.LoggedOutputs.{noted}
use Rattle.run_headline.proofs.others.NumberedLines.{rising_above, rising_sorted}

-- a number has as many answers in the log as a list of all answers has for it
answers_times : (op : ℕ) (log : List Note) → times op (map (λ x. x.0) (filter_map answer_in log)) ≡ length (answers_of op log)
answers_times op log =
    sym (numbered_times (λ x. x.0) op (answers_in log)) ∙ sym (length-map (filter (λ x. x.0 == op) (answers_in log)) (λ x. x.1))

-- a number stands once among those of commands where one has it, and else nowhere
command_times : (op least : ℕ) (cs : List Command) → IsRising least (map (λ c. c.op) cs)
    → times op (map (λ c. c.op) cs) ≡ (if is_some (option_map (λ c. c.what) (find (λ c. c.op == op) cs)) then 1 else 0)
command_times op least [] rising = refl
command_times op least (c ∷ cs) rising = elim (c.op == op) as (λ b. (c.op == op) ≡ b
    → (if op == c.op then 1 else 0) + times op (map (λ x. x.op) cs)
    ≡ (if is_some (option_map (λ x. x.what) (if b then Some c else find (λ x. x.op == op) cs)) then 1 else 0)) [
      | true ↦ λ is.
          let turned : (op == c.op) ≡ true = grind (arith, nat_tests) in
          let none = rising_above op (suc c.op) (map (λ x. x.op) cs) rising.1 (grind (arith, nat_tests)) in
          rw turned (omega (arith, none))
      | false ↦ λ is.
          let turned : (op == c.op) ≡ false = grind (arith, nat_tests) in
          rw turned (omega (arith, command_times op (suc c.op) cs rising.1))
    ] refl

-- In the world of a complete run.
module _ {F R : Type 0} (f : Semantics R) (kind : Kind) (c : Config) (items : List Msg) (is : IsInput kind c items) (w : Network (Node F R) Msg Note)
    (completed : Completed f c items w) where
  -- each number was processed as often as it came
  processed_times : (p : ℕ) → times p (map (λ x. x.0) (filter_map output_in w.log)) ≡ times p (map (λ q. q.number) (packets items))
  processed_times p =
      ap (times p) (noted w.log) ∙ all_done f c items w.log completed.each_once p ∙ ap (times p) completed.all_came

  -- the lines of outputs have each packet's number once, in order
  pub out_numbers : map (λ x. x.0) (by_number output_in w.log) ≡ map (λ q. q.number) (packets items)
  out_numbers = rising_sorted (filter_map output_in w.log) (map (λ q. q.number) (packets items)) is.numbers processed_times

  module _ (last : ends_last items ≡ true) (promises : Promises f c items w) where
    answered_times : (op : ℕ) → times op (map (λ x. x.0) (filter_map answer_in w.log)) ≡ times op (map (λ k. k.op) (commands items))
    answered_times op = answers_times op w.log ∙ by_order (order_numbered items op) refl ∙ sym (command_times op 0 (commands items) is.ops)
      where
        by_order : (what : Option Order) → order_numbered items op ≡ what → length (answers_of op w.log) ≡ (if is_some (order_numbered items op) then 1 else 0)
        by_order None none = ap length (promises.no_others op none).1 ∙ ap (λ o. if is_some o then 1 else 0) (sym none)
        by_order (Some what) known = completed.answered last op what known ∙ ap (λ o. if is_some o then 1 else 0) (sym known)

    -- and those of answers each command's
    pub answer_numbers : map (λ x. x.0) (by_number answer_in w.log) ≡ map (λ k. k.op) (commands items)
    answer_numbers = rising_sorted (filter_map answer_in w.log) (map (λ k. k.op) (commands items)) is.ops answered_times

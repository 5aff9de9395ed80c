-- The commands in the input of a run are those of its script, in file order.
use Rattle.network_calls.proofs.Words.{◌≡◌, ℕ, ◌==◌, Bool, true, false, List, [], ◌∷◌, length, Result, Ok, Err, refl, ap, ◌∙◌, subst, filter_map, cons_option}
use Rattle.network_calls.proofs.Words.{Kind, Line, What, Command, Settle, items, script_view, commands, in_order, NetworkAsked, Scenario, given_script}
use Rattle.network_calls.proofs.Words.{command_said}
use Rattle.std.proofs.Common.{cond, nat_lt, is_some}
use Rattle.std.specs.List.{slice_split}
use Rattle.basics.specs.Bytes.{line_feed}
use Rattle.nf_msgs.specs.declared.command.Command as one
use Rattle.op_script.specs.declared.fault.ScriptKind.{ScriptKind}
use Rattle.op_script.specs.declared.fault.ScriptKind.TheVariants as bad
use Rattle.op_script.specs.Printing.{is_in_order, longest_script}
use Rattle.op_script.specs.Reading.{ScriptView, script_of, with_lines}
use Rattle.op_script.specs.ReadingSteps.{ScriptAnswer, said, start}
use Rattle.op_script.specs.Statements.{Word}
use Rattle.op_script.proofs.ParsedScripts.{lines_right}
use Rattle.call_files.specs.run_input.proofs.SaidCommands.{commands_in, line_commands, with_command}
use Rattle.command_words.specs.Values.{names_of}

-- the commands of lines, one by one
line_commands_are : (lines : List Line) → line_commands lines ≡ filter_map (λ (line : Line). command_said line.what) lines
line_commands_are [] = refl
line_commands_are (line ∷ more) = with_first line.what (line_commands more) (filter_map (λ (line : Line). command_said line.what) more) (line_commands_are more)
  where
    with_first : (w : What) (cs ds : List one.Command) → cs ≡ ds → with_command w cs ≡ cons_option (command_said w) ds
    with_first (Command command) cs ds h = ap (λ (cs : List one.Command). command ∷ cs) h
    with_first Settle cs ds h = h

-- the lines of a script that was read stand in the order of their points
module _ (kind : Kind) (names : List Word) where
  said_follows : (texts : List (List ℕ)) (answer : ScriptAnswer) (v : ScriptView) → with_lines kind names 1 start texts ≡ answer → said answer ≡ Ok v
      → is_in_order 0 1 v.1 ≡ true
  said_follows texts (Ok s) v is h =
      let same : (s.routes, s.lines) ≡ v = cc in
      subst (λ (v : ScriptView). is_in_order 0 1 v.1 ≡ true) same (lines_right kind names s texts is).follow
  said_follows texts (Err e) v is h = cc

  script_follows : (bytes : List ℕ) (v : ScriptView) → script_of kind names bytes ≡ Ok v → is_in_order 0 1 v.1 ≡ true
  unfolding script_of
  script_follows bytes v h = by_length (nat_lt longest_script (length bytes)) h
    where
      by_length : (long : Bool)
          → cond {A = Result ScriptView (ℕ × ScriptKind)} long (Err (0, bad.TooMany))
          (said (with_lines kind names 1 start (slice_split (λ b. b == line_feed) bytes))) ≡ Ok v
          → is_in_order 0 1 v.1 ≡ true
      by_length true h = cc
      by_length false h =
          said_follows (slice_split (λ b. b == line_feed) bytes) (with_lines kind names 1 start (slice_split (λ b. b == line_feed) bytes)) v refl h

pub given_follows : (s : NetworkAsked) (bytes : List ℕ) (v : ScriptView) → given_script s bytes ≡ Ok v → is_in_order 0 1 v.1 ≡ true
given_follows s bytes v h = by_word (is_some s.script) h
  where
    by_word : (some : Bool) → cond {A = Result ScriptView (ℕ × ScriptKind)} some (script_of s.kind (names_of s.instances) bytes) (Ok ([], [])) ≡ Ok v
        → is_in_order 0 1 v.1 ≡ true
    by_word true h = script_follows s.kind (names_of s.instances) bytes v h
    by_word false h =
        let same : ◌≡◌ {A = ScriptView} ([], []) v = cc in
        subst (λ (v : ScriptView). is_in_order 0 1 v.1 ≡ true) same refl

pub scripted_commands : (s : NetworkAsked) (bytes : List ℕ) (g : Scenario) → given_script s bytes ≡ Ok (script_view g.script)
    → commands (items g.captured.packets g.script.lines.items) ≡ filter_map (λ (line : Line). command_said line.what) g.script.lines.items
scripted_commands s bytes g h =
    commands_in g.captured.packets g.script.lines.items (in_order 0 1 g.script.lines.items (given_follows s bytes (script_view g.script) h))
    ∙ line_commands_are g.script.lines.items

-- An input of a script and of few packets is short: each line stands in it once, and its end once.
use Rattle.std.proofs.Common.{◌≡◌, suc, ◌≤◌, List, [], ◌∷◌, length, refl, ap, ◌∙◌, arith}
use Rattle.std.proofs.lemmas.List.{length-map}
use Rattle.flow_filter.specs.declared.packet.Packet.{Packet}
use Rattle.nf_msgs.specs.declared.msg.Msg.{Msg}
use Rattle.op_script.specs.declared.script.Line.{Line}
use Rattle.op_script.specs.declared.script.Script.{Script}
use Rattle.op_script.specs.Statements.{Word}
use Rattle.op_script.specs.Items.{msg_of, items, IsFrom}
use Rattle.op_script.specs.Printing.{IsScript}
use Rattle.op_script.specs.Reading.{line_view, script_view}
use Rattle.net_world.specs.Length.{lines, ends, IsShort}
use Rattle.run_input.proofs.SaidCommands.{by_what, read_lines, read_from, read_all, from, from_start, packets_in}
use Rattle.run_input.proofs.ScriptedOrders.{in_order}
use Rattle.flow_filter.specs.Limits.{most_packets}

-- each line counts once
counts : (ls : List Line) → read_lines (λ w n. suc n) ls 0 ≡ length ls
counts [] = refl
counts (line ∷ more) = ap suc (counts more)

lines_from : (ps : List Packet) (ls : List Line) → IsFrom 0 ls → lines (items ps ls) ≡ length (from 0 ls)
lines_from ps ls order = read_from lines (λ w n. suc n)
    (by_what (λ w. (rest : List Msg) → lines (msg_of w ∷ rest) ≡ suc (lines rest)) (λ command rest. refl) (λ rest. refl))
    (λ p rest. refl) 0 0 ps ls order ∙ counts (from 0 ls)

-- no line ends the input
ends_once : (ps : List Packet) (ls : List Line) → ends (items ps ls) ≡ 1
ends_once = read_all ends (λ ps. 1)
    (by_what (λ w. (rest : List Msg) → ends (msg_of w ∷ rest) ≡ ends rest) (λ command rest. refl) (λ rest. refl))
    refl (λ p ps rest h. h) 0

-- what was made is short, where the packets are few
pub short_is : (names : List Word) (script : Script) (ps : List Packet) (its : List Msg) → IsScript names (script_view script)
    → its ≡ items ps script.lines.items → length ps ≤ most_packets → IsShort its
short_is names script ps its right is few =
    let ls = script.lines.items in
    let few_lines = right.few_lines in
    rw is (record {
      few_packets = rw (packets_in ps ls) few;
      few_lines = omega (arith, lines_from ps ls (in_order 0 1 ls right.follow), ap length (from_start ls), length-map ls line_view, few_lines);
      ended = rw (ends_once ps ls) refl;
    })

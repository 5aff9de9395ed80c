-- The script is the one that is given, or the status has its cause.
use Rattle.std.proofs.Common.{rules, ◌≡◌, false, is_none, IfOk, subst}
use Rattle.std.specs.Prelude.{MatchResult}
use Rattle.op_script.specs.Printing.{IsScript}
use Rattle.op_script.specs.Reading.{script_of, script_view}
use Rattle.command_words.specs.Values.{names_of}
use Rattle.command_words.specs.RequestViews.{network_view}
use Rattle.call_files.specs.Phases.{ScriptFails, ScriptRead}
use Rattle.call_files.proofs.InputRows.{is_named, script_said}
use Rattle.call_files.proofs.inputs.read_commands.Goals as goal

pub returns-clause-right : goal.returns-clause-right
returns-clause-right g c =
    let names : c.items.result.now ≡ names_of c.args.asked.now.instances.rows.items = search rules in
    subst (λ ns. IfOk c.read_said.result (λ script. IsScript ns (script_view script))) names c.read_said.ensures.right

pub returns-clause-said : goal.returns-clause-said
returns-clause-said g c =
    let s = network_view c.args.asked.now in
    let old = g.O.Outside.seen c.args.outside.now in
    let new = g.O.Outside.seen c.read_said.new.outside in
    let given : is_none c.args.asked.now.script ≡ false = search rules in
    let names : c.items.result.now ≡ names_of s.instances = search rules in
    script_said s (is_named c.args.asked.now.script given) old new c.read_said.result
    (subst (λ ns. MatchResult c.read_said.result (ScriptRead (script_of s.kind ns) old new) (ScriptFails (script_of s.kind ns) old new)) names
    c.read_said.ensures.said)

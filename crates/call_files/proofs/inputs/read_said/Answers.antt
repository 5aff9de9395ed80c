-- The script is what its bytes are read as, or the status has its cause.
use Rattle.std.proofs.Common.{rules, ◌≡◌, ◌+◌, Some, Ok, Err, take, ap, sym, ◌∙◌}
use Rattle.std.proofs.lemmas.Result.{err_from_is_err_and}
use Rattle.op_script.specs.Reading.{SaysWhole, script_of, script_view}
use Rattle.op_script.specs.Printing.{longest_script}
use Rattle.call_files.proofs.ScriptLemmas.{nothing_left, script_of-front, script_refused}
use Rattle.call_files.proofs.inputs.read_said.Goals as goal

pub returns-in_err-script-clause-said : goal.returns-in_err-script-clause-said
returns-in_err-script-clause-said g c =
    let failed = err_from_is_err_and c.from_residual.result c.from_residual.ensures.1 in
    rw (failed.1, failed.2)
    (script_refused c.args.kind c.args.names.now (g.O.Outside.seen c.args.outside.now) (g.O.Outside.seen c.read_script_bytes.new.outside)
    c.in_err-script.field-0.0 (λ bytes told.
    let found = c.in-Ok.ensures.bytes bytes told in
    let read : c.items.result.now ≡ take (longest_script + 1) bytes = search rules in
    let heard : SaysWhole script_view (Err c.in_err-script.field-0.0) (script_of c.args.kind c.args.names.now (take (longest_script + 1) bytes)) =
    search rules in
    heard))

pub returns-clause-said : goal.returns-clause-said
returns-clause-said g c = λ bytes told.
    let found = c.in-Ok.ensures.bytes bytes told in
    let read : c.items.result.now ≡ take (longest_script + 1) bytes = search rules in
    let heard : script_of c.args.kind c.args.names.now (take (longest_script + 1) bytes) ≡ Ok (script_view c.in_ok-script.script) = search rules in
    let said = sym (script_of-front c.args.kind c.args.names.now bytes) ∙ heard in
    (said, found.1 ∙ ap (λ rest. Some rest) (nothing_left c.args.kind c.args.names.now bytes (script_view c.in_ok-script.script) said))

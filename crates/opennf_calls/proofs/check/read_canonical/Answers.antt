-- The text is the one that the command has for the script, or the status has its row.
use Rattle.opennf_calls.proofs.Words.{rules, ◌≡◌, [], Some, ap, sym, refl, subst, Role, Script, script_of, asks_check, names_of, check_view, script_refusal}
use Rattle.opennf_calls.proofs.Words.{ScriptFails, one_read}
use Rattle.call_files.specs.Phases.{ScriptRead}
use Rattle.opennf_calls.proofs.CheckRows.{check_fails}
use Rattle.opennf_calls.proofs.RowLemmas.{input_alone, one_file-check}
use Rattle.opennf_calls.proofs.check.read_canonical.Goals as goal

pub returns-in-Err-clause-row : goal.returns-in-Err-clause-row
returns-in-Err-clause-row g c =
    let v = check_view c.args.asked.now in
    let old = g.O.Outside.seen c.args.outside.now in
    let new = g.O.Outside.seen c.read_said.new.outside in
    let names : c.items.result.now ≡ names_of v.instances = search rules in
    check_fails v old new (one_read Script _ _ refl c.read_said.ensures.alone) c.requires c.in-Err.status
    (subst (λ ns. ScriptFails (script_of v.kind ns) old new c.in-Err.status) names c.in-Err.ensures.said)

pub returns-clause-row : goal.returns-clause-row
returns-clause-row g c = λ bytes told.
    let v = check_view c.args.asked.now in
    let old = g.O.Outside.seen c.args.outside.now in
    let new = g.O.Outside.seen c.read_said.new.outside in
    let names : c.items.result.now ≡ names_of v.instances = search rules in
    let read = subst (λ ns. ScriptRead (script_of v.kind ns) old new c.in-Ok.script) names c.in-Ok.ensures.said (bytes Script) (told Script refl) in
    record {
      read = λ role input. subst (λ (r : Role). (new r).left ≡ Some []) (sym (input_alone (asks_check v) Script (one_file-check v) role input)) read.1;
      sound = ap script_refusal read.0;
      made = record { choices = []; texts = λ role. c.in_ok-text.text };
      are = (refl, record { script = c.in-Ok.script; read = read.0; canonical = search rules });
      wrote = record { is_made = refl; report = refl };
    }

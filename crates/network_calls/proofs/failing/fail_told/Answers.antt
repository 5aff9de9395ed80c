-- What is left is that of the words, the script and the capture.
use Rattle.network_calls.proofs.Words.{ap, sym, subst, ◌∙◌, Kind, AreNumbered, network_view, IsInput, packets, packets_in, scenario_of}
use Rattle.network_calls.proofs.failing.fail_told.Goals as goal

pub fail_opened-requires-clause-input : goal.fail_opened-requires-clause-input
fail_opened-requires-clause-input g c =
    let opening = c.in_ok-config.field-0 in
    subst (λ (k : Kind). IsInput k opening.config opening.items.items) (sym c.requires.kind) c.in_ok-config.ensures.is_input

-- the packets of the input are those of the capture
pub fail_opened-requires-clause-numbered : goal.fail_opened-requires-clause-numbered
fail_opened-requires-clause-numbered g c =
    let scenario = scenario_of c.args.asked.now.network.site c.args.inputs in
    subst (AreNumbered 1) (sym (ap packets c.in_ok-config.ensures.items ∙ packets_in scenario.captured.packets scenario.script.lines.items))
    c.requires.sound.numbers

pub returns : goal.returns
returns g c =
    let s = network_view c.args.asked.now.network in
    c.fail_opened.ensures s (scenario_of c.args.asked.now.network.site c.args.inputs) c.in_ok-config.ensures

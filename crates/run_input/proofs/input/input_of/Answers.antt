-- What was made is an input of the network.
use Rattle.std.proofs.Common.{◌∙◌, arith, ap}
use Rattle.net_world.specs.Input.{ends_last}
use Rattle.command_words.specs.Values.{names_of}
use Rattle.run_input.specs.Settings.{config_of}
use Rattle.run_input.proofs.MadeInput.{made_is}
use Rattle.run_input.proofs.SaidCommands.{end_is_last}
use Rattle.run_input.proofs.SteeredPackets.{are_steered}
use Rattle.run_input.proofs.ShortInput.{short_is}
use Rattle.run_input.proofs.input.input_of.Goals as goal

pub returns-clause-input : goal.returns-clause-input
returns-clause-input c =
    let few = c.in_ok-items.ensures.few in
    made_is c.args.setting.now c.args.script.now c.args.packets c.in_ok-config.config c.in_ok-items.items.items (record {
      script_is = c.requires.script;
      whole = c.requires.whole;
      numbers = c.requires.numbers;
      steered = are_steered c.args.setting.now.site c.args.packets c.config_of.ensures.site c.requires.steered c.items.ensures.in_range;
      few = omega (arith, few);
      site = c.config_of.ensures.site;
    }) (c.in_ok-config.ensures.config ∙ ap (config_of c.args.setting.now) c.as_slice.ensures.value) c.in_ok-items.ensures.items

pub returns-clause-last : goal.returns-clause-last
returns-clause-last c = ap ends_last c.in_ok-items.ensures.items ∙ end_is_last c.args.packets c.args.script.now.lines.items

pub returns-clause-short : goal.returns-clause-short
returns-clause-short c few = short_is (names_of c.args.setting.now.instances.now.rows.items) c.args.script.now c.args.packets c.in_ok-items.items.items
    c.requires.script c.in_ok-items.ensures.items few

-- What was made of the words' values, a script and a trace is an input of the network.
use Rattle.std.proofs.Common.{◌≡◌, ◌<◌, ◌≤◌, ◌^◌, List, length, sym, ◌∙◌, arith}
use Rattle.std.specs.Prelude.{All}
use Rattle.std.proofs.lemmas.List.{length-map}
use Rattle.flow_filter.specs.declared.packet.Packet.{Packet}
use Rattle.nf_msgs.specs.declared.msg.Msg.{Msg}
use Rattle.trace_reader.specs.Records.{AreNumbered}
use Rattle.op_script.specs.declared.script.Script.{Script}
use Rattle.op_script.specs.Items.{items}
use Rattle.op_script.specs.Reading.{script_view}
use Rattle.op_script.specs.Printing.{IsScript, SplitsNone}
use Rattle.net_world.specs.declared.config.Config.{Config}
use Rattle.net_world.specs.Input.{IsSteered, most_counted, IsInput}
use Rattle.net_world.specs.Start.{IsConfig}
use Rattle.run_input.specs.declared.setting.Setting.{Setting}
use Rattle.command_words.specs.declared.request.InstanceWords.{InstanceWords}
use Rattle.command_words.specs.Values.{names_of}
use Rattle.run_input.specs.Settings.{config_of}
use Rattle.run_input.proofs.SaidCommands.{only_items, packets_in, commands_in}
use Rattle.run_input.proofs.ScriptedOrders.{numbers_rise, in_order, ops_rise, all_proper, routes_whole, routes_there}

-- what is known of all that is given
pub record IsGiven (setting : Setting) (script : Script) (ps : List Packet) : Type 0 where
  pub script_is : IsScript (names_of setting.instances.now.rows.items) (script_view script)
  pub whole : SplitsNone setting.kind (script_view script)
  pub numbers : AreNumbered 1 ps
  pub steered : All (IsSteered setting.site) ps
  pub few : length ps ≤ most_counted
  pub site : setting.site.inside.bits < 2 ^ 32

is_config : (setting : Setting) (script : Script) (ps : List Packet) → IsGiven setting script ps → IsConfig (config_of setting script.routes.items)
is_config setting script ps g =
    let rows = setting.instances.now.rows.items in
    let names = length-map rows (λ (i : InstanceWords). i.name) in
    let some = setting.instances.now.some in
    let few = setting.instances.now.few in
    record {
      some = omega (arith, names, some);
      few = omega (arith, names, few);
      limits = length-map rows (λ (i : InstanceWords). i.limit) ∙ sym names;
      marks = length-map rows (λ (i : InstanceWords). i.reads_old) ∙ sym names;
      window = setting.window_in_range;
      routes = routes_there (names_of rows) script.routes.items g.script_is.routes;
    }

input_is : (setting : Setting) (script : Script) (ps : List Packet) → IsGiven setting script ps
    → IsInput setting.kind (config_of setting script.routes.items) (items ps script.lines.items)
input_is setting script ps g =
    let lines = script.lines.items in
    let same = packets_in ps lines in
    let said = commands_in ps lines (in_order 0 1 lines g.script_is.follow) in
    record {
      is_config = is_config setting script ps g;
      site = g.site;
      routes = routes_whole setting.kind script.routes.items g.whole.routes script.routes_in_range;
      only_items = only_items ps lines;
      steered = rw same g.steered;
      numbers = rw same (numbers_rise 1 0 ps (omega arith) g.numbers);
      few = rw same g.few;
      orders = rw said (all_proper setting.kind lines g.script_is.lines g.whole.lines);
      ops = rw said (ops_rise 0 0 1 lines (omega arith) g.script_is.follow);
    }

-- what was made is an input
pub made_is : (setting : Setting) (script : Script) (ps : List Packet) (config : Config) (its : List Msg) → IsGiven setting script ps
    → config ≡ config_of setting script.routes.items → its ≡ items ps script.lines.items → IsInput setting.kind config its
made_is setting script ps config its g c i = rw (c, i) (input_is setting script ps g)

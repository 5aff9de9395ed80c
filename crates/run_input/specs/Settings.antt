-- What a run is given: the configuration and the input, of the words' values, a script and a trace. This project's own.
use Rattle.std.specs.Prelude.{ℕ, List, map}
use Rattle.flow_filter.specs.declared.filter.Filter.{Filter}
use Rattle.command_words.specs.declared.request.InstanceWords.{InstanceWords}
use Rattle.command_words.specs.Values.{names_of}
use Rattle.net_world.specs.declared.config.Config.{Config}
use Rattle.run_input.specs.declared.setting.Setting.{Setting}

-- the network that the words and the routes ask for
abbrev pub config_of : Setting → List (Filter × ℕ) → Config
config_of setting routes = record {
  names = names_of setting.instances.now.rows.items;
  limits = map (λ (i : InstanceWords). i.limit) setting.instances.now.rows.items;
  marked = map (λ (i : InstanceWords). i.reads_old) setting.instances.now.rows.items;
  site = setting.site;
  window = setting.window;
  routes = routes;
}

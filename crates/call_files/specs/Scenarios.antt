-- What words, capture and script give a run of the network, and what a run gives. This project's own.
use Rattle.std.specs.Prelude.{◌≡◌, ℕ, List, [], is_some, Result, Ok, if◌then◌else◌}
use Rattle.flow_filter.specs.declared.site.Site.{Site}
use Rattle.trace_reader.specs.declared.trace.Trace.{Trace as Captured}
use Rattle.op_script.specs.declared.script.Script.{Script as TheScript}
use Rattle.op_script.specs.declared.fault.ScriptKind.{ScriptKind}
use Rattle.op_script.specs.Reading.{ScriptView, script_of, script_view}
use Rattle.command_words.specs.Requests.{NetworkAsked}
use Rattle.command_words.specs.Values.{names_of}
use Rattle.nf_io.specs.declared.outside.Role.{Role}
use Rattle.nf_io.specs.declared.outside.Role.TheVariants.{Trace, Script}
use Rattle.actor_net.specs.declared.choice.Choice.{Choice}
use Rattle.std.specs.Prelude.{Result, Ok}
use Rattle.flow_filter.specs.Reading.{prefix_numbers}
use Rattle.trace_reader.specs.Records.{capture_of}

-- the script that the words' file is read as, and one without routes and lines where the words name none
abbrev pub given_script : NetworkAsked → List ℕ → Result ScriptView (ℕ × ScriptKind)
given_script s bytes = if is_some s.script then script_of s.kind (names_of s.instances) bytes else Ok ([], [])

-- what words, capture and script give a run: the site, what was captured, and the script
pub record Scenario : Type 0 where
  pub site : Site
  pub captured : Captured
  pub script : TheScript

-- what a run gives: its choices, and the text of each result
pub record RunResults : Type 0 where
  pub choices : List Choice
  pub texts : Role → List ℕ

-- what a run is given: the capture and the script that the bytes are read as, and the site with the inside prefix and the outside address of the words
pub record IsScenario (s : NetworkAsked) (bytes : Role → List ℕ) (scenario : Scenario) : Type 0 where
  pub read : capture_of (bytes Trace) ≡ Ok scenario.captured
  pub said : given_script s (bytes Script) ≡ Ok (script_view scenario.script)
  pub inside : prefix_numbers scenario.site.inside ≡ s.inside
  pub outside : scenario.site.outside ≡ s.outside

-- what is said of a run holds of what it is given
pub record OfScenario (s : NetworkAsked) (bytes : Role → List ℕ) (P : Scenario → Type 0) : Type 0 where
  pub scenario : Scenario
  pub is_scenario : IsScenario s bytes scenario
  pub holds : P scenario

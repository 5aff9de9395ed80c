-- What a run of the network is given, and what comes of it: a complete run from its start, its report and its journal. This project's own.
use Rattle.std.specs.Prelude.{◌≡◌, ◌<◌, ℕ, true, List, map, filter_map, length, min, Option, Some, None, option_map, Ok}
use Rattle.std.specs.declared.alloc.Global.{Global}
use Rattle.flow_filter.specs.declared.filter.Filter.{Filter}
use Rattle.flow_filter.specs.declared.site.Site.{Site}
use Rattle.nf_function.specs.Semantics.{Semantics}
use Rattle.nf_msgs.specs.declared.msg.Msg.{Msg}
use Rattle.nf_msgs.specs.declared.note.Note.{Note}
use Rattle.trace_reader.specs.declared.trace.Trace.{Trace as Captured}
use Rattle.nf_msgs.specs.declared.command.Command.{Command as Ordered}
use Rattle.op_script.specs.declared.script.Line.{Line}
use Rattle.op_script.specs.declared.script.Script.{Script as TheScript}
use Rattle.op_script.specs.declared.script.What.{What}
use Rattle.op_script.specs.declared.script.What.TheVariants.{Command, Settle}
use Rattle.op_script.specs.Items as script_items
use Rattle.command_words.specs.declared.request.InstanceWords.{InstanceWords}
use Rattle.command_words.specs.Requests.{NetworkAsked}
use Rattle.command_words.specs.Values.{names_of}
use Rattle.nf_io.specs.declared.outside.Role.TheVariants.{Report, JournalOut}
use Rattle.actor_net.specs.declared.choice.Choice.{Choice}
use Rattle.actor_net.specs.declared.schedule.Schedule.{Schedule}
use Rattle.actor_net.specs.declared.schedule.TheConstants.{MOST_CHOICES}
use Rattle.actor_net.specs.Network.{Network, is_done}
use Rattle.journal_file.specs.Format.{journal_bytes}
use Rattle.journal_file.specs.Reading.{journal_of}
use Rattle.net_world.specs.declared.config.Config.{Config}
use Rattle.net_world.specs.declared.node.Node.{Node}
use Rattle.run_headline.specs.nf_net.specs.Promises.{Completed, Promises, Standbys, Verdicts}
use Rattle.net_world.specs.Input as input
use Rattle.net_world.specs.Jobs.{Course, Job, course_of, job_of}
use Rattle.net_world.specs.Nodes.{node_ended}
use Rattle.net_world.specs.Runs.{choices_of, LeadsTo}
use Rattle.net_world.specs.Start.{started_with}
use Rattle.net_world.specs.Window.{AllHome}
use Rattle.net_world.specs.Log.{answer_in}
use Rattle.function_kinds.specs.Functions.{OfKind}
use Rattle.report_lines.specs.Lines.{by_number, output_in}
use Rattle.run_headline.specs.Subject.{Subject}
use Rattle.run_headline.specs.Law.{points_of}
use Rattle.run_headline.specs.Text.{HasHeadline}
use Rattle.report_lines.specs.declared.heads.Head.{Head}
use Rattle.run_headline.specs.run_report.specs.Audits.{IsAuditCause}
use Rattle.run_headline.specs.run_report.specs.Lines.{report_text}
use Rattle.call_files.specs.Scenarios.{RunResults, Scenario}

-- the network that the words and the routes ask for, at a site
abbrev pub config_for : NetworkAsked → Site → List (Filter × ℕ) → Config
config_for s site routes = record {
  names = names_of s.instances;
  limits = map (λ (i : InstanceWords). i.limit) s.instances;
  marked = map (λ (i : InstanceWords). i.reads_old) s.instances;
  site = site;
  window = s.window;
  routes = routes;
}

-- its input: the packets of the capture, and each line of the script after the packet that it names
abbrev pub items_for : Captured → TheScript → List Msg
items_for captured script = script_items.items captured.packets script.lines.items

-- what the report repeats of the words and the capture
abbrev pub head_for : NetworkAsked → Captured → Head
head_for s captured = record {
  kind = s.kind;
  names = names_of s.instances;
  window = s.window;
  packets = length captured.packets;
  skipped = captured.skipped;
  cut = captured.cut;
}

-- the command of what happens, if it is one
abbrev pub command_said : What → Option Ordered
command_said (Command command) = Some command
command_said Settle = None

-- what a report is of: the function, the network that the words and the routes ask for, the packets of the capture, the commands of the script, and
-- how many packets stand before each: as many as its line names, or all where there are fewer
abbrev pub subject_of : {R : Type 0} → Semantics R → NetworkAsked → Scenario → Subject R
subject_of f s scenario = record {
  function = f;
  config = config_for s scenario.site scenario.script.routes.items;
  packets = scenario.captured.packets;
  commands = filter_map (λ (line : Line). command_said line.what) scenario.script.lines.items;
  points = filter_map (λ (line : Line). option_map (λ c. min line.at (length scenario.captured.packets)) (command_said line.what)) scenario.script.lines.items;
}

-- what a run is given: a function, the words, and the scenario
pub record RunGiven (F R : Type 0) : Type 0 where
  pub function : Semantics R
  pub words : NetworkAsked
  pub scenario : Scenario

abbrev pub run_given : {R : Type 0} (F : Type 0) → Semantics R → NetworkAsked → Scenario → RunGiven F R
run_given F f words scenario = record { function = f; words = words; scenario = scenario }

-- the function, with the network and the input that are asked for
abbrev pub job_for : {F R : Type 0} → RunGiven F R → Job R
job_for given = job_of given.function (config_for given.words given.scenario.site given.scenario.script.routes.items)
    (items_for given.scenario.captured given.scenario.script)

-- the network at its start
abbrev pub start_for : {F R : Type 0} → Job R → Global → Network (Node F R) Msg Note
start_for job alloc = started_with alloc job.config job.items

-- what its report is of, by what stands in the input
abbrev pub subject_for : {F R : Type 0} → RunGiven F R → Subject R
subject_for given = record (subject_of given.function given.words given.scenario) {
  commands = input.commands (job_for given).items;
  points = points_of 0 (job_for given).items;
}

module _ {F R : Type 0} (given : RunGiven F R) where
  -- the course of a run of it
  abbrev course_for : Global → List Choice → Course F R
  course_for alloc choices = course_of (start_for (job_for given) alloc) choices

  -- a run from the start to a world in which nothing is left to do, by the schedule if there is one, with its report and its journal
  pub record IsRunOf (by : Option Schedule) (made : RunResults) : Type 0 where
    pub alloc : Global
    pub world : Network (Node F R) Msg Note
    pub leads : LeadsTo given.function (start_for (job_for given) alloc) made.choices world
    pub complete : is_done node_ended world ≡ true
    pub scheduled : (schedule : Schedule) → by ≡ Some schedule → made.choices ≡ choices_of {F = F} given.function (start_for (job_for given) alloc) schedule
    pub promises : Promises given.function (job_for given).config (job_for given).items world
    pub verdicts : Verdicts (job_for given) (course_for alloc made.choices)
    pub standbys : Standbys (job_for given) (course_for alloc made.choices)
    pub completed : Completed given.function (job_for given).config (job_for given).items world
    pub home : AllHome (job_for given).config world
    pub report : made.texts Report ≡ report_text given.function (head_for given.words given.scenario.captured) given.words.summary world
    -- its outputs stand by the numbers of the packets that were captured, each once and in order, and its answers by those of the commands
    pub outs : map (λ x. x.0) (by_number output_in world.log) ≡ map (λ p. p.number) given.scenario.captured.packets
    pub answers : map (λ x. x.0) (by_number answer_in world.log) ≡ map (λ c. c.op) (input.commands (job_for given).items)
    -- what the report says of each packet, each unit and each command
    pub headline : HasHeadline (subject_for given) (head_for given.words given.scenario.captured) given.words.summary (made.texts Report)
    pub journal : made.texts JournalOut ≡ journal_bytes given.words.kind (length given.words.instances) made.choices
    -- its choices are fewer than a journal may have, so the journal is read as these choices again
    pub few : length made.choices < MOST_CHOICES
    pub again : journal_of given.words.kind (length given.words.instances) (made.texts JournalOut) ≡ Ok made.choices

  -- these choices aren't a complete run, which shows at this step
  pub record IsNoRun (choices : List Choice) (step : ℕ) : Type 0 where
    pub alloc : Global
    pub cause : IsAuditCause {F = F} given.function (start_for (job_for given) alloc) choices step

-- the run of the function that the words name
abbrev pub HasRun : NetworkAsked → Scenario → Option Schedule → RunResults → Type 0
HasRun s scenario by made = OfKind s.kind (λ R F f. IsRunOf (run_given F f s scenario) by made)

abbrev pub HasNoRun : NetworkAsked → Scenario → List Choice → ℕ → Type 0
HasNoRun s scenario choices step = OfKind s.kind (λ R F f. IsNoRun (run_given F f s scenario) choices step)

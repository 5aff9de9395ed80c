-- What a two-phase update is given, and what comes of it: its complete run by a schedule, and its report. This project's own.
use Rattle.std.specs.Prelude.{◌≡◌, true, ℕ, List, length}
use Rattle.std.specs.declared.alloc.Global.{Global}
use Rattle.nf_function.specs.Semantics.{Semantics}
use Rattle.nf_io.specs.declared.outside.Role.{Role}
use Rattle.nf_io.specs.declared.outside.Role.TheVariants.{Report}
use Rattle.trace_reader.specs.declared.trace.Trace.{Trace as Captured}
use Rattle.actor_net.specs.declared.schedule.Schedule.{Schedule}
use Rattle.actor_net.specs.declared.schedule.TheConstants.{MOST_CHOICES}
use Rattle.actor_net.specs.Network.{Network, is_done, run}
use Rattle.actor_net.specs.Schedules.{scheduled}
use Rattle.command_words.specs.declared.request.Publishing.{Publishing}
use Rattle.command_words.specs.Requests.{PublishedAsked}
use Rattle.two_phase.specs.declared.msg.TwoMsg.{TwoMsg}
use Rattle.two_phase.specs.declared.node.TwoNode.{TwoNode}
use Rattle.two_phase.specs.declared.note.TwoNote.{TwoNote}
use Rattle.two_phase.specs.declared.report.TwoHead.{TwoHead}
use Rattle.two_phase.specs.Promises.{Published}
use Rattle.two_phase.specs.Report.{two_text}
use Rattle.two_phase.specs.Start.{UpdateJob, two_start}
use Rattle.two_phase.specs.Tables.{node_ended, node_ready, node_step}
use Rattle.run_headline.specs.Published.{HasPublishedHeadline}
use Rattle.run_headline.specs.PublishedLaw.{two_subject}
use Rattle.call_files.specs.CaptureScenes.{CaptureScene, OfCaptureScene, SceneWords}
use Rattle.function_kinds.specs.Functions.{OfKind}
use Rattle.call_files.specs.Scenarios.{RunResults}

-- the scene of a request
abbrev pub scene_of : Publishing → Captured → CaptureScene
scene_of asked captured = record { site = asked.site; filter = asked.filter; captured = captured }

-- the update that the words ask for
abbrev pub update_for : PublishedAsked → CaptureScene → UpdateJob
update_for p scene = record { site = scene.site; window = p.window; filter = scene.filter; at = p.at; packets = scene.captured.packets }

-- what its report repeats of the words and the capture
abbrev pub update_head : PublishedAsked → Captured → TwoHead
update_head p captured = record { kind = p.kind; window = p.window; packets = length captured.packets; skipped = captured.skipped; cut = captured.cut }

module _ {R : Type 0} (F : Type 0) (f : Semantics R) (p : PublishedAsked) (scene : CaptureScene) where
  abbrev pub first_world : Global → Network (TwoNode F R) TwoMsg TwoNote
  first_world alloc = two_start alloc (update_for p scene)

  -- the schedule's run from the start to a world in which nothing is left to do, with its report
  pub record IsUpdateOf (schedule : Schedule) (made : RunResults) : Type 0 where
    pub alloc : Global
    pub world : Network (TwoNode F R) TwoMsg TwoNote
    pub scheduled : made.choices ≡ scheduled node_ready node_ended (node_step f) MOST_CHOICES schedule (first_world alloc)
    pub reached : world ≡ run (node_step f) made.choices (first_world alloc)
    pub complete : is_done node_ended world ≡ true
    pub published : Published f (update_for p scene) made.choices world
    pub report : made.texts Report ≡ two_text f (update_head p scene.captured) world
    -- what the report says of each packet and each unit
    pub headline : HasPublishedHeadline (two_subject f (update_for p scene)) scene.filter (update_head p scene.captured) (made.texts Report)

-- the update of the function that the words name
abbrev pub HasUpdate : PublishedAsked → CaptureScene → Schedule → RunResults → Type 0
HasUpdate p scene schedule made = OfKind p.kind (λ R F f. IsUpdateOf F f p scene schedule made)

-- what the words say of its scene
abbrev pub update_words : PublishedAsked → SceneWords
update_words p = record { inside = p.inside; outside = p.outside; filter = p.filter }

-- the update that the words ask for, over the capture that the bytes are read as
abbrev pub IsUpdated : PublishedAsked → (Role → List ℕ) → Schedule → RunResults → Type 0
IsUpdated p bytes schedule made = OfCaptureScene (update_words p) bytes (λ scene. HasUpdate p scene schedule made)

-- What strong sharing is given, and what comes of it: its complete run by a schedule, and its report. This project's own.
use Rattle.std.specs.Prelude.{◌≡◌, true, ℕ, List, length}
use Rattle.std.specs.declared.alloc.Global.{Global}
use Rattle.nf_function.specs.Semantics.{Semantics}
use Rattle.nf_io.specs.declared.outside.Role.{Role}
use Rattle.nf_io.specs.declared.outside.Role.TheVariants.{Report}
use Rattle.nf_msgs.specs.declared.msg.Msg.{Msg}
use Rattle.trace_reader.specs.declared.trace.Trace.{Trace as Captured}
use Rattle.actor_net.specs.declared.schedule.Schedule.{Schedule}
use Rattle.actor_net.specs.Network.{Network, is_done}
use Rattle.command_words.specs.declared.request.StrongRequest.{StrongRequest}
use Rattle.command_words.specs.Requests.{StrongAsked}
use Rattle.strong_share.specs.declared.node.StrongNode.{StrongNode}
use Rattle.strong_share.specs.declared.note.StrongNote.{StrongNote}
use Rattle.strong_share.specs.declared.report.StrongHead.{StrongHead}
use Rattle.strong_share.specs.Promises.{StrongCompleted, StrongEnds, StrongPromises}
use Rattle.strong_share.specs.Report.{strong_text}
use Rattle.strong_share.specs.Runs.{LeadsTo, choices_of}
use Rattle.strong_share.specs.Start.{StrongJob, job_of, strong_start}
use Rattle.strong_share.specs.Tables.{node_ended}
use Rattle.run_headline.specs.Strong.{HasStrongHeadline}
use Rattle.run_headline.specs.StrongLaw.{strong_subject}
use Rattle.call_files.specs.CaptureScenes.{CaptureScene, OfCaptureScene, SceneWords}
use Rattle.function_kinds.specs.Functions.{OfKind}
use Rattle.call_files.specs.Scenarios.{RunResults}

-- the scene of a request
abbrev pub sharing_scene : StrongRequest → Captured → CaptureScene
sharing_scene asked captured = record { site = asked.site; filter = asked.filter; captured = captured }

-- the sharing that the words ask for
abbrev pub sharing_for : StrongAsked → CaptureScene → StrongJob
sharing_for s scene = job_of scene.site s.window (length s.names) scene.filter scene.captured.packets

-- what its report repeats of the words and the capture
pub record IsSharingHead (s : StrongAsked) (captured : Captured) (head : StrongHead) : Type 0 where
  pub kind : head.kind ≡ s.kind
  pub names : head.names.items ≡ s.names
  pub window : head.window ≡ s.window
  pub packets : head.packets ≡ length captured.packets
  pub skipped : head.skipped ≡ captured.skipped
  pub cut : head.cut ≡ captured.cut

module _ {R : Type 0} (F : Type 0) (f : Semantics R) (s : StrongAsked) (scene : CaptureScene) where
  abbrev pub first_world : Global → Network (StrongNode F R) Msg StrongNote
  first_world alloc = strong_start alloc (sharing_for s scene)

  -- the schedule's run from the start to a world in which nothing is left to do, with its report
  pub record IsSharingOf (schedule : Schedule) (made : RunResults) : Type 0 where
    pub alloc : Global
    pub world : Network (StrongNode F R) Msg StrongNote
    pub scheduled : made.choices ≡ choices_of {F = F} f (first_world alloc) schedule
    pub leads : LeadsTo f (first_world alloc) made.choices world
    pub complete : is_done node_ended world ≡ true
    pub promises : StrongPromises f (sharing_for s scene) world
    pub completed : StrongCompleted f (sharing_for s scene) world
    pub ends : StrongEnds (sharing_for s scene) made.choices world
    pub head : StrongHead
    pub is_head : IsSharingHead s scene.captured head
    pub report : made.texts Report ≡ strong_text f head world
    -- what the report says of each packet and each unit
    pub headline : HasStrongHeadline (strong_subject f s.names (sharing_for s scene)) scene.filter head (made.texts Report)

-- the sharing of the function that the words name
abbrev pub HasSharing : StrongAsked → CaptureScene → Schedule → RunResults → Type 0
HasSharing s scene schedule made = OfKind s.kind (λ R F f. IsSharingOf F f s scene schedule made)

-- what the words say of its scene
abbrev pub sharing_words : StrongAsked → SceneWords
sharing_words s = record { inside = s.inside; outside = s.outside; filter = s.filter }

-- the sharing that the words ask for, over the capture that the bytes are read as
abbrev pub IsShared : StrongAsked → (Role → List ℕ) → Schedule → RunResults → Type 0
IsShared s bytes schedule made = OfCaptureScene (sharing_words s) bytes (λ scene. HasSharing s scene schedule made)

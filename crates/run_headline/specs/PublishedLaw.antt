-- The law of a two-phase update's headline: what is printed of each completed run has its lines. This project's own.
use Rattle.std.specs.Prelude.{◌≡◌, true, List, []}
use Rattle.std.specs.declared.alloc.Global.{Global}
use Rattle.nf_function.specs.Semantics.{Semantics}
use Rattle.actor_net.specs.declared.choice.Choice.{Choice}
use Rattle.actor_net.specs.Network.{Network, IsRun, is_done, run}
use Rattle.two_phase.specs.declared.msg.TwoMsg.{TwoMsg}
use Rattle.two_phase.specs.declared.note.TwoNote.{TwoNote}
use Rattle.two_phase.specs.declared.node.TwoNode.{TwoNode}
use Rattle.two_phase.specs.declared.report.TwoHead.{TwoHead}
use Rattle.two_phase.specs.Report.{two_text}
use Rattle.two_phase.specs.Start.{UpdateJob, IsUpdateJob, config_of, two_start}
use Rattle.two_phase.specs.Tables.{node_ended, node_ready, node_step}
use Rattle.run_headline.specs.Subject.{Subject}
use Rattle.run_headline.specs.Published.{HasPublishedHeadline}

-- what such a report is of: no commands
abbrev pub two_subject : {R : Type 0} → Semantics R → UpdateJob → Subject R
two_subject f job = record { function = f; config = config_of job; packets = job.packets; commands = []; points = [] }

module _ {R : Type 0} (F : Type 0) (f : Semantics R) where
  -- a run to a world in which nothing is left to do
  pub record IsTwoRun (job : UpdateJob) (w : Network (TwoNode F R) TwoMsg TwoNote) : Type 0 where
    pub is_job : IsUpdateJob f.kind job
    pub alloc : Global
    pub choices : List Choice
    pub is_run : IsRun node_ready (node_step f) choices (two_start {F = F} {R = R} alloc job)
    pub reached : w ≡ run (node_step f) choices (two_start alloc job)
    pub complete : is_done node_ended w ≡ true

  abbrev pub PublishedLaw : Type 0
  PublishedLaw = (job : UpdateJob) (w : Network (TwoNode F R) TwoMsg TwoNote) → IsTwoRun job w → (head : TwoHead)
      → HasPublishedHeadline (two_subject f job) job.filter head (two_text f head w)

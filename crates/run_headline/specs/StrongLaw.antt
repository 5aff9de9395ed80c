-- The law of strong sharing's headline: what is printed of each completed run has its lines. This project's own.
use Rattle.std.specs.Prelude.{◌≡◌, ℕ, true, false, List, [], length, map}
use Rattle.std.specs.declared.alloc.Global.{Global}
use Rattle.nf_function.specs.Semantics.{Semantics}
use Rattle.nf_msgs.specs.declared.msg.Msg.{Msg}
use Rattle.actor_net.specs.declared.choice.Choice.{Choice}
use Rattle.actor_net.specs.Network.{Network, is_done}
use Rattle.strong_share.specs.declared.note.StrongNote.{StrongNote}
use Rattle.strong_share.specs.declared.node.StrongNode.{StrongNode}
use Rattle.strong_share.specs.declared.report.StrongHead.{StrongHead}
use Rattle.strong_share.specs.Report.{strong_text}
use Rattle.strong_share.specs.Runs.{LeadsTo}
use Rattle.strong_share.specs.Start.{StrongJob, IsStrongJob, member_limit, strong_start}
use Rattle.strong_share.specs.Tables.{node_ended}
use Rattle.run_headline.specs.Subject.{Subject}
use Rattle.run_headline.specs.Strong.{HasStrongHeadline}

-- what such a report is of: the members under these names, and no commands
abbrev pub strong_subject : {R : Type 0} → Semantics R → List (List ℕ) → StrongJob → Subject R
strong_subject f names job = record {
  function = f;
  config = record {
    names = names;
    limits = map (λ name. member_limit) names;
    marked = map (λ name. false) names;
    site = job.site;
    window = job.window;
    routes = [];
  };
  packets = job.packets;
  commands = [];
  points = [];
}

module _ {R : Type 0} (F : Type 0) (f : Semantics R) where
  -- a run of so many members as there are names, to a world in which nothing is left to do
  pub record IsStrongRun (names : List (List ℕ)) (job : StrongJob) (w : Network (StrongNode F R) Msg StrongNote) : Type 0 where
    pub is_job : IsStrongJob f.kind job
    pub members : job.members ≡ length names
    pub alloc : Global
    pub choices : List Choice
    pub leads : LeadsTo f (strong_start alloc job) choices w
    pub complete : is_done node_ended w ≡ true

  abbrev pub StrongLaw : Type 0
  StrongLaw = (names : List (List ℕ)) (job : StrongJob) (w : Network (StrongNode F R) Msg StrongNote) → IsStrongRun names job w
      → (head : StrongHead) → head.names.items ≡ names → HasStrongHeadline (strong_subject f names job) job.filter head (strong_text f head w)

-- The laws of headlines: what is printed of each completed run of the network has the lines of the headline, and two runs say the same.
-- This project's own.
use Rattle.std.specs.Prelude.{◌≡◌, ℕ, ◌+◌, Bool, true, false, List, [], ◌∷◌, map, filter_map, Option, None, Some}
use Rattle.std.specs.declared.alloc.Global.{Global}
use Rattle.nf_function.specs.declared.unit.Unit as units
use Rattle.nf_function.specs.Semantics.{Semantics}
use Rattle.nf_msgs.specs.declared.msg.Msg.{Msg}
use Rattle.nf_msgs.specs.declared.msg.Msg.TheVariants.{InCommand, InPacket}
use Rattle.nf_msgs.specs.declared.note.Note.{Note}
use Rattle.nf_msgs.specs.declared.note.Note.TheVariants.{Processed}
use Rattle.actor_net.specs.declared.choice.Choice.{Choice}
use Rattle.actor_net.specs.Network.{Network, IsRun, is_done, run}
use Rattle.net_world.specs.declared.config.Config.{Config}
use Rattle.net_world.specs.declared.node.Node.{Node}
use Rattle.net_world.specs.Input as input
use Rattle.net_world.specs.Input.{IsInput}
use Rattle.net_world.specs.Jobs.{course_of, job_of}
use Rattle.net_world.specs.Nodes.{node_ended, node_ready, node_step}
use Rattle.net_world.specs.Start.{started_with}
use Rattle.net_world.specs.Log.{answer_in}
use Rattle.run_report.specs.nf_net.specs.Promises.{Promises, Completed, Standbys, Verdicts}
use Rattle.report_lines.specs.Lines.{by_number, by_unit, output_in}
use Rattle.run_report.specs.Lines.{named_instances, report_text}
use Rattle.report_lines.specs.declared.heads.Head.{Head}
use Rattle.run_headline.specs.Headline.{ReportLines, Headline, is_covered, outs_of, records_of}
use Rattle.run_headline.specs.Subject.{Subject}
use Rattle.run_headline.specs.Text.{HasHeadline}

-- the number of a packet that was processed, and of the instance at which it was
abbrev pub done_in : Note → Option (ℕ × ℕ)
done_in (Processed number instance output) = Some (number, instance)
done_in note = None

-- behind so many packets, how many stand before each command of an input
abbrev pub points_of : ℕ → List Msg → List ℕ
points_of k [] = []
points_of k (InPacket packet ∷ items) = points_of (k + 1) items
points_of k (InCommand command ∷ items) = k ∷ points_of k items
points_of k (item ∷ items) = points_of k items

module _ {R : Type 0} (f : Semantics R) (config : Config) (items : List Msg) where
  -- what a run is of
  abbrev pub subject : Subject R
  subject = record { function = f; config = config; packets = input.packets items; commands = input.commands items; points = points_of 0 items }

  -- the lines of the report of a world
  abbrev pub lines : {F : Type 0} → Network (Node F R) Msg Note → ReportLines R
  lines w = record {
    outs = by_number output_in w.log;
    dones = filter_map done_in w.log;
    answers = by_number answer_in w.log;
    states = by_unit true (named_instances config.names w.nodes);
  }

module _ {R : Type 0} (F : Type 0) (f : Semantics R) (alloc : Global) (config : Config) (items : List Msg) where
  abbrev world : List Choice → Network (Node F R) Msg Note
  world choices = run (node_step f) choices (started_with alloc config items)

  -- a completed run, whose outputs and answers stand by the numbers of packets and commands
  pub record IsCompleted (choices : List Choice) : Type 0 where
    pub is_input : IsInput f.kind config items
    pub is_run : IsRun node_ready (node_step f) choices (started_with {F = F} {R = R} alloc config items)
    pub is_ended : is_done node_ended (world choices) ≡ true
    pub promises : Promises f config items (world choices)
    pub verdicts : Verdicts {F = F} (job_of f config items) (course_of (started_with alloc config items) choices)
    pub standbys : Standbys {F = F} (job_of f config items) (course_of (started_with alloc config items) choices)
    pub completed : Completed f config items (world choices)
    pub outs : map (λ x. x.0) (by_number output_in (world choices).log) ≡ map (λ p. p.number) (input.packets items)
    pub answers : map (λ x. x.0) (by_number answer_in (world choices).log) ≡ map (λ c. c.op) (input.commands items)

module _ {R : Type 0} (F : Type 0) (f : Semantics R) where
  abbrev pub HeadlineLaw : Type 0
  HeadlineLaw = (alloc : Global) (config : Config) (items : List Msg) (choices : List Choice) → IsCompleted F f alloc config items choices
      → (head : Head) → head.names ≡ config.names → (summary : Bool)
      → HasHeadline (subject f config items) head summary
      (report_text f head summary (run (node_step f) choices (started_with {F = F} {R = R} alloc config items)))

-- two runs of one function over one capture at one site, whatever their scripts, schedules and instances
pub record AreAlike {R : Type 0} (one other : Subject R) : Type 0 where
  pub function : one.function ≡ other.function
  pub site : one.config.site ≡ other.config.site
  pub packets : one.packets ≡ other.packets

-- of each unit that no completed plain move covered in either they say the same: the outputs to its packets, and its record but for the instance
abbrev pub TwoRunsLaw : Type 0 → Type 0
TwoRunsLaw R = (one other : Subject R) (first again : ReportLines R) → AreAlike one other → Headline one first → Headline other again
    → (unit : units.Unit) → is_covered one first.answers unit ≡ false → is_covered other again.answers unit ≡ false
    → (outs_of one unit first.outs ≡ outs_of other unit again.outs) × (records_of one unit first.states ≡ records_of other unit again.states)

-- The text of a report, by the lines of which `Headline` holds. This project's own format.
use Rattle.std.specs.Prelude.{◌≡◌, ℕ, ◌++◌, Bool, if◌then◌else◌, codes, List, map, length, flat_map}
use Rattle.std.specs.List.{count_by, sum_by}
use Rattle.std.specs.Str.{bytes_eq}
use Rattle.std.specs.FinMap.{len}
use Rattle.nf_function.specs.Semantics.{Semantics}
use Rattle.report_lines.specs.Lines.{NamedInstance, NamedRecord, named_line, out_line, record_line, tail_lines}
use Rattle.report_lines.specs.declared.heads.Head.{Head}
use Rattle.run_report.specs.Lines.{answer_line, head_lines, live_line}
use Rattle.run_headline.specs.Headline.{Headline, ReportLines}
use Rattle.run_headline.specs.Subject.{Subject}
use Rattle.run_headline.specs.Instances.{AreStandbys, AreTallies}

-- the lines of packets, commands and records, and of the records that stand by
abbrev pub lines_text : {R : Type 0} → Semantics R → List (List ℕ) → ReportLines R → List (NamedRecord R) → List ℕ
lines_text f names lines standbys =
    flat_map (out_line f) lines.outs ++ flat_map (named_line (codes "done ") names) lines.dones ++ flat_map answer_line lines.answers
    ++ flat_map (record_line f (codes "state ")) lines.states ++ flat_map (record_line f (codes "standby ")) standbys

-- a text says what such lines say, in full, or as a summary that has in place of the lines of packets and records how many records each instance has;
-- after the head of a report, and before the tallies. What is told of the instances is what the lines say: as many records as have a name
pub record HasHeadline {R : Type 0} (subject : Subject R) (head : Head) (summary : Bool) (text : List ℕ) : Type 0 where
  pub lines : ReportLines R
  pub headline : Headline subject lines
  pub standbys : List (NamedRecord R)
  pub are_standbys : AreStandbys subject lines standbys
  pub told : List (NamedInstance R)
  pub named : map (λ i. i.name) told ≡ subject.config.names
  pub lives : (name : List ℕ) → sum_by (λ i. if bytes_eq i.name name then len i.table.live else 0) told ≡ count_by (λ s. bytes_eq s.name name) lines.states
  pub tallies : AreTallies subject lines told
  pub text_is : text ≡ head_lines head
      ++ (if summary then flat_map answer_line lines.answers ++ flat_map live_line told else lines_text subject.function subject.config.names lines standbys)
      ++ tail_lines (length subject.config.names) told

-- What the lines of a report of a two-phase update say: those of a report of a run without commands, and what the update came to. This project's own.
use Rattle.std.specs.Prelude.{◌≡◌, ℕ, ◌++◌, Bool, true, false, List, codes, flat_map, length, map}
use Rattle.std.specs.List.{list_any}
use Rattle.flow_filter.specs.declared.filter.Filter.{Filter}
use Rattle.flow_filter.specs.declared.packet.Packet.{Packet}
use Rattle.flow_filter.specs.Filter.{matches}
use Rattle.flow_filter.specs.Flow.{flow_of}
use Rattle.nf_function.specs.Semantics.{Semantics}
use Rattle.report_lines.specs.Lines.{NamedInstance, named_line, out_line, record_line, tail_lines}
use Rattle.two_phase.specs.declared.report.TwoHead.{TwoHead}
use Rattle.two_phase.specs.Report.{head_lines}
use Rattle.run_headline.specs.Headline.{Headline, ReportLines}
use Rattle.run_headline.specs.Subject.{Subject}

-- whether a packet is one that is to be moved
abbrev pub is_moved : {R : Type 0} → Subject R → Filter → Packet → Bool
is_moved subject moved p = matches moved (flow_of subject.config.site p).0

-- what the update came to: it is done, or no packet came
abbrev pub verdict_text : Bool → List ℕ
verdict_text true = codes "answer 1 done\n"
verdict_text false = codes "answer 1 no packet\n"

-- the text of the lines
abbrev pub lines_text : {R : Type 0} → Semantics R → List (List ℕ) → Bool → ReportLines R → List ℕ
lines_text f names done lines =
    flat_map (out_line f) lines.outs ++ flat_map (named_line (codes "done ") names) lines.dones ++ verdict_text done
    ++ flat_map (record_line f (codes "state ")) lines.states

-- a text says what such lines say, between the head of a report and what it says of tallies
pub record HasPublishedHeadline {R : Type 0} (subject : Subject R) (moved : Filter) (head : TwoHead) (text : List ℕ) : Type 0 where
  pub lines : ReportLines R
  pub headline : Headline subject lines
  -- the update is done only where a captured packet is one that is to be moved
  pub done : Bool
  pub some_moved : done ≡ true → list_any (is_moved subject moved) subject.packets ≡ true
  pub told : List (NamedInstance R)
  pub named : map (λ i. i.name) told ≡ subject.config.names
  pub text_is : text ≡ head_lines head ++ lines_text subject.function subject.config.names done lines ++ tail_lines (length subject.config.names) told

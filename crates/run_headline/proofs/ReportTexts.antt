-- The text of a report has the lines of its headline.
use Rattle.run_headline.proofs.Words.{◌≡◌, ℕ, Bool, true, false, List, ◌++◌, length, sym, ap, ◌∙◌, codes, filter_map, if◌then◌else◌, flat_map, Global}
use Rattle.run_headline.proofs.Words.{append_assoc, FunctionLaws, Semantics, Msg, Note, Choice, Network, run, Config, Node, node_step, started_with}
use Rattle.run_headline.proofs.Words.{NamedInstance, by_unit, done_lines, named_line, out_lines, standby_lines, state_lines, tail_lines, Head, named_instances}
use Rattle.run_headline.proofs.Words.{IsCompleted, done_in, lines, subject}
use Rattle.run_report.specs.Lines.{answer_lines, head_lines, live_line, packet_lines, record_lines, report_text, summary_lines, whole_lines}
use Rattle.run_headline.specs.Text.{HasHeadline, lines_text}
use Rattle.run_headline.specs.Law.{HeadlineLaw}
use Rattle.run_headline.proofs.CompletedRuns.{CompletedRun, setting_of, world_of}
use Rattle.run_headline.proofs.HeadlineRuns.{headline, lives, named}
use Rattle.run_headline.proofs.CopiedStandbys.{are_standbys}
use Rattle.run_headline.proofs.InstanceLines.{tallies}
use Rattle.run_headline.proofs.LineNumbers.{done_text}

module _ {F R : Type 0} (f : Semantics R) (c : Config) (items : List Msg) (head : Head) (w : Network (Node F R) Msg Note) (names : head.names ≡ c.names) where
  abbrev there : List (List ℕ) → List (NamedInstance R)
  there ns = named_instances ns w.nodes

  abbrev tail : List ℕ
  tail = tail_lines (length c.names) (there c.names)

  -- the lines by the names of the head, and by those of the configuration
  abbrev lines_by : List (List ℕ) → List ℕ → List ℕ
  lines_by ns dones =
      (head_lines head ++ ((((out_lines f w.log ++ dones) ++ answer_lines w.log) ++ state_lines f (there ns)) ++ standby_lines f (there ns)))
      ++ tail_lines (length ns) (there ns)

  text_is : report_text f head false w ≡ head_lines head ++ lines_text f c.names (lines f c items w) (by_unit false (there c.names)) ++ tail
  unfolding report_text whole_lines packet_lines record_lines
  text_is =
      ap (λ l. (head_lines head ++ l) ++ tail_lines (length head.names) (there head.names))
      (sym (append_assoc ((out_lines f w.log ++ done_lines head.names w.log) ++ answer_lines w.log) (state_lines f (there head.names))
      (standby_lines f (there head.names))))
      ∙ ap (lines_by head.names) (sym (done_text head.names w.log))
      ∙ ap (λ ns. lines_by ns (flat_map (named_line (codes "done ") ns) (filter_map done_in w.log))) names

  summary_is : report_text f head true w ≡ head_lines head ++ (answer_lines w.log ++ flat_map live_line (there c.names)) ++ tail
  unfolding report_text summary_lines
  summary_is = ap (λ ns. (head_lines head ++ (answer_lines w.log ++ flat_map live_line (there ns))) ++ tail_lines (length ns) (there ns)) names

  its_text : (summary : Bool) → report_text f head summary w
      ≡ head_lines head
      ++ (if summary then answer_lines w.log ++ flat_map live_line (there c.names)
      else lines_text f c.names (lines f c items w) (by_unit false (there c.names)))
      ++ tail
  its_text true = summary_is
  its_text false = text_is

module _ {F R : Type 0} (completed : CompletedRun F R) where
  open completed use {setting, choices}
  open setting use {function as f, config as c, items}

  abbrev end : Network (Node F R) Msg Note
  end = world_of setting choices

  -- the report of a completed run has the lines of the headline
  reported_run : (head : Head) → head.names ≡ c.names → (summary : Bool) → HasHeadline (subject f c items) head summary (report_text f head summary end)
  reported_run head names summary = record {
    lines = lines f c items end;
    headline = headline completed;
    standbys = by_unit false (named_instances c.names end.nodes);
    are_standbys = are_standbys completed;
    told = named_instances c.names end.nodes;
    named = named completed;
    lives = lives completed;
    tallies = tallies completed;
    text_is = its_text f c items head end names summary;
  }

-- so each has
pub reported : {R : Type 0} (F : Type 0) (f : Semantics R) → FunctionLaws f → HeadlineLaw F f
reported F f laws alloc c items choices is head names summary =
    reported_run {F = F} (record { setting = setting_of f laws alloc c items is.is_input; choices = choices; is = is }) head names summary

-- The report of a completed run of strong sharing has the lines of its headline.
use Rattle.run_headline.proofs.Words.{◌≡◌, ℕ, true, false, List, ◌++◌, length, sym, ap, ◌∙◌, codes, filter_map, append_assoc, Laws, Semantics, Msg, Note}
use Rattle.run_headline.proofs.Words.{Network, NamedInstance, by_number, by_unit, done_lines, named_line, out_lines, output_in, standby_lines, state_lines}
use Rattle.run_headline.proofs.Words.{tail_lines, StrongNote, StrongNode, named_members, StrongJob, entries, inner_notes, done_in, IsStrongRun, strong_subject}
use Rattle.std.specs.Prelude.{flat_map}
use Rattle.strong_share.specs.declared.report.StrongHead.{StrongHead}
use Rattle.strong_share.specs.Report.{event_lines, head_lines, member_lines, packet_lines, strong_text}
use Rattle.run_headline.proofs.LineNumbers.{done_text}
use Rattle.run_headline.specs.Strong.{StrongHeadline, StrongLines, lines_text}
use Rattle.run_headline.specs.StrongLaw.{StrongLaw}
use Rattle.run_headline.proofs.others.StrongStates as states
use Rattle.run_headline.proofs.others.StrongTurns as turns

-- parts in another grouping
regroup : (h p s b t : List ℕ) → (h ++ p) ++ ((s ++ b) ++ t) ≡ (h ++ ((p ++ s) ++ b)) ++ t
regroup h p s b t =
    append_assoc h p ((s ++ b) ++ t) ∙ ap (λ l. h ++ l) (sym (append_assoc p (s ++ b) t) ∙ ap (λ l. l ++ t) (sym (append_assoc p s b)))
    ∙ sym (append_assoc h ((p ++ s) ++ b) t)

module _ {R : Type 0} (F : Type 0) (f : Semantics R) (names : List (List ℕ)) (w : Network (StrongNode F R) Msg StrongNote) where
  abbrev there : List (List ℕ) → List (NamedInstance R)
  there ns = named_members ns w.nodes

  abbrev notes : List Note
  notes = inner_notes w.log

  abbrev lines : StrongLines R
  lines = record {
    outs = by_number output_in notes;
    events = entries w.log;
    dones = filter_map done_in notes;
    states = by_unit true (there names);
    standbys = by_unit false (there names);
  }

  -- the lines of packets, where what was processed is written note by note
  abbrev packets_by : List (List ℕ) → List ℕ → List ℕ
  packets_by ns dones = (out_lines f notes ++ flat_map (named_line (codes "event ") ns) (entries w.log)) ++ dones

  text_is : (head : StrongHead) → head.names.items ≡ names
      → strong_text f head w ≡ head_lines head ++ lines_text f names lines ++ tail_lines (length names) (there names)
  unfolding strong_text packet_lines member_lines event_lines
  text_is head same =
      ap (λ ns. (head_lines head ++ packets_by ns (done_lines ns notes))
      ++ ((state_lines f (there ns) ++ standby_lines f (there ns)) ++ tail_lines (length ns) (there ns))) same
      ∙ ap (λ l. (head_lines head ++ packets_by names l)
      ++ ((state_lines f (there names) ++ standby_lines f (there names)) ++ tail_lines (length names) (there names))) (sym (done_text names notes))
      ∙ regroup (head_lines head) (packets_by names (flat_map (named_line (codes "done ") names) (filter_map done_in notes))) (state_lines f (there names))
      (standby_lines f (there names)) (tail_lines (length names) (there names))

module _ {R : Type 0} (F : Type 0) (f : Semantics R) (laws : Laws f) where
  headline : (names : List (List ℕ)) (job : StrongJob) (w : Network (StrongNode F R) Msg StrongNote) → IsStrongRun F f names job w
      → StrongHeadline (strong_subject f names job) job.filter (lines F f names w)
  headline names job w is = record {
    outs = turns.outs_are F f laws names job w is;
    dones = turns.dones_are F f laws names job w is;
    events = turns.events_are F f laws names job w is;
    one_state = states.one_state F f laws names job w is;
    outputs = turns.outputs_are F f laws names job w is;
    state_is = states.state_is F f laws names job w is;
    standby_is = states.standby_lines_are F f laws names job w is;
  }

  pub strong_law : StrongLaw F f
  strong_law names job w is head same = record {
    lines = lines F f names w;
    headline = headline names job w is;
    told = named_members names w.nodes;
    named = states.named F f laws names job w is;
    text_is = text_is F f names w head same;
  }

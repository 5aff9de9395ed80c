-- The report of a completed update has the lines of its headline.
use Rattle.run_headline.proofs.Words.{◌≡◌, ℕ, Bool, true, Option, Some, None, List, [], ◌∷◌, ◌++◌, length, map, refl, sym, ap, ◌∙◌, subst, arith}
use Rattle.run_headline.proofs.Words.{if◌then◌else◌, codes, filter, filter_map, option_to_list, AllByRecursion, flat_map, list_any, nat_cmp_total}
use Rattle.run_headline.proofs.Words.{append_assoc, Packet, Output, Laws, Semantics, kept_after, unit_at, Msg, Note, same_unit_equiv, Network, Config, times}
use Rattle.run_headline.proofs.Words.{IsRising, packet_numbered, packets, dones_in, numbered_times, times_filter, NamedInstance, by_number, by_unit}
use Rattle.run_headline.proofs.Words.{named_line, named_records, out_lines, output_in, state_lines, tail_lines, TwoMsg, TwoNote, TwoNode, after_low, has_come}
use Rattle.run_headline.proofs.Words.{trace, verdict_line, UpdateJob, items_of, Headline, ReportLines, is_of, outputs_to, outs_of, packets_of, record_after}
use Rattle.run_headline.proofs.Words.{records_of, Subject, done_in, verdict_text, two_subject}
use Rattle.std.specs.FinMap as finite
use Rattle.nf_function.specs.declared.unit.Unit as units
use Rattle.net_world.specs.Fold as folds
use Rattle.net_world.proofs.NumberCounts.{done_numbers}
use Rattle.two_phase.specs.declared.report.TwoHead.{TwoHead}
use Rattle.two_phase.specs.Promises.{Published, UpdateCompleted, inner_notes, live_in}
use Rattle.two_phase.specs.Report.{head_lines, instance_lines, instance_under, named_instances, names, packet_lines, two_text}
use Rattle.two_phase.specs.Start.{config_of}
use Rattle.two_phase.proofs.NumberedPackets.{all_numbered, numbered_fits, packets_are}
use Rattle.two_phase.proofs.Theorem.{published}
use Rattle.run_headline.proofs.FoundNumbers.{all_found, rising_from}
use Rattle.run_headline.proofs.SortedParts.{part_stays, up_rising}
use Rattle.run_headline.proofs.UnitOutputs.{IsThere, beside, folds_same, mine, numbers_noted, outputs_noted, outputs_same, part, some_rise, tests_agree}
use Rattle.run_headline.proofs.LineNumbers.{any_own, done_text, dones_times, has_some, one_kept}
use Rattle.run_headline.proofs.UnitLines.{each_line, kept_each, sorted_own}
use Rattle.run_headline.specs.Published.{HasPublishedHeadline, lines_text}
use Rattle.run_headline.specs.PublishedLaw.{IsTwoRun, PublishedLaw}
use Rattle.run_headline.proofs.others.LoggedOutputs.{noted}
use Rattle.run_headline.proofs.others.NumberedLines.{rising_sorted}
use Rattle.run_headline.proofs.others.TwoNodes.{AreFour, four_nodes}
use Rattle.run_headline.proofs.others.TwoVerdicts.{some_moved, verdict_is}

-- parts in another grouping
regroup : (h o d v s t : List ℕ) → ((h ++ (o ++ d)) ++ v) ++ (s ++ t) ≡ (h ++ (((o ++ d) ++ v) ++ s)) ++ t
regroup h o d v s t =
    ap (λ l. l ++ (s ++ t)) (append_assoc h (o ++ d) v) ∙ sym (append_assoc (h ++ ((o ++ d) ++ v)) s t) ∙ ap (λ l. l ++ t) (append_assoc h ((o ++ d) ++ v) s)

module _ {R : Type 0} (F : Type 0) (f : Semantics R) (laws : Laws f) (job : UpdateJob) (w : Network (TwoNode F R) TwoMsg TwoNote)
    (is : IsTwoRun F f job w) where
  abbrev c : Config
  c = config_of job

  abbrev items : List Msg
  items = items_of job

  abbrev ps : List Packet
  ps = packets items

  abbrev notes : List Note
  notes = inner_notes w.log

  abbrev raw : List (ℕ × Output)
  raw = filter_map output_in notes

  -- what the report is of, its packets as they stand in the input
  abbrev of : List Packet → Subject R
  of qs = record { function = f; config = c; packets = qs; commands = []; points = [] }

  keeps : Published f job is.choices w
  keeps = subst (Published f job is.choices) (sym is.reached) (published F f laws is.alloc job is.is_job is.choices is.is_run)

  whole : UpdateCompleted f job w
  whole = keeps.completed is.complete

  nodes : AreFour w.nodes
  nodes = subst (λ (v : Network (TwoNode F R) TwoMsg TwoNote). AreFour v.nodes) (sym is.reached) (four_nodes F f is.alloc job is.choices is.is_run)

  abbrev there : List (NamedInstance R)
  there = named_instances names w.nodes

  same_numbers : map (λ p. p.number) ps ≡ trace job
  same_numbers = ap (map (λ p. p.number)) (packets_are job.packets)

  rising : IsRising 0 (map (λ p. p.number) ps)
  rising = subst (IsRising 0) (sym same_numbers) (rising_from 0 1 (trace job) (omega arith) is.is_job.numbers)

  done_count : (n : ℕ) → times n (map (λ d. d.number) (dones_in notes)) ≡ times n (map (λ p. p.number) ps)
  done_count n =
      let u : units.Unit = unit_at f.kind c.site (packet_numbered items n) in
      let own : mine f c items u n ≡ true = same_unit_equiv.refl u in
      sym (times_filter (mine f c items u) n own (map (λ d. d.number) (dones_in notes)))
      ∙ ap (times n) (sym (done_numbers (mine f c items u) (dones_in notes))
      ∙ whole.all_went u) ∙ times_filter (mine f c items u) n own (trace job) ∙ ap (times n) (sym same_numbers)

  outs_are : map (λ o. o.0) (by_number output_in notes) ≡ map (λ p. p.number) ps
  outs_are = rising_sorted raw (map (λ p. p.number) ps) rising (λ n. ap (times n) (noted notes) ∙ done_count n)

  told_lines : there ≡ instance_under (codes "a", nodes.source) ∷ instance_under (codes "b", nodes.destination) ∷ []
  told_lines = ap (named_instances names) nodes.are

  module _ (u : units.Unit) where
    abbrev mine_u : ℕ → Bool
    mine_u = mine f c items u

    abbrev went : List ℕ
    went = folds.processed_of f c items u notes

    processed : went ≡ filter mine_u (map (λ p. p.number) ps)
    processed = whole.all_went u ∙ ap (filter mine_u) (sym same_numbers)

    found : AllByRecursion (IsThere f c items u) ps
    found = all_found (λ p. p.number) 0 ps rising

    up : IsRising 0 (map (λ o. o.0) (filter (λ o. mine_u o.0) raw))
    up = subst (IsRising 0) (sym (numbers_noted mine_u notes ∙ processed)) (some_rise mine_u 0 (map (λ p. p.number) ps) rising)

    outputs_are : outs_of (of ps) u (by_number output_in notes) ≡ outputs_to (of ps) (packets_of (of ps) u)
    outputs_are =
        beside mine_u (part f c items u) ps (by_number output_in notes) outs_are (tests_agree f c items u ps found)
        ∙ ap (map (λ o. o.1)) (part_stays (λ o. o.0) _ nat_cmp_total (λ o. mine_u o.0) raw (up_rising 0 _ up))
        ∙ outputs_noted mine_u notes ∙ keeps.outputs_are u ∙ ap (folds.outputs f c items None) processed ∙ outputs_same f c items u None ps found

    -- the record of the unit
    abbrev kept : Option R
    kept = folds.fold f c items None went

    both : (o p : Option R) → option_to_list o ++ (option_to_list p ++ []) ≡ filter_map (λ x. x) (o ∷ p ∷ [])
    both None None = refl
    both None (Some q) = refl
    both (Some r) None = refl
    both (Some r) (Some q) = refl

    one_of : (o p : Option R) → filter_map (λ x. x) (o ∷ p ∷ []) ≡ filter_map (live_in u) w.nodes
        → option_to_list o ++ (option_to_list p ++ []) ≡ option_to_list kept
    one_of o p same = both o p ∙ same ∙ whole.live_is u ∙ ap option_to_list (ap (folds.fold f c items None) (sym (whole.all_went u)))

    records_kept : records_of (of ps) u (by_unit true there) ≡ option_to_list kept
    records_kept =
        ap (map (λ s. s.kept)) (sorted_own u (flat_map (named_records true) there) ∙ each_line u true there) ∙ kept_each u there
        ∙ ap (flat_map (λ i. option_to_list (finite.get i.table.live u))) told_lines
        ∙ one_of (finite.get nodes.source.table.live u) (finite.get nodes.destination.table.live u) (sym (ap (filter_map (live_in u)) nodes.are))

    record_is : records_of (of ps) u (by_unit true there) ≡ option_to_list (record_after (of ps) (packets_of (of ps) u))
    record_is = records_kept ∙ ap option_to_list (ap (folds.fold f c items None) processed ∙ folds_same f c items u None ps found)

    -- a unit with a packet has a record
    some_step : (o : Option R) (n : ℕ) → (r : R) × (kept_after f c.site o (packet_numbered items n) ≡ Some r)
    some_step o n = (
      (f.stepped c.site o (packet_numbered items n)).kept,
      ap (λ b. if b then Some (f.stepped c.site o (packet_numbered items n)).kept else o)
          (numbered_fits job.site job.packets is.is_job.site is.is_job.steered n).transport,
    )

    one_state : length (records_of (of ps) u (by_unit true there)) ≡ (if list_any (is_of (of ps) u) ps then 1 else 0)
    one_state =
        ap length records_kept ∙ one_kept (λ o n. kept_after f c.site o (packet_numbered items n)) some_step went
        ∙ ap (λ b. if b then 1 else 0) (ap has_some processed ∙ any_own mine_u (part f c items u) ps (tests_agree f c items u ps found))

  abbrev lines : ReportLines R
  lines = record { outs = by_number output_in notes; dones = filter_map done_in notes; answers = []; states = by_unit true there }

  headline : Headline (of ps) lines
  headline = record {
    outs = outs_are;
    dones = λ n. dones_times n notes ∙ done_count n ∙ sym (numbered_times (λ p. p.number) n ps);
    answers = tt;
    one_state = one_state;
    outputs = λ u off. outputs_are u;
    record_is = λ u off. record_is u;
  }

  abbrev came : Bool
  came = has_come job (after_low w.log)

  text_is : (head : TwoHead) → two_text f head w ≡ head_lines head ++ lines_text f names came lines ++ tail_lines (length names) there
  unfolding two_text packet_lines instance_lines
  text_is head =
      ap (λ l. ((head_lines head ++ (out_lines f notes ++ l)) ++ flat_map verdict_line w.log) ++ (state_lines f there ++ tail_lines 2 there))
      (sym (done_text names notes))
      ∙ ap (λ l. ((head_lines head ++ (out_lines f notes ++ flat_map (named_line (codes "done ") names) (filter_map done_in notes))) ++ l)
      ++ (state_lines f there ++ tail_lines 2 there)) (verdict_is came w.log whole.verdict)
      ∙ regroup (head_lines head) (out_lines f notes) (flat_map (named_line (codes "done ") names) (filter_map done_in notes)) (verdict_text came)
      (state_lines f there) (tail_lines 2 there)

  pub reported : (head : TwoHead) → HasPublishedHeadline (two_subject f job) job.filter head (two_text f head w)
  reported head = record {
    lines = lines;
    headline = subst (λ qs. Headline (of qs) lines) (packets_are job.packets) headline;
    done = came;
    some_moved = some_moved f job w.log keeps.in_turn (all_numbered 1 job.packets is.is_job.numbers);
    told = there;
    named = ap (map (λ i. i.name)) told_lines;
    text_is = text_is head;
  }

pub published_law : {R : Type 0} (F : Type 0) (f : Semantics R) (laws : Laws f) → PublishedLaw F f
published_law F f laws job w is head = reported F f laws job w is head

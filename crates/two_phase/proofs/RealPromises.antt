-- What is proved of the reduced network, in the words of the promises.
use Rattle.two_phase.proofs.Words.{◌≡◌, ◌≤◌, ◌⊎◌, inl, inr, ℕ, suc, ◌+◌, ◌*◌, Bool, true, false, Option, Some, None, List, [], ◌∷◌, ◌++◌, map, drop, length}
use Rattle.two_phase.proofs.Words.{refl, sym, ap, subst, ◌∙◌, arith, if◌then◌else◌, ◌==◌, ◌&&◌, slice_get, list_all, Global, nat_tests, Output}
use Rattle.two_phase.proofs.Words.{FunctionLaws, Semantics, kept_after, output_for, Choice, Network, is_enabled, is_done, packet_numbered, TwoMsg, TwoNote}
use Rattle.two_phase.proofs.Words.{TwoNode, Switch, SwitchState, node_ready, node_ended, UpdateJob, IsUpdateJob, items_of, inner_notes}
use Rattle.two_phase.proofs.Words.{switch_in, Published, read, flat_map-append}
use Rattle.std.specs.Prelude.{filter_map, option_to_list, scan, fold as fold_over}
use Rattle.std.specs.List.{AllZip, cons_option, filter, list_any, position_or_len}
use Rattle.std.proofs.lemmas.Bool.{and_parts}
use Rattle.std.proofs.lemmas.List.{length-map}
use Rattle.std.specs.FinMap as finite
use Rattle.nf_function.specs.declared.unit.Unit as units
use Rattle.nf_msgs.specs.declared.note.Note.TheVariants as net_note
use Rattle.net_world.specs.Fold.{times, is_of, fold, outputs, processed_of, outputs_noted}
use Rattle.net_world.specs.Log.{arrivals_in, dones_in, done_where}
use Rattle.net_world.proofs.NumberCounts.{done_numbers}
use Rattle.two_phase.specs.declared.note.TwoNote.TheVariants as note
use Rattle.two_phase.specs.Tables.{has_closed}
use Rattle.two_phase.specs.Start.{config_of}
use Rattle.two_phase.specs.Promises.{is_low, after_low, verdicts, live_in, is_matched, has_come, Cells, mine, UpdateCompleted}
use Rattle.two_machine.proofs.Tables as core
use Rattle.two_machine.proofs.View as view
use Rattle.two_machine.proofs.Promises as promises
use Rattle.two_phase.proofs.RecordLaws.{Sound}
use Rattle.two_phase.proofs.Outlines.{outline_note}
use Rattle.two_phase.proofs.AlikeWorlds.{NodeShows, Switches, Controllers, Instances, enabled_same, done_same}
use Rattle.two_phase.proofs.NumberedPackets.{numbers_split}
use Rattle.two_phase.proofs.RealRuns.{setting, S, early, late, IsShownBy}

-- logs
abbrev numbers_done : List TwoNote → List ℕ
numbers_done log = map (λ d. d.number) (dones_in (inner_notes log))

done_is : (ns : List TwoNote) → numbers_done ns ≡ promises.processed (read outline_note ns)
done_is [] = refl
done_is (note.Inner (net_note.Processed n i o) ∷ ns) = ap (λ l. n ∷ l) (done_is ns)
done_is (n ∷ ns) = done_is ns

arrived_is : (ns : List TwoNote) → arrivals_in (inner_notes ns) ≡ read view.arrived (read outline_note ns)
arrived_is [] = refl
arrived_is (note.Inner (net_note.Arrived n) ∷ ns) = ap (λ l. n ∷ l) (arrived_is ns)
arrived_is (n ∷ ns) = arrived_is ns

come_is : (k : ℕ → Bool) (ns : List TwoNote) → list_any k (arrivals_in (inner_notes ns)) ≡ promises.has_come k (read outline_note ns)
come_is k ns = ap (list_any k) (arrived_is ns)

-- what isn't low is passed over
later : (n : TwoNote) (ns : List TwoNote) → is_low n ≡ false → after_low (n ∷ ns) ≡ after_low ns
later n ns off = rw off (ap (λ k. drop k (n ∷ ns)) (more (position_or_len is_low ns)))
  where
    more : (k : ℕ) → 1 + k + 1 ≡ suc (k + 1)
    more k = omega arith

after_is : (ns : List TwoNote) → read outline_note (after_low ns) ≡ promises.after_low (read outline_note ns)
after_is [] = refl
after_is (note.Low ∷ ns) = refl
after_is (note.Inner (net_note.Arrived n) ∷ ns) = ap (read outline_note) (later (note.Inner (net_note.Arrived n)) ns refl) ∙ after_is ns
after_is (n ∷ ns) = ap (read outline_note) (later n ns refl) ∙ after_is ns

abbrev real_note : core.Note Output → TwoNote
real_note core.Done = note.Done
real_note n = note.NoPacket

verdicts_are : (ns : List TwoNote) → verdicts ns ≡ map real_note (promises.verdicts (read outline_note ns))
verdicts_are [] = refl
verdicts_are (note.Done ∷ ns) = ap (λ l. note.Done ∷ l) (verdicts_are ns)
verdicts_are (note.NoPacket ∷ ns) = ap (λ l. note.NoPacket ∷ l) (verdicts_are ns)
verdicts_are (note.Inner (net_note.Arrived n) ∷ ns) = verdicts_are ns
verdicts_are (n ∷ ns) = verdicts_are ns

verdict_by : (b : Bool) → map real_note (if b then core.Done ∷ [] else core.No_packet ∷ []) ≡ (if b then note.Done ∷ [] else note.NoPacket ∷ [])
verdict_by true = refl
verdict_by false = refl

module _ (F : Type 0) {R : Type 0} (f : Semantics R) (laws : FunctionLaws f) (alloc : Global) (job : UpdateJob) (is : IsUpdateJob f.kind job) where
  abbrev its : core.System units.Unit (Sound f) (Sound f) R Output
  its = S F f laws alloc job is

  -- one unit
  mine_is : (u : units.Unit) → mine f job u ≡ promises.of_unit its u (early F f laws alloc job is ++ late F f laws alloc job is)
  mine_is u = ap (filter (is_of f (config_of job) (items_of job) u)) (numbers_split job.at job.packets)

  kept_is : (o : Option R) (p : ℕ)
      → kept_after f job.site o (packet_numbered (items_of job) p) ≡ Some (f.stepped job.site o (packet_numbered (items_of job) p)).kept
  kept_is o p = let transport = ((setting F f laws alloc job is).fits p).transport in rw transport refl

  fold_is : (o : Option R) (ps : List ℕ) → fold f (config_of job) (items_of job) o ps ≡ promises.fold its o ps
  fold_is o ps = λ i. fold_over (λ k p. kept_is k p i) o ps

  outputs_are : (o : Option R) (ps : List ℕ) → outputs f (config_of job) (items_of job) o ps ≡ promises.outputs its o ps
  outputs_are o ps = λ i. scan (λ k p. kept_is k p i) (λ k p. output_for f job.site k (packet_numbered (items_of job) p)) o ps

  given_is : (u : units.Unit) (ns : List TwoNote)
      → outputs_noted f (config_of job) (items_of job) u (inner_notes ns) ≡ promises.given its u (read outline_note ns)
  given_is u [] = refl
  given_is u (note.Inner (net_note.Processed p i o) ∷ ns) =
      elim (is_of f (config_of job) (items_of job) u p) as (λ b.
      map (λ d. d.output)
      (if b then record { number = p; instance = i; output = o } ∷ done_where (is_of f (config_of job) (items_of job) u) (dones_in (inner_notes ns))
      else done_where (is_of f (config_of job) (items_of job) u) (dones_in (inner_notes ns)))
      ≡ (if b then o ∷ [] else []) ++ promises.given its u (read outline_note ns)) [
        | true ↦ ap (λ l. o ∷ l) (given_is u ns)
        | false ↦ given_is u ns
      ]
  given_is u (n ∷ ns) = given_is u ns

  went_is : (u : units.Unit) (ns : List TwoNote)
      → processed_of f (config_of job) (items_of job) u (inner_notes ns) ≡ promises.of_unit its u (promises.processed (read outline_note ns))
  went_is u ns = done_numbers (is_of f (config_of job) (items_of job) u) (dones_in (inner_notes ns))
      ∙ ap (promises.of_unit its u) (done_is ns)

  after_come : (ns : List TwoNote) → has_come job (after_low ns) ≡ promises.has_come its.covers (promises.after_low (read outline_note ns))
  after_come ns = come_is (is_matched job) (after_low ns) ∙ ap (promises.has_come its.covers) (after_is ns)

  -- records at nodes
  live_is : (u : units.Unit) (ws : List (TwoNode F R)) (vs : List (core.Node (Sound f) (Sound f)))
      → AllZip (NodeShows (setting F f laws alloc job is)) ws vs → filter_map (live_in u) ws ≡ filter_map (promises.live_in its u) vs
  live_is u [] [] h = refl
  live_is u (x ∷ ws) (y ∷ vs) (Switches h, more) = live_is u ws vs more
  live_is u (x ∷ ws) (y ∷ vs) (Controllers h, more) = live_is u ws vs more
  live_is u (x ∷ ws) (y ∷ vs) (Instances {i} {index} {j} h, more) =
      let one = h.live in rw one (ap (cons_option (finite.get j.table.live u)) (live_is u ws vs more))
  live_is u z w h = absurd h

  -- cells at the switch
  cells_of : (ws : List (TwoNode F R)) (vs : List (core.Node (Sound f) (Sound f))) → AllZip (NodeShows (setting F f laws alloc job is)) ws vs
      → promises.switch_window vs ≡ Some job.window
      → (s : SwitchState) × (switch_in (slice_get ws 0) ≡ Some s) × (s.window.flying + s.window.pool.home ≡ job.window)
  cells_of (x ∷ ws) (y ∷ vs) (Switches {s} {t} h, more) e =
      let window : t.window ≡ job.window = cc in (s, refl, h.window.balanced ∙ h.window.cells ∙ window)
  cells_of [] (y ∷ vs) h e = absurd h
  cells_of ws z h e = cc

  closed_first : (ws : List (TwoNode F R)) (s : SwitchState) → switch_in (slice_get ws 0) ≡ Some s → list_all node_ended ws ≡ true → has_closed s ≡ true
  closed_first (Switch t ∷ ws) s e ended =
      let same : t ≡ s = cc in
      ap has_closed (sym same) ∙ (and_parts (has_closed t) (list_all node_ended ws) ended).0
  closed_first x s e ended = cc

  module _ (cs : List Choice) (w : Network (TwoNode F R) TwoMsg TwoNote) (shown : IsShownBy F f laws alloc job is cs w) where
    abbrev v : Network (core.Node (Sound f) (Sound f)) (core.Msg (Sound f)) (core.Note Output)
    v = shown.world

    log : read outline_note w.log ≡ v.log
    log = shown.outlined.log

    done_there : is_done node_ended w ≡ true → is_done (core.node_ended its) v ≡ true
    done_there ended = sym (done_same (setting F f laws alloc job is) w v shown.outlined) ∙ ended

    completed : is_done node_ended w ≡ true → UpdateCompleted f job w
    completed ended =
        let full = shown.published.complete (done_there ended) in
        record {
          all_went = λ u. went_is u w.log ∙ ap (λ l. promises.of_unit its u (promises.processed l)) log ∙ full.all u ∙ sym (mine_is u);
          live_is = λ u.
              live_is u w.nodes v.nodes shown.outlined.nodes
              ∙ full.live u
              ∙ ap option_to_list (ap (promises.fold its None) (sym (mine_is u)) ∙ sym (fold_is None (mine f job u)));
          verdict =
              verdicts_are w.log
              ∙ ap (λ l. map real_note (promises.verdicts l)) log
              ∙ ap (map real_note) full.verdict
              ∙ verdict_by (promises.has_come its.covers (promises.after_low v.log))
              ∙ ap (λ b. if b then note.Done ∷ [] else note.NoPacket ∷ [])
              (ap (λ l. promises.has_come its.covers (promises.after_low l)) (sym log) ∙ sym (after_come w.log));
        }

    goes_on : (is_done (core.node_ended its) v ≡ true) ⊎ ((c : Choice) × (is_enabled (core.node_ready its) v c ≡ true))
        → (is_done node_ended w ≡ true) ⊎ ((c : Choice) × (is_enabled node_ready w c ≡ true))
    goes_on (inl ended) = inl (done_same (setting F f laws alloc job is) w v shown.outlined ∙ ended)
    goes_on (inr on) = inr (on.0, enabled_same (setting F f laws alloc job is) w v shown.outlined on.0 ∙ on.1)

    -- cells
    cells : Cells job w
    cells =
        let its = cells_of w.nodes v.nodes shown.outlined.nodes shown.published.ends.window_is in
        record {
          switch = its.0;
          switch_is = its.1;
          window = its.2;
          home =
              λ ended.
              (let none = (and_parts its.0.window.closed (its.0.window.flying == 0) (closed_first w.nodes its.0 its.1 (nodes_ended ended))).1 in
              all_home its.0 none its.2);
        }
      where
        nodes_ended : is_done node_ended w ≡ true → list_all node_ended w.nodes ≡ true
        nodes_ended ended = (and_parts ((length w.input == 0) && list_all (λ l. length l == 0) w.links) (list_all node_ended w.nodes) ended).1

        all_home : (s : SwitchState) → (s.window.flying == 0) ≡ true → s.window.flying + s.window.pool.home ≡ job.window → s.window.pool.home ≡ job.window
        all_home s none all = grind (arith, nat_tests, none, all)

    pub in_words : Published f job cs w
    in_words =
        let every = shown.published.every in
        let ends = shown.published.ends in
        record {
          in_turn = record {
            rest = every.in_turn.rest;
            whole =
                ap (λ l. l ++ every.in_turn.rest) (arrived_is w.log ∙ ap (read view.arrived) log) ∙ every.in_turn.whole
                ∙ sym (numbers_split job.at job.packets);
          };
          in_order = λ u.
              let front = every.front u in
              record {
                rest = front.rest;
                whole =
                    ap (λ l. l ++ front.rest) (went_is u w.log ∙ ap (λ l. promises.of_unit its u (promises.processed l)) log)
                    ∙ front.whole
                    ∙ sym (mine_is u);
              };
          once = λ p.
              subst (λ k. k ≤ 1)
              (sym (ap (times p) (done_is w.log ∙ ap promises.processed log)))
              (every.once p);
          outputs_are = λ u.
              given_is u w.log
              ∙ ap (promises.given its u) log
              ∙ every.answers u
              ∙ ap (λ l. promises.outputs its None (promises.of_unit its u (promises.processed l))) (sym log)
              ∙ ap (promises.outputs its None) (sym (went_is u w.log))
              ∙ sym (outputs_are None (processed_of f (config_of job) (items_of job) u (inner_notes w.log)));
          completed = completed;
          laid = λ before after at.
              after_come before
              ∙ every.laid.between (read outline_note before) (read outline_note after)
              (sym log ∙ ap (read outline_note) at ∙ flat_map-append outline_note before (note.High ∷ after));
          short = subst (λ n. length cs ≤ 8 * n + 32) count ends.short;
          goes_on = goes_on ends.goes_on;
          cells = cells;
        }
      where
        count : length (early F f laws alloc job is ++ late F f laws alloc job is) ≡ length job.packets
        count = ap length (sym (numbers_split job.at job.packets)) ∙ length-map job.packets (λ p. p.number)

-- Every run keeps the promises, and a complete one those of its end.
use Rattle.nf_net.proofs.Words.{◌≡◌, ◌≢◌, ℕ, true, Ok, List, length, sym, ap, subst, ◌∙◌, Msg, Note, Choice, StopsShort, Network, IsRun, is_done, run, Node}
use Rattle.nf_net.proofs.Words.{course_of, job_of, node_step, node_ready, node_ended, AllHome, Completed, Standbys, Verdicts, Setting, start, IsCourse}
use Rattle.nf_net.proofs.Words.{world_of}
use Rattle.std.proofs.Common.{Result, Err, IfOk}
use Rattle.actor_net.specs.declared.schedule.Schedule.{Schedule}
use Rattle.actor_net.specs.declared.replays.ReplayFault.{ReplayFault}
use Rattle.actor_net.specs.declared.replays.ReplayFault.TheVariants.{NoMemory}
use Rattle.actor_net.specs.Replays.{replay_of}
use Rattle.actor_net.proofs.ReplayLaws.{replayed_ok}
use Rattle.net_world.specs.Runs.{LeadsTo, choices_of, EndsIn, StopsAt}
use Rattle.nf_net.specs.Promises.{Promises}
use Rattle.nf_net.proofs.RunWords.{arrivals_run, one_place, moves_under_way, reached}
use Rattle.nf_net.proofs.AtMembers.{at_members}
use Rattle.nf_net.proofs.ChunkMoves.{chunks_moved}
use Rattle.nf_net.proofs.CompleteRuns.{complete_run}
use Rattle.nf_net.proofs.OutputSteps.{outputs_run}
use Rattle.nf_net.proofs.answers.CommandPromises.{run_answers, no_rules, none_noted}
use Rattle.nf_net.proofs.JudgedRuns.{verdicts}
use Rattle.nf_net.proofs.paths.PathPromises.{in_place, each_in_place, came_once}
use Rattle.nf_net.proofs.ParcelCounts.{parcels_are}
use Rattle.nf_net.proofs.PlaceRuns.{places}
use Rattle.nf_net.proofs.RecordStands.{records_stand}
use Rattle.nf_net.proofs.SettleRuns.{settles}
use Rattle.nf_net.proofs.SharedHomes.{run_homes}
use Rattle.nf_net.proofs.SourceRuns.{stays_at_source}
use Rattle.nf_net.proofs.StandbyRuns.{standbys}
use Rattle.nf_net.proofs.WindowRuns.{window_kept, all_home}
use Rattle.proof_outlines.proofs.joined.RunsJoined.{in_order, once}

module _ {F R : Type 0} (setting : Setting F R) (cs : List Choice) where
  open setting use {function as f, config as c, items}

  abbrev w : Network (Node F R) Msg Note
  w = world_of setting cs

  pub every_run : IsCourse setting cs → Promises f c items w
  every_run runs =
      let here = reached setting cs runs in
      let turn = arrivals_run setting cs runs in
      let told = run_homes setting cs runs in
      record {
        in_turn = turn;
        in_order = in_order setting here.n w here.j;
        once = once setting here.n w here.j;
        in_place = in_place here turn told;
        came_once = came_once setting w turn;
        each_in_place = each_in_place here turn told;
        outputs_are = outputs_run setting cs runs;
        places = places setting cs runs;
        at_members = at_members setting cs runs;
        settles = settles setting cs runs (places setting cs runs);
        answers = run_answers setting cs runs;
        no_others = none_noted setting cs runs;
        no_rules = no_rules setting cs runs;
        at_source = stays_at_source setting cs runs;
        window = window_kept setting cs runs;
        parcels = parcels_are f c items w here.nodes (each_in_place here turn told);
        one_record = λ u i k r s. one_place setting here.n w here.nodes here.j u i k r s;
        record_stands = records_stand setting cs runs;
        chunks_moved = chunks_moved here (moves_under_way setting cs runs here.j);
      }

  pub every_end : IsCourse setting cs → is_done node_ended w ≡ true → Completed f c items w
  every_end runs done = complete_run setting cs runs done

  pub every_home : IsCourse setting cs → is_done node_ended w ≡ true → AllHome c w
  every_home runs done = all_home setting cs runs done

-- What a run from the start to a world in which nothing is left to do keeps, whoever made its choices.
module _ {F R : Type 0} (setting : Setting F R) where
  open setting use {function as f, config as c, items}

  pub record KeepsAll (w : Network (Node F R) Msg Note) : Type 0 where
    pub promises : Promises f c items w
    pub completed : Completed f c items w
    pub home : AllHome c w

  pub keeps_all : (cs : List Choice) (w : Network (Node F R) Msg Note) → LeadsTo f (start setting) cs w → is_done node_ended w ≡ true → KeepsAll w
  keeps_all cs w leads complete =
      let done : is_done node_ended (world_of setting cs) ≡ true = ap (is_done node_ended) (sym leads.reached)
      ∙ complete in
      subst KeepsAll (sym leads.reached) (record {
        promises = every_run setting cs leads.is_run;
        completed = every_end setting cs leads.is_run done;
        home = every_home setting cs leads.is_run done;
      })

-- What a schedule's run of a network from its start keeps, if it ends.
module _ {F R : Type 0} (setting : Setting F R) (schedule : Schedule) where
  open setting use {function as f, config as c, items}

  abbrev first : Network (Node F R) Msg Note
  first = start setting

  pub record Keeps (r : Network (Node F R) Msg Note × List Choice) : Type 0 where
    pub choices : r.1 ≡ choices_of f first schedule
    pub end : EndsIn f first schedule r.0
    pub promises : Promises f c items r.0
    pub verdicts : Verdicts (job_of f c items) (course_of first r.1)
    pub standbys : Standbys (job_of f c items) (course_of first r.1)
    pub completed : Completed f c items r.0
    pub home : AllHome c r.0

  -- what `run_schedule` says of its world and choices, for a world at its start
  pub record Scheduled (w : Network (Node F R) Msg Note) (r : Network (Node F R) Msg Note × List Choice) : Type 0 where
    pub choices : r.1 ≡ choices_of f w schedule
    pub world : r.0 ≡ run (node_step f) r.1 w
    pub is_run : IsRun node_ready (node_step f) r.1 w
    pub complete : is_done node_ended r.0 ≡ true

  pub keeps : (w : Network (Node F R) Msg Note) → w ≡ first → (r : Network (Node F R) Msg Note × List Choice) → Scheduled w r → Keeps r
  keeps w at_start r h =
      let runs : IsRun node_ready (node_step f) r.1 first = subst (λ v. IsRun node_ready (node_step f) r.1 v) at_start h.is_run in
      let reached : r.0 ≡ run (node_step f) r.1 first = h.world ∙ ap (run (node_step f) r.1) at_start in
      let choices : r.1 ≡ choices_of f first schedule = h.choices ∙ ap (λ v. choices_of f v schedule) at_start in
      let all = keeps_all setting r.1 r.0 (record { is_run = runs; reached = reached }) h.complete in
      record {
        choices = choices;
        end = record {
          leads = record {
            is_run = subst (λ cs. IsRun node_ready (node_step f) cs first) choices runs;
            reached = reached ∙ ap (λ cs. run (node_step f) cs first) choices;
          };
          complete = h.complete;
        };
        promises = all.promises;
        verdicts = verdicts setting r.1 runs;
        standbys = standbys setting r.1 runs;
        completed = all.completed;
        home = all.home;
      }

-- What is said of a world that is handed back: the same facts of the result.
module _ {F R : Type 0} (setting : Setting F R) (schedule : Schedule) where
  open setting use {function as f, config as c, items}

  pub record Ends {E : Type 0} (result : Result (Network (Node F R) Msg Note × List Choice) E) : Type 0 where
    pub choices : IfOk result (λ r. r.1 ≡ choices_of f (start setting) schedule)
    pub end : IfOk result (λ r. EndsIn f (start setting) schedule r.0)
    pub promises : IfOk result (λ r. Promises f c items r.0)
    pub verdicts : IfOk result (λ r. Verdicts (job_of f c items) (course_of (start setting) r.1))
    pub standbys : IfOk result (λ r. Standbys (job_of f c items) (course_of (start setting) r.1))
    pub completed : IfOk result (λ r. Completed f c items r.0)
    pub home : IfOk result (λ r. AllHome c r.0)

  pub ends : {E : Type 0} (result : Result (Network (Node F R) Msg Note × List Choice) E) (w : Network (Node F R) Msg Note)
      → w ≡ start setting → IfOk result (λ r. r.1 ≡ choices_of f w schedule) → IfOk result (λ r. r.0 ≡ run (node_step f) r.1 w)
      → IfOk result (λ r. IsRun node_ready (node_step f) r.1 w) → IfOk result (λ r. is_done node_ended r.0 ≡ true) → Ends result
  ends (Err e) w at_start a b d h = record { choices = tt; end = tt; promises = tt; verdicts = tt; standbys = tt; completed = tt; home = tt }
  ends (Ok r) w at_start a b d h =
      let k = keeps setting schedule w at_start r (record { choices = a; world = b; is_run = d; complete = h }) in
      record { choices = k.choices; end = k.end; promises = k.promises; verdicts = k.verdicts; standbys = k.standbys; completed = k.completed; home = k.home }

  pub stops : (w : Network (Node F R) Msg Note) → w ≡ start setting → (step : ℕ) → length (choices_of f w schedule) ≡ step
      → StopsShort node_ready node_ended (run (node_step f) (choices_of f w schedule) w) step → StopsAt f (start setting) schedule step
  stops w at_start step count short = subst (λ v. StopsAt f v schedule step) at_start (record { count = count; short = short })

-- the same of a replay: where it hands a world back, the choices are a run
module _ {F R : Type 0} (setting : Setting F R) (cs : List Choice) (w : Network (Node F R) Msg Note)
    (result : Result (Network (Node F R) Msg Note) ReplayFault) (at_start : w ≡ start setting)
    (h : result ≢ Err NoMemory → result ≡ replay_of node_ready (node_step setting.function) cs w) where
  open setting use {function as f, config as c, items}

  by_run : (P : Network (Node F R) Msg Note → Type 0) → (IsCourse setting cs → P (world_of setting cs)) → IfOk result P
  by_run P holds = by_result result h
    where
      by_result : (r : Result (Network (Node F R) Msg Note) ReplayFault) → (r ≢ Err NoMemory → r ≡ replay_of node_ready (node_step f) cs w) → IfOk r P
      by_result (Err e) same = tt
      by_result (Ok reached) same =
          let ok = replayed_ok node_ready (node_step f) cs w reached (sym (same (λ bad. cc))) in
          subst P (sym (ok.1 ∙ ap (run (node_step f) cs) at_start)) (holds (subst (λ v. IsRun node_ready (node_step f) cs v) at_start ok.0))

  pub replay_keeps : IfOk result (λ reached. Promises f c items reached)
  replay_keeps = by_run (λ reached. Promises f c items reached) (λ runs. every_run setting cs runs)

  pub replay_judges : IfOk result (λ reached. Verdicts (job_of f c items) (course_of w cs))
  replay_judges = by_run (λ reached. Verdicts (job_of f c items) (course_of w cs))
      (λ runs. subst (λ v. Verdicts (job_of f c items) (course_of v cs)) (sym at_start) (verdicts setting cs runs))

  pub replay_stands : IfOk result (λ reached. Standbys (job_of f c items) (course_of w cs))
  replay_stands = by_run (λ reached. Standbys (job_of f c items) (course_of w cs))
      (λ runs. subst (λ v. Standbys (job_of f c items) (course_of v cs)) (sym at_start) (standbys setting cs runs))

  -- and what its end keeps, where nothing is left to do in the world
  pub replay_completes : IfOk result (λ reached. is_done node_ended reached ≡ true → Completed f c items reached)
  replay_completes = by_run (λ reached. is_done node_ended reached ≡ true → Completed f c items reached) (λ runs. every_end setting cs runs)

  pub replay_homes : IfOk result (λ reached. is_done node_ended reached ≡ true → AllHome c reached)
  replay_homes = by_run (λ reached. is_done node_ended reached ≡ true → AllHome c reached) (λ runs. every_home setting cs runs)

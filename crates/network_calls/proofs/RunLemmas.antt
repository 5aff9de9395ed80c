-- What is known of a run of the network, in the words of its command.
use Rattle.network_calls.proofs.Words.{◌≡◌, ℕ, ◌<◌, true, List, map, length, Option, None, Some, Result, Ok, Err, refl, sym, ap, ◌∙◌, subst, arith}
use Rattle.network_calls.proofs.Words.{MatchResult, Global, Packet, Kind, FunctionLaws, Semantics, Msg, Note, NetworkAsked, Choice, Schedule, MOST_CHOICES}
use Rattle.network_calls.proofs.Words.{Network, run, Config, Node, IsInput, commands, packets, job_of, node_ended, node_step, Completed, Promises, LeadsTo}
use Rattle.network_calls.proofs.Words.{choices_of, started_with, answer_in, AuditFault, Head, by_number, output_in, report_text, Subject, subject, Made}
use Rattle.network_calls.proofs.Words.{Status, OfKind, Scenario, HasRun, IsRunOf, config_for, head_for, items_for, run_given, subject_for, audit_status, gives}
use Rattle.network_calls.proofs.Words.{packets_in, IfOk-weaker}
use Rattle.std.specs.Prelude.{IfOk}
use Rattle.actor_net.specs.Network.{is_done}
use Rattle.journal_file.proofs.HeaderReads.{journal_again}
use Rattle.net_world.specs.Jobs.{course_of}
use Rattle.run_headline.specs.nf_net.specs.Promises.{Standbys, Verdicts}
use Rattle.net_world.specs.Window.{AllHome}
use Rattle.run_headline.specs.nf_net.specs.declared.course.AuditFault.TheVariants as audit
use Rattle.run_headline.specs.run_report.specs.Audits.{IsAuditCause}
use Rattle.run_headline.specs.Text.{HasHeadline}
use Rattle.run_headline.specs.Law.{IsCompleted}
use Rattle.run_headline.proofs.ReportTexts.{reported}
use Rattle.network_calls.specs.RunSteps.{IsRefusedAs, IsRefusedRun}
use Rattle.function_kinds.proofs.FunctionLemmas.{from_kind, of_kind}
use Rattle.network_calls.proofs.LoggedNumbers.{answer_numbers, out_numbers}
use Rattle.call_files.specs.run_input.proofs.SaidCommands.{end_is_last}

-- what holds of what a run makes holds of the answer that gives it
pub made_holds : {E : Type 0} (P : Made → Type 0) (made : Made) (r : Result Made E) → P made → IfOk r (λ m. m ≡ made) → IfOk r P
made_holds P made r holds = IfOk-weaker r (λ m. m ≡ made) P (λ m same. subst P (sym same) holds)

-- what a run is of, by the items and by the capture
pub same_subject : {R : Type 0} (F : Type 0) (f : Semantics R) (s : NetworkAsked) (g : Scenario)
    → subject f (config_for s g.site g.script.routes.items) (items_for g.captured g.script) ≡ subject_for (run_given F f s g)
same_subject F f s g = ap (λ (ps : List Packet). record (subject_for (run_given F f s g)) { packets = ps }) (packets_in g.captured.packets g.script.lines.items)

module _ {R : Type 0} (F : Type 0) (f : Semantics R) (s : NetworkAsked) (g : Scenario) (alloc : Global) (config : Config) (items : List Msg) (head : Head)
    (is_config : config ≡ config_for s g.site g.script.routes.items) (is_items : items ≡ items_for g.captured g.script) where
  -- what holds of the configuration and the input holds of those of the words
  moved : (Q : Config → List Msg → Type 0) → Q config items → Q (config_for s g.site g.script.routes.items) (items_for g.captured g.script)
  moved Q holds = subst (λ (c : Config). Q c (items_for g.captured g.script)) is_config (subst (λ (l : List Msg). Q config l) is_items holds)

  abbrev at_start : Network (Node F R) Msg Note
  at_start = started_with alloc config items

  -- a run from the start to its end
  pub record Ran (choices : List Choice) (world : Network (Node F R) Msg Note) : Type 0 where
    pub leads : LeadsTo f at_start choices world
    pub complete : is_done node_ended world ≡ true
    pub promises : Promises f config items world
    pub verdicts : Verdicts {F = F} (job_of f config items) (course_of at_start choices)
    pub standbys : Standbys {F = F} (job_of f config items) (course_of at_start choices)
    pub completed : Completed f config items world
    pub home : AllHome config world
    pub few : length choices < MOST_CHOICES
    pub input : IsInput s.kind config items
    pub kind : f.kind ≡ s.kind

  -- what its report says
  said : (laws : FunctionLaws f) (made : Made) (world : Network (Node F R) Msg Note) → Ran made.choices world → head ≡ head_for s g.captured
      → made.report ≡ report_text f head s.summary world → HasHeadline (subject_for (run_given F f s g)) (head_for s g.captured) s.summary made.report
  said laws made world ran is_head report =
      let c = config_for s g.site g.script.routes.items in
      let l = items_for g.captured g.script in
      let input = moved (IsInput s.kind) ran.input in
      let leads = moved (λ c l. LeadsTo f (started_with alloc c l) made.choices world) ran.leads in
      let promises = moved (λ c l. Promises f c l world) ran.promises in
      let verdicts = moved (λ c l. Verdicts {F = F} (job_of f c l) (course_of (started_with alloc c l) made.choices)) ran.verdicts in
      let completed = moved (λ c l. Completed f c l world) ran.completed in
      let outs = out_numbers f s.kind c l input world completed in
      let answers = answer_numbers f s.kind c l input world completed (end_is_last g.captured.packets g.script.lines.items) promises in
      let is : IsCompleted F f alloc c l made.choices = record {
        is_input = subst (λ (k : Kind). IsInput k c l) (sym ran.kind) input;
        is_run = leads.is_run;
        is_ended = subst (λ (w : Network (Node F R) Msg Note). is_done node_ended w ≡ true) leads.reached ran.complete;
        promises = subst (Promises f c l) leads.reached promises;
        verdicts = verdicts;
        standbys = moved (λ c l. Standbys {F = F} (job_of f c l) (course_of (started_with alloc c l) made.choices)) ran.standbys;
        completed = subst (Completed f c l) leads.reached completed;
        outs = subst (λ (w : Network (Node F R) Msg Note). map (λ x. x.0) (by_number output_in w.log) ≡ map (λ p. p.number) (packets l)) leads.reached outs;
        answers = subst (λ (w : Network (Node F R) Msg Note). map (λ x. x.0) (by_number answer_in w.log) ≡ map (λ k. k.op) (commands l)) leads.reached answers;
      } in
      let end = run (node_step f) made.choices (started_with {F = F} {R = R} alloc c l) in
      let text : made.report ≡ report_text f (head_for s g.captured) s.summary end =
      report ∙ (λ i. report_text f (is_head i) s.summary (leads.reached i)) in
      subst (λ (v : Subject R). HasHeadline v (head_for s g.captured) s.summary made.report) (same_subject F f s g)
      (subst (HasHeadline (subject f c l) (head_for s g.captured) s.summary) (sym text)
      (reported F f laws alloc c l made.choices is (head_for s g.captured) refl s.summary))

  -- its report is made
  pub run_of : (laws : FunctionLaws f) (by : Option Schedule) (made : Made) (world : Network (Node F R) Msg Note) → Ran made.choices world
      → ((schedule : Schedule) → by ≡ Some schedule → made.choices ≡ choices_of {F = F} f at_start schedule)
      → head ≡ head_for s g.captured → made.report ≡ report_text f head s.summary world → IsRunOf (run_given F f s g) by (gives s made)
  run_of laws by made world ran scheduled is_head report = record {
    alloc = alloc;
    world = world;
    leads = moved (λ c l. LeadsTo f (started_with alloc c l) made.choices world) ran.leads;
    complete = ran.complete;
    scheduled = λ schedule same. moved (λ c l. made.choices ≡ choices_of {F = F} f (started_with alloc c l) schedule) (scheduled schedule same);
    promises = moved (λ c l. Promises f c l world) ran.promises;
    verdicts = moved (λ c l. Verdicts {F = F} (job_of f c l) (course_of (started_with alloc c l) made.choices)) ran.verdicts;
    standbys = moved (λ c l. Standbys {F = F} (job_of f c l) (course_of (started_with alloc c l) made.choices)) ran.standbys;
    completed = moved (λ c l. Completed f c l world) ran.completed;
    home = moved (λ c l. AllHome c world) ran.home;
    report = report ∙ ap (λ (h : Head). report_text f h s.summary world) is_head;
    outs = out_numbers f s.kind (config_for s g.site g.script.routes.items) (items_for g.captured g.script) (moved (IsInput s.kind) ran.input) world
        (moved (λ c l. Completed f c l world) ran.completed)
        ∙ ap (map (λ (p : Packet). p.number)) (packets_in g.captured.packets g.script.lines.items);
    answers = answer_numbers f s.kind (config_for s g.site g.script.routes.items) (items_for g.captured g.script) (moved (IsInput s.kind) ran.input) world
        (moved (λ c l. Completed f c l world) ran.completed) (end_is_last g.captured.packets g.script.lines.items)
        (moved (λ c l. Promises f c l world) ran.promises);
    headline = said laws made world ran is_head report;
    journal = refl;
    few = ran.few;
    again = (let few = ran.few in journal_again s.kind (length s.instances) made.choices (omega (arith, few)));
  }

  -- the choices are no complete run
  pub run_refused : (choices : List Choice) (e : AuditFault) → ((step : ℕ) → e ≡ audit.NotARun step → IsAuditCause {F = F} f at_start choices step)
      → IsRefusedAs (run_given F f s g) choices (audit_status e)
  run_refused choices (audit.NotARun step) cause =
      record { alloc = alloc; cause = moved (λ c l. IsAuditCause {F = F} f (started_with alloc c l) choices step) (cause step refl) }
  run_refused choices audit.NoMemory cause = tt

-- The function is that of the words.
pub told_kind : (s : NetworkAsked) (g : Scenario) (choices : List Choice) (r : Result Made Status)
    → OfKind s.kind
    (λ R F f. MatchResult r (λ made. IsRunOf (run_given F f s g) None (gives s made) × (made.choices ≡ choices)) (IsRefusedAs (run_given F f s g) choices))
    → MatchResult r (λ made. HasRun s g None (gives s made) × (made.choices ≡ choices)) (IsRefusedRun s g choices)
told_kind s g choices (Err status) holds = holds
told_kind s g choices (Ok made) holds = (
  of_kind s.kind (λ R F f. IsRunOf (run_given F f s g) None (gives s made) × (made.choices ≡ choices))
      (λ R F f. IsRunOf (run_given F f s g) None (gives s made)) (λ R F f both. both.0) holds,
  from_kind s.kind (λ R F f. IsRunOf (run_given F f s g) None (gives s made) × (made.choices ≡ choices)) (made.choices ≡ choices) (λ R F f both. both.1) holds,
)

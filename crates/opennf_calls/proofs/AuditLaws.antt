-- An audit of the journal that a run wrote, with the same words and inputs, tells a complete run and reports the same.
use Rattle.opennf_calls.proofs.Words.{◌≡◌, ℕ, Bool, true, false, List, [], Option, None, Some, Ok, length, inl, inr, ap, sym, ◌∙◌, subst, Semantics, Trace}
use Rattle.opennf_calls.proofs.Words.{Report, JournalOut, capture_of, Choice, Schedule, journal_of, NetworkAsked, Scenario, RunResults, given_script, HasRun}
use Rattle.opennf_calls.proofs.Words.{IsRunOf, head_for, run_given, first_refusal, journal_read, journal_refusal, script_refusal, trace_refusal, from_both}
use Rattle.opennf_calls.proofs.Words.{from_kind, AreSame, same_scenario}
use Rattle.std.proofs.Common.{zero, suc, ◌∷◌, take}
use Rattle.std.specs.Prelude.{slice_get}
use Rattle.std.specs.declared.alloc.Global.{Global}
use Rattle.flow_filter.specs.declared.filter.Filter.{Filter}
use Rattle.flow_filter.specs.declared.packet.Packet.{Packet}
use Rattle.flow_filter.specs.declared.site.Site.{Site}
use Rattle.nf_msgs.specs.declared.msg.Msg.{Msg}
use Rattle.nf_msgs.specs.declared.note.Note.{Note}
use Rattle.op_script.specs.declared.script.Line.{Line}
use Rattle.op_script.specs.Items.{items}
use Rattle.actor_net.specs.Network.{Network, Stepped, IsRun, is_done, is_enabled, run, world_next}
use Rattle.network_calls.specs.net_world.specs.declared.node.Node.{Node}
use Rattle.network_calls.specs.net_world.specs.Nodes.{node_ended, node_ready, node_step}
use Rattle.network_calls.specs.net_world.specs.Start.{started_with}
use Rattle.network_calls.specs.run_headline.specs.run_report.specs.Lines.{report_text}
use Rattle.opennf_calls.specs.Again.{AuditLaw}
use Rattle.network_calls.specs.NetworkRuns.{HasNoRun, IsNoRun, config_for, job_for, start_for}

-- each choice of a run is enabled in its turn
enabled_at : {A M N : Type 0} (ready : A → M → Bool) (step : A → ℕ → M → Stepped A M N) (cs : List Choice) (w : Network A M N) (i : ℕ) (c : Choice)
    → IsRun ready step cs w → slice_get cs i ≡ Some c → is_enabled ready (run step (take i cs) w) c ≡ true
enabled_at ready step [] w i c runs is = cc
enabled_at ready step (d ∷ ds) w zero c runs is = let same : d ≡ c = cc in subst (λ x. is_enabled ready w x ≡ true) same runs.0
enabled_at ready step (d ∷ ds) w (suc i) c runs is = enabled_at ready step ds (world_next step w d) i c runs.1 is

-- A function of the words, and two runs that are given the same.
module _ {R : Type 0} (F : Type 0) (f : Semantics R) (s : NetworkAsked) (g h : Scenario) (same : AreSame g h) where
  abbrev begins : Global → Site → List (Filter × ℕ) → List Packet → List Line → Network (Node F R) Msg Note
  begins a site routes packets lines = started_with a (config_for s site routes) (items packets lines)

  -- allocators are alike
  pub starts : (a b : Global) → start_for {F = F} (job_for (run_given F f s g)) a ≡ start_for (job_for (run_given F f s h)) b
  starts a b =
      ap (λ x. begins a x g.script.routes.items g.captured.packets g.script.lines.items) same.site
      ∙ ap (λ x. begins a h.site x g.captured.packets g.script.lines.items) same.routes
      ∙ ap (λ x. begins a h.site h.script.routes.items x.packets g.script.lines.items) same.captured
      ∙ ap (λ x. begins a h.site h.script.routes.items h.captured.packets x) same.lines

  module _ (by : Option Schedule) (made : RunResults) (x : IsRunOf (run_given F f s g) by made) where
    -- the end of the first is where the same choices lead in the second
    ends : (b : Global) (cs : List Choice) → cs ≡ made.choices → run (node_step f) cs (start_for {F = F} (job_for (run_given F f s h)) b) ≡ x.world
    ends b cs chose = ap (λ l. run (node_step f) l (start_for {F = F} (job_for (run_given F f s h)) b)) chose
        ∙ ap (run (node_step f) made.choices) (sym (starts x.alloc b)) ∙ sym x.leads.reached

    -- and the report of a second run with these choices is that of the first
    pub reports : (again : Option Schedule) (audited : RunResults) (y : IsRunOf (run_given F f s h) again audited) → audited.choices ≡ made.choices
        → audited.texts Report ≡ made.texts Report
    reports again audited y chose =
        y.report
        ∙ ap (λ w. report_text f (head_for s h.captured) s.summary w) (y.leads.reached ∙ ends y.alloc audited.choices chose)
        ∙ ap (λ c. report_text f (head_for s c) s.summary x.world) (sym same.captured)
        ∙ sym x.report

    no_cause : (cs : List Choice) → cs ≡ made.choices → (step : ℕ) → IsNoRun (run_given F f s h) cs step → ⊥
    no_cause cs chose step told =
        let start = start_for {F = F} (job_for (run_given F f s h)) told.alloc in
        let runs : IsRun node_ready (node_step f) cs start =
        subst (λ l. IsRun node_ready (node_step f) l start) (sym chose)
        (subst (λ w. IsRun node_ready (node_step f) made.choices w) (starts x.alloc told.alloc) x.leads.is_run) in
        elim told.cause [
          | inl refused ↦ (
              let fault = refused.fault in
              let on = enabled_at node_ready (node_step f) cs start refused.index fault.choice runs fault.there in
              let never : true ≡ false = sym on ∙ fault.refused in cc)
          | inr short ↦ (
              let done : is_done node_ended (run (node_step f) cs start) ≡ true = ap (is_done node_ended) (ends told.alloc cs chose) ∙ x.complete in
              let never : true ≡ false = sym done ∙ short.incomplete in cc)
        ]

-- The same, for the function that the words name.
module _ (s : NetworkAsked) (g h : Scenario) (same : AreSame g h) (by : Option Schedule) (made : RunResults) (ran : HasRun s g by made) where
  same_report : (audited : RunResults) → HasRun s h None audited → audited.choices ≡ made.choices → audited.texts Report ≡ made.texts Report
  same_report audited again chose =
      from_both s.kind (λ R F f. IsRunOf (run_given F f s g) by made) (λ R F f. IsRunOf (run_given F f s h) None audited)
      (audited.texts Report ≡ made.texts Report)
      (λ R F f x y. reports F f s g h same by made x None audited y chose) ran again

  still_runs : (cs : List Choice) → cs ≡ made.choices → (step : ℕ) → HasNoRun s h cs step → ⊥
  still_runs cs chose step told =
      from_both s.kind (λ R F f. IsRunOf (run_given F f s g) by made) (λ R F f. IsNoRun (run_given F f s h) cs step) ⊥
      (λ R F f x none. no_cause F f s g h same by made x cs chose step none) ran told

read_again : (s : NetworkAsked) (g : Scenario) (by : Option Schedule) (made : RunResults) → HasRun s g by made
    → journal_of s.kind (length s.instances) (made.texts JournalOut) ≡ Ok made.choices
read_again s g by made ran = from_kind s.kind (λ R F f. IsRunOf (run_given F f s g) by made)
    (journal_of s.kind (length s.instances) (made.texts JournalOut) ≡ Ok made.choices) (λ R F f x. x.again) ran

pub audit_law : AuditLaw
audit_law s bytes again by made is back =
    let told : journal_read s again ≡ Ok made.choices = ap (journal_of s.kind (length s.instances)) back.journal ∙ read_again s is.scenario by made is.holds in
    let chosen : (cs : List Choice) → journal_read s again ≡ Ok cs → cs ≡ made.choices = (λ cs read.
    let both : Ok cs ≡ Ok made.choices = sym read ∙ told in cc) in
    record {
      sound =
          ap (λ said. first_refusal (first_refusal (script_refusal said) (trace_refusal (capture_of (again Trace))))
          (journal_refusal (journal_read s again))) (ap (given_script s) back.script ∙ is.is_scenario.said)
          ∙ ap (λ read. first_refusal (trace_refusal read) (journal_refusal (journal_read s again))) (ap capture_of back.trace ∙ is.is_scenario.read)
          ∙ ap journal_refusal told;
      complete = λ step fails.
          still_runs s is.scenario fails.no_run.scenario
          (same_scenario s bytes again is.scenario fails.no_run.scenario is.is_scenario fails.no_run.is_scenario back.trace back.script) by made is.holds
          fails.choices (chosen fails.choices fails.told) step fails.no_run.holds;
      same = λ audited a.
          same_report s is.scenario a.run.scenario
          (same_scenario s bytes again is.scenario a.run.scenario is.is_scenario a.run.is_scenario back.trace back.script) by made is.holds
          audited a.run.holds (chosen audited.choices a.told);
    }

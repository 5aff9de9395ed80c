-- The run of a schedule is that of the words, the script and the capture. The schedule comes to its end.
use Rattle.network_calls.proofs.Words.{Some, ap, refl, rules, sym, ◌≡◌, ◌∙◌, subst, Kind, network_view, setting_of, short_runs, IsInput, LeadsTo}
use Rattle.network_calls.proofs.Words.{choices_of, started_with, gives, scenario_of, report_text, IsRunOf, run_given, made_with}
use Rattle.network_calls.proofs.RunLemmas.{made_holds, run_of}
use Rattle.network_calls.proofs.RunsEnd.{never_stops}
use Rattle.network_calls.proofs.network.ScheduledForFunction.call.Goals as goal

pub unreachable-requires : goal.unreachable-requires
unreachable-requires g c =
    let opening = c.in_ok-config.field-0 in
    let is = c.in_ok-config.ensures in
    let input = subst (λ (k : Kind). IsInput k opening.config opening.items.items) (sym c.requires.0) is.is_input in
    never_stops g.row.F.Denot g.F.Function.semantics g.met.F.Function.laws c.args.self.alloc opening.config opening.items.items input is.short
    c.args.self.schedule c.in-Err-Unfinished._step (c.simulate-ended.ensures.unfinished c.in-Err-Unfinished._step (search rules))

pub returns : goal.returns
returns g c =
    let f = g.F.Function.semantics in
    let opening = c.in_ok-config.field-0 in
    let is = c.in_ok-config.ensures in
    let start = started_with {F = g.row.F.Denot} {R = g.row.F-Record.Denot} c.args.self.alloc opening.config opening.items.items in
    let input = subst (λ (k : Kind). IsInput k opening.config opening.items.items) (sym c.requires.0) is.is_input in
    let leads = subst (λ cs. LeadsTo f start cs c.in-Ok.ended.0) (sym c.in-Ok.ensures.choices) c.in-Ok.ensures.end.leads in
    let s = network_view c.args.self.asked.now in
    let scenario = scenario_of c.args.self.asked.now.site c.args.self.inputs in
    let text = report_text f opening.head s.summary c.in-Ok.ended.0 in
    made_holds (λ made. IsRunOf (run_given g.row.F.Denot f s scenario) (Some c.args.self.schedule) (gives s made))
    (made_with c.in-Ok.ended.1 text) c.report_run.result
    (run_of g.row.F.Denot f s scenario c.args.self.alloc opening.config opening.items.items opening.head is.config is.items g.met.F.Function.laws
    (Some c.args.self.schedule) (made_with c.in-Ok.ended.1 text) c.in-Ok.ended.0
    (record {
      leads = leads;
      complete = c.in-Ok.ensures.end.complete;
      promises = c.in-Ok.ensures.promises;
      verdicts = c.in-Ok.ensures.verdicts;
      standbys = c.in-Ok.ensures.standbys;
      completed = c.in-Ok.ensures.completed;
      home = c.in-Ok.ensures.home;
      few = short_runs (setting_of {F = g.row.F.Denot} f g.met.F.Function.laws c.args.self.alloc opening.config opening.items.items input) is.short
          c.in-Ok.ended.1 leads.is_run;
      input = is.is_input;
      kind = c.requires.0;
    }) (λ schedule same. let by : c.args.self.schedule ≡ schedule = cc in c.in-Ok.ensures.choices ∙ ap (λ k. choices_of {F = g.row.F.Denot} f start k) by)
    is.head refl) c.report_run.ensures

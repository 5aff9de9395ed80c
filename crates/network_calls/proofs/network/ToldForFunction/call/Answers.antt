-- The run that is told is that of the words, the script and the capture.
use Rattle.network_calls.proofs.Words.{None, Err, ap, refl, subst, sym, Kind, network_view, IsInput, started_with, setting_of, short_runs, scenario_of}
use Rattle.run_headline.specs.run_report.specs.Audits.{world_after}
use Rattle.network_calls.proofs.RunLemmas.{run_of, run_refused}
use Rattle.network_calls.proofs.network.ToldForFunction.call.Goals as goal

pub returns-in-Err : goal.returns-in-Err
returns-in-Err g c =
    let opening = c.in_ok-config.field-0 in
    let is = c.in_ok-config.ensures in
    rw c.status_of.ensures
    (run_refused g.row.F.Denot g.F.Function.semantics (network_view c.args.self.asked.now) (scenario_of c.args.self.asked.now.site c.args.self.inputs)
    c.args.self.alloc opening.config opening.items.items opening.head is.config is.items
    c.args.self.choices c.in-Err.fault (λ step same. c.in-Err.ensures.not_a_run step (ap Err same)))

pub returns-in-Ok : goal.returns-in-Ok
returns-in-Ok g c =
    let opening = c.in_ok-config.field-0 in
    let is = c.in_ok-config.ensures in
    let report = c.in-Ok.ensures in
    let start = started_with {F = g.row.F.Denot} {R = g.row.F-Record.Denot} c.args.self.alloc opening.config opening.items.items in
    let input = subst (λ (k : Kind). IsInput k opening.config opening.items.items) (sym c.requires.0) is.is_input in (
      run_of g.row.F.Denot g.F.Function.semantics (network_view c.args.self.asked.now) (scenario_of c.args.self.asked.now.site c.args.self.inputs)
          c.args.self.alloc opening.config opening.items.items opening.head is.config is.items
          g.met.F.Function.laws None (record { choices = c.args.self.choices; report = c.in-Ok.report })
          (world_after g.F.Function.semantics start c.args.self.choices)
          (record {
            leads = report.run.leads;
            complete = report.run.complete;
            promises = report.promises input;
            verdicts = report.verdicts input;
            standbys = report.standbys input;
            completed = report.completed input;
            home = report.home input;
            few = short_runs
                (setting_of {F = g.row.F.Denot} g.F.Function.semantics g.met.F.Function.laws c.args.self.alloc opening.config opening.items.items input)
                is.short c.args.self.choices report.run.leads.is_run;
            input = is.is_input;
            kind = c.requires.0;
          }) (λ schedule same. cc) is.head report.text,
      refl,
    )

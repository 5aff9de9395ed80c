-- What every run keeps, and every complete one, of the run that was audited.
use Rattle.std.proofs.Common.{Result, Ok, Err, IfOk}
use Rattle.std.proofs.lemmas.Result.{IfOk-weaker}
use Rattle.net_world.specs.Start.{started_with}
use Rattle.nf_net.specs.proof_outlines.proofs.joined.Setting.{setting_of}
use Rattle.nf_net.proofs.EveryRun.{every_run, every_end, every_home}
use Rattle.nf_net.proofs.JudgedRuns.{verdicts}
use Rattle.nf_net.proofs.StandbyRuns.{standbys}
use Rattle.run_report.proofs.AuditLemmas.{complete, short, text_is}
use Rattle.run_report.proofs.auditing.audit.Goals as goal

-- what holds of the run holds whatever comes of the audit
of_any : {T E P : Type 0} (r : Result T E) → P → IfOk r (λ x. P)
of_any (Ok x) p = p
of_any (Err e) p = tt

pub returns-clause-run : goal.returns-clause-run
returns-clause-run g c =
    IfOk-weaker c.report_ended-text.result _ _ (λ t done. complete g.F.Function.semantics _ _ _ c.in_ok-world.ensures.leads done)
    c.report_ended-text.ensures.complete

pub returns-clause-text : goal.returns-clause-text
returns-clause-text g c =
    text_is g.F.Function.semantics (started_with c.args.alloc c.args.config.now c.args.items.items) c.args.choices.now c.in_ok-world.world
    c.in_ok-world.ensures.leads c.args.head.now c.args.summary c.report_ended-text.result c.report_ended-text.ensures.text

pub returns-clause-promises : goal.returns-clause-promises
returns-clause-promises g c input =
    of_any c.report_ended-text.result (every_run (setting_of _ g.met.F.Function.laws _ _ _ input) _ c.in_ok-world.ensures.leads.is_run)

pub returns-clause-verdicts : goal.returns-clause-verdicts
returns-clause-verdicts g c input =
    of_any c.report_ended-text.result (verdicts (setting_of _ g.met.F.Function.laws _ _ _ input) _ c.in_ok-world.ensures.leads.is_run)

pub returns-clause-standbys : goal.returns-clause-standbys
returns-clause-standbys g c input =
    of_any c.report_ended-text.result (standbys (setting_of _ g.met.F.Function.laws _ _ _ input) _ c.in_ok-world.ensures.leads.is_run)

pub returns-clause-completed : goal.returns-clause-completed
returns-clause-completed g c input =
    IfOk-weaker c.report_ended-text.result _ _
    (λ t done. every_end
    (setting_of {F = g.row.F.Denot} g.F.Function.semantics g.met.F.Function.laws c.args.alloc c.args.config.now c.args.items.items input) c.args.choices.now
    c.in_ok-world.ensures.leads.is_run (complete g.F.Function.semantics _ _ _ c.in_ok-world.ensures.leads done).complete) c.report_ended-text.ensures.complete

pub returns-clause-home : goal.returns-clause-home
returns-clause-home g c input =
    IfOk-weaker c.report_ended-text.result _ _
    (λ t done. every_home
    (setting_of {F = g.row.F.Denot} g.F.Function.semantics g.met.F.Function.laws c.args.alloc c.args.config.now c.args.items.items input) c.args.choices.now
    c.in_ok-world.ensures.leads.is_run (complete g.F.Function.semantics _ _ _ c.in_ok-world.ensures.leads done).complete) c.report_ended-text.ensures.complete

pub returns-clause-not_a_run : goal.returns-clause-not_a_run
returns-clause-not_a_run g c = λ step is.
    let said = c.report_ended-text.ensures.not_a_run step is in
    short g.F.Function.semantics _ c.args.choices.now _ c.in_ok-world.ensures.leads said.1 step (cc)

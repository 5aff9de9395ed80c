-- The choices are a run where the replay hands back a world, and else the fault is the first.
use Rattle.std.proofs.Common.{rules, Err, ap, ◌∙◌}
use Rattle.nf_net.proofs.CourseLemmas.{leads_to, index_below, refused}
use Rattle.nf_net.proofs.course.run_course.Goals as goal

pub overflow_add-step : goal.overflow_add-step
overflow_add-step g c =
    let below = index_below g.F.Function.semantics _ c.in_ok-start.start c.in_ok-start.ensures _ _ c.run_choices.ensures.replay c.in-Err-NotEnabled.index
    (c.in-Err-NotEnabled.is ∙ ap Err c.in-Err-NotEnabled.field-0-is) in
    search (rules, below)

pub returns-in-Ok-clause-leads : goal.returns-in-Ok-clause-leads
returns-in-Ok-clause-leads g c =
    leads_to g.F.Function.semantics _ c.in_ok-start.start c.in_ok-start.ensures c.args.choices.now _ c.run_choices.ensures.replay c.in-Ok.world c.in-Ok.is

pub returns-in-Err-NotEnabled-clause-refused : goal.returns-in-Err-NotEnabled-clause-refused
returns-in-Err-NotEnabled-clause-refused g c = λ step is.
    refused g.F.Function.semantics _ c.in_ok-start.start c.in_ok-start.ensures _ _ c.run_choices.ensures.replay c.in-Err-NotEnabled.index
    (c.in-Err-NotEnabled.is ∙ ap Err c.in-Err-NotEnabled.field-0-is) step (cc)

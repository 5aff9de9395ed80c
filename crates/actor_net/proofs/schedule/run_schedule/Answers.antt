-- What the schedule took is a run, and where the world isn't complete after it the schedule stops short.
use Rattle.std.proofs.Common.{◌∙◌, sym, subst}
use Rattle.actor_net.specs.Network.{IsRun}
use Rattle.actor_net.specs.declared.schedule.TheConstants.{MOST_CHOICES}
use Rattle.actor_net.proofs.ScheduleLaws.{scheduled_is_run, stops_short}
use Rattle.actor_net.proofs.schedule.run_schedule.Goals as goal

pub returns-then-complete-clause-run : goal.returns-then-complete-clause-run
returns-then-complete-clause-run g c =
    let ready = g.A.Actor.is_ready in
    let step = g.A.Actor.stepped in
    subst (λ cs. IsRun ready step cs c.args.world) (sym c.in_ok-choices.ensures.choices)
    (scheduled_is_run ready g.A.Actor.has_ended step MOST_CHOICES c.args.schedule c.args.world)

pub returns-else-complete-clause-unfinished : goal.returns-else-complete-clause-unfinished
returns-else-complete-clause-unfinished g c =
    let did = c.in_ok-choices.ensures in
    λ at is. stops_short g.A.Actor.is_ready g.A.Actor.has_ended g.A.Actor.stepped c.args.world c.take_scheduled.new.world c.in_ok-choices.choices _ at
    did.end did.choices did.world (sym c.complete.ensures ∙ c.if-complete.false) (cc)

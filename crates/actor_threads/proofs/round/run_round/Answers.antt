-- The round is joined to a run of the world; and where no choice was enabled, it has none.
use Rattle.std.proofs.Common.{◌++◌, sym, ◌∙◌, ap, subst}
use Rattle.actor_net.specs.Network.{IsRun, run, is_enabled}
use Rattle.actor_threads.specs.Round.{after_log}
use Rattle.actor_threads.proofs.RoundLemmas.{no_choice}
use Rattle.actor_threads.proofs.RoundsJoined.{first_joined, merged_run, merged_leads}
use Rattle.actor_threads.proofs.round.run_round.Goals as goal

pub returns : goal.returns
returns g c =
    let ready = g.A.Actor.is_ready in
    let step = g.A.Actor.stepped in
    let w = c.args.world in
    let begin = c.in_ok-stage.stage in
    let is = c.in_ok-stage.ensures ∙ ap (λ l. after_log l.items begin) (sym c.open-2.ensures.1) in
    let none = c.open-2.result in
    let round = c.in_ok-stage-2.field-0 in
    let joined = first_joined ready step w begin none round c.open-2.ensures.0 is c.in_ok-stage-2.ensures in
    let more = c.in_ok-all.ensures in
    let choices = c.in_ok-world.ensures.choices in
    let is_run = subst (λ l. IsRun ready step l w) (sym choices) (merged_run ready step w none c.in_ok-all.all round joined more) in
    record {
      run = (
        is_run,
        c.in_ok-world.ensures.world ∙ sym (merged_leads ready step w none c.in_ok-all.all round joined more)
            ∙ ap (λ l. run step l w) (sym choices),
      );
      moves = (
        λ empty choice. ap (λ v. is_enabled ready v choice) c.in_ok-stage.ensures ∙ c.in_ok-stage-2.ensures.quiet more.more more.merge
            (sym (choices ∙ more.choices ∙ ap (λ l. l ++ more.more) c.open-2.ensures.0) ∙ empty) choice,
        no_choice ready step w c.in_ok-world.choices is_run,
      );
    }

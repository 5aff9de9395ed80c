-- One more choice is read, and none is left in fewer than two bytes.
use Rattle.std.proofs.Common.{◌∙◌, ◌++◌, List, ap, sym, arith, append-nil}
use Rattle.actor_net.specs.declared.choice.Choice.{Choice}
use Rattle.journal_file.proofs.SpelledChoices.{one_choice_more, choices_in_end}
use Rattle.journal_file.proofs.choices.push_choices_in.Goals as goal

pub loop-rest-preserved : goal.loop-rest-preserved
loop-rest-preserved c =
    one_choice_more _ _ _ c.loop-rest.rest.now (omega (arith, c.loop-rest-test.true)) c.in_ok-push.ensures.ok c.loop-rest.invariant

pub returns : goal.returns
returns c =
    sym (append-nil c.loop-rest.choices)
    ∙ ap (λ (l : List Choice). c.loop-rest.choices ++ l) (sym (choices_in_end c.loop-rest.rest.now (omega (arith, c.loop-rest-test.false))))
    ∙ c.loop-rest.invariant

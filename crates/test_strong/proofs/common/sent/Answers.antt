-- A packet more is steered, and has the next number.
use Rattle.std.proofs.Common.{subst, sym, ap, ◌∙◌}
use Rattle.net_world.specs.Input.{IsSteered}
use Rattle.test_strong.proofs.Numbers.{one_more}
use Rattle.test_strong.proofs.common.sent.Goals as goal

pub loop-before-preserved : goal.loop-before-preserved
loop-before-preserved c =
    one_more c.args.site c.loop-before.packets c.push.new.self c.in_ok-captured.field-0 c.loop-before.before c.in_ok-push.ensures.ok c.loop-before.invariant
    (subst (IsSteered c.args.site) (sym c.in_ok-captured.ensures.0) c.in_ok-captured.ensures.1)
    (ap (λ p. p.number) c.in_ok-captured.ensures.0 ∙ c.outward.ensures.number)

-- There are no more choices than bytes.
use Rattle.std.proofs.Common.{arith, ap, length, sym, ◌∙◌, ◌≡◌}
use Rattle.actor_net.proofs.ChoiceCodeLemmas.{few}
use Rattle.actor_net.proofs.choices.Choices.len.Goals as goal

pub returns-clause-small : goal.returns-clause-small
returns-clause-small c =
    let most = few c.self.inside.count c.self.inside.bytes.items c.self.invariant in
    let count : length c.args.self.now ≡ c.self.inside.count = ap length (sym c.self.view_is) ∙ c.self.invariant.counted in
    omega (arith, most, count, c.self.inside.bytes.ok.0)

-- The first choice that is left, and those after it.
use Rattle.std.proofs.Common.{◌≡◌, ◌-◌, ◌∷◌, ◌∙◌, suc, length, rules, sym, ap, arith}
use Rattle.actor_net.specs.ChoiceCodes.{coded_choices}
use Rattle.actor_net.proofs.ChoiceCodeLemmas.{none_in, some_in}
use Rattle.actor_net.proofs.choices.ChoiceReaderIterator.next.Goals as goal

pub returns-in_err-choice-clause-steps : goal.returns-in_err-choice-clause-steps
returns-in_err-choice-clause-steps c =
    let empty = sym c.self.view_is ∙ none_in c.self.inside.left c.self.inside.bytes.now (sym c.in_err-choice.ensures) in
    rw (c.from_residual.ensures) (empty, empty)

pub invariant_of-self : goal.invariant_of-self
invariant_of-self c =
    let next : c.self.inside.left ≡ suc (c.self.inside.left - 1) = omega (arith, c.if-self-eq0.false) in
    let first = some_in c.self.inside.left (c.self.inside.left - 1) c.self.inside.bytes.now c.in_ok-choice.choice c.in_ok-choice.rest.now next
    (sym c.in_ok-choice.ensures) in
    let more : suc (length (coded_choices (c.self.inside.left - 1) c.in_ok-choice.rest.now)) ≡ c.self.inside.left = sym (ap length first) ∙ c.self.invariant in
    omega (arith, more)

pub returns-clause-steps : goal.returns-clause-steps
returns-clause-steps c =
    let next : c.self.inside.left ≡ suc (c.self.inside.left - 1) = omega (arith, c.if-self-eq0.false) in
    sym c.self.view_is ∙ some_in c.self.inside.left (c.self.inside.left - 1) c.self.inside.bytes.now c.in_ok-choice.choice c.in_ok-choice.rest.now next
    (sym c.in_ok-choice.ensures)

pub returns-clause-goes : goal.returns-clause-goes
returns-clause-goes c =
    let next : c.self.inside.left ≡ suc (c.self.inside.left - 1) = omega (arith, c.if-self-eq0.false) in
    let first = sym c.self.view_is ∙ some_in c.self.inside.left (c.self.inside.left - 1) c.self.inside.bytes.now c.in_ok-choice.choice
    c.in_ok-choice.rest.now next (sym c.in_ok-choice.ensures) in
    let fewer : length c.args.self.now ≡ suc (length (coded_choices (c.self.inside.left - 1) c.in_ok-choice.rest.now)) = ap length first in
    search (rules, fewer, arith)

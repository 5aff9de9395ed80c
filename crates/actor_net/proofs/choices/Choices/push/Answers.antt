-- One choice more, whose bytes come last.
use Rattle.std.proofs.Common.{◌+◌, ◌++◌, [], ◌∷◌, append-nil, refl, sym, ap, arith}
use Rattle.actor_net.specs.ChoiceCodes.{code_of}
use Rattle.actor_net.proofs.ChoiceCodeLemmas.{coded_more, few, spelled_more}
use Rattle.actor_net.proofs.choices.Choices.push.Goals as goal

pub overflow_add-self : goal.overflow_add-self
overflow_add-self c =
    let most = few c.self.inside.count c.self.inside.bytes.items c.self.invariant in
    omega (arith, most, c.self.inside.bytes.ok.0)

pub invariant_of-self-2 : goal.invariant_of-self-2
invariant_of-self-2 c =
    rw (c.in_ok-push_code.ensures.ok) (coded_more c.self.inside.count 1 c.self.inside.bytes.items (code_of c.args.choice) c.self.invariant (c.args.choice ∷ [])
    (sym (append-nil (code_of c.args.choice))) refl)

pub returns-clause-ok : goal.returns-clause-ok
returns-clause-ok c =
    rw (c.in_ok-push_code.ensures.ok, ← c.self.view_is) (spelled_more c.self.inside.count 1 c.self.inside.bytes.items (code_of c.args.choice) c.self.invariant
    (c.args.choice ∷ []) (sym (append-nil (code_of c.args.choice))) refl)

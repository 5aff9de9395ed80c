-- More choices, whose bytes come last.
use Rattle.std.proofs.Common.{◌≡◌, ◌+◌, ◌++◌, ◌∙◌, sym, ap, arith}
use Rattle.actor_net.specs.ChoiceCodes.{coded_choices}
use Rattle.actor_net.proofs.ChoiceCodeLemmas.{coded_more, few, spelled_more}
use Rattle.actor_net.proofs.choices.Choices.append.Goals as goal

pub overflow_add-self : goal.overflow_add-self
overflow_add-self c =
    let most = few c.self.inside.count c.self.inside.bytes.items c.self.invariant in
    let others = few c.more.inside.count c.more.inside.bytes.items c.more.invariant in
    omega (arith, most, others, c.self.inside.bytes.ok.0, c.more.inside.bytes.ok.0)

pub invariant_of-self-2 : goal.invariant_of-self-2
invariant_of-self-2 c =
    rw (c.in_ok-extend_from_slice.ensures.items, c.as_slice.ensures.value) (coded_more c.self.inside.count c.more.inside.count c.self.inside.bytes.items
    c.more.inside.bytes.items c.self.invariant (coded_choices c.more.inside.count c.more.inside.bytes.items) c.more.invariant.coded
    (sym c.more.invariant.counted))

pub returns-clause-ok : goal.returns-clause-ok
returns-clause-ok c =
    rw (c.in_ok-extend_from_slice.ensures.items, c.as_slice.ensures.value, ← c.self.view_is, ← c.more.view_is) (spelled_more c.self.inside.count
    c.more.inside.count c.self.inside.bytes.items c.more.inside.bytes.items c.self.invariant (coded_choices c.more.inside.count c.more.inside.bytes.items)
    c.more.invariant.coded (sym c.more.invariant.counted))

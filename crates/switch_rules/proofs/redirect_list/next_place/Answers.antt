-- The sections before the next place don't take the flow.
use Rattle.std.proofs.Common.{length, None, Some, refl, arith}
use Rattle.std.proofs.lemmas.Bool.{lt-leb}
use Rattle.switch_rules.proofs.NextPlaces.{none_before}
use Rattle.switch_rules.proofs.SectionLemmas.{passed_over}
use Rattle.switch_rules.proofs.redirect_list.next_place.Goals as goal

pub returns-in-Some-clause-same : goal.returns-in-Some-clause-same
returns-in-Some-clause-same c =
    let sections = c.args.sections.now in let spans = c.args.spans.now in
    passed_over c.args.flow c.args.target c.args.place c.in-Some.next sections c.in-Some.ensures.later
    (λ i section later within at. none_before spans sections c.args.flow c.args.target c.args.place (Some c.in-Some.next)
    c.requires c.in-Some.ensures.before i section later (lt-leb c.in-Some.next i within) at)

pub returns-in-None-clause-same : goal.returns-in-None-clause-same
returns-in-None-clause-same c =
    let sections = c.args.sections.now in let spans = c.args.spans.now in
    passed_over c.args.flow c.args.target c.args.place (length sections) sections (omega (arith, c.if-place-sections.false))
    (λ i section later within at. none_before spans sections c.args.flow c.args.target c.args.place None
    c.requires c.in-None.ensures.before i section later refl at)

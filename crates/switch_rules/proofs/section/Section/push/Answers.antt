-- The new redirect's filter says what the first one's says.
use Rattle.std.proofs.Common.{sym, subst}
use Rattle.std.specs.Prelude.{All}
use Rattle.std.proofs.lemmas.List.Elements.{All-head, All-push}
use Rattle.switch_rules.specs.Sections.{IsAlike}
use Rattle.switch_rules.proofs.SectionLemmas.{alike_flips}
use Rattle.switch_rules.proofs.section.Section.push.Goals as goal

pub invariant_of-self-2 : goal.invariant_of-self-2
invariant_of-self-2 c =
    let first = c.self.inside.first in let rest = c.self.inside.rest.items in
    subst (All (IsAlike first)) (sym c.in_ok-push.ensures.items) (All-push (IsAlike first) rest c.args.redirect c.self.invariant
    (alike_flips c.args.redirect first (All-head (IsAlike c.args.redirect) first rest (subst (All (IsAlike c.args.redirect)) (sym c.self.view_is) c.requires))))

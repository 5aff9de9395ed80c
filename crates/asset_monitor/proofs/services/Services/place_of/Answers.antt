-- What a binary search finds among services that rise.
use Rattle.std.proofs.Common.{rules}
use Rattle.std.proofs.lemmas.Fn.{always_returns_same}
use Rattle.asset_monitor.specs.Services.{end_cmp}
use Rattle.asset_monitor.specs.ServiceLemmas.{found_at, found_gap}
use Rattle.asset_monitor.proofs.services.Services.place_of.Goals as goal

pub returns-clause-listed : goal.returns-clause-listed
returns-clause-listed c =
    let facts = c.binary_search_by.ensures in
    let by_end = facts.position (λ other. end_cmp other c.args.service.now) (always_returns_same _ _ _ (λ a r f called. (search rules, search rules))) in
    rw (← c.self.view_is, ← c.deref.ensures.value)
    (found_at c.deref.result.now c.args.service.now c.binary_search_by.result (rw c.deref.ensures.value c.self.invariant) facts.bound by_end)

pub returns-clause-absent : goal.returns-clause-absent
returns-clause-absent c =
    let facts = c.binary_search_by.ensures in
    let by_end = facts.position (λ other. end_cmp other c.args.service.now) (always_returns_same _ _ _ (λ a r f called. (search rules, search rules))) in
    rw (← c.self.view_is, ← c.deref.ensures.value)
    (found_gap c.deref.result.now c.args.service.now c.binary_search_by.result (rw c.deref.ensures.value c.self.invariant) facts.bound by_end)

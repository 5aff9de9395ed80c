-- The rules so far are the routes so far.
use Rattle.std.proofs.Common.{◌≡◌, map, take}
use Rattle.switch_rules.specs.declared.target.Target.TheVariants.{Instance}
use Rattle.switch_rules.proofs.routes.opened.Given as goal

abbrev pub invariant-loop-filter : goal.invariant-loop-filter
invariant-loop-filter l = l.list.items ≡ map (λ r. (r.0, Instance r.1)) (take l.filter-index l.routes)

-- Services that rise from each to the next rise altogether.
use Rattle.std.proofs.Common.{rules}
use Rattle.std.specs.Ordering.{is_lt}
use Rattle.std.proofs.lemmas.Fn.{always_returns_same}
use Rattle.asset_monitor.specs.Services.{end_cmp}
use Rattle.asset_monitor.proofs.AdjacentServices.{rising_decided}
use Rattle.asset_monitor.proofs.body.is_rising.Goals as goal

pub returns : goal.returns
returns c =
    let cases = c.is_sorted_by.ensures.cases (λ x y. is_lt (end_cmp x y)) (always_returns_same _ _ _ (λ a r f called. (search rules, search rules))) in
    rising_decided c.args.services.now c.is_sorted_by.result cases

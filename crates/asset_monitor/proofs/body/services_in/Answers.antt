-- Each turn reads one service more.
use Rattle.std.proofs.Common.{◌≡◌, ◌<◌, length, None, Some, rules, arith, refl}
use Rattle.std.proofs.lemmas.Bool.Decides.{nat_tests}
use Rattle.nf_function.proofs.StoredFronts.{ended, not_ended}
use Rattle.nf_function.proofs.StoredItems.{none_read, one_read, all_read}
use Rattle.asset_monitor.specs.Body.{first_service}
use Rattle.asset_monitor.proofs.body.services_in.Goals as goal

pub returns-in_default : goal.returns-in_default
returns-in_default c =
    let none : first_service c.services.rest.now ≡ None = search rules in
    rw (none_read first_service c.args.count c.services.counter (c.services.services, c.services.rest.now) _ c.services-test.true none
    c.services.invariant) refl

pub services-preserved : goal.services-preserved
services-preserved c =
    let found : first_service c.services.rest.now ≡ Some (c.in-Some.service, c.in-Some.more.now) = search rules in
    rw c.in_ok-push.ensures.ok
    (one_read first_service c.args.count c.services.counter (c.services.services, c.services.rest.now) (c.in-Some.service, c.in-Some.more.now) _
    c.services-test.true found c.services.invariant)

pub returns-then-not-is_empty : goal.returns-then-not-is_empty
returns-then-not-is_empty c =
    let some : 0 < length c.services.rest.now = grind (arith, nat_tests) in
    rw (all_read first_service c.args.count c.services.counter (c.services.services, c.services.rest.now) _ c.services-test.false c.services.invariant)
    (not_ended c.services.services c.services.rest.now some)

pub returns : goal.returns
returns c =
    let none : length c.services.rest.now ≡ 0 = grind (arith, nat_tests) in
    rw (all_read first_service c.args.count c.services.counter (c.services.services, c.services.rest.now) _ c.services-test.false c.services.invariant)
    (ended c.services.services c.services.rest.now none)

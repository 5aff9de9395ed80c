-- A service in the place of the one with its end.
use Rattle.std.proofs.Common.{◌≡◌, ◌≤◌, length, set, sym, length-set}
use Rattle.asset_monitor.specs.Places.{IsAt}
use Rattle.asset_monitor.specs.Services.{services_per_host, with_service}
use Rattle.asset_monitor.specs.ServiceLemmas.{with_at, are_services-with, few_services}
use Rattle.asset_monitor.proofs.services.Services.replace.Goals as goal

pub invariant_of-self : goal.invariant_of-self
invariant_of-self c =
    let at : IsAt c.self.inside.list.items c.args.service c.args.place = rw c.self.view_is c.requires.listed in
    let is : with_service c.self.inside.list.items c.args.service ≡ set c.self.inside.list.items c.args.place c.args.service =
    with_at c.self.inside.list.items c.args.service c.args.place at in
    let size : length (with_service c.self.inside.list.items c.args.service) ≤ services_per_host =
    rw (is, length-set c.self.inside.list.items c.args.place c.args.service) (few_services c.self.inside.list.items c.self.invariant) in
    rw (← is) (are_services-with c.self.inside.list.items c.args.service c.self.invariant c.requires.valid size)

pub returns : goal.returns
returns c =
    let at : IsAt c.self.inside.list.items c.args.service c.args.place = rw c.self.view_is c.requires.listed in
    rw (← c.self.view_is) (sym (with_at c.self.inside.list.items c.args.service c.args.place at))

-- A service where none has its end.
use Rattle.std.proofs.Common.{◌≡◌, ◌≤◌, ◌<◌, length, sym, arith}
use Rattle.std.specs.List.{insert}
use Rattle.std.proofs.lemmas.List.Edits.{length-insert}
use Rattle.asset_monitor.specs.Places.{IsGap}
use Rattle.asset_monitor.specs.Services.{services_per_host, with_service}
use Rattle.asset_monitor.specs.ServiceLemmas.{with_gap, are_services-with}
use Rattle.asset_monitor.proofs.services.Services.insert.Goals as goal

pub invariant_of-self-2 : goal.invariant_of-self-2
invariant_of-self-2 c =
    let gap : IsGap c.self.inside.list.items c.args.service c.args.place = rw c.self.view_is c.requires.gap in
    let room : length c.self.inside.list.items < services_per_host = rw c.self.view_is c.requires.room in
    let is : with_service c.self.inside.list.items c.args.service ≡ insert c.self.inside.list.items c.args.place c.args.service =
    with_gap c.self.inside.list.items c.args.service c.args.place gap in
    let size : length (with_service c.self.inside.list.items c.args.service) ≤ services_per_host =
    rw (is, length-insert c.self.inside.list.items c.args.place c.args.service gap.in_range) (omega arith) in
    rw (c.in_ok-insert.ensures.items, ← is) (are_services-with c.self.inside.list.items c.args.service c.self.invariant c.requires.valid size)

pub returns-clause-ok : goal.returns-clause-ok
returns-clause-ok c =
    let gap : IsGap c.self.inside.list.items c.args.service c.args.place = rw c.self.view_is c.requires.gap in
    rw (c.in_ok-insert.ensures.items, ← c.self.view_is) (sym (with_gap c.self.inside.list.items c.args.service c.args.place gap))

-- More room marks no number.
use Rattle.std.proofs.Common.{rules, ◌≤◌, ◌+◌, length}
use Rattle.standby_failover.proofs.Marks.{room_more}
use Rattle.standby_failover.proofs.numbers.make_room.Goals as goal

pub returns-in_ok-resize-clause-same : goal.returns-in_ok-resize-clause-same
returns-in_ok-resize-clause-same c = λ q.
    let few : length c.args.marks.now.items ≤ c.args.number + 1 = search rules in
    room_more (c.args.number + 1) _ c.args.marks.now.items c.resize.new.self.items few c.in_ok-resize.ensures.items q

-- One mark is put.
use Rattle.standby_failover.proofs.Words.{ap, ◌∙◌, ◌==◌, ◌||◌}
use Rattle.standby_failover.proofs.Marks.{mark_put}
use Rattle.standby_failover.proofs.numbers.mark.Goals as goal

pub returns : goal.returns
returns c = λ q.
    mark_put c.make_room.new.marks.items c.args.number q c.in_ok-make_room.ensures.room
    ∙ ap (λ b. q == c.args.number || b) (c.in_ok-make_room.ensures.same q)

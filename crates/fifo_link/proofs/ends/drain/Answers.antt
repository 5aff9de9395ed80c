-- The holder of both rights may take, and the protocol tells it all.
use Rattle.std.proofs.Common.{arith, ap, sym, subst, length}
use Rattle.crossbeam_queue.specs.Passes.{view}
use Rattle.fifo_link.specs.Transfers.{AllDone}
use Rattle.fifo_link.proofs.KnowledgeSteps.{drains, totals, all_drained, room_left}
use Rattle.fifo_link.proofs.ends.drain.Goals as goal

pub len_as-count-requires-clause-rule : goal.len_as-count-requires-clause-rule
len_as-count-requires-clause-rule g c = totals _ _ c.requires.both.0 c.requires.both.1

pub pop_as-requires-clause-rule : goal.pop_as-requires-clause-rule
pop_as-requires-clause-rule g c = (drains _ _ c.loop.invariant.may.0 c.loop.invariant.may.1, totals _ _ c.loop.invariant.may.0 c.loop.invariant.may.1)

pub push_reserved-requires : goal.push_reserved-requires
push_reserved-requires g c =
    let first = c.len_as-count.ensures.rule.1 in
    let next = c.in-Some-pop_as.ensures.rule.1 in
    omega (
      arith,
      room_left first.0 c.loop.room.items next.0 c.in-Some-pop_as.message _ _ _ _ first.2.1 c.loop.invariant.sender c.loop.invariant.taken next.1,
      first.1,
      c.len_as-count.ensures.rule.0,
      c.loop.invariant.room,
      c.loop.room.ok.0,
    )

pub returns-in_default-clause-known : goal.returns-in_default-clause-known
returns-in_default-clause-known g c =
    let first = c.len_as-count.ensures.rule.1 in
    let last = c.in_default.ensures.rule.1 in
    let all = all_drained first.0 c.loop.room.items last.0 _ _ _ _ first.2.1 c.loop.invariant.sender c.loop.invariant.taken last.2.1 last.1 in
    subst (λ l. AllDone (view c.args.hand).sender (view c.args.hand).taker l) (sym all) first.2.0

pub returns-in_default-clause-few : goal.returns-in_default-clause-few
returns-in_default-clause-few g c =
    let first = c.len_as-count.ensures.rule.1 in
    let last = c.in_default.ensures.rule.1 in
    let all = all_drained first.0 c.loop.room.items last.0 _ _ _ _ first.2.1 c.loop.invariant.sender c.loop.invariant.taken last.2.1 last.1 in
    omega (arith, ap length all, first.1, c.len_as-count.ensures.rule.0)

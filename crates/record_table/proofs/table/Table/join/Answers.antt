-- The records that are taken in are valid, as those are that are held.
use Rattle.record_table.specs.Entries.{map_of}
use Rattle.record_table.proofs.RecordLookUps.{sound_joined}
use Rattle.record_table.proofs.table.Table.join.Goals as goal

pub invariant_of-self-then-live : goal.invariant_of-self-then-live
invariant_of-self-then-live g c = (
  rw c.in_ok-join.ensures.ok (sound_joined g.F.Function.semantics c.args.keep c.self.inside.live (map_of c.in_ok-coming.coming.items) c.self.invariant.0
      c.in_ok-coming.ensures.sound),
  c.self.invariant.1,
)

pub invariant_of-self-in_err-join-2 : goal.invariant_of-self-in_err-join-2
invariant_of-self-in_err-join-2 g c = (c.self.invariant.0, rw c.in_err-join-2.ensures.err c.self.invariant.1)

pub invariant_of-self-2 : goal.invariant_of-self-2
invariant_of-self-2 g c = (
  c.self.invariant.0,
  rw c.in_ok-join-2.ensures.ok (sound_joined g.F.Function.semantics c.args.keep c.self.inside.standby (map_of c.in_ok-coming.coming.items)
      c.self.invariant.1 c.in_ok-coming.ensures.sound),
)

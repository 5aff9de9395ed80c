-- The role's tape is the new one.
use Rattle.std.proofs.Common.{refl, arith}
use Rattle.nf_io.proofs.TapeTables.{IsPlace, there, here, elsewhere}
use Rattle.nf_io.specs.Meaning.{blank}
use Rattle.nf_io.specs.Planned.{meaning_of, plan_of, room_of, unplanned}
use Rattle.nf_io.proofs.memory.MemoryOutsideOutside.write.Goals as goal

pub returns : goal.returns
returns c =
    let place : IsPlace c.args.self.now.tapes c.place.result c.args.role = record { is = c.place.ensures.place; within = omega arith } in
    let old = here meaning_of blank c.index-self-place.result _ _ _ place in
    let plan = here plan_of unplanned c.index-self-place.result _ _ _ place in
    let room = here room_of 0 c.index-self-place.result _ _ _ place in
    record {
      bound = c.write.ensures.bound;
      moves = c.write.ensures.moves;
      bytes = rw (there meaning_of blank, old) c.write.ensures.bytes;
      cause = rw (there meaning_of blank, old) c.write.ensures.cause;
      left = rw (there meaning_of blank, old) c.write.ensures.left;
      name = rw (there meaning_of blank, old) c.write.ensures.name;
      others = elsewhere meaning_of blank _ _ _ _ place.is;
      planned = rw plan c.write.ensures.planned;
      room = rw (plan, room) c.write.ensures.room;
      takes = c.write.ensures.takes;
      plans = record { called = rw (there plan_of unplanned, plan) c.write.ensures.plan; others = elsewhere plan_of unplanned _ _ _ _ place.is; piece = refl };
    }

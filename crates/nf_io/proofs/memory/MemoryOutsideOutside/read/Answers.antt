-- The role's tape is the new one.
use Rattle.std.proofs.Common.{refl, arith}
use Rattle.nf_io.proofs.TapeTables.{IsPlace, there, here, elsewhere}
use Rattle.nf_io.specs.Meaning.{blank}
use Rattle.nf_io.specs.Planned.{meaning_of, plan_of, unplanned}
use Rattle.nf_io.proofs.memory.MemoryOutsideOutside.read.Goals as goal

pub returns : goal.returns
returns c =
    let place : IsPlace c.args.self.now.tapes c.place.result c.args.role = record { is = c.place.ensures.place; within = omega arith } in
    let old = here meaning_of blank c.index-self-place.result _ _ _ place in
    let plan = here plan_of unplanned c.index-self-place.result _ _ _ place in
    record {
      bound = c.read.ensures.bound;
      bytes = rw (there meaning_of blank, old) c.read.ensures.bytes;
      cause = rw (there meaning_of blank, old) c.read.ensures.cause;
      written = rw (there meaning_of blank, old) c.read.ensures.written;
      name = rw (there meaning_of blank, old) c.read.ensures.name;
      others = elsewhere meaning_of blank _ _ _ _ place.is;
      planned = rw plan c.read.ensures.planned;
      takes = rw old c.read.ensures.takes;
      plans = record { called = rw (there plan_of unplanned, plan) c.read.ensures.plan; others = elsewhere plan_of unplanned _ _ _ _ place.is; piece = refl };
    }

-- The role's tape is the new one.
use Rattle.std.proofs.Common.{refl, arith}
use Rattle.nf_io.proofs.TapeTables.{IsPlace, there, here, elsewhere, unchanged}
use Rattle.nf_io.specs.Meaning.{blank}
use Rattle.nf_io.specs.Roles.{role_place}
use Rattle.nf_io.specs.Planned.{meaning_of, plan_of, unplanned}
use Rattle.nf_io.proofs.memory.MemoryOutside.fail.Goals as goal

pub returns : goal.returns
returns c =
    let place : IsPlace c.args.self.now.tapes c.place.result c.args.role = record { is = c.place.ensures.place; within = omega arith } in
    let plan = here plan_of unplanned c.index-self-place.result _ _ _ place in
    record {
      ok = rw (there plan_of unplanned, plan) c.fail.ensures.ok;
      err = rw (there plan_of unplanned, plan) c.fail.ensures.err;
      others = elsewhere plan_of unplanned _ _ _ _ place.is;
      piece = refl;
      seen = λ role.
          unchanged meaning_of blank (λ m. m) c.index-self-place.result c.args.self.now.tapes c.place.result c.fail.new.self c.fail.ensures.meaning
          (role_place role);
    }

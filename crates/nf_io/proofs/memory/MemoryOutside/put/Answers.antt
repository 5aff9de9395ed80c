-- The role's tape is the new one.
use Rattle.std.proofs.Common.{refl, arith, ap}
use Rattle.nf_io.proofs.TapeTables.{IsPlace, either, there, here, elsewhere, unchanged}
use Rattle.nf_io.specs.Meaning.{blank}
use Rattle.nf_io.specs.Roles.{role_place}
use Rattle.nf_io.specs.Planned.{meaning_of, plan_of, unplanned}
use Rattle.nf_io.proofs.memory.MemoryOutside.put.Goals as goal

pub returns : goal.returns
returns c =
    let place : IsPlace c.args.self.now.tapes c.place.result c.args.role = record { is = c.place.ensures.place; within = omega arith } in
    let old = here meaning_of blank c.index-self-place.result _ _ _ place in
    record {
      ok = rw (there meaning_of blank, old) c.put.ensures.ok;
      err = rw (there meaning_of blank, old) c.put.ensures.err;
      others = elsewhere meaning_of blank _ _ _ _ place.is;
      names = λ other. unchanged meaning_of blank (λ m. m.name) _ _ _ _ (either _ (ap (λ m. m.name)) (ap (λ m. m.name)) c.put.ensures.ok c.put.ensures.err)
          (role_place other);
      plans = record { plans = λ role. unchanged plan_of unplanned (λ plan. plan) _ _ _ _ refl (role_place role); piece = refl };
    }

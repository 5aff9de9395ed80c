-- The role's tape is the new one.
use Rattle.std.proofs.Common.{refl, arith, ap}
use Rattle.nf_io.proofs.TapeTables.{IsPlace, either, there, here, elsewhere, unchanged}
use Rattle.nf_io.specs.Meaning.{blank, bytes_of}
use Rattle.nf_io.specs.Roles.{role_place}
use Rattle.nf_io.specs.Planned.{meaning_of, plan_of, unplanned}
use Rattle.nf_io.proofs.memory.MemoryOutsideOutside.bind.Goals as goal

pub returns-clause-ok : goal.returns-clause-ok
returns-clause-ok c =
    let place : IsPlace c.args.self.now.tapes c.place.result c.args.role = record { is = c.place.ensures.place; within = omega arith } in
    rw (there meaning_of blank, here meaning_of blank c.index-self-place.result _ _ _ place) c.bind.ensures.ok

pub returns-clause-err : goal.returns-clause-err
returns-clause-err c =
    let place : IsPlace c.args.self.now.tapes c.place.result c.args.role = record { is = c.place.ensures.place; within = omega arith } in
    rw (there meaning_of blank, here meaning_of blank c.index-self-place.result _ _ _ place) c.bind.ensures.err

pub returns-clause-others : goal.returns-clause-others
returns-clause-others c = elsewhere meaning_of blank _ _ _ _ c.place.ensures.place

pub returns-clause-shown : goal.returns-clause-shown
returns-clause-shown c = λ other file.
    unchanged meaning_of blank bytes_of _ _ _ _ (either _ (ap bytes_of) (ap bytes_of) c.bind.ensures.ok c.bind.ensures.err) (role_place other)

pub returns-clause-plans : goal.returns-clause-plans
returns-clause-plans c = record { plans = λ role. unchanged plan_of unplanned (λ plan. plan) _ _ _ _ refl (role_place role); piece = refl }

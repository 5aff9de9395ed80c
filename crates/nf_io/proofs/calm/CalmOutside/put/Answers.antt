-- The role's tape is the new one.
use Rattle.std.proofs.Common.{refl, arith, ap}
use Rattle.nf_io.proofs.TapeTables.{IsPlace, either, there, here, elsewhere, unchanged}
use Rattle.std.proofs.lemmas.Result.{on_ok_weaker, on_err_weaker}
use Rattle.nf_io.specs.Meaning.{blank}
use Rattle.nf_io.specs.Roles.{role_place}
use Rattle.nf_io.specs.Calm.{calm}
use Rattle.nf_io.specs.Tapes.{meaning_on}
use Rattle.nf_io.proofs.calm.CalmOutside.put.Goals as goal

pub returns : goal.returns
returns c =
    let place : IsPlace c.args.self.now.tapes c.place.result c.args.role = record { is = c.place.ensures.place; within = omega arith } in
    let old = here meaning_on blank c.index-self-place.result _ _ _ place in
    record {
      ok = rw (there meaning_on blank, old) (on_ok_weaker c.put.result (ap (calm c.args.role)) c.put.ensures.ok);
      err = rw (there meaning_on blank, old) (on_err_weaker c.put.result (ap (calm c.args.role)) c.put.ensures.err);
      others = λ other ne. ap (calm other) (elsewhere meaning_on blank _ _ _ _ place.is other ne);
      names = λ other. unchanged meaning_on blank (λ m. m.name) _ _ _ _ (either _ (ap (λ m. m.name)) (ap (λ m. m.name)) c.put.ensures.ok c.put.ensures.err)
          (role_place other);
      piece = refl;
    }

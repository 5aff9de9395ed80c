-- The role's tape is the new one.
use Rattle.std.proofs.Common.{refl, arith, ap}
use Rattle.nf_io.proofs.TapeTables.{IsPlace, there, here, elsewhere, front_appended, same_left, same_name}
use Rattle.std.proofs.lemmas.Result.{IfOk-weaker}
use Rattle.nf_io.specs.Meaning.{blank}
use Rattle.nf_io.specs.Calm.{calm}
use Rattle.nf_io.specs.Tapes.{meaning_on, room_on}
use Rattle.nf_io.proofs.calm.CalmOutsideOutside.write.Goals as goal

pub returns : goal.returns
returns c =
    let place : IsPlace c.args.self.now.tapes c.place.result c.args.role = record { is = c.place.ensures.place; within = omega arith } in
    let old = here meaning_on blank c.index-self-place.result _ _ _ place in
    record {
      bound = IfOk-weaker c.write.result _ _ (λ n e. omega arith) c.write.ensures.count;
      moves = λ some. IfOk-weaker c.write.result _ _ (λ n e. omega arith) c.write.ensures.count;
      bytes = rw (there meaning_on blank, old) (front_appended _ _ c.args.bytes.now c.write.result c.write.ensures.ok c.write.ensures.err);
      cause = rw (there meaning_on blank, old, c.requires.written) c.write.ensures.cause;
      left = rw (there meaning_on blank, old) (same_left _ _ c.args.bytes.now c.write.result c.write.ensures.ok c.write.ensures.err);
      name = rw (there meaning_on blank, old) (same_name _ _ c.args.bytes.now c.write.result c.write.ensures.ok c.write.ensures.err);
      others = λ other ne. ap (calm other) (elsewhere meaning_on blank _ _ _ _ place.is other ne);
      room = rw (here room_on 0 c.index-self-place.result _ _ _ place) c.write.ensures.room;
      calm = rw (there meaning_on blank, old, c.requires.written) (IfOk-weaker c.write.result _ _ (λ n e. ap (λ m. m.faults) e) c.write.ensures.ok);
      takes = c.write.ensures.count;
      piece = refl;
    }

-- The role's tape is the new one.
use Rattle.std.proofs.Common.{refl, sym, arith, ap}
use Rattle.nf_io.proofs.TapeTables.{IsPlace, there, here, elsewhere, ended}
use Rattle.std.proofs.lemmas.List.{length-take-le}
use Rattle.nf_io.specs.Meaning.{blank}
use Rattle.nf_io.specs.Calm.{calm}
use Rattle.nf_io.specs.Tapes.{meaning_on}
use Rattle.nf_io.proofs.calm.CalmOutsideOutside.read.Goals as goal

pub returns : goal.returns
returns c =
    let place : IsPlace c.args.self.now.tapes c.place.result c.args.role = record { is = c.place.ensures.place; within = omega arith } in
    let old = here meaning_on blank c.index-self-place.result _ _ _ place in
    record {
      bound = (omega arith, sym (length-take-le _ _ (omega arith)));
      bytes = rw (there meaning_on blank, old) (c.read.ensures.bytes, λ none some. ended _ _ _ c.read.ensures.bytes (omega arith));
      cause = rw c.requires.read (record { later = omega arith; failed = tt });
      written = rw (there meaning_on blank, old) (ap (λ m. m.written) c.read.ensures.same);
      name = rw (there meaning_on blank, old) (ap (λ m. m.name) c.read.ensures.same);
      others = λ other ne. ap (calm other) (elsewhere meaning_on blank _ _ _ _ place.is other ne);
      calm = refl;
      takes = rw old (λ left e. cc);
      piece = refl;
    }

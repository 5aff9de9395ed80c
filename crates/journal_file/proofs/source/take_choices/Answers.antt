-- Each whole piece makes the choices that were taken more; one that isn't whole is the last.
use Rattle.std.proofs.Common.{◌∙◌, ◌++◌, ◌*◌, ℕ, List, refl, ap, arith, length, drop}
use Rattle.std.proofs.lemmas.Result.{err_from_is_err_and}
use Rattle.nf_io.proofs.TransferLemmas.{StaysOpen-trans}
use Rattle.journal_file.specs.Reading.{choices_in}
use Rattle.journal_file.proofs.TakenPieces.{nothing_taken, taken_more, taken_short, piece_fault}
use Rattle.journal_file.proofs.source.take_choices.Goals as goal

pub loop-done-init : goal.loop-done-init
loop-done-init g c = record {
  within = omega arith;
  taken = λ bytes told. nothing_taken bytes _ _ c.open-choices.ensures told;
  later = omega arith;
  stays = record { still_open = c.requires.open; same_loan = refl; same_rest = refl };
}

pub returns-in_err-piece-clause-value : goal.returns-in_err-piece-clause-value
returns-in_err-piece-clause-value g c = λ bytes told.
    let before = c.loop-done.invariant.taken bytes told in
    let p = err_from_is_err_and c.from_residual.result c.from_residual.ensures.1 in
    rw (p.1, p.2) (piece_fault c.args.count (2 * c.min-wanted.result) bytes (drop (2 * c.loop-done.done) bytes) _ _
    (c.in_err-piece.ensures.value _ before.rest))

pub returns-then-items-wanted-clause-value : goal.returns-then-items-wanted-clause-value
returns-then-items-wanted-clause-value g c = λ bytes told.
    let before = c.loop-done.invariant.taken bytes told in
    taken_short c.loop-done.done c.min-wanted.result c.args.count bytes _ _ (omega (arith, c.loop-done-test.true, c.min-wanted.ensures)) before.there
    (c.in_ok-piece.ensures.value _ before.rest) (omega (arith, c.if-items-wanted.true, ap length c.items.ensures))

pub loop-done-preserved : goal.loop-done-preserved
loop-done-preserved g c = record {
  within = omega (arith, c.loop-done-test.true, c.min-wanted.ensures);
  taken = λ bytes told.
      let before = c.loop-done.invariant.taken bytes told in
      taken_more c.loop-done.done c.min-wanted.result bytes _ _ _ _ _ before (c.in_ok-piece.ensures.value _ before.rest)
      (omega (arith, c.if-items-wanted.false, ap length c.items.ensures))
      (c.in_ok-push_choices_in.ensures ∙ ap (λ (l : List ℕ). c.loop-done.choices ++ choices_in l) c.items-in-loop-done.ensures);
  later = omega (arith, c.loop-done.invariant.later, c.in_ok-piece.ensures.cause.later);
  stays = StaysOpen-trans _ _ _ _ _ c.loop-done.invariant.stays c.in_ok-piece.ensures.stays;
}

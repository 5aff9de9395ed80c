-- The answer is that of the bytes left, by the parts that were taken of them.
use Rattle.std.proofs.Common.{◌∙◌, Ok, Err, ap, arith, length}
use Rattle.std.proofs.lemmas.Bool.Decides.{nat_tests}
use Rattle.std.proofs.lemmas.Result.{err_from_is_err_and}
use Rattle.journal_file.specs.declared.fault.JournalFault.{JournalFault}
use Rattle.journal_file.specs.declared.fault.JournalFault.TheVariants as fault
use Rattle.journal_file.proofs.TakenPieces.{count_read, header_fault, body_gives, choices_fault, byte_more, ended, other_fault}
use Rattle.journal_file.proofs.source.read_journal_from.Goals as goal

pub returns-in_err-count-clause-value : goal.returns-in_err-count-clause-value
returns-in_err-count-clause-value g c = λ bytes told.
    let head = c.in_ok-header.ensures.value bytes told in
    let is = count_read c.args.kind c.args.instances bytes _ _ _ c.items.ensures head.0 c.in_err-count.ensures.value in
    let p = err_from_is_err_and c.from_residual-in_err-count.result c.from_residual-in_err-count.ensures.1 in
    rw (p.1, p.2) (header_fault c.args.kind c.args.instances bytes _ _ is head.1)

pub returns-in_err-count-clause-cause : goal.returns-in_err-count-clause-cause
returns-in_err-count-clause-cause g c =
    let p = err_from_is_err_and c.from_residual-in_err-count.result c.from_residual-in_err-count.ensures.1 in
    record {
      later = omega (arith, c.in_ok-header.ensures.cause.later);
      read = λ h. absurd (other_fault c.from_residual-in_err-count.result c.in_err-count.field-0.0 (p.1 ∙ ap (λ (e : JournalFault). Err e) p.2)
          c.in_err-count.ensures.bytes h);
    }

pub returns-in_err-choices-clause-value : goal.returns-in_err-choices-clause-value
returns-in_err-choices-clause-value g c = λ bytes told.
    let head = c.in_ok-header.ensures.value bytes told in
    let is = count_read c.args.kind c.args.instances bytes _ _ _ c.items.ensures head.0 c.in_ok-count.ensures.value in
    let p = err_from_is_err_and c.from_residual-in_err-choices.result c.from_residual-in_err-choices.ensures.1 in
    rw (p.1, p.2) (body_gives c.args.kind c.args.instances c.in_ok-count.count bytes (g.S.Source.left c.take_choices.new.source)
    (Err c.in_err-choices.field-0.0) is
    (choices_fault c.in_ok-count.count bytes _ _ (c.in_err-choices.ensures.value _ head.1)))

pub returns-then-not-is_empty-clause-value : goal.returns-then-not-is_empty-clause-value
returns-then-not-is_empty-clause-value g c = λ bytes told.
    let head = c.in_ok-header.ensures.value bytes told in
    let is = count_read c.args.kind c.args.instances bytes _ _ _ c.items.ensures head.0 c.in_ok-count.ensures.value in
    let taken = c.in_ok-choices.ensures.value _ head.1 in
    body_gives c.args.kind c.args.instances c.in_ok-count.count bytes (g.S.Source.left c.first_bytes-2.new.source) (Err fault.Extra) is
    (byte_more c.in_ok-count.count bytes _ _ _ _ taken (c.in_ok-first_bytes.ensures.value _ taken.2)
    (grind (arith, nat_tests, c.is_empty.ensures, c.if-not-is_empty.true, ap length c.items-3.ensures)))

pub returns-clause-value : goal.returns-clause-value
returns-clause-value g c = λ bytes told.
    let head = c.in_ok-header.ensures.value bytes told in
    let is = count_read c.args.kind c.args.instances bytes _ _ _ c.items.ensures head.0 c.in_ok-count.ensures.value in
    let taken = c.in_ok-choices.ensures.value _ head.1 in
    body_gives c.args.kind c.args.instances c.in_ok-count.count bytes (g.S.Source.left c.first_bytes-2.new.source) (Ok c.in_ok-choices.choices) is
    (ended c.in_ok-count.count bytes _ _ _ _ taken (c.in_ok-first_bytes.ensures.value _ taken.2)
    (grind (arith, nat_tests, c.is_empty.ensures, c.if-not-is_empty.false, ap length c.items-3.ensures)))

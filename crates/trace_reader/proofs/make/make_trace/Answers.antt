-- The header and then each piece are written, or a part of one of them.
use Rattle.std.proofs.Common.{arith, rules, ◌≤◌, ◌+◌, ℕ, List, subst}
use Rattle.std.proofs.lemmas.Result.{err_from_is_err_and}
use Rattle.std.specs.Io.KnownBytes.{Appends}
use Rattle.nf_io.specs.Meaning.{AppendsFront}
use Rattle.nf_io.proofs.TransferLemmas.{StaysOpen-trans}
use Rattle.trace_reader.proofs.MadeSoFar.{made_header, made_piece, made_front, header_front, piece_next, made_all}
use Rattle.trace_reader.proofs.make.make_trace.Goals as goal

pub returns-in_err-write_all-clause-bytes : goal.returns-in_err-write_all-clause-bytes
returns-in_err-write_all-clause-bytes g c =
    let failed = err_from_is_err_and c.from_residual-in_err-write_all.result c.from_residual-in_err-write_all.ensures.1 in
    let wrote = subst (λ (bytes : List ℕ). AppendsFront (g.S.Sink.written c.args.sink.now) (g.S.Sink.written c.write_all.new.sink) bytes)
    c.file_header.ensures c.in_err-write_all.ensures.bytes in
    rw (failed.1, failed.2) (header_front c.args.number c.args.packets c.args.hosts _ _ wrote)

pub loop-made-init : goal.loop-made-init
loop-made-init g c = record {
  within = omega arith;
  so_far = made_header c.args.number c.args.packets c.args.hosts c.seed_from_u64-words.result _ _ c.seed_from_u64-words.ensures.same
      (subst (λ (bytes : List ℕ). Appends (g.S.Sink.written c.args.sink.now) (g.S.Sink.written c.write_all.new.sink) bytes) c.file_header.ensures
      c.in_ok-write_all.ensures.bytes);
  later = search rules;
  stays = search rules;
}

pub returns-in_err-write_all-2-clause-bytes : goal.returns-in_err-write_all-2-clause-bytes
returns-in_err-write_all-2-clause-bytes g c =
    let failed = err_from_is_err_and c.from_residual-in_err-write_all-2.result c.from_residual-in_err-write_all-2.ensures.1 in
    let within : c.loop-made.made + c.min-count.result ≤ c.args.packets = search rules in
    let next = piece_next c.args.packets c.args.hosts c.loop-made.made c.min-count.result _ c.loop-made.words c.fill.new.words within c.fill.ensures in
    let wrote = subst (λ (bytes : List ℕ). AppendsFront (g.S.Sink.written c.loop-made.sink) (g.S.Sink.written c.write_all-in-loop-made.new.sink) bytes)
    c.bytes.ensures c.in_err-write_all-2.ensures.bytes in
    rw (failed.1, failed.2) (made_front _ _ _ _ _ _ _ c.loop-made.invariant.so_far next wrote)

pub loop-made-preserved : goal.loop-made-preserved
loop-made-preserved g c =
    let within : c.loop-made.made + c.min-count.result ≤ c.args.packets = search rules in
    let next = piece_next c.args.packets c.args.hosts c.loop-made.made c.min-count.result _ c.loop-made.words c.fill.new.words within c.fill.ensures in
    record {
      within = within;
      so_far = made_piece _ _ _ _ _ _ _ c.loop-made.invariant.so_far next
          (subst (λ (bytes : List ℕ). Appends (g.S.Sink.written c.loop-made.sink) (g.S.Sink.written c.write_all-in-loop-made.new.sink) bytes)
          c.bytes.ensures c.in_ok-write_all-2.ensures.bytes);
      later = omega (arith, c.loop-made.invariant.later, c.write_all-in-loop-made.ensures.cause.later);
      stays = StaysOpen-trans _ _ _ _ _ c.loop-made.invariant.stays c.write_all-in-loop-made.ensures.stays;
    }

pub returns-clause-bytes : goal.returns-clause-bytes
returns-clause-bytes g c =
    made_all (_) c.args.packets c.args.hosts c.loop-made.made c.loop-made.words _ _ (omega (arith, c.loop-made-test.false)) c.loop-made.invariant.so_far

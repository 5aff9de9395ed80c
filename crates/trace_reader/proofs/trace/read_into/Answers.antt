-- The keeper has the packets read so far.
use Rattle.std.proofs.Common.{◌≡◌, ◌∙◌, ap, false, true, arith, rules, drop}
use Rattle.std.proofs.lemmas.Result.{err_from_is_err_and}
use Rattle.nf_io.proofs.TransferLemmas.{StaysOpen-trans}
use Rattle.trace_reader.specs.declared.reader.TraceReader.{TraceReader}
use Rattle.trace_reader.specs.Answers.{reading_of, HandsOn}
use Rattle.trace_reader.proofs.KeeperSoFar.{start_fault, read_start, read_unread, read_packet, read_skipped, read_end, read_fault}
use Rattle.trace_reader.proofs.trace.read_into.Goals as goal

pub returns-in_err-reader-clause-trace : goal.returns-in_err-reader-clause-trace
returns-in_err-reader-clause-trace g c = λ bytes told.
    let p = err_from_is_err_and c.from_residual.result c.from_residual.ensures.1 in
    rw (p.1, p.2) (start_fault (HandsOn g.K.Keeper.HasKept c.args.keeper.now c.args.keeper.now) bytes (drop 24 bytes) (g.S.Source.left c.open.new.source)
    (g.S.Source.left c.open.new.source) _ (c.in_err-reader.ensures.form bytes told))

pub records-init : goal.records-init
records-init g c = record {
  running = c.in_ok-reader.ensures.start.2;
  few = search rules;
  read = read_start g.K.Keeper.HasKept _ c.in_ok-reader.reader _ _ c.in_ok-reader.ensures.form c.in_ok-reader.ensures.start.0 c.in_ok-reader.ensures.start.1;
  later = omega (arith, c.in_ok-reader.ensures.cause.later);
  stays = c.in_ok-reader.ensures.stays;
}

pub records-preserved-in-Continue-branch-2 : goal.records-preserved-in-Continue-branch-2
records-preserved-in-Continue-branch-2 g c = record {
  running = c.next_bare.ensures.stop ∙ c.records.invariant.running;
  few = omega (arith, c.in-Some.ensures.advances.0, c.records.invariant.few);
  read = read_packet g.K.Keeper.HasKept _ _ _ _ (reading_of c.next_bare.new.self (g.S.Source.left c.next_bare.new.source)) _ c.records.invariant.read _
      c.in-Some.bare c.in-Some.ensures.answers c.in-Some.ensures.advances c.next_bare.ensures.form c.in_ok-keep-in-Some.ensures;
  later = omega (arith, c.records.invariant.later, c.next_bare.ensures.later);
  stays = StaysOpen-trans _ _ _ _ _ c.records.invariant.stays c.next_bare.ensures.stays;
}

pub returns-in_err-packet-in-None-clause-trace : goal.returns-in_err-packet-in-None-clause-trace
returns-in_err-packet-in-None-clause-trace g c = λ bytes told.
    let p = err_from_is_err_and c.from_residual-in_err-packet-in-None.result c.from_residual-in_err-packet-in-None.ensures.1 in
    let so_far = read_unread g.K.Keeper.HasKept _ _ _ _ _ _ _ _ c.in-None.ensures.unread (ap g.S.Source.left c.in-None.ensures.untouched)
    c.records.invariant.read in
    rw (p.1, p.2) (read_fault g.K.Keeper.HasKept _ _ _ _ (reading_of c.next.new.self (g.S.Source.left c.next.new.source)) _ so_far bytes told
    (g.S.Source.left c.next.new.source) _ (c.in_err-packet-in-None.ensures.answers (c.next_bare.ensures.stop ∙ c.records.invariant.running)))

pub records-preserved-in-Continue-branch-5 : goal.records-preserved-in-Continue-branch-5
records-preserved-in-Continue-branch-5 g c =
    let running = c.next_bare.ensures.stop ∙ c.records.invariant.running in
    let so_far = read_unread g.K.Keeper.HasKept _ _ _ _ _ _ _ _ c.in-None.ensures.unread (ap g.S.Source.left c.in-None.ensures.untouched)
    c.records.invariant.read in
    let answers = rw c.in-Packet.is at (c.in_ok-packet-in-None.ensures.answers running) in
    let moves = rw c.in-Packet.is at (c.in_ok-packet-in-None.ensures.advances running) in
    let place_is : c.next_bare.new.self.place ≡ c.records.reader.place = ap (λ (r : TraceReader). r.place) c.in-None.ensures.unread in
    record {
      running = rw c.in-Packet.is at c.in_ok-packet-in-None.ensures.stop;
      few = omega (arith, moves.0, place_is, c.records.invariant.few);
      read = read_packet g.K.Keeper.HasKept _ _ _ _ (reading_of c.next.new.self (g.S.Source.left c.next.new.source)) _ so_far _
          c.in-Packet.packet answers moves c.in_ok-packet-in-None.ensures.form c.in_ok-keep-in-Packet.ensures;
      later = omega (arith, c.records.invariant.later, c.next_bare.ensures.later, c.in_ok-packet-in-None.ensures.later);
      stays = StaysOpen-trans _ _ _ _ _ (StaysOpen-trans _ _ _ _ _ c.records.invariant.stays c.next_bare.ensures.stays) c.in_ok-packet-in-None.ensures.stays;
    }

pub records-preserved : goal.records-preserved
records-preserved g c =
    let running = c.next_bare.ensures.stop ∙ c.records.invariant.running in
    let so_far = read_unread g.K.Keeper.HasKept _ _ _ _ _ _ _ _ c.in-None.ensures.unread (ap g.S.Source.left c.in-None.ensures.untouched)
    c.records.invariant.read in
    let answers = rw c.in-Skipped.is at (c.in_ok-packet-in-None.ensures.answers running) in
    let moves = rw c.in-Skipped.is at (c.in_ok-packet-in-None.ensures.advances running) in
    let place_is : c.next_bare.new.self.place ≡ c.records.reader.place = ap (λ (r : TraceReader). r.place) c.in-None.ensures.unread in
    record {
      running = rw c.in-Skipped.is at c.in_ok-packet-in-None.ensures.stop;
      few = omega (arith, moves.0, place_is, c.records.invariant.few);
      read = read_skipped g.K.Keeper.HasKept _ _ _ _ (reading_of c.next.new.self (g.S.Source.left c.next.new.source)) _ so_far
          answers moves c.in_ok-packet-in-None.ensures.form;
      later = omega (arith, c.records.invariant.later, c.next_bare.ensures.later, c.in_ok-packet-in-None.ensures.later);
      stays = StaysOpen-trans _ _ _ _ _ (StaysOpen-trans _ _ _ _ _ c.records.invariant.stays c.next_bare.ensures.stays) c.in_ok-packet-in-None.ensures.stays;
    }

pub returns-in-End-clause-trace : goal.returns-in-End-clause-trace
returns-in-End-clause-trace g c = λ bytes told.
    let running = c.next_bare.ensures.stop ∙ c.records.invariant.running in
    let so_far = read_unread g.K.Keeper.HasKept _ _ _ _ _ _ _ _ c.in-None.ensures.unread (ap g.S.Source.left c.in-None.ensures.untouched)
    c.records.invariant.read in
    let answers = rw c.in-End.is at (c.in_ok-packet-in-None.ensures.answers running) in
    let moves = rw c.in-End.is at (c.in_ok-packet-in-None.ensures.advances running) in
    rw (c.packets.ensures.value, moves.1)
    (read_end g.K.Keeper.HasKept _ _ _ _ (reading_of c.next.new.self (g.S.Source.left c.next.new.source)) _ so_far bytes told false answers)

pub returns-in-Cut-clause-trace : goal.returns-in-Cut-clause-trace
returns-in-Cut-clause-trace g c = λ bytes told.
    let running = c.next_bare.ensures.stop ∙ c.records.invariant.running in
    let so_far = read_unread g.K.Keeper.HasKept _ _ _ _ _ _ _ _ c.in-None.ensures.unread (ap g.S.Source.left c.in-None.ensures.untouched)
    c.records.invariant.read in
    let answers = rw c.in-Cut.is at (c.in_ok-packet-in-None.ensures.answers running) in
    let moves = rw c.in-Cut.is at (c.in_ok-packet-in-None.ensures.advances running) in
    rw (c.packets-in-Cut.ensures.value, moves.1)
    (read_end g.K.Keeper.HasKept _ _ _ _ (reading_of c.next.new.self (g.S.Source.left c.next.new.source)) _ so_far bytes told true answers)

-- A packet is counted after it was looked at.
use Rattle.std.proofs.Common.{refl}
use Rattle.asset_monitor.specs.RowLemmas.{watched_in, watched_out}
use Rattle.asset_monitor.specs.Outputs.{counted}
use Rattle.asset_monitor.proofs.table.watch.Goals as goal
use Rattle.asset_monitor.proofs.table.watch.Goals.{in-Out+in_ok-output-in-Out, in-In}

pub returns-clause-kept : goal.returns-clause-kept
returns-clause-kept c = elim c.match-direction.branch [
  | in-Out+in_ok-output-in-Out w ↦
      rw (
        c.count_packet.ensures,
        w.kept-is,
        w.in_ok-output-in-Out.ensures.kept,
        w.in-Out.is,
        watched_out c.args.kept.now c.args.packet.now c.requires.transport,
        c.requires.source,
      ) refl
  | in-In w ↦ rw (c.count_packet.ensures, w.kept-is, w.in-In.is, watched_in (counted c.args.kept.now) c.args.packet.now) refl
]

pub returns-clause-output : goal.returns-clause-output
returns-clause-output c = elim c.match-direction.branch [
  | in-Out+in_ok-output-in-Out w ↦
      rw (
        w.output-is,
        w.in_ok-output-in-Out.ensures.output,
        w.in-Out.is,
        watched_out c.args.kept.now c.args.packet.now c.requires.transport,
        c.requires.source,
      ) refl
  | in-In w ↦ rw (w.output-is, w.output-output.ensures, w.in-In.is, watched_in (counted c.args.kept.now) c.args.packet.now) refl
]

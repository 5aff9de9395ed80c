-- What is known of a packet's source decides its row.
use Rattle.std.proofs.Common.{refl}
use Rattle.asset_monitor.specs.RowLemmas.{sent_new, sent_unannounced, sent_bare, sent_greeted}
use Rattle.asset_monitor.proofs.table.watch_sent.Goals as goal

pub returns-then-announces-clause-kept : goal.returns-then-announces-clause-kept
returns-then-announces-clause-kept c =
    rw (sent_new c.args.kept.now c.args.packet.now c.args.service c.requires.source c.in-Err.place c.in-Err.ensures.absent c.if-announces.ensures)
    c.list.ensures.kept

pub returns-then-announces-clause-output : goal.returns-then-announces-clause-output
returns-then-announces-clause-output c =
    rw (sent_new c.args.kept.now c.args.packet.now c.args.service c.requires.source c.in-Err.place c.in-Err.ensures.absent c.if-announces.ensures)
    c.list.ensures.output

pub returns-else-announces-clause-kept : goal.returns-else-announces-clause-kept
returns-else-announces-clause-kept c =
    rw (sent_unannounced c.args.kept.now c.args.packet.now c.args.service c.requires.source c.in-Err.place c.in-Err.ensures.absent c.if-announces.ensures) refl

pub returns-else-announces-clause-output : goal.returns-else-announces-clause-output
returns-else-announces-clause-output c =
    rw (sent_unannounced c.args.kept.now c.args.packet.now c.args.service c.requires.source c.in-Err.place c.in-Err.ensures.absent c.if-announces.ensures)
    c.output.ensures

pub returns-then-is_unseen-clause-kept : goal.returns-then-is_unseen-clause-kept
returns-then-is_unseen-clause-kept c =
    rw (
      c.set_banner.ensures.kept,
      c.greeting.ensures,
      sent_bare c.args.kept.now c.args.packet.now c.args.service c.requires.source c.in-Ok.place c.items.result.now c.items.ensures.value _
          c.in-Ok.ensures.listed c.if-is_unseen.ensures,
    ) refl

pub returns-then-is_unseen-clause-output : goal.returns-then-is_unseen-clause-output
returns-then-is_unseen-clause-output c =
    rw (
      c.set_banner.ensures.output,
      c.greeting.ensures,
      sent_bare c.args.kept.now c.args.packet.now c.args.service c.requires.source c.in-Ok.place c.items.result.now c.items.ensures.value _
          c.in-Ok.ensures.listed c.if-is_unseen.ensures,
    ) refl

pub returns-else-is_unseen-clause-kept : goal.returns-else-is_unseen-clause-kept
returns-else-is_unseen-clause-kept c =
    rw (sent_greeted c.args.kept.now c.args.packet.now c.args.service c.requires.source c.in-Ok.place c.items.result.now c.items.ensures.value _
    c.in-Ok.ensures.listed c.if-is_unseen.ensures)
    refl

pub returns-else-is_unseen-clause-output : goal.returns-else-is_unseen-clause-output
returns-else-is_unseen-clause-output c =
    rw (sent_greeted c.args.kept.now c.args.packet.now c.args.service c.requires.source c.in-Ok.place c.items.result.now c.items.ensures.value _
    c.in-Ok.ensures.listed c.if-is_unseen.ensures)
    c.output-else-is_unseen.ensures

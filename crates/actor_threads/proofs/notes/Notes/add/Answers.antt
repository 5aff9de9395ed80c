-- One more step's notes are put after the others, and cut off by their count.
use Rattle.std.proofs.Common.{◌≡◌, length, arith, ap, length-append}
use Rattle.actor_threads.proofs.NotesByCounts.{by_counts-snoc}
use Rattle.actor_threads.proofs.notes.Notes.add.Goals as goal

pub returns-clause-list : goal.returns-clause-list
returns-clause-list g c = let e : c.in-Ok.count ≡ length c.args.out.now.1 = grind (
  arith,
  simp length-append at (ap length c.in_ok-move_notes.ensures.log),
  c.in-Ok.ensures.1,
  c.len.ensures,
  c.len-before.ensures,
  c.move_notes.new.log.ok.0,
  c.self.inside.all.ok.0,
) in
    rw (c.in_default-push.ensures.ok, c.in_ok-move_notes.ensures.log, ← c.self.view_is) (by_counts-snoc _ _ _ _ c.self.invariant e)

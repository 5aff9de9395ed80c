-- Steps between code and definition, which nobody has to believe: how the fields of a way are seen. This project's own.
use Rattle.std.specs.Prelude.{◌++◌}
use Rattle.actor_threads.specs.Ways.{Incoming, Outgoing, unpacked, with_stamp_0}
use Rattle.actor_threads.specs.declared.ways.WayIn.TheInside as way_in
use Rattle.actor_threads.specs.declared.ways.WayOut.TheInside as way_out

module _ {M : Type 0} where
  -- what is left of a batch is kept after what was kept before
  abbrev pub incoming : way_in.Inside M → Incoming M
  incoming s = record { link = s.end.link; done = unpacked s.end.done; kept = with_stamp_0 s.kept ++ s.batch }

  abbrev pub outgoing : way_out.Inside M → Outgoing M
  outgoing s = record { link = s.end.link; all = unpacked s.end.done ++ s.waiting.items }

-- Steps between code and definition, which nobody has to believe: how an end's fields are seen as an `End`, and what always holds of them.
-- This project's own.
use Rattle.std.specs.Prelude.{◌≡◌, ◌≤◌, true, [], vec_capacity}
use Rattle.std.specs.Arc.{arc_value}
use Rattle.crossbeam_queue.specs.Passes.{view, IsPassOf, ruled_capacity}
use Rattle.fifo_link.specs.Ends.{End}
use Rattle.fifo_link.specs.Transfers.{sent_in, taken_in}
use Rattle.fifo_link.specs.declared.ends.SendEnd.TheInside as sender
use Rattle.fifo_link.specs.declared.ends.TakeEnd.TheInside as taker

module _ {M : Type 0} where
  -- a send end
  abbrev pub send_view : sender.Inside M → End M
  send_view s =
      record { link = s.hand.table_id; capacity = ruled_capacity (arc_value s.line); done = sent_in (view s.hand).sender; known = (view s.hand).sender }

  -- it holds the right to send on its link
  abbrev pub SendHolds : sender.Inside M → Type 0
  SendHolds s = IsPassOf (arc_value s.line) s.hand × ((view s.hand).sends ≡ true)

  -- a take end
  abbrev pub take_view : taker.Inside M → End M
  take_view t =
      record { link = t.hand.table_id; capacity = ruled_capacity (arc_value t.line); done = taken_in (view t.hand).taker; known = (view t.hand).taker }

  -- it holds the right to take on its link, and room for all that can be left at the end
  abbrev pub TakeHolds : taker.Inside M → Type 0
  TakeHolds t =
      IsPassOf (arc_value t.line) t.hand × ((view t.hand).takes ≡ true) × (t.room.items ≡ []) × (ruled_capacity (arc_value t.line) ≤ vec_capacity t.room)

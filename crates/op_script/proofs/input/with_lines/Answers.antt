-- All packets stand in their places or are late, each after the lines at its point; or no line stands before the last of them.
use Rattle.op_script.proofs.Words.{rules, ◌++◌, ◌∙◌, List, ap, length, sym, Msg}
use Rattle.std.proofs.lemmas.List.{length-set, take_rest}
use Rattle.op_script.proofs.LinesByPoint.{still_short, ahead_next, said_first}
use Rattle.op_script.proofs.ItemsSoFar.{all_written, late_more, so_far_start}
use Rattle.op_script.proofs.PacketLists.{all_after}
use Rattle.op_script.proofs.input.with_lines.Goals as goal

pub returns-then-stand_after : goal.returns-then-stand_after
returns-then-stand_after c =
    all_after c.args.packets c.args.lines.now c.items-count.result.now c.into_items.result.items c.stand_after.result c.items-count.ensures.items
    c.into_items.ensures c.stand_after.ensures c.if-stand_after.true

pub returns : goal.returns
returns c =
    all_written (record { packets = c.args.packets; lines = c.args.lines.now }) c.loop-place.place c.loop-place.out.items c.loop-place.late.items
    c.append.new.self.items (search rules) (c.in_ok-append.ensures.items ∙ ap (λ (l : List Msg). c.loop-place.out.items ++ l) c.into_vec.ensures.items)
    c.loop-place.invariant.so_far

pub loop-place-init : goal.loop-place-init
loop-place-init c = record {
  many = ap (λ (l : List Msg). length l) (c.into_items-out.ensures ∙ sym c.items-count.ensures.items);
  short = search rules;
  ahead = search rules;
  so_far = so_far_start (record { packets = c.args.packets; lines = c.args.lines.now }) c.into_items-out.result.items c.new-late.result.items
      c.into_items-out.ensures c.new-late.ensures.items;
}

pub loop-place-preserved : goal.loop-place-preserved
loop-place-preserved c = let rest = c.loop-place.rest.now in let here = c.count_at-here.result in let lines = c.args.lines.now in record {
  many = length-set c.loop-place.out.items c.loop-place.place c.put_late.new.item ∙ c.loop-place.invariant.many;
  short = still_short here rest _ c.loop-place.invariant.short (take_rest rest here);
  ahead = ahead_next (λ line. line.now) c.loop-place.place here rest _ lines c.loop-place.invariant.ahead c.count_at-here.ensures.count (take_rest rest here);
  so_far = late_more (record { packets = c.args.packets; lines = lines }) c.loop-place.place c.loop-place.out.items c.loop-place.late.items _
      c.push_lines.new.late.items c.put_late.new.late.items c.index_mut.result.now c.put_late.new.item (search rules)
      (said_first (λ line. line.now) c.loop-place.place here rest lines c.loop-place.invariant.ahead c.count_at-here.ensures.count)
      c.in_ok-push_lines.ensures c.put_late.ensures c.index_mut.ensures.value c.loop-place.invariant.so_far;
}

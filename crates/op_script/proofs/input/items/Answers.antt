-- The packets and the lines before them, then the lines that are left, and the end.
use Rattle.op_script.proofs.Words.{◌≡◌, ◌∙◌, List, ap, length, subst, length-map, Msg, InPacket, Line, items}
use Rattle.op_script.proofs.ItemsSoFar.{all_items}
use Rattle.op_script.proofs.input.items.Goals as goal

pub returns-clause-items : goal.returns-clause-items
returns-clause-items c =
    subst (λ (ls : List Line). c.push.new.self.items ≡ items c.args.packets ls) c.as_slice-lines.ensures.value
    (all_items c.args.packets c.as_slice-lines.result.now (length c.items.result.now) c.in_ok-out.out.items c.push_from.new.out.items c.push.new.self.items
    (ap (λ (l : List Msg). length l) c.items.ensures.items ∙ length-map c.args.packets InPacket) c.in_ok-out.ensures c.in_ok-push_from.ensures
    c.in_ok-push.ensures.items)

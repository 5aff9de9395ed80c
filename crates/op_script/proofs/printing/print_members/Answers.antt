-- The first member, and then the others, each after a comma.
use Rattle.op_script.proofs.WrittenTexts.{members_cases}
use Rattle.op_script.proofs.printing.print_members.Goals as goal

pub returns-in_ok-push_bytes-in-len1-up : goal.returns-in_ok-push_bytes-in-len1-up
returns-in_ok-push_bytes-in-len1-up c = members_cases c.print_more.result _ c.push_bytes.new.self _ c.first-item.result c.items.result.now c.args.members.now
    c.in-len1-up.len_at_least c.first-item.is c.items.ensures.bytes c.in_ok-push_bytes-in-len1-up.ensures.ok c.print_more.ensures

-- One name more, after a comma.
use Rattle.std.proofs.Common.{◌∙◌, ◌++◌, ap}
use Rattle.op_script.proofs.WrittenTexts.{names_more}
use Rattle.op_script.proofs.printing.print_more.Goals as goal

pub loop-name-preserved : goal.loop-name-preserved
loop-name-preserved c = names_more _ _ _ _ c.args.names.now c.loop-name.name-index c.name-item.result c.loop-name-test.true c.name-item.is
    c.loop-name.invariant c.in_ok-push_bytes.ensures.ok (c.in_ok-push_bytes-2.ensures.ok ∙ ap (λ t. c.push_bytes.new.self ++ t) c.items.ensures.bytes)

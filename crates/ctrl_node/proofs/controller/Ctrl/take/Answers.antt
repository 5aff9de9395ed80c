-- A message without a number of an operation leaves the controller as it is.
use Rattle.std.proofs.Common.{◌≡◌, rules, None, ap, ◌∙◌}
use Rattle.nf_msgs.specs.MessageParts.{op_of}
use Rattle.ctrl_node.specs.Controller.{numbered}
use Rattle.ctrl_node.proofs.OtherMessages.{other_row}
use Rattle.ctrl_node.proofs.controller.Ctrl.take.Goals as goal

pub returns-in_default-op : goal.returns-in_default-op
returns-in_default-op c =
    let no = c.in_default in
    let none : op_of c.args.message ≡ None = cc in
    let same = other_row c.args.self.now c.args.port c.args.message no.not-Asked no.not-Diverted no.not-End no.not-Event no.not-Final
    ∙ ap (numbered c.args.self.now c.args.port c.args.message) none in
    rw same (search rules)

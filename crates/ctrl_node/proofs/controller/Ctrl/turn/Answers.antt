-- An operation that answers is closed, but for one that lasts.
use Rattle.std.proofs.Common.{◌≡◌, ◌++◌, sym, subst, ◌∙◌}
use Rattle.std.proofs.lemmas.Result.{on_ok_weaker}
use Rattle.std.specs.Prelude.{OnOk}
use Rattle.std.specs.FinMap as finite
use Rattle.ctrl_node.specs.Operations.{turn_of}
use Rattle.ctrl_node.specs.Controller.{takes_turn}
use Rattle.ctrl_node.proofs.EndedTurns.{node_of, sends_of}
use Rattle.ctrl_node.proofs.controller.Ctrl.turn.Goals as goal

pub returns-clause-node : goal.returns-clause-node
returns-clause-node c =
    let done = c.in_ok-answer.ensures in
    subst (λ t. OnOk c.answer.result
    (c.close.new.self ≡ (takes_turn t c.args.op (turn_of (finite.get t.operations c.args.op) t.store c.args.port c.args.message)).node)) c.self.view_is
    (on_ok_weaker c.answer.result (λ _. node_of _ c.close.new.self c.args.op c.args.port c.args.message c.in-Some.answer c.on.new.self c.on.new.store
    done.operations done.store (sym done.answer ∙ c.in-Some.is) c.close.ensures) c.answer.ensures.sends)

pub returns-clause-sends : goal.returns-clause-sends
returns-clause-sends c =
    let done = c.in_ok-answer.ensures in
    subst (λ t. OnOk c.answer.result (c.answer.new.out.0
    ≡ c.args.out.now.0 ++ (takes_turn t c.args.op (turn_of (finite.get t.operations c.args.op) t.store c.args.port c.args.message)).sends)) c.self.view_is
    (on_ok_weaker c.answer.result (sends_of _ c.args.op c.args.port c.args.message c.in-Some.answer c.args.out.now.0 c.on.new.out.0 c.answer.new.out.0
    (sym done.answer ∙ c.in-Some.is) done.sends) c.answer.ensures.sends)

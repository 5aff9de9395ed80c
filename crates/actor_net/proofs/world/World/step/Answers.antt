-- What a step made of the fields is what the definition says.
use Rattle.std.proofs.Common.{arith, Result, Ok, Err, OnOk}
use Rattle.std.proofs.lemmas.Grind.{common_steps}
use Rattle.actor_net.proofs.WorldStepLemmas.{made_after}
use Rattle.actor_net.proofs.world.World.step.Goals as goal

-- what follows from a clause on a result that is handed on
handed_on : {T E P Q : Type 0} (result : Result T E) → OnOk result P → (P → Q) → OnOk result Q
handed_on (Ok _) is then = then is
handed_on (Err _) is then = is

pub returns : goal.returns
returns g c =
    let did = c.in-Ok.ensures in
    handed_on c.deliver.result c.deliver.ensures.links (λ links. rw (← c.self.view_is) (λ node is. made_after g.A.Actor.stepped
    (record { nodes = c.self.inside.nodes.items; links = c.self.inside.links.lists; input = c.self.inside.input; log = c.self.inside.outbox.1 })
    c.args.choice.node c.args.choice.port c.args.message c.index_mut-node.result.now node c.step.new.self c.deliver.new.links.lists c.deliver.new.outbox.1
    c.index_mut-node.ensures.value is did.node (grind (arith, common_steps)) (grind (arith, common_steps))))

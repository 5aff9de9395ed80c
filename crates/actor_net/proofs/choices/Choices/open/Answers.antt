-- No bytes are no choices.
use Rattle.std.proofs.Common.{[], refl}
use Rattle.actor_net.proofs.ChoiceCodeLemmas.{are_coded, spelled}
use Rattle.actor_net.proofs.choices.Choices.open.Goals as goal

pub invariant_of-result : goal.invariant_of-result
invariant_of-result c = are_coded 0 _ [] c.new.ensures.items refl

pub returns : goal.returns
returns c = spelled 0 _ [] c.new.ensures.items refl

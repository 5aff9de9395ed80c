-- The bytes that are left are those of the first choices.
use Rattle.std.proofs.Common.{◌≡◌, ◌∙◌, List, length, take, sym, ap, arith}
use Rattle.std.specs.List.{flat_map}
use Rattle.std.proofs.lemmas.List.{length-take-le}
use Rattle.actor_net.specs.declared.choice.Choice.{Choice}
use Rattle.actor_net.specs.ChoiceCodes.{coded_choices, code_of}
use Rattle.actor_net.proofs.ChoiceCodeLemmas.{are_coded, spelled}
use Rattle.actor_net.proofs.choices.Choices.truncate.Goals as goal

pub invariant_of-self : goal.invariant_of-self
invariant_of-self c =
    let all : List Choice = coded_choices c.self.inside.count c.self.inside.bytes.items in
    let left : c.truncate.new.self.items ≡ flat_map code_of (take c.args.count all) = c.truncate.ensures.items
    ∙ ap (λ b. take c.front_size-size.result b) (sym c.as_slice.ensures.value)
    ∙ c.front_size-size.ensures all (c.as_slice.ensures.value ∙ c.self.invariant.coded) in
    let size = length-take-le c.args.count all (omega (arith, c.if-count-self.false, c.self.invariant.counted)) in
    are_coded c.args.count _ (take c.args.count all) left (sym size)

pub returns : goal.returns
returns c =
    let all : List Choice = coded_choices c.self.inside.count c.self.inside.bytes.items in
    let left : c.truncate.new.self.items ≡ flat_map code_of (take c.args.count all) = c.truncate.ensures.items
    ∙ ap (λ b. take c.front_size-size.result b) (sym c.as_slice.ensures.value)
    ∙ c.front_size-size.ensures all (c.as_slice.ensures.value ∙ c.self.invariant.coded) in
    let size = length-take-le c.args.count all (omega (arith, c.if-count-self.false, c.self.invariant.counted)) in
    spelled c.args.count _ (take c.args.count all) left (sym size) ∙ ap (λ l. take c.args.count l) c.self.view_is

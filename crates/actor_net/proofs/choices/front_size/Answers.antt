-- One choice fewer is left with each step, and what is left stands after the first ones.
use Rattle.std.proofs.Common.{◌≡◌, ◌+◌, ◌∙◌, drop, ap, arith}
use Rattle.std.specs.List.{flat_map}
use Rattle.std.proofs.lemmas.List.{drop-drop}
use Rattle.actor_net.specs.ChoiceCodes.{code_of}
use Rattle.actor_net.proofs.ChoiceCodeLemmas.{front_bytes}
use Rattle.actor_net.proofs.choices.front_size.Goals as goal

pub loop-preserved : goal.loop-preserved
loop-preserved c = record {
  shorter = omega (arith, c.after_first-rest.ensures.shorter, c.loop.invariant.shorter);
  left = λ cs is. c.after_first-rest.ensures.after (drop c.loop.counter cs) (c.loop.invariant.left cs is)
      ∙ ap (λ l. flat_map code_of l) (drop-drop 1 c.loop.counter cs);
}

pub returns : goal.returns
returns c = λ cs is.
    let whole : c.loop.counter ≡ c.args.count = omega (arith, c.loop-test.false, c.loop.auto.counter-end) in
    front_bytes c.args.bytes.now c.loop.rest.now cs c.args.count is (c.loop.invariant.left cs is
    ∙ ap (λ n. flat_map code_of (drop n cs)) whole)

-- The sorted steps stand in order, and those that tie as they stood.
use Rattle.std.proofs.Common.{rules}
use Rattle.std.proofs.lemmas.List.Sorted.{answers_always}
use Rattle.actor_net.specs.Merging.{key_of}
use Rattle.actor_net.proofs.histories.merge_sorted.Goals as goal

pub returns : goal.returns
returns c = record {
  steps = c.sort_by_key.new.self.items;
  sorted = c.in_ok-sort_by_key.ensures.sorted key_of (answers_always _ _ _ (λ f a r f' q. search rules));
  stable = rw (← c.in_ok-steps.ensures) (c.in_ok-sort_by_key.ensures.stable key_of (answers_always _ _ _ (λ f a r f' q. search rules)));
  taken = search rules;
}

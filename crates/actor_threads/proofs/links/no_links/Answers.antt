-- One more row without ends.
use Rattle.std.proofs.Common.{◌≡◌, ◌+◌, ◌<◌, sym, ◌∙◌, ap, subst, arith, length, map, length-append}
use Rattle.actor_threads.specs.LinkTable.{row_at}
use Rattle.actor_threads.proofs.LinkTableLemmas.{none_more}
use Rattle.actor_threads.proofs.links.no_links.Goals as goal

pub loop-preserved : goal.loop-preserved
loop-preserved g c = record {
  count = ap length c.in_ok-push.ensures.items ∙ length-append _ _ ∙ ap (λ n. n + 1) c.loop.invariant.count;
  none = λ r h. ap (λ l. row_at (map (λ v. v.items) l) r) c.in_ok-push.ensures.items
      ∙ none_more (λ v. v.items) _ _ _ c.loop.invariant.count c.loop.invariant.none c.in_ok-with_capacity.ensures.items r h;
}

pub returns : goal.returns
returns g c =
    let done : c.loop.counter ≡ c.args.nodes = omega arith in
    record { count = c.loop.invariant.count ∙ done; none = λ r h. c.loop.invariant.none r (subst (λ n. r < n) (sym done) h) }

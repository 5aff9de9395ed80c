-- One more rule, and what the groups of all rules answer.
use Rattle.std.proofs.Common.{subst, take}
use Rattle.std.proofs.lemmas.List.{take_all}
use Rattle.switch_rules.specs.Rules.{AreFilters}
use Rattle.switch_rules.specs.Groups.{AreGroups}
use Rattle.switch_rules.proofs.FilterLists.{AreFilters-more}
use Rattle.switch_rules.proofs.GroupLemmas.{AreGroups-more}
use Rattle.switch_rules.proofs.FirstMatches.{answer-first}
use Rattle.switch_rules.proofs.classifier.Classifier.build.Goals as goal

pub loop-place-preserved : goal.loop-place-preserved
loop-place-preserved c = record {
  groups = AreGroups-more c.args.rules.now c.loop-place.place c.index-rules-place.result c.add.new.self c.loop-place-test.true c.index-rules-place.is
      (λ counted. c.in_ok-add.ensures.groups (take c.loop-place.place c.args.rules.now) counted c.loop-place.invariant.groups);
  filters = AreFilters-more c.args.rules.now c.loop-place.place c.index-rules-place.result c.loop-place-test.true c.index-rules-place.is
      c.loop-place.invariant.filters c.in_ok-add.ensures.filter;
}

pub returns-clause-filters : goal.returns-clause-filters
returns-clause-filters c = subst AreFilters (take_all c.loop-place.place c.args.rules.now c.loop-place-test.false) c.loop-place.invariant.filters

pub returns-clause-first : goal.returns-clause-first
returns-clause-first c = answer-first c.args.rules.now c.loop-place.classifier
    (subst (λ rules. AreGroups rules c.loop-place.classifier) (take_all c.loop-place.place c.args.rules.now c.loop-place-test.false)
    c.loop-place.invariant.groups)

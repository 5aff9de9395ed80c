-- The groups so far are those of the rules so far.
use Rattle.std.proofs.Common.{take}
use Rattle.switch_rules.specs.Rules.{AreFilters}
use Rattle.switch_rules.specs.Groups.{AreGroups}
use Rattle.switch_rules.proofs.classifier.Classifier.build.Given as goal

abbrev pub invariant-loop-place : goal.invariant-loop-place
invariant-loop-place l = record {
  groups : AreGroups (take l.place l.rules) l.classifier;
  filters : AreFilters (take l.place l.rules);
}

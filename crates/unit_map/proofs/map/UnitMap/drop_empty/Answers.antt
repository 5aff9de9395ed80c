-- The entries that stay are those that the index says.
use Rattle.std.proofs.Common.{ap, ◌∙◌}
use Rattle.unit_map.specs.Entries.{record_of}
use Rattle.unit_map.proofs.map.UnitMap.drop_empty.Goals as goal

pub invariant_of-self : goal.invariant_of-self
invariant_of-self g c = c.renew.ensures.sound

pub returns : goal.returns
returns g c = record {
  same = λ k. c.renew.ensures.same k ∙ ap (λ es. record_of g.K.PartialEq.eq es k) c.self.view_is;
  map = c.renew.ensures.sound.map;
}

-- The key's record is what stood at its place, and nothing stands there afterwards.
use Rattle.std.proofs.Common.{sym, ◌∙◌, ap}
use Rattle.std.specs.Prelude.{cond}
use Rattle.unit_map.specs.Entries.{record_of}
use Rattle.unit_map.proofs.EntryLemmas.{record_at_place, record_with_record, map_with_record}
use Rattle.unit_map.proofs.map.UnitMap.take.Goals as goal

pub returns-clause-was : goal.returns-clause-was
returns-clause-was g c =
    c.take.ensures.value ∙ c.record_mut.ensures.value
    ∙ sym (record_at_place g.K.PartialEq.eq g.met.K.Eq.laws c.args.key.now c.args.self.now c.in_ok-place.place c.record_mut.ensures.map.distinct
    c.in_ok-place.ensures.found)

pub returns-clause-gone : goal.returns-clause-gone
returns-clause-gone g c k =
    record_with_record g.K.PartialEq.eq g.met.K.Eq.laws k c.args.self.now c.in_ok-place.place c.args.key.now c.take.new.self
    c.record_mut.ensures.map.distinct c.in_ok-place.ensures.found
    ∙ ap (λ w. cond (g.K.PartialEq.eq c.args.key.now k) w (record_of g.K.PartialEq.eq c.args.self.now k)) c.take.ensures.after

pub returns-clause-map : goal.returns-clause-map
returns-clause-map g c = map_with_record g.K.PartialEq.eq g.met.K.Eq.laws c.args.self.now c.in_ok-place.place c.take.new.self c.record_mut.ensures.map

-- The key's record is what stood at its place, and the new one stands there afterwards.
use Rattle.std.proofs.Common.{sym, ◌∙◌, ap, Some}
use Rattle.std.specs.Prelude.{cond}
use Rattle.unit_map.specs.Entries.{record_of}
use Rattle.unit_map.proofs.EntryLemmas.{record_at_place, record_with_record, map_with_record}
use Rattle.unit_map.proofs.map.UnitMap.insert.Goals as goal

pub returns-clause-was : goal.returns-clause-was
returns-clause-was g c =
    c.replace.ensures.value ∙ c.record_mut.ensures.value
    ∙ sym (record_at_place g.K.PartialEq.eq g.met.K.Eq.laws c.args.key c.place.new.self c.in_ok-place.place c.record_mut.ensures.map.distinct
    c.in_ok-place.ensures.found)
    ∙ c.place.ensures.same c.args.key

pub returns-clause-updates : goal.returns-clause-updates
returns-clause-updates g c k =
    record_with_record g.K.PartialEq.eq g.met.K.Eq.laws k c.place.new.self c.in_ok-place.place c.args.key c.replace.new.self
    c.record_mut.ensures.map.distinct c.in_ok-place.ensures.found
    ∙ ap (λ w. cond (g.K.PartialEq.eq c.args.key k) w (record_of g.K.PartialEq.eq c.place.new.self k)) c.replace.ensures.after
    ∙ ap (λ r. cond (g.K.PartialEq.eq c.args.key k) (Some c.args.value) r) (c.place.ensures.same k)

pub returns-clause-map : goal.returns-clause-map
returns-clause-map g c = map_with_record g.K.PartialEq.eq g.met.K.Eq.laws c.place.new.self c.in_ok-place.place c.replace.new.self c.record_mut.ensures.map

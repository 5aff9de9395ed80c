-- What stands at the key's place is its record.
use Rattle.std.proofs.Common.{sym, ◌∙◌, ◌≡◌, ◌<◌, length, true}
use Rattle.unit_map.specs.Entries.{is_place_of}
use Rattle.unit_map.proofs.EntryLemmas.{record_at_place, record_read}
use Rattle.unit_map.proofs.map.UnitMap.get.Goals as goal

pub returns : goal.returns
returns g c =
    let es = c.self.inside.entries.items in
    let place = c.in_ok-place.place in
    let found : is_place_of g.K.PartialEq.eq es place c.args.key.now ≡ true = rw c.self.view_is c.in_ok-place.ensures.found in
    let within : place < length es = rw c.self.view_is c.in_ok-place.ensures.within in
    rw (← c.self.view_is) (c.as_ref.ensures.value ∙ sym (record_read g.K.PartialEq.eq g.met.K.Eq.laws es place _ within c.index.ensures)
    ∙ sym (record_at_place g.K.PartialEq.eq g.met.K.Eq.laws c.args.key.now es place c.self.invariant.map.distinct found))

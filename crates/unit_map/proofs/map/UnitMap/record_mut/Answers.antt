-- A record that is written leaves all keys as they are.
use Rattle.std.proofs.Common.{refl, sym, ◌<◌, length}
use Rattle.unit_map.proofs.EntryLemmas.{map_with_record, keys_with_record, record_read, written}
use Rattle.unit_map.proofs.map.UnitMap.record_mut.Goals as goal

pub invariant_of-self-lent : goal.invariant_of-self-lent
invariant_of-self-lent g c w =
    let es = c.self.inside.entries.items in
    let within : c.args.place < length es = rw c.self.view_is c.requires in
    rw (written g.K.PartialEq.eq g.met.K.Eq.laws es c.args.place _ w within c.index_mut-entry.ensures.value) record {
      map = map_with_record g.K.PartialEq.eq g.met.K.Eq.laws es c.args.place w c.self.invariant.map;
      noted = rw (keys_with_record g.K.PartialEq.eq g.met.K.Eq.laws es c.args.place w) c.self.invariant.noted;
    }

pub returns : goal.returns
returns g c =
    let es = c.self.inside.entries.items in
    let within : c.args.place < length es = rw c.self.view_is c.requires in (
      (refl, λ w. rw (← c.self.view_is) (written g.K.PartialEq.eq g.met.K.Eq.laws es c.args.place _ w within c.index_mut-entry.ensures.value)),
      record {
        writes_back = tt;
        value = rw (← c.self.view_is) (sym (record_read g.K.PartialEq.eq g.met.K.Eq.laws es c.args.place _ within c.index_mut-entry.ensures.value));
        map = rw (← c.self.view_is) c.self.invariant.map;
      },
    )

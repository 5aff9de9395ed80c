-- The entries that stay are those with a record, which the new index notes.
use Rattle.std.proofs.Common.{rules, arith, ◌≡◌, length, filter, sym, ap}
use Rattle.std.proofs.lemmas.List.Elements.{filter_from_retain}
use Rattle.std.proofs.lemmas.Map.Made.{IsDistinct-keys_filter}
use Rattle.unit_map.specs.Entries.{has_record}
use Rattle.unit_map.proofs.EntryLemmas.{record_filter, absent_filter}
use Rattle.unit_map.proofs.index.Index.renew.Given.{Over}
use Rattle.unit_map.proofs.index.Index.renew.Goals as goal

kept : (g : Over) (c : goal.After-drop-self-2 g) → c.retain.new.self.items ≡ filter has_record c.args.entries.now.items
kept g c = filter_from_retain _ has_record (λ p x b q h. search rules) _ _ _ c.retain.ensures.filtered

pub returns-clause-same : goal.returns-clause-same
returns-clause-same g c k = rw (kept g c) (record_filter g.K.PartialEq.eq g.met.K.Eq.laws k c.args.entries.now.items c.requires.map.distinct)

pub returns-clause-absent : goal.returns-clause-absent
returns-clause-absent g c k h = rw (kept g c) (absent_filter g.K.PartialEq.eq has_record k c.args.entries.now.items h)

pub returns-clause-sound : goal.returns-clause-sound
returns-clause-sound g c = rw (kept g c) record {
  map = record {
    distinct = IsDistinct-keys_filter g.K.PartialEq.eq has_record c.args.entries.now.items c.requires.map.distinct;
    few = omega (arith, c.retain.ensures.bound, sym (ap length (kept g c)), c.requires.map.few);
  };
  noted = rw c.deref.ensures.value at c.in_ok-index.ensures.noted;
}

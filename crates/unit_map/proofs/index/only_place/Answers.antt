-- Where the one entry hasn't the key, no entry has.
use Rattle.std.proofs.Common.{◌∙◌, sym}
use Rattle.unit_map.proofs.EntryLemmas.{only_key}
use Rattle.unit_map.proofs.index.only_place.Goals as goal

pub returns-else-has_key-clause-absent : goal.returns-else-has_key-clause-absent
returns-else-has_key-clause-absent g c = only_key g.K.PartialEq.eq c.args.key.now c.args.entries.now c.requires (sym c.has_key.ensures ∙ c.if-has_key.false)

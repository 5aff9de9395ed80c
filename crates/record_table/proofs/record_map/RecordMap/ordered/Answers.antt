-- The entries' finite map is the map.
use Rattle.std.proofs.Common.{ap, ◌∙◌}
use Rattle.std.proofs.lemmas.Result.{IfOk-weaker}
use Rattle.std.specs.Option.{option_copied}
use Rattle.std.specs.FinMap as finite
use Rattle.record_table.specs.Entries.{map_of}
use Rattle.record_table.specs.Keeping.{records_taken}
use Rattle.record_table.proofs.record_map.RecordMap.ordered.Goals as goal

pub ordered-requires : goal.ordered-requires
ordered-requires g c = rw c.entries.ensures.all c.entries.ensures.map

pub returns : goal.returns
returns g c = IfOk-weaker c.ordered.result _ _ (λ found is.
    is ∙ ap (λ m. finite.entries (records_taken (option_copied c.args.filter) m)) (ap map_of c.entries.ensures.all ∙ c.self.view_is)) c.ordered.ensures

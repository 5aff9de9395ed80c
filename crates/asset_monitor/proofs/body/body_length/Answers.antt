-- The length of a body, by its parts.
use Rattle.asset_monitor.specs.BodyLemmas.{length-body}
use Rattle.asset_monitor.proofs.body.body_length.Goals as goal

pub returns : goal.returns
returns c = rw (c.items.ensures.value, length-body c.args.kept.now)

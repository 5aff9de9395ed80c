-- The length of a body, by its parts.
use Rattle.addr_translator.specs.BodyLemmas.{length-body}
use Rattle.addr_translator.proofs.body.body_length.Goals as goal

pub returns : goal.returns
returns c = rw (c.mappings.ensures.value, length-body c.args.kept.now)

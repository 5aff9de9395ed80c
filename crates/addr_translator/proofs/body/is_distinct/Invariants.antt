-- The loop of `is_distinct`.
use Rattle.std.proofs.Common.{◌≡◌, drop}
use Rattle.addr_translator.specs.Body.{is_distinct}
use Rattle.addr_translator.proofs.SeenEnds.{are_apart}
use Rattle.addr_translator.proofs.body.is_distinct.Given as goal

-- no end stands twice where none that is left was seen or stands twice
abbrev pub invariant-loop-mapping : goal.invariant-loop-mapping
invariant-loop-mapping l = is_distinct l.mappings ≡ are_apart l.seen.words (drop l.mapping-index l.mappings)

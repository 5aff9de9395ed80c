-- The loop of `are_few_distinct`.
use Rattle.std.proofs.Common.{◌≡◌, drop}
use Rattle.addr_translator.specs.Body.{is_distinct}
use Rattle.addr_translator.proofs.body.are_few_distinct.Given as goal

-- whether some end stands twice is seen among the mappings that are left
abbrev pub invariant-loop-place : goal.invariant-loop-place
invariant-loop-place l = is_distinct (drop l.place l.mappings) ≡ is_distinct l.mappings

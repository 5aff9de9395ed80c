-- The loop of `push_mappings`.
use Rattle.std.proofs.Common.{◌≡◌, ◌++◌, take}
use Rattle.std.specs.List.{flat_map}
use Rattle.addr_translator.specs.Body.{mapping_bytes}
use Rattle.addr_translator.proofs.body.push_mappings.Given as goal

-- the mappings so far stand after the bytes
abbrev pub invariant-loop-mapping : goal.invariant-loop-mapping
invariant-loop-mapping l = l.bytes ≡ l.fn.bytes ++ flat_map mapping_bytes (take l.mapping-index l.mappings)

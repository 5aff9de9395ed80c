-- The unused places of the array hold port 0.
use Rattle.std.proofs.Common.{arith}
use Rattle.std.proofs.lemmas.List.Elements.{All-replicate}
use Rattle.addr_translator.specs.Mappings.{HasPort}
use Rattle.addr_translator.proofs.record.NatRecord.open.Goals as goal

pub invariant_of-result : goal.invariant_of-result
invariant_of-result c = (omega arith, All-replicate HasPort 252 (record { proto = 0; port = 0 }) (omega arith))

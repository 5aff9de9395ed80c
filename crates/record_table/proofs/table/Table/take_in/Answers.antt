-- Chunks that were made of records are good, so that none of them is the first that is bad.
use Rattle.std.proofs.Common.{◌≡◌, false, true, List, refl, ap, ◌∙◌}
use Rattle.nf_function.specs.declared.chunk.Chunk.{Chunk}
use Rattle.nf_function.specs.Semantics.{Semantics}
use Rattle.record_table.specs.declared.reading.ReadFault.{ReadFault}
use Rattle.record_table.specs.declared.reading.ReadFault.TheVariants.{Bad, NoMemory}
use Rattle.record_table.specs.Chunks.{are_good}
use Rattle.record_table.specs.Refusals.{is_bad}
use Rattle.record_table.specs.Keeping.{IsChunkFault, fault_with}
use Rattle.record_table.proofs.ChunkFronts.{not_all_good}
use Rattle.record_table.proofs.MadeChunks.{made_read}
use Rattle.record_table.proofs.table.Table.take_in.Goals as goal

not_bad : {R : Type 0} (f : Semantics R) (chunks : List Chunk) (fault : ReadFault) → IsChunkFault f chunks fault → are_good f chunks ≡ true
    → is_bad (fault_with fault chunks) ≡ false
not_bad f chunks (Bad place) bad good = absurd (not_all_good f chunks place bad good)
not_bad f chunks NoMemory bad good = refl

pub returns-in-Err-clause-made : goal.returns-in-Err-clause-made
returns-in-Err-clause-made g c entries made =
    let f = g.F.Function.semantics in
    ap is_bad c.with_chunks.ensures
    ∙ not_bad f c.args.chunks c.in-Err.fault (rw c.items.ensures at c.in-Err.ensures.fault) (made_read f g.met.F.Function.laws c.args.chunks entries made).good

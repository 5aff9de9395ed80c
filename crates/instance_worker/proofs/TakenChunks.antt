-- Chunks are taken in exactly where none is bad.
use Rattle.std.proofs.Common.{◌≡◌, Bool, true, List, Result, Ok, Err, OnOk, IfErr, sym, ◌∙◌}
use Rattle.std.proofs.lemmas.Bool.{false_from_ne_true}
use Rattle.nf_function.specs.declared.chunk.Chunk.{Chunk}
use Rattle.nf_function.specs.Semantics.{Semantics}
use Rattle.record_table.specs.declared.refusal.ImportFault.{ImportFault}
use Rattle.record_table.specs.declared.refusal.ImportFault.TheVariants.{Limit, Bad, NoMemory}
use Rattle.record_table.specs.Chunks.{are_good}
use Rattle.record_table.specs.Refusals.{IsRefusal}
use Rattle.record_table.proofs.ChunkFronts.{not_all_good}
use Rattle.instance_worker.specs.Taking.{AreTaken}

module _ {X R : Type 0} (f : Semantics R) where
  pub good_taken : (chunks : List Chunk) (taken : Result X ImportFault) (are : Bool) → OnOk taken (are_good f chunks ≡ true)
      → IfErr taken (IsRefusal f chunks) → AreTaken are taken
      → are ≡ are_good f chunks
  good_taken chunks (Ok x) are good refusal is = is ∙ sym good
  good_taken chunks (Err (Limit held coming limit back)) are good refusal is = absurd refusal
  good_taken chunks (Err (Bad place back)) are good refusal is = is ∙ sym (false_from_ne_true _ (not_all_good f chunks place refusal.1))
  good_taken chunks (Err (NoMemory back)) are good refusal is = absurd is

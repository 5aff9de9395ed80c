-- Why a table refuses chunks. This project's own.
use Rattle.std.specs.Prelude.{◌≡◌, ℕ, ◌+◌, ◌<◌, ◌≤◌, Bool, true, false, List}
use Rattle.nf_function.specs.declared.chunk.Chunk.{Chunk}
use Rattle.nf_function.specs.Semantics.{Semantics}
use Rattle.record_table.specs.declared.refusal.ImportFault.{ImportFault}
use Rattle.record_table.specs.declared.refusal.ImportFault.TheVariants.{Limit, Bad, NoMemory}
use Rattle.record_table.specs.Chunks.{IsFirstBad}

-- chunks that are to be imported: how many records are live, how many come in all, and how many there may be
pub record Import : Type 0 where
  pub held : ℕ
  pub coming : ℕ
  pub limit : ℕ
  pub chunks : List Chunk

module _ {R : Type 0} where
  -- chunks are refused without a limit: the one at this place is the first that is bad. They are handed back. Out of memory is free.
  abbrev pub IsRefusal : Semantics R → List Chunk → ImportFault → Type 0
  IsRefusal f chunks (Limit held coming limit back) = ⊥
  IsRefusal f chunks (Bad place back) = (back ≡ chunks) × IsFirstBad f chunks place
  IsRefusal f chunks (NoMemory back) = back ≡ chunks

  -- an import is refused: there would be more records than the limit, or else one chunk is the first that is bad
  abbrev pub IsImportRefusal : Semantics R → Import → ImportFault → Type 0
  IsImportRefusal f import (Limit held coming limit back) =
      (record { held = held; coming = coming; limit = limit; chunks = back } ≡ import) × (import.limit < import.held + import.coming)
  IsImportRefusal f import (Bad place back) =
      (back ≡ import.chunks) × IsFirstBad f import.chunks place × (import.held + import.coming ≤ import.limit)
  IsImportRefusal f import (NoMemory back) = back ≡ import.chunks

-- a chunk was bad
abbrev pub is_bad : ImportFault → Bool
is_bad (Limit held coming limit back) = false
is_bad (Bad place back) = true
is_bad (NoMemory back) = false

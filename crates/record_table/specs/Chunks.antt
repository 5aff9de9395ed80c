-- What chunks bring: the records that their bytes spell, and which chunk is bad. This project's own.
use Rattle.std.specs.Prelude.{◌≡◌, ℕ, ◌+◌, ◌<◌, ◌==◌, Bool, true, false, List, map, filter_map, take, length, Option}
use Rattle.std.specs.Result.{result_ok}
use Rattle.std.specs.List.{IsDistinct, All}
use Rattle.std.specs.Map.{keys_of}
use Rattle.std.specs.FinMap as finite
use Rattle.nf_function.specs.declared.chunk.Chunk.{Chunk}
use Rattle.nf_function.specs.declared.unit.Unit as units
use Rattle.nf_function.specs.Semantics.{Semantics}
use Rattle.state_chunk.specs.Format.{record_chunk}
use Rattle.state_chunk.specs.Reading.{record_read}
use Rattle.record_table.specs.Table.{Records, same_unit}

module _ {R : Type 0} where
  -- the unit and the record that a chunk's bytes spell
  abbrev pub spelled : Semantics R → Chunk → Option (units.Unit × R)
  spelled f chunk = result_ok (record_read f chunk.bytes)

  -- the records that chunks spell, and of each unit the first
  unfoldable pub records_of : Semantics R → List Chunk → Records R
  records_of f chunks = finite.from_entries (filter_map (spelled f) chunks)

  -- each chunk spells a record, and no two those of one unit: there are as many records as chunks
  abbrev pub are_good : Semantics R → List Chunk → Bool
  are_good f chunks = finite.len (records_of f chunks) == length chunks

  -- the chunk at a place is the first that spells no record, or that of a unit that an earlier chunk has
  pub record IsFirstBad (f : Semantics R) (chunks : List Chunk) (place : ℕ) : Type 0 where
    pub within : place < length chunks
    pub before : are_good f (take place chunks) ≡ true
    pub up_to : are_good f (take (place + 1) chunks) ≡ false

  -- no chunk is bad, and they spell these records
  pub record AreReadAs (f : Semantics R) (chunks : List Chunk) (records : Records R) : Type 0 where
    pub good : are_good f chunks ≡ true
    pub spells : records_of f chunks ≡ records

  -- the chunks of records, in the order of their units
  abbrev pub chunks_of : Semantics R → Records R → List Chunk
  chunks_of f records = map (λ e. record_chunk f e.0 e.1) (finite.entries records)

  -- the chunks were made of these units and records, each valid for its unit, and no two of one unit
  pub record AreMadeOf (f : Semantics R) (chunks : List Chunk) (entries : List (units.Unit × R)) : Type 0 where
    pub valid : All (λ e. f.is_valid e.0 e.1 ≡ true) entries
    pub distinct : IsDistinct same_unit (keys_of entries)
    pub made : chunks ≡ map (λ e. record_chunk f e.0 e.1) entries

-- The bytes of a chunk. This project's own format, from the front: version (1 byte), kind (1), scope (1), key, length of
-- the body (2), body. Numbers are big-endian. A key is as `key_bytes` spells it.
use Rattle.std.specs.Prelude.{◌≡◌, ℕ, ◌<◌, ◌^◌, ◌++◌, Bool, true, if◌then◌else◌, List, [], ◌∷◌, length, slice_index, None, Some}
use Rattle.std.specs.List.{flat_map}
use Rattle.nf_function.specs.declared.chunk.Chunk.{Chunk}
use Rattle.nf_function.specs.declared.kind.Kind.{Kind}
use Rattle.nf_function.specs.declared.kind.Kind.TheVariants.{Conntrack, Nat, Monitor}
use Rattle.nf_function.specs.declared.kind.Scope.{Scope}
use Rattle.nf_function.specs.declared.kind.Scope.TheVariants.{PerFlow, MultiFlow, AllFlows}
use Rattle.nf_function.specs.declared.unit.Unit as units
use Rattle.nf_function.specs.Stored.{number_bytes, plain_version, timed_version}
use Rattle.nf_function.specs.Units.{has_hosts}
use Rattle.nf_function.specs.Semantics.{Semantics}
use Rattle.flow_filter.specs.Limits.{most_instances}
unfoldable pub use Rattle.nf_function.specs.Forms.{key_bytes}

abbrev pub kind_number : Kind → ℕ
kind_number Conntrack = 1
kind_number Nat = 2
kind_number Monitor = 3

abbrev pub scope_number : Scope → ℕ
scope_number PerFlow = 1
scope_number MultiFlow = 2
scope_number AllFlows = 3

-- the version, by whether the record holds a time
abbrev pub version_number : Bool → ℕ
version_number timed = if timed then timed_version else plain_version

-- the scope of a function's records
abbrev pub record_scope : Kind → Scope
record_scope kind = if has_hosts kind then MultiFlow else PerFlow

-- the bytes of a unit's record
unfoldable pub record_bytes : {R : Type 0} → Semantics R → units.Unit → R → List ℕ
record_bytes f unit r =
    (version_number (f.is_timed r) ∷ kind_number f.kind ∷ scope_number (record_scope f.kind) ∷ []) ++ key_bytes unit
    ++ number_bytes 2 (length (f.body_of r)) ++ f.body_of r

-- the chunk of a unit's record
abbrev pub record_chunk : {R : Type 0} → Semantics R → units.Unit → R → Chunk
record_chunk f unit r = record { scope = record_scope f.kind; unit = Some unit; bytes = record_bytes f unit r }

-- the bytes are those of this record, and it is valid for its unit
pub record IsRecordOf {R : Type 0} (f : Semantics R) (bytes : List ℕ) (unit : units.Unit) (r : R) : Type 0 where
  pub valid : f.is_valid unit r ≡ true
  pub spelled : bytes ≡ record_bytes f unit r

-- a tally has a count for each instance that there can be, each within its type
pub record IsTally (slots : List ℕ) : Type 0 where
  pub size : length slots ≡ most_instances
  pub each : (i : ℕ) → slice_index slots i < 2 ^ 64

-- a tally's body has 16 numbers of 8 bytes
abbrev pub tally_length : ℕ
tally_length = 128

-- the bytes of a tally, which has no key
unfoldable pub tally_bytes : Kind → List ℕ → List ℕ
tally_bytes kind slots =
    (plain_version ∷ kind_number kind ∷ scope_number AllFlows ∷ []) ++ number_bytes 2 tally_length ++ flat_map (number_bytes 8) slots

-- the chunk of a tally
abbrev pub tally_chunk : Kind → List ℕ → Chunk
tally_chunk kind slots = record { scope = AllFlows; unit = None; bytes = tally_bytes kind slots }

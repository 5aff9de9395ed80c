-- Steps between code and definition, which nobody has to believe: how a chunk is read that is held as numbers, without its bytes.
use Rattle.std.specs.Prelude.{[], ◌∷◌, Ok}
use Rattle.nf_function.specs.declared.chunk.Packed.{Packed}
use Rattle.nf_function.specs.declared.unit.Unit as units
use Rattle.nf_function.specs.declared.unit.Unit.TheVariants.{Flow as OfFlow}
use Rattle.nf_function.specs.Short.{short_bytes}
use Rattle.nf_function.specs.Units.{has_times}
use Rattle.nf_function.specs.Semantics.{Semantics, record_in}
use Rattle.state_chunk.specs.Format.{record_scope}
use Rattle.state_chunk.specs.Reading.{Read, then_read, header_of, record_of_version}

-- the numbers of the header are read, and then those of the body
unfoldable pub packed_read : {R : Type 0} → Semantics R → Packed → Read (units.Unit × R)
packed_read f p =
    then_read (header_of f.kind (record_scope f.kind) (has_times f.kind) (p.version ∷ p.kind ∷ p.scope ∷ [])) λ header.
    then_read (record_of_version f header.0 (record_in f (OfFlow p.flow) (short_bytes p.body))) λ r.
    Ok (OfFlow p.flow, r)

-- The bytes of a chunk that holds them, and of one that holds the numbers that they spell. This project's own format.
use Rattle.std.specs.Prelude.{ℕ, List, [], ◌∷◌, ◌++◌, length}
use Rattle.nf_function.specs.declared.chunk.Form.{Form}
use Rattle.nf_function.specs.declared.chunk.Form.TheVariants.{Spelled, Packed as OfNumbers}
use Rattle.nf_function.specs.declared.chunk.Packed.{Packed}
use Rattle.nf_function.specs.declared.unit.Unit as units
use Rattle.nf_function.specs.declared.unit.Unit.TheVariants.{Flow as OfFlow, Host as OfHost}
use Rattle.nf_function.specs.Stored.{number_bytes}
use Rattle.nf_function.specs.Short.{short_bytes}

-- the key of a flow: proto (1 byte), local (4), lport (2), remote (4), rport (2); that of a host: local (4)
unfoldable pub key_bytes : units.Unit → List ℕ
key_bytes (OfFlow f) =
    (f.proto ∷ []) ++ number_bytes 4 f.local ++ number_bytes 2 f.lport ++ number_bytes 4 f.remote ++ number_bytes 2 f.rport
key_bytes (OfHost host) = number_bytes 4 host

-- the chunk of a flow's record: version, kind and scope, the key, the length of the body, and the body
unfoldable pub packed_bytes : Packed → List ℕ
packed_bytes p =
    (p.version ∷ p.kind ∷ p.scope ∷ []) ++ key_bytes (OfFlow p.flow) ++ number_bytes 2 (length (short_bytes p.body)) ++ short_bytes p.body

abbrev pub form_bytes : Form → List ℕ
form_bytes (Spelled bytes) = bytes
form_bytes (OfNumbers p) = packed_bytes p

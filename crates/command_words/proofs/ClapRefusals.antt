-- What clap's clauses on errors say of the words.
use Rattle.std.proofs.Common.{◌≡◌, List, [], ◌∷◌, None, inl, inr, refl}
use Rattle.clap.specs.Words.{Row, HasKind, kind_of}
use Rattle.clap.specs.declared.error.Error.{Error}
use Rattle.clap.specs.declared.error.kind.ErrorKind.{ErrorKind}
use Rattle.clap.specs.declared.error.kind.ErrorKind.TheVariants.{OutOfMemory}
use Rattle.command_words.specs.ClapArguments.{taken}

-- an error that isn't out of memory comes of a fault of the words
pub refused : (kinds : List ErrorKind) (rows : List Row) (error : Error) → (kind_of error ≡ OutOfMemory → ⊥) → HasKind kinds error → taken kinds rows ≡ None
refused [] rows error other has = elim has [ inl memory ↦ absurd (other memory) | inr among ↦ absurd among ]
refused (kind ∷ kinds) rows error other has = refl

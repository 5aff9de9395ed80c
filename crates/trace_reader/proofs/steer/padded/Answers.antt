-- The first of 64 zeros are written over.
use Rattle.std.proofs.Common.{◌≡◌, ◌-◌, ◌++◌, ℕ, List, ap, ◌∙◌, length, drop, replicate}
use Rattle.std.proofs.lemmas.List.{drop-replicate}
use Rattle.trace_reader.proofs.steer.padded.Goals as goal

-- a front of 64 zeros was written over
zeros_behind : (piece payload : List ℕ) → piece ≡ payload
    → piece ++ drop (length payload) (replicate 64 0) ≡ payload ++ replicate (64 - length payload) 0
zeros_behind piece payload e =
    ap (λ l. l ++ drop (length payload) (replicate 64 0)) e ∙ ap (λ l. payload ++ l) (drop-replicate (length payload) 64 0)

pub returns : goal.returns
returns c = zeros_behind c.copy_from_slice.new.self c.args.payload.now c.copy_from_slice.ensures.after

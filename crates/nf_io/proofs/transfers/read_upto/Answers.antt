-- One more read leaves open what the reads before left open.
use Rattle.std.proofs.Common.{IsErr, IfOk, Result, Ok, Err}
use Rattle.nf_io.proofs.TransferLemmas.{StaysOpen-trans}
use Rattle.nf_io.proofs.transfers.read_upto.Goals as goal

no_value : {T E : Type 0} (P : T → Type 0) (r : Result T E) → IsErr r → IfOk r P
no_value P (Ok x) h = absurd (cc)
no_value P (Err e) h = tt

pub returns-in_err-taken-clause-bytes : goal.returns-in_err-taken-clause-bytes
returns-in_err-taken-clause-bytes g c = λ bytes is. no_value _ _ c.from_residual.ensures.0

pub returns-in_err-taken-clause-bound : goal.returns-in_err-taken-clause-bound
returns-in_err-taken-clause-bound g c = no_value _ _ c.from_residual.ensures.0

pub returns-in_err-taken-clause-stays : goal.returns-in_err-taken-clause-stays
returns-in_err-taken-clause-stays g c = StaysOpen-trans _ _ _ _ _ c.loop-found.invariant.stays c.read.ensures.stays

pub returns-in_err-extend_from_slice-clause-bytes : goal.returns-in_err-extend_from_slice-clause-bytes
returns-in_err-extend_from_slice-clause-bytes g c = λ bytes is. no_value _ _ c.from_residual-in_err-extend_from_slice.ensures.0

pub returns-in_err-extend_from_slice-clause-bound : goal.returns-in_err-extend_from_slice-clause-bound
returns-in_err-extend_from_slice-clause-bound g c = no_value _ _ c.from_residual-in_err-extend_from_slice.ensures.0

pub returns-in_err-extend_from_slice-clause-stays : goal.returns-in_err-extend_from_slice-clause-stays
returns-in_err-extend_from_slice-clause-stays g c = StaysOpen-trans _ _ _ _ _ c.loop-found.invariant.stays c.read.ensures.stays

pub returns-then-taken-eq0-clause-stays : goal.returns-then-taken-eq0-clause-stays
returns-then-taken-eq0-clause-stays g c = StaysOpen-trans _ _ _ _ _ c.loop-found.invariant.stays c.read.ensures.stays

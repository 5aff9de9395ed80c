-- A step that leaves the next number as it is.
use Rattle.proof_outlines.proofs.Words.{ℕ, arith, Msg}
use Rattle.proof_outlines.proofs.joined.Joined.{Grows}

pub same_grows : (m : Msg) (b : ℕ) → Grows m b b
same_grows (Msg.Asked c) b = λ low. low
same_grows m b = omega arith

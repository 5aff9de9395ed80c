-- When reading a bounded number of bytes fails. This project's own.
use Rattle.std.specs.Prelude.{◌≡◌, ◌≤◌, ℕ, Result, Err}
use Rattle.nf_io.specs.declared.transfers.UptoFault.{UptoFault}
use Rattle.nf_io.specs.declared.transfers.UptoFault.TheVariants.{Failed}
use Rattle.nf_io.specs.Meaning.{Rose}

-- a count never falls, and the answer is Failed only where it rose
pub record HasUptoCause {A : Type 0} (before now : ℕ) (result : Result A UptoFault) : Type 0 where
  pub later : before ≤ now
  pub failed : result ≡ Err Failed → Rose before now

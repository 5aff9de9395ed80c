-- A completed run, as the lemmas on what its report says take it: its setting, its choices, and what holds of them.
use Rattle.run_headline.proofs.Words.{List, Choice, IsCompleted}
pub use Rattle.run_report.specs.proof_outlines.proofs.joined.Setting.{Setting, setting_of, start, world_of}

pub record CompletedRun (F R : Type 0) : Type 0 where
  pub setting : Setting F R
  pub choices : List Choice
  pub is : IsCompleted F setting.function setting.alloc setting.config setting.items choices

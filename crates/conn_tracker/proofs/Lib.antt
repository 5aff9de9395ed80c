pub mod BodyOrder
pub mod SoundSteps

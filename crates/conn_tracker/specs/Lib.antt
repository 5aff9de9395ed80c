pub mod Table
pub mod States
pub mod Text
pub mod Body
pub mod Conntrack
pub mod BodyLemmas
pub mod StepLemmas
pub mod RecordRoom

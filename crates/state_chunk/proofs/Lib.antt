pub mod ReadLemmas
pub mod KeyLemmas
pub mod PartLemmas
pub mod RecordLemmas
pub mod PackedLemmas
pub mod TallyLemmas

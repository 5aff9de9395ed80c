pub mod ProbeLemmas
pub mod EntryLemmas
pub mod SlotLemmas
pub mod SoundnessLemmas

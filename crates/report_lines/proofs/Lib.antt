pub mod NumberBefore
pub mod ProcessedNotes
pub mod SortLemmas
pub mod SortedAlready

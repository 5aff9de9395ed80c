pub mod PlacedBytes
pub mod CountedDigits
pub mod PageLemmas

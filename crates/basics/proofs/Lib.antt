pub mod BoolLemmas
pub mod ListLemmas
pub mod SplitLemmas
pub mod DecimalLemmas
pub mod PrintedNumbers
pub mod BytesLeft

pub mod StoredFronts
pub mod StoredNumbers
pub mod StoredItems
pub mod StoredRecords
pub mod ShortLemmas
pub mod FlowFits
pub mod RecordOrder
pub mod MergeLemmas

pub mod EmptyLists
pub mod OtherMessages

pub mod Tests
pub mod EachLaws
pub mod NumberedLists
pub mod unit
pub mod share
pub mod net
pub mod whole

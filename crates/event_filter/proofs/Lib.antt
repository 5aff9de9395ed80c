pub mod RulePlaces
pub mod RuleLookUps
pub mod Decisions

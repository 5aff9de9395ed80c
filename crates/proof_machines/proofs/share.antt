-- What one unit sees of a strict share, and that each step keeps its order and its records.
pub mod TableViews
pub mod Share
pub mod Stages
pub mod Lists
pub mod Setting
pub mod FencedSetting
pub mod Serving
pub mod Spreading
pub mod Steps
pub mod Records
pub mod Heads
pub mod Order
pub mod Path
pub mod Rests
pub mod Places

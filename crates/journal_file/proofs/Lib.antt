pub mod SpelledChoices
pub mod HeaderReads
pub mod TakenPieces
pub mod OneSpelling

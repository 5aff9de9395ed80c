pub mod Firsts
pub mod FilterLists
pub mod RedirectLaws
pub mod MaskLemmas
pub mod PassingItems
mod MaskLists
mod PlacedRules
mod GroupLemmas
mod FirstMatches
mod RedirectSteps
mod SpanLemmas
mod NextPlaces
mod SectionLemmas

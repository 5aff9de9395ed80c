-- Where each unit is with moves and shares in one world, through all its steps, and what is read off there.
pub mod WhereAll
pub mod Readings
pub mod RoutedSteps
pub mod MovePlaces
pub mod PlacesAll
pub mod Fronts
pub mod FrontSteps
pub mod SeesMore
pub mod EndAll
pub mod EveryAll
pub mod Starts
pub mod UnderMoves
pub mod FrontPackets

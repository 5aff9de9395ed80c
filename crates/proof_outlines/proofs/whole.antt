-- What the proof of the network with shares sees of each node's step and of each message.
pub mod AskedShare
pub mod BeginsAll
pub mod ControlAll
pub mod DivertedAll
pub mod InstanceWorlds
pub mod MemberOutline
pub mod MemberTables
pub mod MoveSends
pub mod OpenShares
pub mod OtherTurns
pub mod ShareLeft
pub mod ShareOutline
pub mod ShareTurns
pub mod StandbyKept
pub mod SwitchAll
pub mod SwitchWorlds
pub mod WholeOutline

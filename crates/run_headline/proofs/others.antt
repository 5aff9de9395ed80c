-- What the lines of the reports of strong sharing and of a two-phase update say.
pub mod PacketNumbers
pub mod NumberedLines
pub mod NumberedOutputs
pub mod LoggedOutputs
pub mod MemberLines
pub mod StrongWorlds
pub mod StrongTurns
pub mod StrongStates
pub mod StrongTexts
pub mod TwoNodes
pub mod TwoVerdicts
pub mod TwoHeadlines
pub mod SameNumbers
pub mod FailedPackets
pub mod FailedLines
pub mod FailedTexts

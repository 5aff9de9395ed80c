pub mod MadeInput
pub mod SteeredPackets
pub mod SaidCommands
pub mod ScriptedOrders
pub mod ShortInput

pub mod Address
pub mod AddressSteps
pub mod Bytes
pub mod Options
pub mod Parsing
pub mod Results

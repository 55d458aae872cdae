pub mod Build
pub mod Bytes
pub mod Checks
pub mod Lookups
pub mod OneAnswer
pub mod FromContracts
pub mod Compare
pub mod Refusals

pub mod Walk
pub mod Passed
pub mod Groups
pub mod Flags
pub mod Batches

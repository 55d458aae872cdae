pub mod Arena
pub mod Batch

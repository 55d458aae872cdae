pub mod Groups
pub mod Batch
pub mod Padding

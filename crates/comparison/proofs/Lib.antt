pub mod Places
pub mod Entries
pub mod Batches
pub mod Blocks
pub mod Flags
pub mod Ways
pub mod Read

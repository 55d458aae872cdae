pub mod Heads
pub mod Enough

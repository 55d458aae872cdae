pub mod Digits
pub mod Runs
pub mod Answer
pub mod Operations
pub mod Sizes
pub mod Slots
pub mod Loads
pub mod Records
